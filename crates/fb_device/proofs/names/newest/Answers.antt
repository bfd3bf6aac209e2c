use Rattle.std.proofs.Common.{ℕ, ◌≡◌, Some, sym, subst}
use Rattle.fb_lists.proofs.Lists.{stands_at, all_at}
use Rattle.fb_sched.specs.declared.reaction.Reaction.{Reaction}
use Rattle.fb_sched.specs.Agenda.{Agenda, slot_at}
use Rattle.fb_device_state.specs.Numbers.{IsKnown}
use Rattle.fb_device.proofs.names.newest.Goals as goal

pub arrival-requires : goal.arrival-requires
arrival-requires c =
    let known = all_at (λ (a : Agenda). (slot : ℕ) (r : Reaction) → slot_at a.slots slot ≡ Some r → IsKnown c.args.blocks.now r.opening) c.args.queues.now c.loop-queue.queue-index c.queue-item.result c.loop-queue-test.true c.requires in
    let here = subst (λ (a : Agenda). (slot : ℕ) (r : Reaction) → slot_at a.slots slot ≡ Some r → IsKnown c.args.blocks.now r.opening) (sym c.queue-item.is) known in
    here c.in-Some.ensures.found.0 c.in-Some.reaction c.in-Some.ensures.found.1

pub returns-in-Some : goal.returns-in-Some
returns-in-Some c =
    let stands = stands_at c.args.queues.now c.loop-queue.queue-index c.queue-item.result c.queue-item.result c.loop-queue-test.true c.queue-item.is in
    (c.loop-queue.queue-index, c.queue-item.result, c.in-Some.reaction, stands, c.in-Some.ensures.found, c.arrival.ensures)
