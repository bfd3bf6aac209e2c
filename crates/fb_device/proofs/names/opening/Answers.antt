use Rattle.std.proofs.Common.{ℕ, ◌≡◌, Some, sym, subst, arith}
use Rattle.fb_lists.proofs.Lists.{stands_at, all_at}
use Rattle.fb_sched.specs.declared.reaction.Reaction.{Reaction}
use Rattle.fb_sched.specs.Agenda.{Agenda, slot_at}
use Rattle.fb_device_state.specs.Numbers.{IsKnown}
use Rattle.fb_device_state.proofs.Blocks.{within}
use Rattle.fb_device.proofs.Opened.{one_more_without}
use Rattle.fb_device.proofs.names.opening.Goals as goal

pub arrival-requires : goal.arrival-requires
arrival-requires c =
    let known = all_at (λ (a : Agenda). (slot : ℕ) (r : Reaction) → slot_at a.slots slot ≡ Some r → IsKnown c.args.blocks.now r.opening) c.args.queues.now c.loop-queue.queue-index c.queue-item.result c.loop-queue-test.true c.requires in
    let here = subst (λ (a : Agenda). (slot : ℕ) (r : Reaction) → slot_at a.slots slot ≡ Some r → IsKnown c.args.blocks.now r.opening) (sym c.queue-item.is) known in
    here c.in-Some-find.ensures.found.0 c.in-Some-find.reaction c.in-Some-find.ensures.found.1

pub returns-in-Some-find : goal.returns-in-Some-find
returns-in-Some-find c =
    let stands = stands_at c.args.queues.now c.loop-queue.queue-index c.queue-item.result c.queue-item.result c.loop-queue-test.true c.queue-item.is in
    (c.loop-queue.queue-index, c.queue-item.result, c.in-Some-find.reaction, stands, c.in-Some-find.ensures.found, c.arrival.ensures)

pub loop-queue-preserved : goal.loop-queue-preserved
loop-queue-preserved c =
    one_more_without c.args.queues.now c.args.cause c.loop-queue.queue-index c.queue-item.result
    (stands_at c.args.queues.now c.loop-queue.queue-index c.queue-item.result c.queue-item.result c.loop-queue-test.true c.queue-item.is) c.in_default-find.ensures.none c.loop-queue.invariant

pub returns : goal.returns
returns c = λ q a e. c.loop-queue.invariant q a (omega (arith, within c.args.queues.now q a e, c.loop-queue-test.false)) e
