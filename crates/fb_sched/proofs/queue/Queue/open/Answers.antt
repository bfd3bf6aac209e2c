use Rattle.std.proofs.Common.{◌<◌, ◌≤◌, ◌+◌, length, sym, subst}
use Rattle.fb_sched.specs.Agenda.{Agenda, IsNew, all_places}
use Rattle.fb_sched.proofs.Fields.{open_keeps}
use Rattle.fb_sched.proofs.queue.Queue.open.Goals as goal

pub invariant_of-self : goal.invariant_of-self
invariant_of-self c =
    let room = subst (λ (a : Agenda). length a.tickets < a.room) (sym c.self.view_is) c.requires.entries in
    let places = subst (λ (a : Agenda). all_places a.slots + c.args.places ≤ a.room) (sym c.self.view_is) c.requires.places in
    let fresh = subst (λ (a : Agenda). IsNew c.args.cause a.slots) (sym c.self.view_is) c.requires.cause in
    open_keeps c.self.inside.ring _ c.self.inside.reactions _ _ c.insert_reserved-slot.result c.args.cause c.args.opening c.args.places c.args.values c.self.invariant room places fresh c.append.ensures c.insert_reserved-slot.ensures.was_vacant c.insert_reserved-slot.ensures.updates c.insert_reserved-slot.ensures.capacity

pub returns-clause-sound : goal.returns-clause-sound
returns-clause-sound c = (invariant_of-self c).agenda
