use Rattle.std.proofs.Common.{◌<◌, length, arith, sym, subst}
use Rattle.fb_sched.specs.Agenda.{Agenda}
use Rattle.fb_sched.proofs.Fields.{put_fits, put_keeps, no_values}
use Rattle.fb_sched.proofs.queue.Queue.put.Goals as goal

pub overflow_add-reaction : goal.overflow_add-reaction
overflow_add-reaction c =
    let room = subst (λ (a : Agenda). length a.tickets < a.room) (sym c.self.view_is) c.requires.entries in
    omega (arith, put_fits c.self.inside.ring c.self.inside.reactions c.self.inside.used c.args.slot c.reaction_in-reaction.result c.self.invariant room c.reaction_in-reaction.ensures)

pub invariant_of-self : goal.invariant_of-self
invariant_of-self c =
    put_keeps c.self.inside.ring _ c.self.inside.reactions _ _ _ c.reaction_in-reaction.result c.self.invariant (subst (λ (a : Agenda). length a.tickets < a.room) (sym c.self.view_is) c.requires.entries) (no_values c.new.result c.new.ensures) c.append.ensures c.reaction_in-reaction.ensures c.rewrite.ensures

pub returns-clause-sound : goal.returns-clause-sound
returns-clause-sound c = (invariant_of-self c).agenda
