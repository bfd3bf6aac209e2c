use Rattle.std.proofs.Common.{◌≡◌, List, ◌∷◌, Option, Some, subst, sym}
use Rattle.std.specs.Prelude.{IfSome}
use Rattle.fb_sched.specs.declared.ticket.Ticket.{Ticket}
use Rattle.fb_sched.specs.Agenda.{Agenda}
use Rattle.fb_sched.specs.Changes.{Takes}
use Rattle.fb_sched.specs.Keeping.{agenda_of}
use Rattle.fb_sched.proofs.Fields.{take_counted, take_takes, take_keeps}
use Rattle.fb_sched.proofs.queue.Queue.take.Goals as goal

-- the ticket that was taken stood first
first_of : (before after : List Ticket) (o : Option Ticket) (t : Ticket) → o ≡ Some t → IfSome o (λ f. before ≡ f ∷ after) → before ≡ t ∷ after
first_of before after o t is h = subst (λ x. IfSome x (λ f. before ≡ f ∷ after)) is h

pub overflow_sub-reaction : goal.overflow_sub-reaction
overflow_sub-reaction c =
    take_counted c.self.inside.ring c.self.inside.reactions _ c.in-Some.ticket _ c.reaction_in-reaction.result c.self.invariant (first_of _ _ _ c.in-Some.ticket c.in-Some.is c.take_first-first.ensures.first) c.reaction_in-reaction.ensures

pub invariant_of-self : goal.invariant_of-self
invariant_of-self c =
    take_keeps c.self.inside.ring _ c.self.inside.reactions _ _ c.in-Some.ticket c.reaction_in-reaction.result c.self.invariant (first_of _ _ _ c.in-Some.ticket c.in-Some.is c.take_first-first.ensures.first) c.take_first-first.ensures.room c.reaction_in-reaction.ensures c.rewrite.ensures

pub returns-in-Some-clause-first : goal.returns-in-Some-clause-first
returns-in-Some-clause-first c =
    subst (λ (o : Option Ticket). IfSome o (λ first. Takes c.args.self.now first (agenda_of c.take_first-first.new.ring c.rewrite.new.reactions))) (sym c.in-Some.is)
    (subst (λ (a : Agenda). Takes a c.in-Some.ticket (agenda_of c.take_first-first.new.ring c.rewrite.new.reactions)) c.self.view_is
    (take_takes c.self.inside.ring _ c.self.inside.reactions _ _ c.in-Some.ticket c.reaction_in-reaction.result c.self.invariant (first_of _ _ _ c.in-Some.ticket c.in-Some.is c.take_first-first.ensures.first) c.take_first-first.ensures.room c.reaction_in-reaction.ensures c.rewrite.ensures))

pub returns-in-Some-clause-sound : goal.returns-in-Some-clause-sound
returns-in-Some-clause-sound c = (invariant_of-self c).agenda
