use Rattle.std.proofs.Common.{refl, arith}
use Rattle.fb_sched.proofs.Fields.{goes_on, ends}
use Rattle.fb_sched.proofs.queue.Queue.settle.Goals as goal

pub invariant_of-self : goal.invariant_of-self
invariant_of-self c = goes_on c.self.inside.ring c.self.inside.reactions _ _ c.args.slot c.reaction_in-reaction.result _ c.self.invariant c.reaction_in-reaction.ensures refl refl refl c.rewrite.ensures

pub invariant_of-self-2 : goal.invariant_of-self-2
invariant_of-self-2 c = ends c.self.inside.ring c.self.inside.reactions _ _ c.args.slot c.reaction_in-reaction.result c.self.invariant c.reaction_in-reaction.ensures (omega arith) c.remove.ensures.updates c.remove.ensures.capacity

pub returns-then-reaction-gt0-clause-sound : goal.returns-then-reaction-gt0-clause-sound
returns-then-reaction-gt0-clause-sound c = (invariant_of-self c).agenda

pub returns-clause-sound : goal.returns-clause-sound
returns-clause-sound c = (invariant_of-self-2 c).agenda
