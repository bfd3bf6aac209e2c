use Rattle.std.proofs.Common.{◌≡◌, ℕ, Some, Contains}
use Rattle.slab.specs.Slab.{get}
use Rattle.fb_sched.specs.declared.reaction.Reaction.{Reaction}
use Rattle.fb_sched.proofs.reaction.find_in.Given as goal

-- a slot with a reaction of the cause is among the entries that are left, and what is left is the slab's
abbrev pub invariant-loop-reaction : goal.invariant-loop-reaction
invariant-loop-reaction l =
    (goal.iterator-loop-reaction).can_next l.reaction-iterator ×
    (goal.iterator-loop-reaction).is_finite l.reaction-iterator ×
    ((slot : ℕ) (r : Reaction) → get l.reactions slot ≡ Some r → r.cause ≡ l.cause → Contains l.reaction-iterator (slot, r)) ×
    ((slot : ℕ) (r : Reaction) → Contains l.reaction-iterator (slot, r) → get l.reactions slot ≡ Some r)
