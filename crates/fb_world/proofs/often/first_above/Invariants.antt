use Rattle.std.proofs.Common.{ℕ, ◌≤◌, drop}
use Rattle.std.specs.List.{AllByRecursion}
use Rattle.fb_world.proofs.often.first_above.Given as goal

-- no count so far is more
abbrev pub invariant-loop-at : goal.invariant-loop-at
invariant-loop-at l = AllByRecursion (λ (n : ℕ). n ≤ l.most) (drop l.at l.counts) → AllByRecursion (λ (n : ℕ). n ≤ l.most) l.counts
