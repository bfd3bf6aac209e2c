use Rattle.std.proofs.Common.{◌≡◌, ◌+◌, ℕ, drop}
use Rattle.std.specs.List.{sum_by}
use Rattle.fb_check_columns.specs.Sums.{IsSum}
use Rattle.fb_check_columns.specs.Reckoning.{target_weight, load_of}
use Rattle.fb_check_columns.proofs.weights.load.Given as goal

-- the sum so far and what is left are the whole
abbrev pub invariant-loop-target : goal.invariant-loop-target
invariant-loop-target l = (v : ℕ) × IsSum l.sum v × (v + sum_by (target_weight l.column l.certificate) (drop l.target-index l.targets) ≡ load_of l.column l.certificate l.targets)
