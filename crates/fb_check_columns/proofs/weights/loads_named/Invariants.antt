use Rattle.std.proofs.Common.{◌≡◌, ◌+◌, ℕ, drop, map}
use Rattle.std.specs.List.{sum_by}
use Rattle.fb_check_columns.specs.Sums.{IsSum}
use Rattle.fb_check_columns.specs.Reckoning.{load_at}
use Rattle.fb_check_columns.proofs.weights.loads_named.Given as goal

-- the sum so far and what is left are the whole
abbrev pub invariant-loop-name : goal.invariant-loop-name
invariant-loop-name l = (v : ℕ) × IsSum l.sum v × (v + sum_by (load_at l.column l.certificate l.outputs) (map (λ n. n.now) (drop l.name-index l.names)) ≡ sum_by (load_at l.column l.certificate l.outputs) (map (λ n. n.now) l.names))
