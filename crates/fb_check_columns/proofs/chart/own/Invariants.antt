use Rattle.std.proofs.Common.{◌≡◌, ◌+◌, ℕ, drop}
use Rattle.std.specs.List.{sum_by}
use Rattle.fb_check_columns.specs.Sums.{IsSum}
use Rattle.fb_check_columns.specs.Reckoning.{Costs, ArePrices, acted}
use Rattle.fb_check_columns.proofs.chart.own.Given as goal

-- the sum so far and what is left are the whole
abbrev pub invariant-loop-action : goal.invariant-loop-action
invariant-loop-action l =
    (ns : Costs) → ArePrices l.prices ns
    → (v : ℕ) × IsSum l.sum v × (v + sum_by (acted l.block ns) (drop l.action-index l.actions) ≡ sum_by (acted l.block ns) l.actions)
