use Rattle.std.proofs.Common.{◌≡◌, ◌++◌, map, drop}
use Rattle.fb_model.specs.System as system
use Rattle.fb_types_blocks.specs.Views.{procedures_of}
use Rattle.fb_ranges.specs.Views.{spans_of}
use Rattle.fb_prices.specs.Words.{prices_of}
use Rattle.fb_work.specs.Algorithms.{called}
use Rattle.fb_work.proofs.Lists.{procedure}
use Rattle.fb_work.proofs.algorithms.block_costs.Given as goal

-- what is there, and what the algorithms cost that are left, is the whole
abbrev pub invariant-loop-index : goal.invariant-loop-index
invariant-loop-index l =
    l.costs.items ++ map (λ (q : system.Procedure). called (prices_of l.prices) (spans_of l.rows) q.algorithm) (map procedure (drop l.index l.procedures.entries))
    ≡ map (λ (q : system.Procedure). called (prices_of l.prices) (spans_of l.rows) q.algorithm) (procedures_of l.procedures)
