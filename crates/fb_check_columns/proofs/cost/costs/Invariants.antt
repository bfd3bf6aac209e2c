use Rattle.std.proofs.Common.{◌≡◌, map, take}
use Rattle.std.specs.List.{AllByRecursion}
use Rattle.fb_model.specs.System as system
use Rattle.fb_model.specs.Clear.{cost}
use Rattle.fb_model.specs.Ranges.{IsClearAlgorithm}
use Rattle.fb_ranges.specs.Views.{spans_of}
use Rattle.fb_types_blocks.specs.Views.{procedures_of}
use Rattle.fb_check_columns.specs.Reckoning.{AreSums}
use Rattle.fb_check_columns.proofs.Costing.{procedure_of}
use Rattle.fb_check_columns.proofs.cost.costs.Given as goal

-- the costs so far are those of the algorithms so far
abbrev pub invariant-loop-index : goal.invariant-loop-index
invariant-loop-index l =
    record {
      same : spans_of l.work ≡ spans_of l.rows;
      sums :
          AllByRecursion (λ (p : system.Procedure). IsClearAlgorithm (spans_of l.rows) p.algorithm) (procedures_of l.procedures)
          → AreSums l.costs.items (map (λ (p : system.Procedure). cost (spans_of l.rows) p.algorithm) (map procedure_of (take l.index l.procedures.entries)));
    }
