use Rattle.std.proofs.Common.{◌≡◌, take}
use Rattle.std.specs.List.{AllByRecursion}
use Rattle.fb_model.specs.Ranges.{IsClearAlgorithm}
use Rattle.fb_ranges.specs.Views.{spans_of}
use Rattle.fb_check_ranges.specs.Clearing.{Procedure, procedure_text}
use Rattle.fb_check_ranges.proofs.run.algorithms_clear.Given as goal

abbrev pub invariant-loop-index : goal.invariant-loop-index
invariant-loop-index l =
    record {
      same : spans_of l.work ≡ spans_of l.rows;
      all : AllByRecursion (λ (p : Procedure). IsClearAlgorithm (spans_of l.rows) (procedure_text p)) (take l.index l.procedures.entries);
    }
