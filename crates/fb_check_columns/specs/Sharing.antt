-- Costs that leaves share, in the book's terms.
use Rattle.std.specs.Prelude.{ℕ, List, Option, map}
use Rattle.std.specs.List.{AllByRecursion}
use Rattle.fb_model.specs.System.{Block, Procedure}
use Rattle.fb_model.specs.Clear.{Spans, cost}
use Rattle.fb_model.specs.Ranges.{IsClearAlgorithm}
use Rattle.fb_types_blocks.specs.Views.{block_of}
use Rattle.fb_ranges.specs.Views.{spans_of}
use Rattle.fb_check_columns.specs.declared.costed.Costed.{Costed}
use Rattle.fb_check_columns.specs.Reckoning.{AreSums}

-- each algorithm of a block costs so many steps under these rows, if all are clear under them
abbrev pub HasCosts : Spans → Block → List (Option ℕ) → Type 0
HasCosts spans block sums = AllByRecursion (λ (p : Procedure). IsClearAlgorithm spans p.algorithm) block.procedures → AreSums sums (map (λ (p : Procedure). cost spans p.algorithm) block.procedures)

-- so it is of a block that is noted
abbrev pub IsCosted : Costed → Type 0
IsCosted c = HasCosts (spans_of c.rows) (block_of c.block.now.value) c.costs.items
