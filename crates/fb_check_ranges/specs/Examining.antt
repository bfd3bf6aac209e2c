-- Blocks that were examined under their rows, in the book's terms.
use Rattle.std.specs.List.{AllByRecursion}
use Rattle.fb_model.specs.System.{Block, Procedure, Transition}
use Rattle.fb_model.specs.Clear.{Spans}
use Rattle.fb_model.specs.Ranges.{IsClearAlgorithm, IsClearGuard}
use Rattle.fb_types_blocks.specs.Views.{block_of}
use Rattle.fb_ranges.specs.Views.{spans_of}
use Rattle.fb_check_ranges.specs.declared.examined.Examined.{Examined}

-- all algorithms and guards of a block are clear under these rows
pub record AreClear (spans : Spans) (block : Block) : Type 0 where
  pub algorithms : AllByRecursion (λ (p : Procedure). IsClearAlgorithm spans p.algorithm) block.procedures
  pub guards : AllByRecursion (λ (t : Transition). IsClearGuard spans t.guard) block.transitions

-- so it is of a block that is noted
abbrev pub IsExamined : Examined → Type 0
IsExamined e = AreClear (spans_of e.rows) (block_of e.block.now.value)
