use Rattle.st_types.specs.CommandViews.{commands_of}
use Rattle.fb_ranges.specs.Views.{spans_of}
use Rattle.fb_ranges.proofs.Laws.{keeping}
use Rattle.fb_ranges.proofs.law.clear_algorithms_keep.Goals as goal

pub returns : goal.returns
returns c = λ rows shape algo values. keeping (spans_of rows) shape (commands_of algo.statements.items) values
