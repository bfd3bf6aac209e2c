use Rattle.st_types.specs.CommandViews.{commands_of}
use Rattle.fb_ranges.specs.Views.{spans_of}
use Rattle.fb_ranges.proofs.Laws.{enough}
use Rattle.fb_ranges.proofs.law.steps_are_enough.Goals as goal

pub returns : goal.returns
returns c = λ rows shape algo values most. enough (spans_of rows) shape (commands_of algo.statements.items) values most
