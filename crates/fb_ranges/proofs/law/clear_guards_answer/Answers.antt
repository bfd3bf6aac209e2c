use Rattle.st_types.specs.Views.{term_of}
use Rattle.fb_ranges.specs.Views.{spans_of}
use Rattle.fb_ranges.proofs.Laws.{guards}
use Rattle.fb_ranges.proofs.law.clear_guards_answer.Goals as goal

pub returns : goal.returns
returns c = λ rows shape guard values. guards (spans_of rows) shape (term_of guard) values
