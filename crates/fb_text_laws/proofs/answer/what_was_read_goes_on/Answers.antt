use Rattle.fb_read.specs.Reading.{syntax, too_deep}
use Rattle.fb_text_laws.proofs.Whole.{goes_on, begins}
use Rattle.fb_text_laws.proofs.answer.what_was_read_goes_on.Goals as goal

pub returns-clause-syntax : goal.returns-clause-syntax
returns-clause-syntax c = λ ts left e. begins _ (goes_on ts (syntax left) e)

pub returns-clause-deep : goal.returns-clause-deep
returns-clause-deep c = λ ts left e. begins _ (goes_on ts (too_deep left) e)
