use Rattle.fb_text_laws.proofs.Places.{wrong_goes_on, deep_goes_on}
use Rattle.fb_text_laws.proofs.answer.texts_go_on.Goals as goal

pub returns-clause-wrong : goal.returns-clause-wrong
returns-clause-wrong c = wrong_goes_on

pub returns-clause-deep : goal.returns-clause-deep
returns-clause-deep c = deep_goes_on
