use Rattle.fb_text_laws.proofs.Places.{syntax_once, deep_once, never_both}
use Rattle.fb_text_laws.proofs.answer.places_are_one.Goals as goal

pub returns-clause-wrong : goal.returns-clause-wrong
returns-clause-wrong c = syntax_once

pub returns-clause-deep : goal.returns-clause-deep
returns-clause-deep c = deep_once

pub returns-clause-apart : goal.returns-clause-apart
returns-clause-apart c = never_both
