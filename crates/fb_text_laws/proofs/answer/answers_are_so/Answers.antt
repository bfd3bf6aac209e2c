use Rattle.fb_text_laws.proofs.Answered.{answers_are_so}
use Rattle.fb_text_laws.proofs.answer.answers_are_so.Goals as goal

pub returns : goal.returns
returns c = answers_are_so
