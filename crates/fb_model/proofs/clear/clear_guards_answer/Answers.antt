use Rattle.fb_model.proofs.Terms.{guard_answers}
use Rattle.fb_model.proofs.clear.clear_guards_answer.Goals as goal

pub returns : goal.returns
returns c = guard_answers
