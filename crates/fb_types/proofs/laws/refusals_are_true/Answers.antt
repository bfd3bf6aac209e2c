use Rattle.fb_types.proofs.Beforehand.{elaborated_true}
use Rattle.fb_types.proofs.Whole.{whole_true}
use Rattle.fb_types.proofs.laws.refusals_are_true.Goals as goal

pub returns-clause-with : goal.returns-clause-with
returns-clause-with c = whole_true

pub returns-clause-beforehand : goal.returns-clause-beforehand
returns-clause-beforehand c = elaborated_true
