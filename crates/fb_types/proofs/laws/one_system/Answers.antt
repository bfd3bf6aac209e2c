use Rattle.fb_types.proofs.Beforehand.{one_elaborated}
use Rattle.fb_types.proofs.Whole.{one_whole}
use Rattle.fb_types.proofs.laws.one_system.Goals as goal

pub returns-clause-with : goal.returns-clause-with
returns-clause-with c = one_whole

pub returns-clause-beforehand : goal.returns-clause-beforehand
returns-clause-beforehand c = one_elaborated
