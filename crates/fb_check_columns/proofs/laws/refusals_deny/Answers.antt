use Rattle.fb_check_columns.proofs.Denied.{denied}
use Rattle.fb_check_columns.proofs.laws.refusals_deny.Goals as goal

pub returns : goal.returns
returns c = denied
