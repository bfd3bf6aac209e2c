use Rattle.fb_check_ranges.proofs.Denied.{denied}
use Rattle.fb_check_ranges.proofs.law.refusals_deny.Goals as goal

pub returns : goal.returns
returns c = denied
