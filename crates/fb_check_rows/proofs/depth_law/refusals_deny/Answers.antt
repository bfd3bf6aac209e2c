use Rattle.fb_check_rows.proofs.DepthSystems.{denied}
use Rattle.fb_check_rows.proofs.depth_law.refusals_deny.Goals as goal

pub returns : goal.returns
returns c = denied
