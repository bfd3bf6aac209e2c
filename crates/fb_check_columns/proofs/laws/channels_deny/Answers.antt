use Rattle.fb_check_columns.proofs.Denied.{channel_denied}
use Rattle.fb_check_columns.proofs.laws.channels_deny.Goals as goal

pub returns : goal.returns
returns c = channel_denied
