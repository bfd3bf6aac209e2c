use Rattle.fb_verified.proofs.Written as laws
use Rattle.fb_verified.proofs.law.devices_hold.Goals as goal

pub returns : goal.returns
returns c = laws.devices_hold
