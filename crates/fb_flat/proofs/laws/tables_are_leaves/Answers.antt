use Rattle.fb_flat.proofs.Read.{devices_are}
use Rattle.fb_flat.proofs.laws.tables_are_leaves.Goals as goal

pub returns : goal.returns
returns c = λ devices system. devices_are devices system.devices
