use Rattle.fb_flat.proofs.Dotted.{names_back}
use Rattle.fb_flat.proofs.laws.paths_are_read_back.Goals as goal

pub returns : goal.returns
returns c = names_back
