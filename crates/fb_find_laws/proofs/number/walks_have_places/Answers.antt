use Rattle.fb_find_laws.proofs.Numbering.{walk_numbers}
use Rattle.fb_find_laws.proofs.number.walks_have_places.Goals as goal

pub returns : goal.returns
returns c = walk_numbers
