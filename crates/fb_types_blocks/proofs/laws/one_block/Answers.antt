use Rattle.fb_types_blocks.proofs.Single.{one_basic}
use Rattle.fb_types_blocks.proofs.laws.one_block.Goals as goal

pub returns : goal.returns
returns c = one_basic
