use Rattle.fb_model.specs.BlockTyping.{no_bounds}
use Rattle.fb_types_blocks.proofs.variable.bounds_if_some.Goals as goal

pub returns-in-None-clause-found : goal.returns-in-None-clause-found
returns-in-None-clause-found c = rw c.in-None.is no_bounds
