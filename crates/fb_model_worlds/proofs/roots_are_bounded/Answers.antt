use Rattle.fb_model_worlds.proofs.Running.{bounds_roots, ends_roots}
use Rattle.fb_model_worlds.proofs.roots_are_bounded.Goals as goal

pub returns-clause-steps : goal.returns-clause-steps
returns-clause-steps c = bounds_roots

pub returns-clause-dispatches : goal.returns-clause-dispatches
returns-clause-dispatches c = ends_roots
