use Rattle.fb_model_turns.proofs.Fitting.{chains_fit, steps_fit}
use Rattle.fb_model_turns.proofs.counts_are_there.Goals as goal

pub returns-clause-chains : goal.returns-clause-chains
returns-clause-chains c = chains_fit

pub returns-clause-steps : goal.returns-clause-steps
returns-clause-steps c = steps_fit
