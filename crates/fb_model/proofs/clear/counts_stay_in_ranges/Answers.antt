use Rattle.fb_model.proofs.Iterations.{iterations_most, all_taken}
use Rattle.fb_model.proofs.clear.counts_stay_in_ranges.Goals as goal

pub returns : goal.returns
returns c = record { iterations = iterations_most; numbers = all_taken }
