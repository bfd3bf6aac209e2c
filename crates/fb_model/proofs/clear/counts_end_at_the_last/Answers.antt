use Rattle.fb_model.proofs.Counted.{ends, only, still}
use Rattle.fb_model.proofs.clear.counts_end_at_the_last.Goals as goal

pub returns : goal.returns
returns c = record { ends = ends; only = only; still = still }
