use Rattle.fb_keys.proofs.Growing.{growing}
use Rattle.fb_keys.proofs.law.counters_only_grow.Goals as goal

pub returns : goal.returns
returns c = growing
