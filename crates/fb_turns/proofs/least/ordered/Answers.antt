use Rattle.fb_turns.proofs.Ready.{no_cycle}
use Rattle.fb_turns.proofs.least.ordered.Goals as goal

pub memory-requires : goal.memory-requires
memory-requires c = no_cycle c.requires.0 c.requires.1 c.in-Err.fault (c.in-Err.ensures.cycle c.requires.0 c.requires.2) c.requires.3
