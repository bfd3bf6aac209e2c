use Rattle.fb_turns.proofs.Ready.{not_past}
use Rattle.fb_turns.proofs.least.least.Goals as goal

pub memory-requires : goal.memory-requires
memory-requires c =
    let ds = c.requires.0 in
    not_past c.args.numbering.now ds c.requires.1 c.in-Err.fault (c.in-Err.ensures.refused ds c.requires.2) c.requires.3 c.requires.4
