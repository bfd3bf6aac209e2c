use Rattle.std.proofs.Common.{◌-◌, length, refl}
use Rattle.fb_find_demands.proofs.Ends.{before_last}
use Rattle.fb_find_demands.proofs.channels.from_end.Goals as goal

pub returns : goal.returns
returns c =
    let xs = c.args.leaves.now in
    before_last xs c.args.back (length xs - 1 - c.args.back) c.index-leaves-leaves.result c.requires refl c.index-leaves-leaves.is
