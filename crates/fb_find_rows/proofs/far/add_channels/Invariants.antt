use Rattle.std.proofs.Common.{◌≡◌, [], take}
use Rattle.fb_cert.specs.Views.{rows_of}
use Rattle.fb_find_rows.specs.Numbers.{counts, ChannelsCanBeCounted, with_channels}
use Rattle.fb_find_rows.proofs.far.add_channels.Given as goal

-- the rows of the first channels are there
abbrev pub invariant-loop-index : goal.invariant-loop-index
invariant-loop-index l = (rows_of l.initial.certificate).channels ≡ [] → ChannelsCanBeCounted l.channels l.steps → rows_of l.certificate ≡ with_channels (counts (take l.index l.channels) l.steps) (rows_of l.initial.certificate)
