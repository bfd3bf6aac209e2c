use Rattle.std.proofs.Common.{take}
use Rattle.fb_check_columns.specs.Channels.{AreCosts, heard_under}
use Rattle.fb_check_columns.proofs.channel.heard_under.Given as goal

-- what the devices so far hear
abbrev pub invariant-loop-device : goal.invariant-loop-device
invariant-loop-device l = AreCosts l.heard.items (heard_under l.certificate l.repeats (take l.device-index l.devices))
