use Rattle.std.proofs.Common.{◌≡◌, ◌++◌, drop}
use Rattle.std.specs.List.{flat_map}
use Rattle.fb_check_rows.specs.Channels.{leaf_channels}
use Rattle.fb_check_rows.proofs.channel.add_resource.Given as goal

-- with the channels of those that are left, all are there
abbrev pub invariant-loop-leaf : goal.invariant-loop-leaf
invariant-loop-leaf l = l.numbers.items ++ flat_map leaf_channels (drop l.leaf-index l.resource.leaves.items) ≡ l.initial.numbers.items ++ flat_map leaf_channels l.resource.leaves.items
