use Rattle.std.proofs.Common.{List, ◌++◌, map, take}
use Rattle.std.specs.List.{flat_map}
use Rattle.fb_check_columns.specs.Channels.{Cost, AreCosts, heard_at}
use Rattle.fb_check_columns.proofs.channel.add_leaves.Given as goal

-- what the leaves so far hear is added
abbrev pub invariant-loop-leaf : goal.invariant-loop-leaf
invariant-loop-leaf l = (xs : List Cost) → AreCosts l.initial.heard.items xs → AreCosts l.heard.items (xs ++ flat_map (heard_at l.certificate l.repeats) (map (λ y. y.now) (take l.leaf-index l.leaves)))
