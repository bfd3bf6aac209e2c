use Rattle.std.proofs.Common.{◌≡◌, ◌+◌, ◌*◌, ◌++◌, map, drop}
use Rattle.fb_types_networks.specs.declared.typed.Network.{out-Network}
use Rattle.fb_flat.specs.Sites.{path_of}
use Rattle.fb_flat.specs.Leaves.{leaf_of}
use Rattle.fb_flat.specs.Indexes.{sized, size_of}
use Rattle.fb_flat.proofs.Collecting.{targets_in, sources_in, counts_in, leaves_among, count_among}
use Rattle.fb_flat.proofs.leaves.+collecting.Given as goal

-- the leaves so far, with those of the instances left, are all; and the budget pays for those so far
abbrev pub invariant-collect_all-loop-position : goal.invariant-collect_all-loop-position
invariant-collect_all-loop-position l =
    let n = l.initial.indexed in
    let t = l.initial.trail in
    let a = l.initial.around in
    let xs = (out-Network n).instances.items in
    record {
      added :
          map leaf_of l.table.leaves.items ++ leaves_among (path_of t) (targets_in n t a) (sources_in n t a) (drop l.position xs)
          ≡ map leaf_of l.initial.table.leaves.items ++ leaves_among (path_of t) (targets_in n t a) (sources_in n t a) xs;
      left : l.table.left + count_among (counts_in n a) xs ≡ l.initial.table.left + count_among (counts_in n a) (drop l.position xs);
    }

-- larger composites are gone through before smaller ones
abbrev pub decreases-collect : goal.decreases-collect
decreases-collect l = 2 * sized l.instance.now

abbrev pub decreases-collect_all : goal.decreases-collect_all
decreases-collect_all l = 2 * size_of l.indexed.now + 1
