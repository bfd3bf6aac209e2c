use Rattle.std.proofs.Common.{◌≡◌, ◌++◌, map, drop}
use Rattle.std.specs.List.{flat_map}
use Rattle.fb_find_demands.specs.Channels.{heard_in}
use Rattle.fb_find_demands.specs.Rights.{numbers_of}
use Rattle.fb_find_demands.proofs.channel.channel_right.Given as goal

abbrev pub invariant-loop-leaf : goal.invariant-loop-leaf
invariant-loop-leaf l =
    l.terms.items ++ map (numbers_of l.numbering) (flat_map (heard_in l.repeats l.number) (map (λ x. x.now) (drop l.leaf-index l.leaves)))
    ≡ map (numbers_of l.numbering) (flat_map (heard_in l.repeats l.number) (map (λ x. x.now) l.leaves))
