use Rattle.std.proofs.Common.{◌≡◌, ◌++◌, map, drop}
use Rattle.fb_find_demands.specs.Channels.{channels_ask}
use Rattle.fb_find_demands.specs.Rights.{numbered, rights_of}
use Rattle.fb_find_demands.proofs.channel.add_each.Given as goal

abbrev pub invariant-loop-number : goal.invariant-loop-number
invariant-loop-number l =
    rights_of l.rights.items ++ numbered l.numbering (channels_ask l.repeats (map (λ x. x.now) l.leaves) (drop l.number-index l.numbers))
    ≡ rights_of l.initial.rights.items ++ numbered l.numbering (channels_ask l.repeats (map (λ x. x.now) l.leaves) l.numbers)
