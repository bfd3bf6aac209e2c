use Rattle.std.proofs.Common.{◌≡◌, ◌-◌, length, map, drop}
use Rattle.fb_find_demands.specs.Ends.{channels_in}
use Rattle.fb_find_demands.proofs.channels.all_channels.Given as goal

-- the channels of the last leaves are there
abbrev pub invariant-loop-back : goal.invariant-loop-back
invariant-loop-back l = l.numbers.items ≡ channels_in (drop (length l.leaves - l.back) (map (λ x. x.now) l.leaves))
