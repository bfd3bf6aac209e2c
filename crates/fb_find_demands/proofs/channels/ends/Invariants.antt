use Rattle.std.proofs.Common.{◌≡◌, map, take, string_bytes}
use Rattle.fb_find_demands.specs.Ends.{end_in}
use Rattle.fb_find_demands.proofs.channels.ends.Given as goal

abbrev pub invariant-loop-channel : goal.invariant-loop-channel
invariant-loop-channel l = map string_bytes l.ends.items ≡ map (end_in (map (λ x. x.now) l.leaves)) (take l.channel-index l.channels)
