use Rattle.std.proofs.Common.{◌≡◌, drop, map}
use Rattle.fb_keys.specs.Keys.{has_number}
use Rattle.fb_keys.specs.Views.{peer_of}
use Rattle.fb_keys.proofs.keys.has_number.Given as goal

-- no device so far has the number
abbrev pub invariant-loop-peer : goal.invariant-loop-peer
invariant-loop-peer l = has_number l.number (map peer_of (drop l.peer-index l.peers)) ≡ has_number l.number (map peer_of l.peers)
