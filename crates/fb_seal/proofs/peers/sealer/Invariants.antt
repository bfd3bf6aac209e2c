use Rattle.std.proofs.Common.{◌≡◌, drop}
use Rattle.std.specs.List.{position_from}
use Rattle.fb_seal.specs.Peers.{has_sealed}
use Rattle.fb_seal.proofs.peers.sealer.Given as goal

-- no peer so far has sealed the bytes
abbrev pub invariant-loop-place : goal.invariant-loop-place
invariant-loop-place l = position_from (has_sealed l.bytes l.sender) l.place (drop l.place l.peers) ≡ position_from (has_sealed l.bytes l.sender) 0 l.peers
