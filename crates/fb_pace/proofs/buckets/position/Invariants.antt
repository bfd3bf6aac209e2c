use Rattle.std.proofs.Common.{◌≡◌, drop}
use Rattle.std.specs.List.{position_from}
use Rattle.fb_pace.specs.Buckets.{has_number}
use Rattle.fb_pace.proofs.buckets.position.Given as goal

-- no peer so far has the number
abbrev pub invariant-loop-place : goal.invariant-loop-place
invariant-loop-place l = position_from (has_number l.number) l.place (drop l.place l.peers) ≡ position_from (has_number l.number) 0 l.peers
