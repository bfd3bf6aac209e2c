use Rattle.std.proofs.Common.{◌≡◌, drop}
use Rattle.std.specs.List.{position_from}
use Rattle.fb_keys.specs.State.{is_of}
use Rattle.fb_keys.proofs.state.position.Given as goal

-- no entry so far is of the peer under the key
abbrev pub invariant-loop-place : goal.invariant-loop-place
invariant-loop-place l = position_from (is_of l.number l.mark) l.place (drop l.place l.entries) ≡ position_from (is_of l.number l.mark) 0 l.entries
