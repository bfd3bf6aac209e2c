use Rattle.std.proofs.Common.{◌≡◌, ◌↔◌, take}
use Rattle.fb_seal.proofs.tags.is_same.Given as goal

-- no difference so far is that the first bytes are the same
abbrev pub invariant-loop-i : goal.invariant-loop-i
invariant-loop-i l = (l.difference ≡ 0) ↔ (take l.i l.one ≡ take l.i l.other)
