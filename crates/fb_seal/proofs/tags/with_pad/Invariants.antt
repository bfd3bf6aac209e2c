use Rattle.std.proofs.Common.{◌≡◌, ◌++◌, map, take, drop, bit_xor}
use Rattle.fb_seal.proofs.tags.with_pad.Given as goal

-- the first bytes are done
abbrev pub invariant-loop-i : goal.invariant-loop-i
invariant-loop-i l = l.bytes ≡ map (λ b. bit_xor b l.pad) (take l.i l.key) ++ drop l.i l.key
