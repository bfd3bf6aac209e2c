use Rattle.std.proofs.Common.{◌≡◌, ◌++◌, drop}
use Rattle.fbr_texts.specs.Once.{blanked}
use Rattle.fbr_texts.proofs.joining.put_blanks.Given as goal

-- the blanks so far, with those that are left
abbrev pub invariant-loop-byte : goal.invariant-loop-byte
invariant-loop-byte l = l.bytes.items ++ blanked (drop l.byte-index l.own) ≡ l.initial.bytes.items ++ blanked l.own
