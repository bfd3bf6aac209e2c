use Rattle.std.proofs.Common.{◌≡◌, drop}
use Rattle.fb_cert.specs.Adding.{is_upper}
use Rattle.fb_cert.proofs.sayable.is_upper.Given as goal

-- what is left goes on from here
abbrev pub invariant-loop-byte : goal.invariant-loop-byte
invariant-loop-byte l = is_upper (drop l.byte-index l.text) ≡ is_upper l.text
