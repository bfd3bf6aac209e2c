use Rattle.std.proofs.Common.{◌≡◌, ◌≤◌, drop}
use Rattle.fb_cert.specs.Reading.{digits_to}
use Rattle.fb_cert.proofs.row.read_number.Given as goal

-- what is left goes on from here
abbrev pub invariant-loop-byte : goal.invariant-loop-byte
invariant-loop-byte l = (digits_to l.high l.number (drop l.byte-index l.word) ≡ digits_to l.high 0 l.word) × (l.number ≤ l.high)
