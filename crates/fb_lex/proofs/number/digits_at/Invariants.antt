use Rattle.std.proofs.Common.{◌≡◌, ℕ, length}
use Rattle.fb_lex.specs.Scanning.{digits_at}
use Rattle.fb_lex.specs.Lexing.{Counts}
use Rattle.fb_lex.proofs.number.digits_at.Given as goal

abbrev pub invariant-loop-digit : goal.invariant-loop-digit
invariant-loop-digit l = (v : ℕ) × Counts l.value v × (digits_at l.base v l.rest ≡ digits_at l.base l.first l.bytes)

abbrev pub decreases-loop-digit : goal.decreases-loop-digit
decreases-loop-digit l = length l.rest
