use Rattle.std.proofs.Common.{◌≡◌, ◌-◌, ◌≤◌, false, length}
use Rattle.fb_lex.specs.Scanning.{begins_layout}
use Rattle.fb_lex.specs.Views.{tokens_of}
use Rattle.fb_lex.proofs.Whole.{Reached}
use Rattle.fb_lex.proofs.lexer.lex.Given as goal

abbrev pub invariant-loop-bytes : goal.invariant-loop-bytes
invariant-loop-bytes l = (length l.rest ≤ length l.bytes) × Reached l.bytes (length l.bytes - length l.rest) l.rest (tokens_of l.tokens.items) × (begins_layout l.rest ≡ false)

abbrev pub decreases-loop-bytes : goal.decreases-loop-bytes
decreases-loop-bytes l = length l.rest
