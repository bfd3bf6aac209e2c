use Rattle.std.proofs.Common.{◌≡◌, drop}
use Rattle.fb_words.specs.declared.mark.TheConstants.{SIGNS}
use Rattle.fb_words.specs.Writing.{sign_text}
use Rattle.fb_lex.specs.Scanning.{find}
use Rattle.fb_lex.proofs.sign.find_sign.Given as goal

abbrev pub invariant-loop-mark : goal.invariant-loop-mark
invariant-loop-mark l = find sign_text (drop l.mark-index SIGNS) l.bytes ≡ find sign_text SIGNS l.bytes
