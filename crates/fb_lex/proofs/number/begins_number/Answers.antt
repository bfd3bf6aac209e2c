use Rattle.std.proofs.Common.{sym, ◌∙◌}
use Rattle.fb_lex.proofs.Digits.{no_number, empty_number}
use Rattle.fb_lex.proofs.number.begins_number.Goals as goal

pub returns-in-empty : goal.returns-in-empty
returns-in-empty c = λ h. empty_number c.args.bytes.now c.in-empty.len_below

pub returns-in-len1-up : goal.returns-in-len1-up
returns-in-len1-up c = λ h. no_number c.args.bytes.now (sym c.is_digit.ensures ∙ h)
