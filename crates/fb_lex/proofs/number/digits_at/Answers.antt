use Rattle.std.proofs.Common.{sym, ◌∙◌}
use Rattle.fb_lex.proofs.Digits.{digits_next, digits_none}
use Rattle.fb_lex.proofs.number.digits_at.Goals as goal

pub loop-digit-preserved : goal.loop-digit-preserved
loop-digit-preserved c =
    let v = c.loop-digit.invariant.0 in
    (_, c.with_digit-value.ensures v c.loop-digit.invariant.1, sym (digits_next c.args.base v c.loop-digit.rest.now c.in-Some.behind.now c.in-Some.digit c.in-Some.ensures) ∙ c.loop-digit.invariant.2)

pub returns : goal.returns
returns c =
    let v = c.loop-digit.invariant.0 in
    (v, sym c.loop-digit.invariant.2 ∙ digits_none c.args.base v c.loop-digit.rest.now c.in_default.ensures, c.loop-digit.invariant.1)
