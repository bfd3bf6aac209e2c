use Rattle.std.proofs.Common.{◌≡◌, ◌<◌, true, false, get_or, length, sym, ap, ◌∙◌, add-one}
use Rattle.std.specs.Str.{bytes_eq}
use Rattle.fb_words.specs.declared.mark.Mark.TheVariants as m
use Rattle.fb_words.specs.declared.mark.TheConstants.{SIGNS}
use Rattle.fb_words.specs.Writing.{sign_text}
use Rattle.fb_lex.specs.Scanning.{find_sign}
use Rattle.fb_lex.proofs.Marks.{find_step, find_here}
use Rattle.fb_lex.proofs.sign.find_sign.Goals as goal

pub returns-then-eq : goal.returns-then-eq
unfolding find_sign
returns-then-eq c =
    let i = c.loop-mark.mark-index in
    let t = c.args.bytes.now in
    let lt : i < length SIGNS = c.loop-mark-test.true in
    let same : bytes_eq (sign_text (get_or SIGNS i m.Assign)) t ≡ true = ap (λ w. bytes_eq w t) (sym (c.as_bytes.ensures.value ∙ c.sign.ensures)) ∙ sym c.eq.ensures ∙ c.if-eq.true in
    sym (find_here sign_text SIGNS i m.Assign t lt same) ∙ c.loop-mark.invariant

pub loop-mark-preserved : goal.loop-mark-preserved
loop-mark-preserved c =
    let i = c.loop-mark.mark-index in
    let t = c.args.bytes.now in
    let lt : i < length SIGNS = c.loop-mark-test.true in
    let differs : bytes_eq (sign_text (get_or SIGNS i m.Assign)) t ≡ false = ap (λ w. bytes_eq w t) (sym (c.as_bytes.ensures.value ∙ c.sign.ensures)) ∙ sym c.eq.ensures ∙ c.if-eq.false in
    rw add-one (sym (find_step sign_text SIGNS i m.Assign t lt differs) ∙ c.loop-mark.invariant)
