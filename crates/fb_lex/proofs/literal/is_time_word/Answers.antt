use Rattle.std.proofs.Common.{refl, sym, ap, ◌∙◌}
use Rattle.std.specs.Prelude.{◌||◌, codes}
use Rattle.std.specs.Str.{bytes_eq}
use Rattle.fb_model.specs.Spelling.{upper}
use Rattle.fb_lex.proofs.Words.{letters_same}
use Rattle.fb_lex.proofs.literal.is_time_word.Goals as goal

pub returns-then-eq_ignore_ascii_case : goal.returns-then-eq_ignore_ascii_case
returns-then-eq_ignore_ascii_case c =
    let t = c.args.word.now in
    let is = letters_same t (codes "T") _ refl c.eq_ignore_ascii_case.ensures.test in
    c.if-eq_ignore_ascii_case.true ∙ sym (ap (λ b. b || bytes_eq (upper t) (codes "TIME")) (is ∙ c.if-eq_ignore_ascii_case.true))

pub returns-else-eq_ignore_ascii_case : goal.returns-else-eq_ignore_ascii_case
returns-else-eq_ignore_ascii_case c =
    let t = c.args.word.now in
    let is = letters_same t (codes "T") _ refl c.eq_ignore_ascii_case.ensures.test in
    let other = letters_same t (codes "TIME") _ refl c.eq_ignore_ascii_case-else-eq_ignore_ascii_case.ensures.test in
    sym (ap (λ b. b || bytes_eq (upper t) (codes "TIME")) (is ∙ c.if-eq_ignore_ascii_case.false) ∙ other)
