use Rattle.std.proofs.Common.{◌<◌, get_or, length, sym, ◌∙◌, add-one}
use Rattle.fb_words.specs.declared.mark.Mark.TheVariants as m
use Rattle.fb_words.specs.Writing.{word_text}
use Rattle.fb_model.specs.Spelling.{upper}
use Rattle.fb_lex.proofs.Marks.{find_step, find_here}
use Rattle.fb_lex.proofs.Words.{word_letters}
use Rattle.fb_lex.proofs.word.find_among.Goals as goal

pub returns-then-eq_ignore_ascii_case : goal.returns-then-eq_ignore_ascii_case
returns-then-eq_ignore_ascii_case c =
    let i = c.loop-mark.mark-index in
    let t = c.args.word.now in
    let lt : i < length c.args.words.now = c.loop-mark-test.true in
    let same = word_letters (get_or c.args.words.now i m.Assign) t _ _ (c.as_bytes.ensures.value ∙ c.word.ensures) c.eq_ignore_ascii_case.ensures.test ∙ c.if-eq_ignore_ascii_case.true in
    sym (find_here word_text c.args.words.now i m.Assign (upper t) lt same) ∙ c.loop-mark.invariant

pub loop-mark-preserved : goal.loop-mark-preserved
loop-mark-preserved c =
    let i = c.loop-mark.mark-index in
    let t = c.args.word.now in
    let lt : i < length c.args.words.now = c.loop-mark-test.true in
    let differs = word_letters (get_or c.args.words.now i m.Assign) t _ _ (c.as_bytes.ensures.value ∙ c.word.ensures) c.eq_ignore_ascii_case.ensures.test ∙ c.if-eq_ignore_ascii_case.false in
    rw add-one (sym (find_step word_text c.args.words.now i m.Assign (upper t) lt differs) ∙ c.loop-mark.invariant)
