use Rattle.std.proofs.Common.{sym, ◌∙◌, arith}
use Rattle.std.proofs.lemmas.List.{length-map}
use Rattle.std.specs.Char.{to_ascii_uppercase}
use Rattle.fb_model.specs.Spelling.{upper}
use Rattle.fb_lex.specs.Scanning.{find_word}
use Rattle.fb_lex.proofs.Words.{no_short, found_with}
use Rattle.fb_lex.proofs.word.find_word.Goals as goal

pub returns-in_default : goal.returns-in_default
unfolding find_word
returns-in_default c = let l = length-map c.args.word.now to_ascii_uppercase in sym (no_short (upper c.args.word.now) (omega arith))

pub returns : goal.returns
unfolding find_word
returns c = c.find_among.ensures ∙ found_with c.args.word.now c.words_with-words.result.now _ _ c.in-len2-up.len_at_least c.to_ascii_uppercase.ensures.value c.to_ascii_uppercase-2.ensures.value c.words_with-words.ensures
