use Rattle.std.proofs.Common.{◌≡◌, drop}
use Rattle.fb_words.specs.Writing.{word_text}
use Rattle.fb_model.specs.Spelling.{upper}
use Rattle.fb_lex.specs.Scanning.{find}
use Rattle.fb_lex.proofs.word.find_among.Given as goal

abbrev pub invariant-loop-mark : goal.invariant-loop-mark
invariant-loop-mark l = find word_text (drop l.mark-index l.words) (upper l.word) ≡ find word_text l.words (upper l.word)
