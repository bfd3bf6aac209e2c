use Rattle.std.proofs.Common.{ap, arith, length, sym, subst}
use Rattle.std.specs.Str.{IsAscii}
use Rattle.fb_lex.proofs.Words.{parts_left, front_is, word_ascii}
use Rattle.fb_lex.proofs.word.word_at.Goals as goal

pub slice_bounds-result-count : goal.slice_bounds-result-count
slice_bounds-result-count c = let l = parts_left c.args.bytes.now in let r = ap length c.behind_word-behind.ensures in omega arith

pub returns-clause-word : goal.returns-clause-word
returns-clause-word c = front_is c.args.bytes.now c.behind_word-behind.result.now c.behind_word-behind.ensures

pub returns-clause-ascii : goal.returns-clause-ascii
returns-clause-ascii c = subst IsAscii (sym (front_is c.args.bytes.now c.behind_word-behind.result.now c.behind_word-behind.ensures)) (word_ascii c.args.bytes.now)
