use Rattle.std.proofs.Common.{◌≡◌, ◌-◌, ◌++◌, length, map}
use Rattle.fb_lex.specs.Views.{tokens_of}
use Rattle.fb_words.specs.declared.mark.Mark.TheVariants as m
use Rattle.fb_read.specs.Reading.{separated_at}
use Rattle.fb_read.proofs.Lists.{with_front}
use Rattle.fb_tree.specs.Algorithms.{label_of}
use Rattle.st_parse.specs.Reading.{label_at}
use Rattle.st_parse.proofs.label.labels.Given as goal

-- the labels so far and those that are still read are all of them
abbrev pub invariant-loop : goal.invariant-loop
invariant-loop l =
    let read = separated_at m.Comma label_at in
    with_front (λ xs. map label_of l.labels.items ++ xs) (read (length (tokens_of l.tokens) - l.counter) (tokens_of l.rest)) ≡ read (length (tokens_of l.tokens)) (tokens_of l.tokens)
