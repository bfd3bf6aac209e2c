use Rattle.std.proofs.Common.{◌≡◌, ◌-◌, ◌++◌, length, map}
use Rattle.fb_lex.specs.Views.{tokens_of}
use Rattle.fb_read.specs.Reading.{many_at}
use Rattle.fb_read.proofs.Lists.{with_front}
use Rattle.fb_words.specs.declared.mark.Mark.TheVariants as m
use Rattle.fb_text.specs.Reading.{internal_at}
use Rattle.fb_tree.specs.Files.{variable_of}
use Rattle.fb_text.proofs.variable.internals.Given as goal

-- the variables so far and those that are still read are all of them
abbrev pub invariant-loop : goal.invariant-loop
invariant-loop l =
    let read = many_at m.EndVar internal_at in
    with_front (λ xs. map variable_of l.variables.items ++ xs) (read (length (tokens_of l.tokens) - l.counter) (tokens_of l.rest)) ≡ read (length (tokens_of l.tokens)) (tokens_of l.tokens)
