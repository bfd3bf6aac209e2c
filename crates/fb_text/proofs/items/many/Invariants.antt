use Rattle.std.proofs.Common.{◌≡◌, ◌-◌, ◌++◌, length, map}
use Rattle.fb_lex.specs.Views.{tokens_of}
use Rattle.fb_read.specs.Reading.{many_at}
use Rattle.fb_read.proofs.Lists.{with_front}
use Rattle.fb_text.proofs.items.many.Given as goal

-- the items so far and those that are still read are all of them
abbrev pub invariant-loop : goal.invariant-loop
invariant-loop g l =
    let read = many_at l.close g.I.Item.reads in
    with_front (λ xs. map g.I.Item.view l.items.items ++ xs) (read (length (tokens_of l.tokens) - l.counter) (tokens_of l.rest)) ≡ read (length (tokens_of l.tokens)) (tokens_of l.tokens)
