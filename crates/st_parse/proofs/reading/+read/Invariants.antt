use Rattle.std.proofs.Common.{◌≡◌, ◌+◌, ◌-◌, ◌*◌, ◌++◌, length, suc}
use Rattle.fb_words.specs.declared.mark.Mark.TheVariants as m
use Rattle.fb_lex.specs.Views.{tokens_of}
use Rattle.fb_model.specs.StructuredTextGrammar.{levels}
use Rattle.fb_read.specs.Reading.{while_at, separated_at}
use Rattle.fb_read.proofs.Lists.{with_front}
use Rattle.fb_tree.specs.Algorithms.{exprs_of, links_of}
use Rattle.st_parse.specs.ExpressionReading.{begins_link, link_at, level_at, nested_at}
use Rattle.st_parse.proofs.reading.+read.Given as goal

abbrev pub decreases-arguments : goal.decreases-arguments
decreases-arguments l = 64 * l.depth + 62

abbrev pub decreases-links : goal.decreases-links
decreases-links l = 64 * l.depth + 4 * l.level + 28

abbrev pub decreases-link : goal.decreases-link
decreases-link l = 64 * l.depth + 4 * l.level + 27

abbrev pub decreases-expression_below : goal.decreases-expression_below
decreases-expression_below l = 64 * l.depth + 4 * l.level + 26

abbrev pub decreases-chained : goal.decreases-chained
decreases-chained l = 64 * l.depth + 4 * l.level + 25

abbrev pub decreases-operand : goal.decreases-operand
decreases-operand l = 64 * l.depth + 20

abbrev pub decreases-unnamed : goal.decreases-unnamed
decreases-unnamed l = 64 * l.depth + 10

abbrev pub decreases-named : goal.decreases-named
decreases-named l = 64 * l.depth + 10

abbrev pub decreases-negative : goal.decreases-negative
decreases-negative l = 64 * l.depth

abbrev pub decreases-inverse : goal.decreases-inverse
decreases-inverse l = 64 * l.depth

abbrev pub decreases-parentheses : goal.decreases-parentheses
decreases-parentheses l = 64 * l.depth

abbrev pub decreases-element : goal.decreases-element
decreases-element l = 64 * l.depth

abbrev pub decreases-call : goal.decreases-call
decreases-call l = 64 * l.depth

-- the links so far and those that are still read are all of them
abbrev pub invariant-links-loop : goal.invariant-links-loop
invariant-links-loop l =
    let read = while_at (begins_link l.level) (link_at l.level (level_at (nested_at (suc l.depth)) l.level)) in
    with_front (λ xs. links_of l.links.items ++ xs) (read (length (tokens_of l.tokens) - l.counter) (tokens_of l.rest)) ≡ read (length (tokens_of l.tokens)) (tokens_of l.tokens)

abbrev pub invariant-arguments-loop : goal.invariant-arguments-loop
invariant-arguments-loop l =
    let read = separated_at m.Comma (level_at (nested_at (suc l.depth)) levels) in
    with_front (λ xs. exprs_of l.arguments.items ++ xs) (read (length (tokens_of l.tokens) - l.counter) (tokens_of l.rest)) ≡ read (length (tokens_of l.tokens)) (tokens_of l.tokens)
