use Rattle.std.proofs.Common.{◌≡◌, ◌<◌, ◌≤◌, ◌-◌, ◌++◌, ◌∷◌, [], length, suc, Err, sym, ap, ◌∙◌, arith}
use Rattle.std.proofs.lemmas.Result.{err_from_is_err_and}
use Rattle.std.proofs.lemmas.List.{map_push, length-map}
use Rattle.fb_words.specs.declared.mark.Mark.TheVariants as m
use Rattle.fb_lex.specs.Views.{token_of, tokens_of}
use Rattle.fb_model.specs.StructuredTextGrammar.{levels}
use Rattle.fb_read.specs.Reading.{syntax, list_at}
use Rattle.fb_read.proofs.Lists.{while_goes_on, while_fails, while_stops, while_done, separated_goes_on, separated_stops, separated_fails, separated_done}
use Rattle.fb_read.proofs.Fronts.{skipped}
use Rattle.fb_tree.specs.Algorithms.{expr_of, exprs_of, link_of, links_of}
use Rattle.st_parse.specs.ExpressionReading.{begins_link, link_at, links_at, level_at, nested_at}
use Rattle.st_parse.proofs.Short.{alone, gives_as, first_fails, first_read, level_ends, level_fails}
use Rattle.st_parse.proofs.reading.+read.Goals as goal

pub expression_below-returns-in_err-first : goal.expression_below-returns-in_err-first
expression_below-returns-in_err-first t c =
    let p = err_from_is_err_and c.from_residual.result c.from_residual.ensures.1 in
    rw (p.1, p.2) (first_fails (nested_at (suc c.args.depth)) c.args.level (tokens_of c.args.tokens.now) c.in_err-first.field-0.0 c.in_err-first.ensures)

pub expression_below-returns-then-not-continues : goal.expression_below-returns-then-not-continues
expression_below-returns-then-not-continues t c =
    let operand = nested_at (suc c.args.depth) in
    let x = expr_of c.in_ok-first.first in
    let rest = tokens_of c.in_ok-first.rest.now in
    first_read operand c.args.level (tokens_of c.args.tokens.now) rest x c.in_ok-first.ensures ∙ alone operand c.args.level x rest (sym c.continues.ensures ∙ c.if-not-continues.true)

pub expression_below-returns : goal.expression_below-returns
expression_below-returns t c =
    gives_as _ c.chained.result _ _ (first_read (nested_at (suc c.args.depth)) c.args.level (tokens_of c.args.tokens.now) (tokens_of c.in_ok-first.rest.now) (expr_of c.in_ok-first.first) c.in_ok-first.ensures) c.chained.ensures

pub chained-returns-then-not-begins_link : goal.chained-returns-then-not-begins_link
chained-returns-then-not-begins_link t c =
    let above : c.args.level ≡ suc (c.args.level - 1) = omega (arith, c.if-level-eq0.false) in
    level_ends (nested_at (suc c.args.depth)) c.args.level (c.args.level - 1) (expr_of c.args.first) (expr_of c.in_ok-whole.whole) (tokens_of c.args.tokens.now) (tokens_of c.in_ok-whole.rest.now) above c.in_ok-whole.ensures (sym c.begins_link.ensures ∙ c.if-not-begins_link.true)

pub chained-returns-in_err-links : goal.chained-returns-in_err-links
chained-returns-in_err-links t c =
    let above : c.args.level ≡ suc (c.args.level - 1) = omega (arith, c.if-level-eq0.false) in
    let p = err_from_is_err_and c.from_residual-in_err-links.result c.from_residual-in_err-links.ensures.1 in
    rw (p.1, p.2) (level_fails (nested_at (suc c.args.depth)) c.args.level (c.args.level - 1) (expr_of c.args.first) (expr_of c.in_ok-whole.whole) (tokens_of c.args.tokens.now) (tokens_of c.in_ok-whole.rest.now) c.in_err-links.field-0.0 above c.in_ok-whole.ensures c.in_err-links.ensures)

pub links-returns-then-not-begins_link : goal.links-returns-then-not-begins_link
links-returns-then-not-begins_link t c =
    let item = level_at (nested_at (suc c.args.depth)) c.args.level in
    let ts = tokens_of c.args.tokens.now in
    while_stops (begins_link c.args.level) (link_at c.args.level item) (links_of c.loop.links.items) (length ts) c.loop.counter (tokens_of c.loop.rest.now) (links_at c.args.level item ts) c.loop.invariant (sym c.begins_link.ensures ∙ c.if-not-begins_link.true)

pub links-returns-in_err-link : goal.links-returns-in_err-link
links-returns-in_err-link t c =
    let item = level_at (nested_at (suc c.args.depth)) c.args.level in
    let ts = tokens_of c.args.tokens.now in
    let within : c.loop.counter < length ts = omega (arith, length-map c.args.tokens.now token_of) in
    let p = err_from_is_err_and c.from_residual.result c.from_residual.ensures.1 in
    rw (p.1, p.2) (while_fails (begins_link c.args.level) (link_at c.args.level item) (links_of c.loop.links.items) (length ts) c.loop.counter (tokens_of c.loop.rest.now) (links_at c.args.level item ts) c.loop.invariant c.in_err-link.field-0.0 within (sym c.begins_link.ensures ∙ c.if-not-begins_link.false) c.in_err-link.ensures)

pub links-loop-preserved : goal.links-loop-preserved
links-loop-preserved t c =
    let item = level_at (nested_at (suc c.args.depth)) c.args.level in
    let ts = tokens_of c.args.tokens.now in
    let within : c.loop.counter < length ts = omega (arith, length-map c.args.tokens.now token_of) in
    let l = c.in_ok-link.link in
    let e : links_of c.push.new.self.items ≡ links_of c.loop.links.items ++ link_of l ∷ [] = rw c.in_ok-push.ensures.items (map_push _ c.loop.links.items l) in
    rw e (while_goes_on (begins_link c.args.level) (link_at c.args.level item) (links_of c.loop.links.items) (length ts) c.loop.counter (tokens_of c.loop.rest.now) (links_at c.args.level item ts) c.loop.invariant (link_of l) (tokens_of c.in_ok-link.after.now) within (sym c.begins_link.ensures ∙ c.if-not-begins_link.false) c.in_ok-link.ensures)

pub links-returns : goal.links-returns
links-returns t c =
    let item = level_at (nested_at (suc c.args.depth)) c.args.level in
    let ts = tokens_of c.args.tokens.now in
    let past : length ts ≤ c.loop.counter = omega (arith, length-map c.args.tokens.now token_of) in
    while_done (begins_link c.args.level) (link_at c.args.level item) (links_of c.loop.links.items) (length ts) c.loop.counter (tokens_of c.loop.rest.now) (links_at c.args.level item ts) c.loop.invariant past

pub arguments-returns-in_err-argument : goal.arguments-returns-in_err-argument
arguments-returns-in_err-argument t c =
    let item = level_at (nested_at (suc c.args.depth)) levels in
    let ts = tokens_of c.args.tokens.now in
    let within : c.loop.counter < length ts = omega (arith, length-map c.args.tokens.now token_of) in
    let p = err_from_is_err_and c.from_residual.result c.from_residual.ensures.1 in
    rw (p.1, p.2) (separated_fails m.Comma item (exprs_of c.loop.arguments.items) (length ts) c.loop.counter (tokens_of c.loop.rest.now) (list_at m.Comma item ts) c.loop.invariant c.in_err-argument.field-0.0 within c.in_err-argument.ensures)

pub arguments-returns-then-not-next_is : goal.arguments-returns-then-not-next_is
arguments-returns-then-not-next_is t c =
    let item = level_at (nested_at (suc c.args.depth)) levels in
    let ts = tokens_of c.args.tokens.now in
    let within : c.loop.counter < length ts = omega (arith, length-map c.args.tokens.now token_of) in
    let x = c.in_ok-argument.argument in
    let e : exprs_of c.push.new.self.items ≡ exprs_of c.loop.arguments.items ++ expr_of x ∷ [] = rw c.in_ok-push.ensures.items (map_push _ c.loop.arguments.items x) in
    rw e (separated_stops m.Comma item (exprs_of c.loop.arguments.items) (length ts) c.loop.counter (tokens_of c.loop.rest.now) (list_at m.Comma item ts) c.loop.invariant (expr_of x) (tokens_of c.in_ok-argument.after.now) within c.in_ok-argument.ensures (sym c.next_is.ensures ∙ c.if-not-next_is.true))

pub arguments-loop-preserved : goal.arguments-loop-preserved
arguments-loop-preserved t c =
    let item = level_at (nested_at (suc c.args.depth)) levels in
    let ts = tokens_of c.args.tokens.now in
    let within : c.loop.counter < length ts = omega (arith, length-map c.args.tokens.now token_of) in
    let x = c.in_ok-argument.argument in
    let e : exprs_of c.push.new.self.items ≡ exprs_of c.loop.arguments.items ++ expr_of x ∷ [] = rw c.in_ok-push.ensures.items (map_push _ c.loop.arguments.items x) in
    let go = separated_goes_on m.Comma item (exprs_of c.loop.arguments.items) (length ts) c.loop.counter (tokens_of c.loop.rest.now) (list_at m.Comma item ts) c.loop.invariant (expr_of x) (tokens_of c.in_ok-argument.after.now) within c.in_ok-argument.ensures (sym c.next_is.ensures ∙ c.if-not-next_is.false) in
    rw (e, skipped c.in_ok-argument.after.now) go

pub arguments-returns : goal.arguments-returns
arguments-returns t c =
    let item = level_at (nested_at (suc c.args.depth)) levels in
    let ts = tokens_of c.args.tokens.now in
    let past : length ts ≤ c.loop.counter = omega (arith, length-map c.args.tokens.now token_of) in
    separated_done m.Comma item (exprs_of c.loop.arguments.items) (length ts) c.loop.counter (tokens_of c.loop.rest.now) (list_at m.Comma item ts) c.loop.invariant past ∙ ap (λ n. Err (syntax n)) (length-map c.loop.rest.now token_of)
