use Rattle.std.proofs.Common.{◌≡◌, ◌<◌, ◌≤◌, ◌++◌, ◌∷◌, [], length, map, Err, sym, ap, ◌∙◌, arith}
use Rattle.std.proofs.lemmas.Result.{err_from_is_err_and}
use Rattle.std.proofs.lemmas.List.{map_push, length-map}
use Rattle.fb_lex.specs.Views.{token_of, tokens_of}
use Rattle.fb_words.specs.declared.mark.Mark.TheVariants as m
use Rattle.fb_read.specs.Reading.{syntax, list_at}
use Rattle.fb_read.proofs.Lists.{separated_goes_on, separated_stops, separated_fails, separated_done}
use Rattle.fb_read.proofs.Fronts.{skipped}
use Rattle.fb_tree.specs.Algorithms.{label_of}
use Rattle.st_parse.specs.Reading.{label_at}
use Rattle.st_parse.proofs.label.labels.Goals as goal

pub returns-in_err-label : goal.returns-in_err-label
returns-in_err-label c =
    let ts = tokens_of c.args.tokens.now in
    let within : c.loop.counter < length ts = omega (arith, length-map c.args.tokens.now token_of) in
    let p = err_from_is_err_and c.from_residual.result c.from_residual.ensures.1 in
    rw (p.1, p.2) (separated_fails m.Comma label_at (map label_of c.loop.labels.items) (length ts) c.loop.counter (tokens_of c.loop.rest.now) (list_at m.Comma label_at ts) c.loop.invariant c.in_err-label.field-0.0 within c.in_err-label.ensures)

pub returns-then-not-next_is : goal.returns-then-not-next_is
returns-then-not-next_is c =
    let ts = tokens_of c.args.tokens.now in
    let within : c.loop.counter < length ts = omega (arith, length-map c.args.tokens.now token_of) in
    let x = c.in_ok-label.label in
    let e : map label_of c.push.new.self.items ≡ map label_of c.loop.labels.items ++ label_of x ∷ [] = rw c.in_ok-push.ensures.items (map_push _ c.loop.labels.items x) in
    rw e (separated_stops m.Comma label_at (map label_of c.loop.labels.items) (length ts) c.loop.counter (tokens_of c.loop.rest.now) (list_at m.Comma label_at ts) c.loop.invariant (label_of x) (tokens_of c.in_ok-label.after.now) within c.in_ok-label.ensures (sym c.next_is.ensures ∙ c.if-not-next_is.true))

pub loop-preserved : goal.loop-preserved
loop-preserved c =
    let ts = tokens_of c.args.tokens.now in
    let within : c.loop.counter < length ts = omega (arith, length-map c.args.tokens.now token_of) in
    let x = c.in_ok-label.label in
    let e : map label_of c.push.new.self.items ≡ map label_of c.loop.labels.items ++ label_of x ∷ [] = rw c.in_ok-push.ensures.items (map_push _ c.loop.labels.items x) in
    let go = separated_goes_on m.Comma label_at (map label_of c.loop.labels.items) (length ts) c.loop.counter (tokens_of c.loop.rest.now) (list_at m.Comma label_at ts) c.loop.invariant (label_of x) (tokens_of c.in_ok-label.after.now) within c.in_ok-label.ensures (sym c.next_is.ensures ∙ c.if-not-next_is.false) in
    rw (e, skipped c.in_ok-label.after.now) go

pub returns : goal.returns
returns c =
    let ts = tokens_of c.args.tokens.now in
    let past : length ts ≤ c.loop.counter = omega (arith, length-map c.args.tokens.now token_of) in
    separated_done m.Comma label_at (map label_of c.loop.labels.items) (length ts) c.loop.counter (tokens_of c.loop.rest.now) (list_at m.Comma label_at ts) c.loop.invariant past ∙ ap (λ n. Err (syntax n)) (length-map c.loop.rest.now token_of)
