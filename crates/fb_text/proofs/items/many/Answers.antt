use Rattle.std.proofs.Common.{◌≡◌, ◌<◌, ◌≤◌, ◌++◌, ◌∷◌, [], length, map, Err, sym, ap, ◌∙◌, arith}
use Rattle.std.proofs.lemmas.Result.{err_from_is_err_and}
use Rattle.std.proofs.lemmas.List.{map_push, length-map}
use Rattle.fb_lex.specs.Views.{token_of, tokens_of}
use Rattle.fb_read.specs.Reading.{syntax, items_at}
use Rattle.fb_read.proofs.Lists.{many_goes_on, many_fails, many_stops, many_done}
use Rattle.fb_text.proofs.items.many.Goals as goal

pub returns-then-next_is : goal.returns-then-next_is
returns-then-next_is g c =
    let i = g.I.Item in
    let ts = tokens_of c.args.tokens.now in
    let within : c.loop.counter < length ts = omega (arith, length-map c.args.tokens.now token_of) in
    many_stops c.args.close i.reads (map i.view c.loop.items.items) (length ts) c.loop.counter (tokens_of c.loop.rest.now) (items_at c.args.close i.reads ts) c.loop.invariant within (sym c.next_is.ensures ∙ c.if-next_is.true)

pub returns-in_err-item : goal.returns-in_err-item
returns-in_err-item g c =
    let i = g.I.Item in
    let ts = tokens_of c.args.tokens.now in
    let within : c.loop.counter < length ts = omega (arith, length-map c.args.tokens.now token_of) in
    let p = err_from_is_err_and c.from_residual.result c.from_residual.ensures.1 in
    rw (p.1, p.2) (many_fails c.args.close i.reads (map i.view c.loop.items.items) (length ts) c.loop.counter (tokens_of c.loop.rest.now) (items_at c.args.close i.reads ts) c.loop.invariant c.in_err-item.field-0.0 within (sym c.next_is.ensures ∙ c.if-next_is.false) c.in_err-item.ensures)

pub loop-preserved : goal.loop-preserved
loop-preserved g c =
    let i = g.I.Item in
    let ts = tokens_of c.args.tokens.now in
    let within : c.loop.counter < length ts = omega (arith, length-map c.args.tokens.now token_of) in
    let x = c.in_ok-item.item in
    let e : map i.view c.push.new.self.items ≡ map i.view c.loop.items.items ++ i.view x ∷ [] = rw c.in_ok-push.ensures.items (map_push _ c.loop.items.items x) in
    rw e (many_goes_on c.args.close i.reads (map i.view c.loop.items.items) (length ts) c.loop.counter (tokens_of c.loop.rest.now) (items_at c.args.close i.reads ts) c.loop.invariant (i.view x) (tokens_of c.in_ok-item.after.now) within (sym c.next_is.ensures ∙ c.if-next_is.false) c.in_ok-item.ensures)

pub returns : goal.returns
returns g c =
    let i = g.I.Item in
    let ts = tokens_of c.args.tokens.now in
    let past : length ts ≤ c.loop.counter = omega (arith, length-map c.args.tokens.now token_of) in
    many_done c.args.close i.reads (map i.view c.loop.items.items) (length ts) c.loop.counter (tokens_of c.loop.rest.now) (items_at c.args.close i.reads ts) c.loop.invariant past ∙ ap (λ n. Err (syntax n)) (length-map c.loop.rest.now token_of)
