use Rattle.std.proofs.Common.{◌≡◌, ◌<◌, ◌≤◌, ◌++◌, ◌∷◌, [], length, map, Err, sym, ap, ◌∙◌, arith}
use Rattle.std.proofs.lemmas.Result.{err_from_is_err_and}
use Rattle.std.proofs.lemmas.List.{map_push, length-map}
use Rattle.fb_words.specs.declared.mark.Mark.TheVariants as m
use Rattle.fb_lex.specs.Views.{token_of, tokens_of}
use Rattle.fb_read.specs.Reading.{syntax, items_at}
use Rattle.fb_read.proofs.Lists.{many_goes_on, many_fails, many_stops, many_done}
use Rattle.fb_text.specs.Reading.{internal_at}
use Rattle.fb_tree.specs.Files.{variable_of}
use Rattle.fb_text.proofs.variable.internals.Goals as goal

pub returns-then-next_is : goal.returns-then-next_is
returns-then-next_is c =
    let ts = tokens_of c.args.tokens.now in
    let within : c.loop.counter < length ts = omega (arith, length-map c.args.tokens.now token_of) in
    many_stops m.EndVar internal_at (map variable_of c.loop.variables.items) (length ts) c.loop.counter (tokens_of c.loop.rest.now) (items_at m.EndVar internal_at ts) c.loop.invariant within (sym c.next_is.ensures ∙ c.if-next_is.true)

pub returns-in_err-variable : goal.returns-in_err-variable
returns-in_err-variable c =
    let ts = tokens_of c.args.tokens.now in
    let within : c.loop.counter < length ts = omega (arith, length-map c.args.tokens.now token_of) in
    let p = err_from_is_err_and c.from_residual.result c.from_residual.ensures.1 in
    rw (p.1, p.2) (many_fails m.EndVar internal_at (map variable_of c.loop.variables.items) (length ts) c.loop.counter (tokens_of c.loop.rest.now) (items_at m.EndVar internal_at ts) c.loop.invariant c.in_err-variable.field-0.0 within (sym c.next_is.ensures ∙ c.if-next_is.false) c.in_err-variable.ensures)

pub loop-preserved : goal.loop-preserved
loop-preserved c =
    let ts = tokens_of c.args.tokens.now in
    let within : c.loop.counter < length ts = omega (arith, length-map c.args.tokens.now token_of) in
    let x = c.in_ok-variable.variable in
    let e : map variable_of c.push.new.self.items ≡ map variable_of c.loop.variables.items ++ variable_of x ∷ [] = rw c.in_ok-push.ensures.items (map_push _ c.loop.variables.items x) in
    rw e (many_goes_on m.EndVar internal_at (map variable_of c.loop.variables.items) (length ts) c.loop.counter (tokens_of c.loop.rest.now) (items_at m.EndVar internal_at ts) c.loop.invariant (variable_of x) (tokens_of c.in_ok-variable.after.now) within (sym c.next_is.ensures ∙ c.if-next_is.false) c.in_ok-variable.ensures)

pub returns : goal.returns
returns c =
    let ts = tokens_of c.args.tokens.now in
    let past : length ts ≤ c.loop.counter = omega (arith, length-map c.args.tokens.now token_of) in
    many_done m.EndVar internal_at (map variable_of c.loop.variables.items) (length ts) c.loop.counter (tokens_of c.loop.rest.now) (items_at m.EndVar internal_at ts) c.loop.invariant past ∙ ap (λ n. Err (syntax n)) (length-map c.loop.rest.now token_of)
