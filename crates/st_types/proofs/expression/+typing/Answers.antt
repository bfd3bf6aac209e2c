use Rattle.std.proofs.Common.{◌≡◌, map, sym, ap, subst, ◌∙◌}
use Rattle.std.proofs.lemmas.Result.{err_from_is_err_and}
use Rattle.fb_tree.specs.Algorithms.{expr_of, link_of}
use Rattle.st_types.specs.Answers.{Gives, Fails}
use Rattle.st_types.specs.Elaborating.{typed, typed_links}
use Rattle.st_types.specs.Views.{entries, operand_of}
use Rattle.st_types.proofs.Arguments.{one_argument, two_arguments, three_arguments, more_arguments}
use Rattle.st_types.proofs.Chains.{view_source_chain}
use Rattle.st_types.proofs.Steps.{typing_fails, typing_goes_on}
use Rattle.st_types.proofs.expression.+typing.Goals as goal

pub typed-returns-in_err-first-in-Chain : goal.typed-returns-in_err-first-in-Chain
typed-returns-in_err-first-in-Chain t c =
    let env = entries c.args.scope.now in
    let b = c.in-Chain.first in
    let v = c.in-Chain.links in
    let e = c.in_err-first-in-Chain.field-0.0 in
    let p = err_from_is_err_and c.from_residual-in_err-first-in-Chain.result c.from_residual-in_err-first-in-Chain.ensures.1 in
    let h : Fails e (typed env (expr_of b.value)) = rw (sym c.deref-in-Chain.ensures) c.in_err-first-in-Chain.ensures in
    let f : Fails e (typed env (expr_of c.args.expr.now)) = rw (ap expr_of c.in-Chain.is ∙ view_source_chain b v) (typing_fails env (expr_of b.value) (map link_of v.items) e h) in
    rw (p.1, p.2) f

pub typed-returns-in_ok-first-in-Chain : goal.typed-returns-in_ok-first-in-Chain
typed-returns-in_ok-first-in-Chain t c =
    let env = entries c.args.scope.now in
    let b = c.in-Chain.first in
    let v = c.in-Chain.links in
    let p = operand_of c.in_ok-first-in-Chain.first in
    let h : typed env (expr_of b.value) ≡ _ = ap (λ l. typed env (expr_of l)) (sym c.deref-in-Chain.ensures) ∙ c.in_ok-first-in-Chain.ensures in
    let g : typed env (expr_of c.args.expr.now) ≡ typed_links env p (map link_of c.deref-in-Chain-2.result.now) =
    ap (λ l. typed env l) (ap expr_of c.in-Chain.is ∙ view_source_chain b v) ∙ typing_goes_on env (expr_of b.value) (map link_of v.items) p h ∙ ap (λ l. typed_links env p (map link_of l)) (sym c.deref-in-Chain-2.ensures.value) in
    subst (λ r. Gives operand_of c.typed_links.result r) (sym g) c.typed_links.ensures

pub typed_call-returns-in-len1 : goal.typed_call-returns-in-len1
typed_call-returns-in-len1 t c =
    rw (one_argument c.args.arguments.now c.a-item.result c.in-len1.len_at_least c.in-len1.len_below c.a-item.is) c.call_one.ensures

pub typed_call-returns-in-len2 : goal.typed_call-returns-in-len2
typed_call-returns-in-len2 t c =
    rw (two_arguments c.args.arguments.now c.a-item-then-arguments-lt3.result c.b-item.result c.in-len2.len_at_least c.in-len2.len_below c.a-item-then-arguments-lt3.is c.b-item.is) c.call_two.ensures

pub typed_call-returns-in-len3 : goal.typed_call-returns-in-len3
typed_call-returns-in-len3 t c =
    rw (three_arguments c.args.arguments.now c.a-item-then-arguments-lt4.result c.b-item-then-arguments-lt4.result c.c-item.result c.in-len3.len_at_least c.in-len3.len_below c.a-item-then-arguments-lt4.is c.b-item-then-arguments-lt4.is c.c-item.is) c.call_three.ensures

pub typed_call-returns-in-len4-up : goal.typed_call-returns-in-len4-up
typed_call-returns-in-len4-up t c = more_arguments _ _ _ c.args.arguments.now c.in-len4-up.len_at_least
