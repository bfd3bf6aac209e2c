use Rattle.std.proofs.Common.{◌≡◌, map, sym, ap, subst, ◌∙◌}
use Rattle.std.proofs.lemmas.Result.{err_from_is_err_and}
use Rattle.st_types.specs.Answers.{Gives, Fails}
use Rattle.st_types.specs.Elaborating.{settled, settled_tails}
use Rattle.st_types.specs.Views.{term_of, loose_of, loose_tail_of}
use Rattle.st_types.proofs.Chains.{view_loose_chain}
use Rattle.st_types.proofs.Steps.{settling_fails, settling_goes_on}
use Rattle.st_types.proofs.operand.+settling.Goals as goal

pub settled-returns-in_err-first-in-Chain : goal.settled-returns-in_err-first-in-Chain
settled-returns-in_err-first-in-Chain t c =
    let a = c.args.of in
    let b = c.in-Chain.first in
    let v = c.in-Chain.links in
    let e = c.in_err-first-in-Chain.field-0.0 in
    let p = err_from_is_err_and c.from_residual-in_err-first-in-Chain.result c.from_residual-in_err-first-in-Chain.ensures.1 in
    let h : Fails e (settled a (loose_of b.value)) = rw (sym c.deref-in-Chain.ensures) c.in_err-first-in-Chain.ensures in
    let f : Fails e (settled a (loose_of c.args.loose.now)) = rw (ap loose_of c.in-Chain.is ∙ view_loose_chain b v) (settling_fails a (loose_of b.value) (map loose_tail_of v.items) e h) in
    rw (p.1, p.2) f

pub settled-returns-in_ok-first-in-Chain : goal.settled-returns-in_ok-first-in-Chain
settled-returns-in_ok-first-in-Chain t c =
    let a = c.args.of in
    let b = c.in-Chain.first in
    let v = c.in-Chain.links in
    let y = term_of c.in_ok-first-in-Chain.first in
    let h : settled a (loose_of b.value) ≡ _ = ap (λ l. settled a (loose_of l)) (sym c.deref-in-Chain.ensures) ∙ c.in_ok-first-in-Chain.ensures in
    let g : settled a (loose_of c.args.loose.now) ≡ settled_tails a y (map loose_tail_of c.deref-in-Chain-2.result.now) =
    ap (λ l. settled a l) (ap loose_of c.in-Chain.is ∙ view_loose_chain b v) ∙ settling_goes_on a (loose_of b.value) (map loose_tail_of v.items) y h ∙ ap (λ l. settled_tails a y (map loose_tail_of l)) (sym c.deref-in-Chain-2.ensures.value) in
    subst (λ r. Gives term_of c.settled_links.result r) (sym g) c.settled_links.ensures
