use Rattle.std.proofs.Common.{◌≡◌, ◌-◌, ℕ, ◌<◌, Bool, false, List, [], ◌∷◌, length, Err, IfErr, sym, subst, ◌∙◌, ap, arith}
use Rattle.std.specs.Prelude.{◌==◌}
use Rattle.std.proofs.lemmas.Bool.{eqb-true}
use Rattle.std.proofs.lemmas.Result.{err_from_is_err_and}
use Rattle.fb_lex.specs.Lexing.{Finds, Refuses}
use Rattle.fb_lex.specs.Views.{tokens_of}
use Rattle.fb_model.specs.Spelling.{Spells}
use Rattle.fb_lex.proofs.Steps.{passes_shorter}
use Rattle.fb_lex.proofs.Whole.{Reached, at_start, steps_on, spelled_whole, spelled_only, refuse, unfound, gaps_on, gaps_shorter}
use Rattle.fb_lex.proofs.lexer.lex.Goals as goal

pub loop-bytes-init : goal.loop-bytes-init
loop-bytes-init c =
    let b = c.as_bytes-bytes.result.now in
    let r : Reached b (length b - length b) b (tokens_of c.new-tokens.result.items) = subst (λ n. Reached b n b (tokens_of c.new-tokens.result.items)) (omega arith) (subst (λ xs. Reached b 0 b (tokens_of xs)) (sym c.new-tokens.ensures.items) (at_start b)) in
    let g = gaps_on c.behind_layout-rest.ensures.left (length b) b _ (omega arith) r in
    (g.0, g.1, c.behind_layout-rest.ensures.bare)

pub loop-bytes-smaller : goal.loop-bytes-smaller
loop-bytes-smaller c =
    let s = passes_shorter _ c.loop-bytes.rest.now c.in_ok-step.field-0.now _ _ c.in_ok-step.ensures in
    let g = gaps_shorter c.behind_layout-rest-in-loop-bytes.ensures.left in
    omega arith

pub loop-bytes-preserved : goal.loop-bytes-preserved
loop-bytes-preserved c =
    let s = passes_shorter _ c.loop-bytes.rest.now c.in_ok-step.field-0.now _ _ c.in_ok-step.ensures in
    let g = gaps_on c.behind_layout-rest-in-loop-bytes.ensures.left _ _ _ (omega arith) (steps_on _ _ c.loop-bytes.rest.now c.in_ok-step.field-0.now _ _ c.loop-bytes.invariant.0 c.loop-bytes.invariant.1 c.in_ok-step.ensures) in
    let l = g.0 in
    (omega arith, g.1, c.behind_layout-rest-in-loop-bytes.ensures.bare)

pub returns-clause-found : goal.returns-clause-found
returns-clause-found c =
    subst (λ l. Spells 0 l (tokens_of c.loop-bytes.tokens.items)) c.as_bytes-bytes.ensures.value (spelled_whole c.as_bytes-bytes.result.now c.loop-bytes.rest.now _ (tokens_of c.loop-bytes.tokens.items) c.loop-bytes.invariant.1 (eqb-true _ 0 (sym c.is_empty.ensures ∙ c.loop-bytes-test.false)))

pub returns-clause-only : goal.returns-clause-only
returns-clause-only c = λ ts s short.
    spelled_only c.as_bytes-bytes.result.now c.loop-bytes.rest.now _ (tokens_of c.loop-bytes.tokens.items) ts c.loop-bytes.invariant.1 (eqb-true _ 0 (sym c.is_empty.ensures ∙ c.loop-bytes-test.false)) (subst (λ l. Spells 0 l ts) (sym c.as_bytes-bytes.ensures.value) s)

some_left : (xs : List ℕ) (b : Bool) → b ≡ (length xs == 0) → b ≡ false → 0 < length xs
some_left [] b e f = absurd cc
some_left (x ∷ xs) b e f = omega arith

pub returns-in_err-step-clause-only : goal.returns-in_err-step-clause-only
returns-in_err-step-clause-only c = λ ts s short.
    let p = err_from_is_err_and c.from_residual.result c.from_residual.ensures.1 in
    let lt = some_left c.loop-bytes.rest.now _ c.is_empty.ensures c.loop-bytes-test.true in
    let u = unfound c.as_bytes-bytes.result.now c.loop-bytes.rest.now _ (tokens_of c.step.new.tokens.items) ts c.in_err-step.field-0.0 lt c.loop-bytes.invariant.1 c.in_err-step.ensures (subst (λ l. Spells 0 l ts) (sym c.as_bytes-bytes.ensures.value) s) in
    subst (λ r. Finds r ts) (sym (p.1 ∙ ap Err p.2)) u

pub returns-in_err-step-clause-refused : goal.returns-in_err-step-clause-refused
returns-in_err-step-clause-refused c =
    let p = err_from_is_err_and c.from_residual.result c.from_residual.ensures.1 in
    let lt = some_left c.loop-bytes.rest.now _ c.is_empty.ensures c.loop-bytes-test.true in
    let u = refuse c.as_bytes-bytes.result.now c.loop-bytes.rest.now _ (tokens_of c.step.new.tokens.items) c.in_err-step.field-0.0 lt c.loop-bytes.invariant.1 c.in_err-step.ensures in
    subst (λ r. IfErr r (λ f. Refuses f c.args.text.now)) (sym (p.1 ∙ ap Err p.2)) (subst (λ l. Refuses c.in_err-step.field-0.0 l) c.as_bytes-bytes.ensures.value u)
