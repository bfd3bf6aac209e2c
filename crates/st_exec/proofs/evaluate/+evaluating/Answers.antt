use Rattle.std.proofs.Common.{◌≡◌, ◌+◌, Some, IsSome, refl, map, drop, sym, ap, subst, ◌∙◌, rules, to_z, of_z, w64, string_bytes}
use Rattle.std.proofs.lemmas.Int.{to_z-of_z}
use Rattle.fb_model.specs.Values.{numbers_of}
use Rattle.fb_model.specs.TypedText.{constant}
use Rattle.fb_model.specs.Language.{value_of, element_at}
use Rattle.st_exec.specs.declared.code.Code.{the_lemmas}
use Rattle.st_types.specs.Views.{joined}
use Rattle.st_exec.specs.CodeViews.{code_tail}
use Rattle.st_exec.specs.Placed.{placed_link, all_true}
use Rattle.st_types.proofs.Gathering.{drop_step}
use Rattle.st_exec.specs.Cells.{values_of, forms_of}
use Rattle.st_exec.proofs.Running.{first_placed, links_placed, operand_placed, rest_placed, element_placed, element_whole, chain_first, chain_value, operand_some, result_some, result_next}
use Rattle.st_exec.proofs.evaluate.+evaluating.Goals as goal

pub eval-eval-first-requires : goal.eval-eval-first-requires
eval-eval-first-requires t c =
    (search (rules, the_lemmas), (first_placed (forms_of c.args.store.now) c.args.code.now c.in-Chain.first c.in-Chain.links c.in-Chain.is c.requires.placed c.deref-in-Chain.result.now c.deref-in-Chain.ensures, chain_first (values_of c.args.store.now) c.args.code.now c.in-Chain.first c.in-Chain.links c.in-Chain.is c.deref-in-Chain.result.now c.deref-in-Chain.ensures c.in-Chain.links.items refl c.requires.defined))

pub eval-eval_links-requires : goal.eval-eval_links-requires
eval-eval_links-requires t c =
    let q : to_z w64 (of_z w64 c.eval-first.result) ≡ c.eval-first.result = to_z-of_z w64 c.eval-first.result (search rules) in
    let v = chain_value (values_of c.args.store.now) c.args.code.now c.in-Chain.first c.in-Chain.links c.in-Chain.is c.deref-in-Chain.result.now c.deref-in-Chain.ensures c.deref-in-Chain-2.result.now c.deref-in-Chain-2.ensures.value c.eval-first.result c.eval-first.ensures in
    let h : IsSome (value_of (joined (constant c.eval-first.result) (map code_tail c.deref-in-Chain-2.result.now)) (values_of c.args.store.now)) = subst IsSome v c.requires.defined in
    (search (rules, the_lemmas), (links_placed (forms_of c.args.store.now) c.args.code.now c.in-Chain.first c.in-Chain.links c.in-Chain.is c.requires.placed c.deref-in-Chain-2.result.now c.deref-in-Chain-2.ensures.value, subst (λ k. IsSome (value_of (joined (constant k) (map code_tail c.deref-in-Chain-2.result.now)) (values_of c.args.store.now))) (sym q) h))

pub eval-returns-in-Chain : goal.eval-returns-in-Chain
eval-returns-in-Chain t c =
    let q : to_z w64 (of_z w64 c.eval-first.result) ≡ c.eval-first.result = to_z-of_z w64 c.eval-first.result (search rules) in
    let p : to_z w64 (of_z w64 c.eval_links.result) ≡ c.eval_links.result = to_z-of_z w64 c.eval_links.result (search rules) in
    let v = chain_value (values_of c.args.store.now) c.args.code.now c.in-Chain.first c.in-Chain.links c.in-Chain.is c.deref-in-Chain.result.now c.deref-in-Chain.ensures c.deref-in-Chain-2.result.now c.deref-in-Chain-2.ensures.value c.eval-first.result c.eval-first.ensures in
    v ∙ ap (λ k. value_of (joined (constant k) (map code_tail c.deref-in-Chain-2.result.now)) (values_of c.args.store.now)) (sym q) ∙ c.eval_links.ensures ∙ ap Some (sym p)

pub eval_links-eval-operand-requires : goal.eval_links-eval-operand-requires
eval_links-eval-operand-requires t c =
    let q = to_z-of_z w64 c.args.first c.ranges.first in
    let d = drop_step c.args.links.now c.loop-link.link-index c.link-item.result c.loop-link-test.true c.link-item.is in
    let h : IsSome (value_of (joined (constant (to_z w64 (of_z w64 c.args.first))) (map code_tail c.args.links.now)) (values_of c.args.store.now)) = subst (λ k. IsSome (value_of (joined (constant k) (map code_tail c.args.links.now)) (values_of c.args.store.now))) (sym q) c.requires.defined in (
      search (rules, the_lemmas),
      (
        operand_placed (forms_of c.args.store.now) c.link-item.result (drop (c.loop-link.link-index + 1) c.args.links.now) (ap (λ ls. all_true (map (placed_link (forms_of c.args.store.now)) ls)) (sym d) ∙ c.loop-link.invariant.slots),
        operand_some (values_of c.args.store.now) (to_z w64 c.loop-link.whole-bits) c.link-item.result (map code_tail (drop (c.loop-link.link-index + 1) c.args.links.now)) _
            (ap (λ ls. value_of (joined (constant (to_z w64 c.loop-link.whole-bits)) (map code_tail ls)) (values_of c.args.store.now)) (sym d) ∙ c.loop-link.invariant.left) h,
      ),
    )

pub eval_links-apply_two-whole-requires : goal.eval_links-apply_two-whole-requires
eval_links-apply_two-whole-requires t c =
    let q = to_z-of_z w64 c.args.first c.ranges.first in
    let p : to_z w64 (of_z w64 c.eval-operand.result) ≡ c.eval-operand.result = to_z-of_z w64 c.eval-operand.result (search rules) in
    let d = drop_step c.args.links.now c.loop-link.link-index c.link-item.result c.loop-link-test.true c.link-item.is in
    let h : IsSome (value_of (joined (constant (to_z w64 (of_z w64 c.args.first))) (map code_tail c.args.links.now)) (values_of c.args.store.now)) = subst (λ k. IsSome (value_of (joined (constant k) (map code_tail c.args.links.now)) (values_of c.args.store.now))) (sym q) c.requires.defined in
    result_some (values_of c.args.store.now) (to_z w64 c.loop-link.whole-bits) c.link-item.result (map code_tail (drop (c.loop-link.link-index + 1) c.args.links.now)) _
    (ap (λ ls. value_of (joined (constant (to_z w64 c.loop-link.whole-bits)) (map code_tail ls)) (values_of c.args.store.now)) (sym d) ∙ c.loop-link.invariant.left) (to_z w64 (of_z w64 c.eval-operand.result)) (c.eval-operand.ensures ∙ ap Some (sym p)) h

pub eval_links-loop-link-preserved : goal.eval_links-loop-link-preserved
eval_links-loop-link-preserved t c =
    let p : to_z w64 (of_z w64 c.eval-operand.result) ≡ c.eval-operand.result = to_z-of_z w64 c.eval-operand.result (search rules) in
    let r : to_z w64 (of_z w64 c.apply_two-whole.result) ≡ c.apply_two-whole.result = to_z-of_z w64 c.apply_two-whole.result (search rules) in
    let d = drop_step c.args.links.now c.loop-link.link-index c.link-item.result c.loop-link-test.true c.link-item.is in
    record {
      left = result_next (values_of c.args.store.now) (to_z w64 c.loop-link.whole-bits) c.link-item.result (map code_tail (drop (c.loop-link.link-index + 1) c.args.links.now)) _
          (ap (λ ls. value_of (joined (constant (to_z w64 c.loop-link.whole-bits)) (map code_tail ls)) (values_of c.args.store.now)) (sym d) ∙ c.loop-link.invariant.left)
          (to_z w64 (of_z w64 c.eval-operand.result)) (to_z w64 (of_z w64 c.apply_two-whole.result)) (c.eval-operand.ensures ∙ ap Some (sym p)) (c.apply_two-whole.ensures ∙ ap Some (sym r));
      slots = rest_placed (forms_of c.args.store.now) c.link-item.result (drop (c.loop-link.link-index + 1) c.args.links.now) (ap (λ ls. all_true (map (placed_link (forms_of c.args.store.now)) ls)) (sym d) ∙ c.loop-link.invariant.slots);
    }

pub eval-returns-in-Element : goal.eval-returns-in-Element
eval-returns-in-Element t c =
    let V = values_of c.args.store.now in
    let x = c.in-Element.field-0 in
    let i = to_z w64 (of_z w64 c.eval-index.result) in
    let q : i ≡ c.eval-index.result = to_z-of_z w64 c.eval-index.result (search rules) in
    let p : to_z w64 (of_z w64 c.element.result) ≡ c.element.result = to_z-of_z w64 c.element.result (search rules) in
    let l : to_z w64 (of_z w64 c.in-Element.low) ≡ c.in-Element.low = to_z-of_z w64 c.in-Element.low (search rules) in
    let w = element_whole c.args.code.now x c.in-Element.first c.in-Element.low c.in-Element.field-3 c.in-Element.index c.in-Element.is V c.deref.result.now c.deref.ensures i (c.eval-index.ensures ∙ ap Some (sym q))
    ∙ ap (λ z. element_at z c.in-Element.field-3 (numbers_of (V (string_bytes x))) i) (sym l) in
    let s = element_placed c.args.code.now x c.in-Element.first c.in-Element.low c.in-Element.field-3 c.in-Element.index c.in-Element.is (forms_of c.args.store.now) c.requires.placed in
    w ∙ c.element.ensures (string_bytes x) c.in-Element.field-3 s (subst IsSome w c.requires.defined) ∙ ap Some (sym p)
