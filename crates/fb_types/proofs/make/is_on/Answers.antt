use Rattle.std.proofs.Common.{◌≡◌, true, false, map, take, refl, sym, subst, ◌∙◌}
use Rattle.std.specs.List.{Any}
use Rattle.fb_model.specs.Declarations.{BlockTree}
use Rattle.std.proofs.lemmas.List.{take_all}
use Rattle.std.proofs.lemmas.Slice.Eq.{bytes_eq-Decides}
use Rattle.fb_types_blocks.proofs.Lists.{mapped_more}
use Rattle.fb_types_blocks.proofs.Refused.{any_at, either_of}
use Rattle.fb_types.specs.Made.{tree_of}
use Rattle.fb_types.proofs.Making.{any_none, any_last}
use Rattle.fb_types.proofs.make.is_on.Goals as goal

pub loop-block-init : goal.loop-block-init
loop-block-init c = λ h. any_none h

pub returns-then-eq : goal.returns-then-eq
returns-then-eq c =
    let x = c.block-item.result in
    let named = sym c.as_str.ensures.value ∙ (bytes_eq-Decides c.as_str.result.now c.args.name.now).0 (sym c.eq.ensures ∙ c.if-eq.true) in
    (λ e. any_at (λ (b : BlockTree). b.name.text ≡ c.args.name.now) tree_of c.args.path.now c.loop-block.block-index x c.loop-block-test.true c.block-item.is named, λ h. refl)

pub loop-block-preserved : goal.loop-block-preserved
loop-block-preserved c = λ h.
    let xs = c.args.path.now in
    let i = c.loop-block.block-index in
    let x = c.block-item.result in
    let other : (tree_of x).name.text ≡ c.args.name.now → ⊥ = λ e. absurd (let y : true ≡ false = sym ((bytes_eq-Decides c.as_str.result.now c.args.name.now).1 (c.as_str.ensures.value ∙ e)) ∙ (sym c.eq.ensures ∙ c.if-eq.false) in cc) in
    either_of (λ k. c.loop-block.invariant k) other
    (any_last (λ (b : BlockTree). b.name.text ≡ c.args.name.now) (map tree_of (take i xs)) (tree_of x) (subst (Any (λ (b : BlockTree). b.name.text ≡ c.args.name.now)) (mapped_more tree_of xs i x c.loop-block-test.true c.block-item.is) h))

pub returns : goal.returns
returns c =
    (λ e. absurd cc, λ h. absurd (c.loop-block.invariant (subst (λ l. Any (λ (b : BlockTree). b.name.text ≡ c.args.name.now) (map tree_of l)) (sym (take_all c.loop-block.block-index c.args.path.now c.loop-block-test.false)) h)))
