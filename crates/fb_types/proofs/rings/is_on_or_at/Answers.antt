use Rattle.std.proofs.Common.{◌≡◌, true, false, map, sym, ◌∙◌}
use Rattle.std.proofs.lemmas.List.Quantifiers.{Any-push}
use Rattle.std.proofs.lemmas.Slice.Eq.{bytes_eq-Decides}
use Rattle.fb_model.specs.Declarations.{BlockTree}
use Rattle.fb_tree.specs.Files as trees_of
use Rattle.fb_types_blocks.proofs.Refused.{either_of}
use Rattle.fb_types.specs.Made.{tree_of}
use Rattle.fb_types.proofs.Making.{any_front, any_last}
use Rattle.fb_types.proofs.rings.is_on_or_at.Goals as goal

pub returns-then-is_on : goal.returns-then-is_on
returns-then-is_on c = (λ e. any_front (λ (b : BlockTree). b.name.text ≡ c.args.name.now) (map tree_of c.args.path.now) (trees_of.block_of c.args.top.now) (c.is_on.ensures.0 c.if-is_on.true), λ h. c.if-is_on.true)

pub returns-else-is_on : goal.returns-else-is_on
returns-else-is_on c =
    let xs = map tree_of c.args.path.now in
    let y = trees_of.block_of c.args.top.now in
    let same = bytes_eq-Decides c.as_str.result.now c.args.name.now in (
      λ e. Any-push (λ (b : BlockTree). b.name.text ≡ c.args.name.now) xs y (sym c.as_str.ensures.value ∙ same.0 (sym c.eq.ensures ∙ e)),
      λ h. either_of (λ k. absurd (let t : true ≡ false = sym (c.is_on.ensures.1 k) ∙ c.if-is_on.false in cc)) (λ n. c.eq.ensures ∙ same.1 (c.as_str.ensures.value ∙ n)) (any_last (λ (b : BlockTree). b.name.text ≡ c.args.name.now) xs y h),
    )
