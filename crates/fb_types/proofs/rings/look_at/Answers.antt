use Rattle.std.proofs.Common.{◌≡◌, inl, inr, true, false, cond, None, Some, option_map, ◌++◌, ◌∷◌, [], map, refl, sym, ap, subst, ◌∙◌}
use Rattle.std.specs.List.{Any}
use Rattle.std.specs.Str.{bytes_eq}
use Rattle.fb_model.specs.Names.{is_in}
use Rattle.fb_model.specs.Typing.{service_names}
use Rattle.fb_model.specs.Declarations.{BlockTree}
use Rattle.fb_tree.specs.Files as trees_of
use Rattle.fb_types.specs.Made.{tree_of}
use Rattle.fb_types.specs.Rings.{found_in}
use Rattle.fb_types.proofs.Nested.{among_first}
use Rattle.fb_types.proofs.Tabled.{found_without}
use Rattle.fb_types.proofs.rings.look_at.Goals as goal

pub returns-then-is_service-clause-step : goal.returns-then-is_service-clause-step
returns-then-is_service-clause-step c = ((inl (subst (λ n. is_in n service_names ≡ true) c.as_str-name.ensures.value (sym c.is_service.ensures ∙ c.if-is_service.true)), tt), λ x. refl)

pub returns-then-is_on_or_at-clause-step : goal.returns-then-is_on_or_at-clause-step
returns-then-is_on_or_at-clause-step c =
    let i = trees_of.instance_of c.args.instance.now in
    let path = map tree_of c.args.path.now ++ trees_of.block_of c.args.top.now ∷ [] in (
      i,
      among_first i [],
      record {
        declared = subst (λ n. is_in n service_names ≡ false) c.as_str-name.ensures.value (sym c.is_service.ensures ∙ c.if-is_service.false);
        on = subst (λ n. Any (λ (b : BlockTree). b.name.text ≡ n) path) c.as_str-name.ensures.value (c.is_on_or_at.ensures.0 c.if-is_on_or_at.true);
        offset = refl;
      },
    )

pub returns-in-Some-clause-step : goal.returns-in-Some-clause-step
returns-in-Some-clause-step c =
    let i = trees_of.instance_of c.args.instance.now in
    let n = c.as_str-name.result.now in
    let old = c.args.left.now in
    let new = c.swap_remove.new.self in (
      i,
      among_first i [],
      record {
        declared = subst (λ n. is_in n service_names ≡ false) c.as_str-name.ensures.value (sym c.is_service.ensures ∙ c.if-is_service.false);
        found = subst (λ n. found_in old n ≡ Some (tree_of c.in-Some.block)) c.as_str-name.ensures.value (ap (option_map tree_of) (sym c.swap_remove.ensures.value ∙ c.in-Some.is));
        met = λ x. subst (λ n. found_in new x ≡ cond (bytes_eq n x) None (found_in old x)) c.as_str-name.ensures.value (found_without n old new c.swap_remove.ensures.updates x);
      },
    )

pub returns-in-None-clause-step : goal.returns-in-None-clause-step
returns-in-None-clause-step c =
    let path = map tree_of c.args.path.now ++ trees_of.block_of c.args.top.now ∷ [] in
    let old = c.args.left.now in
    let off : Any (λ (b : BlockTree). b.name.text ≡ (trees_of.instance_of c.args.instance.now).type.text) path → ⊥ =
    λ h. absurd (let y : true ≡ false = sym (c.is_on_or_at.ensures.1 (subst (λ n. Any (λ (b : BlockTree). b.name.text ≡ n) path) (sym c.as_str-name.ensures.value) h)) ∙ c.if-is_on_or_at.false in cc) in
    ((inr (off, subst (λ n. found_in old n ≡ None) c.as_str-name.ensures.value (ap (option_map tree_of) (sym c.swap_remove.ensures.value ∙ c.in-None.is))), tt), λ x. ap (λ es. option_map tree_of (Rattle.std.specs.Map.lookup (λ k. bytes_eq x (Rattle.std.specs.Prelude.string_bytes k)) es)) c.in-None.ensures.unchanged)
