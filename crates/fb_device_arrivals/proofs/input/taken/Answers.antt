use Rattle.std.proofs.Common.{rules, ℤ, ◌≡◌, ◌<◌, ◌+◌, ◌++◌, ◌∷◌, [], suc, true, pos, length, take, slice_index_or, w64, to_z, of_z, sym, refl, ◌∙◌, ap, subst, arith}
use Rattle.std.specs.Int.{w128}
use Rattle.std.proofs.lemmas.Int.{to_z-of_z, ints}
use Rattle.fb_words.specs.declared.elem_type.ElemType.{ElemType}
use Rattle.fb_words.specs.declared.elem_type.ElemType.TheVariants as t
use Rattle.fb_model.specs.Values.{in_type, all_in}
use Rattle.std.proofs.lemmas.List.{take_more}
use Rattle.fb_lists.proofs.Lists.{stands_at}
use Rattle.fb_device_arrivals.proofs.Inputs.{all_in_more}
use Rattle.fb_device_arrivals.proofs.input.taken.Goals as goal

pub loop-at-preserved : goal.loop-at-preserved
loop-at-preserved c =
    let v : ℤ = slice_index_or c.args.values.now c.loop-at.at (pos 0) in
    let x : ElemType = slice_index_or c.args.types.now c.loop-at.at t.Bool in
    let q : to_z w64 (of_z w64 v) ≡ v = to_z-of_z w64 v (search rules) in
    let wide : to_z w128 (of_z w128 c.from.result) ≡ v = omega (arith, ints) in
    let within : c.loop-at.at < length c.args.types.now = omega (arith, c.loop-at-test.true, c.if-values-types.false) in
    let up : suc c.loop-at.at ≡ c.loop-at.at + 1 = omega arith in
    record {
      items = c.push.ensures.items ∙ ap (λ xs. xs ++ to_z w64 (of_z w64 v) ∷ []) c.loop-at.invariant.items ∙ ap (λ z. take c.loop-at.at c.args.values.now ++ z ∷ []) q ∙ sym (take_more c.args.values.now c.loop-at.at (pos 0) c.loop-at-test.true);
      fit = subst (λ n. all_in (take n c.args.types.now) (take n c.args.values.now) ≡ true) up
          (all_in_more c.args.types.now c.args.values.now c.loop-at.at x v (stands_at c.args.types.now c.loop-at.at x t.Bool within refl) (stands_at c.args.values.now c.loop-at.at v (pos 0) c.loop-at-test.true refl) c.loop-at.invariant.fit (ap (in_type x) (sym wide) ∙ sym c.fits.ensures ∙ c.if-not-fits.false));
    }
