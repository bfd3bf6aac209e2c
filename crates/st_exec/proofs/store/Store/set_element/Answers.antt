use Rattle.std.proofs.Common.{◌≡◌, ◌+◌, ◌-ℤ◌, unsigned_abs, sym, ap, ◌∙◌, arith, to_z, of_z, w64}
use Rattle.std.specs.Prelude.{slice_set}
use Rattle.std.proofs.lemmas.Int.{to_z-of_z}
use Rattle.fb_model.specs.Language.{Done}
use Rattle.st_exec.specs.Cells.{values_of}
use Rattle.st_exec.specs.Kept.{cells_at}
use Rattle.st_exec.proofs.Keeping.{room_is, element_put, forms_kept}
use Rattle.st_exec.proofs.store.Store.set_element.Goals as goal

pub overflow_add-first : goal.overflow_add-first
overflow_add-first c =
    let i = to_z-of_z w64 c.args.index c.ranges.index in
    let l = to_z-of_z w64 c.args.low c.ranges.low in
    let e : c.abs_diff.result ≡ unsigned_abs (c.args.index -ℤ c.args.low) = c.abs_diff.ensures ∙ ap (λ z. unsigned_abs (z -ℤ to_z w64 (of_z w64 c.args.low))) i ∙ ap (λ z. unsigned_abs (c.args.index -ℤ z)) l in
    let r = room_is c.args.self.now c.self.inside.layout.value c.self.inside.numbers.items c.self.view_is c.self.invariant in
    omega (arith, r, e, c.requires, c.self.inside.numbers.ok.0, c.self.inside.numbers.small)

pub index_mut-requires : goal.index_mut-requires
index_mut-requires c =
    let i = to_z-of_z w64 c.args.index c.ranges.index in
    let l = to_z-of_z w64 c.args.low c.ranges.low in
    let e : c.abs_diff.result ≡ unsigned_abs (c.args.index -ℤ c.args.low) = c.abs_diff.ensures ∙ ap (λ z. unsigned_abs (z -ℤ to_z w64 (of_z w64 c.args.low))) i ∙ ap (λ z. unsigned_abs (c.args.index -ℤ z)) l in
    let r = room_is c.args.self.now c.self.inside.layout.value c.self.inside.numbers.items c.self.view_is c.self.invariant in
    omega (arith, r, e, c.requires, c.self.inside.numbers.ok.0)

pub returns-clause-values : goal.returns-clause-values
returns-clause-values c = λ x high h count least most.
    let i = to_z-of_z w64 c.args.index c.ranges.index in
    let l = to_z-of_z w64 c.args.low c.ranges.low in
    let e : c.abs_diff.result ≡ unsigned_abs (c.args.index -ℤ c.args.low) = c.abs_diff.ensures ∙ ap (λ z. unsigned_abs (z -ℤ to_z w64 (of_z w64 c.args.low))) i ∙ ap (λ z. unsigned_abs (c.args.index -ℤ z)) l in
    let q = to_z-of_z w64 c.args.number c.ranges.number in
    let p = element_put c.args.self.now c.self.inside.layout.value c.self.inside.numbers.items c.self.view_is c.self.invariant c.args.low c.args.index c.args.first c.abs_diff.result c.args.number e x high h count least most in
    p ∙ ap (λ v. Done (values_of (cells_at c.self.inside.layout.value (slice_set c.self.inside.numbers.items (c.args.first + c.abs_diff.result) v))) 0) (sym q)

pub returns-clause-forms : goal.returns-clause-forms
returns-clause-forms c = forms_kept c.args.self.now c.self.inside.layout.value c.self.inside.numbers.items _ c.self.view_is
