use Rattle.std.proofs.Common.{◌≡◌, sym, subst, arith, w64}
use Rattle.std.proofs.lemmas.Int.{to_z-of_z}
use Rattle.std.specs.Prelude.{slice_set}
use Rattle.fb_model.specs.Values.{One}
use Rattle.fb_model.specs.Language.{setting}
use Rattle.st_exec.specs.Cells.{values_of}
use Rattle.st_exec.specs.Kept.{cells_at}
use Rattle.st_exec.proofs.Keeping.{room_is, number_put, forms_kept}
use Rattle.st_exec.proofs.store.Store.set_number.Goals as goal

pub index_mut-requires : goal.index_mut-requires
index_mut-requires c =
    let r = room_is c.args.self.now c.self.inside.layout.value c.self.inside.numbers.items c.self.view_is c.self.invariant in
    omega (arith, r, c.requires, c.self.inside.numbers.ok.0)

pub returns-clause-values : goal.returns-clause-values
returns-clause-values c = λ x h.
    let q = to_z-of_z w64 c.args.number c.ranges.number in
    let r = room_is c.args.self.now c.self.inside.layout.value c.self.inside.numbers.items c.self.view_is c.self.invariant in
    let p = number_put c.args.self.now c.self.inside.layout.value c.self.inside.numbers.items c.self.view_is c.self.invariant c.args.slot c.args.number (omega (arith, r, c.requires)) x h in
    subst (λ v. values_of (cells_at c.self.inside.layout.value (slice_set c.self.inside.numbers.items c.args.slot v)) ≡ setting (values_of c.args.self.now) x (One c.args.number)) (sym q) p

pub returns-clause-forms : goal.returns-clause-forms
returns-clause-forms c = forms_kept c.args.self.now c.self.inside.layout.value c.self.inside.numbers.items _ c.self.view_is
