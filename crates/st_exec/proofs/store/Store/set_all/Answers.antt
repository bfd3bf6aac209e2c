use Rattle.std.proofs.Common.{◌≡◌, false, refl, sym, ap, ◌∙◌, arith, w64}
use Rattle.std.proofs.lemmas.Int.{to_z-of_z}
use Rattle.fb_model.specs.Names.{is_in}
use Rattle.fb_model.specs.Language.{setting}
use Rattle.st_exec.specs.Forms.{slot_in, slot_count, bounds_in, names_in, IsDeclaredIn}
use Rattle.st_exec.specs.Cells.{values_of, forms_of, shape_of, filled}
use Rattle.st_exec.proofs.Slots.{place_within}
use Rattle.st_exec.proofs.Keeping.{forms_are, room_is}
use Rattle.st_exec.proofs.store.Store.set_all.Goals as goal

pub unreachable-requires : goal.unreachable-requires
unreachable-requires c =
    let none : is_in c.args.name.now (names_in c.deref.result.now) ≡ false = c.in_default.ensures in
    let fs = c.deref.ensures ∙ sym (forms_are c.args.self.now c.self.inside.layout.value c.self.inside.numbers.items c.self.view_is c.self.invariant) in
    let other = sym (ap (λ l. is_in c.args.name.now (names_in l)) fs) ∙ none in
    cc

pub count-requires : goal.count-requires
count-requires c =
    let d : (c.in-Some.location.first ≡ slot_in c.deref.result.now c.args.name.now) × (c.in-Some.location.bounds ≡ bounds_in c.deref.result.now c.args.name.now) × IsDeclaredIn c.deref.result.now c.args.name.now = c.in-Some.ensures in
    let fs = c.deref.ensures ∙ sym (forms_are c.args.self.now c.self.inside.layout.value c.self.inside.numbers.items c.self.view_is c.self.invariant) in
    let r = room_is c.args.self.now c.self.inside.layout.value c.self.inside.numbers.items c.self.view_is c.self.invariant in
    let w = place_within c.deref.result.now (forms_of c.args.self.now) c.args.name.now c.in-Some.location.first (slot_count c.in-Some.location.bounds) c.in-Some.location.bounds fs d.0 d.1 d.2 refl in
    omega (arith, w, r, c.self.inside.numbers.ok.0, c.self.inside.numbers.small)

pub fill-requires : goal.fill-requires
fill-requires c =
    let d : (c.in-Some.location.first ≡ slot_in c.deref.result.now c.args.name.now) × (c.in-Some.location.bounds ≡ bounds_in c.deref.result.now c.args.name.now) × IsDeclaredIn c.deref.result.now c.args.name.now = c.in-Some.ensures in
    let fs = c.deref.ensures ∙ sym (forms_are c.args.self.now c.self.inside.layout.value c.self.inside.numbers.items c.self.view_is c.self.invariant) in
    place_within c.deref.result.now (forms_of c.args.self.now) c.args.name.now c.in-Some.location.first c.count.result c.in-Some.location.bounds fs d.0 d.1 d.2 c.count.ensures

pub returns-clause-values : goal.returns-clause-values
returns-clause-values c =
    let d : (c.in-Some.location.first ≡ slot_in c.deref.result.now c.args.name.now) × (c.in-Some.location.bounds ≡ bounds_in c.deref.result.now c.args.name.now) × IsDeclaredIn c.deref.result.now c.args.name.now = c.in-Some.ensures in
    let fs = c.deref.ensures ∙ sym (forms_are c.args.self.now c.self.inside.layout.value c.self.inside.numbers.items c.self.view_is c.self.invariant) in
    let x = c.args.name.now in
    let q = to_z-of_z w64 c.args.number c.ranges.number in
    c.fill.ensures.values x (ap (λ l. slot_in l x) (sym fs) ∙ sym d.0) (ap (λ l. slot_count (bounds_in l x)) (sym fs) ∙ ap slot_count (sym d.1) ∙ sym c.count.ensures)
    ∙ ap (λ v. setting (values_of c.args.self.now) x (filled (shape_of c.args.self.now x) v)) q
