use Rattle.std.proofs.Common.{◌≡◌, length, replicate, sym, ap, ◌∙◌, arith, to_z, of_z, w64}
use Rattle.std.proofs.lemmas.Int.{to_z-of_z}
use Rattle.std.proofs.lemmas.List.{with_items_is}
use Rattle.st_exec.specs.Cells.{values_of}
use Rattle.st_exec.proofs.Writing.{spliced}
use Rattle.st_exec.specs.Kept.{cells_at}
use Rattle.st_exec.proofs.Keeping.{room_is, value_filled, forms_kept}
use Rattle.st_exec.proofs.store.Store.fill.Goals as goal

pub spread-requires : goal.spread-requires
spread-requires c =
    let r = room_is c.args.self.now c.self.inside.layout.value c.self.inside.numbers.items c.self.view_is c.self.invariant in
    omega (arith, r, c.requires, ap length c.deref_mut.ensures.value)

pub returns-clause-values : goal.returns-clause-values
returns-clause-values c = λ x h all.
    let q = to_z-of_z w64 c.args.number c.ranges.number in
    let r = room_is c.args.self.now c.self.inside.layout.value c.self.inside.numbers.items c.self.view_is c.self.invariant in
    let ns = c.self.inside.numbers.items in
    let first = c.args.first in
    let n = c.args.count in
    let v = value_filled c.args.self.now c.self.inside.layout.value ns c.self.view_is c.self.invariant first n (omega (arith, r, c.requires)) x h all c.args.number in
    let written : c.spread.new.numbers ≡ spliced ns first (replicate n c.args.number) n =
    c.spread.ensures ∙ ap (λ l. spliced l first (replicate n (to_z w64 (of_z w64 c.args.number))) n) c.deref_mut.ensures.value
    ∙ ap (λ z. spliced ns first (replicate n z) n) q in
    let long : length c.spread.new.numbers ≡ c.self.inside.numbers.len = c.spread.auto.numbers ∙ ap length c.deref_mut.ensures.value ∙ sym c.self.inside.numbers.ok.0 in
    ap (λ l. values_of (cells_at c.self.inside.layout.value l)) (with_items_is c.self.inside.numbers c.spread.new.numbers long ∙ written) ∙ v

pub returns-clause-forms : goal.returns-clause-forms
returns-clause-forms c = forms_kept c.args.self.now c.self.inside.layout.value c.self.inside.numbers.items _ c.self.view_is
