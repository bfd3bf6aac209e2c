use Rattle.std.proofs.Common.{◌≡◌, length, take, drop, sym, ap, ◌∙◌, arith}
use Rattle.std.proofs.lemmas.List.{with_items_is}
use Rattle.st_exec.specs.Cells.{values_of}
use Rattle.st_exec.proofs.Writing.{spliced}
use Rattle.st_exec.specs.Kept.{cells_at}
use Rattle.st_exec.proofs.Keeping.{room_is, value_copied, forms_kept}
use Rattle.st_exec.proofs.store.Store.copy.Goals as goal

pub write-requires-clause-room : goal.write-requires-clause-room
write-requires-clause-room c =
    let r = room_is c.args.self.now c.self.inside.layout.value c.self.inside.numbers.items c.self.view_is c.self.invariant in
    omega (arith, r, c.requires.room, ap length c.deref_mut.ensures.value)

pub write-requires-clause-enough : goal.write-requires-clause-enough
write-requires-clause-enough c =
    let r = room_is c.args.from.now c.from.inside.layout.value c.from.inside.numbers.items c.from.view_is c.from.invariant in
    omega (arith, r, c.requires.enough, ap length c.deref.ensures.value)

pub returns-clause-values : goal.returns-clause-values
returns-clause-values c = λ x y at from all alike.
    let r = room_is c.args.self.now c.self.inside.layout.value c.self.inside.numbers.items c.self.view_is c.self.invariant in
    let s = room_is c.args.from.now c.from.inside.layout.value c.from.inside.numbers.items c.from.view_is c.from.invariant in
    let ns = c.self.inside.numbers.items in
    let first = c.args.first in
    let n = c.args.count in
    let v = value_copied c.args.self.now c.self.inside.layout.value ns c.self.view_is c.self.invariant first n (omega (arith, r, c.requires.room))
    c.args.from.now c.from.inside.layout.value c.from.inside.numbers.items c.from.view_is c.from.invariant c.args.source (omega (arith, s, c.requires.enough)) x y at from all alike in
    let written : c.write.new.numbers ≡ spliced ns first (take n (drop c.args.source c.from.inside.numbers.items)) n =
    c.write.ensures ∙ ap (λ l. spliced l first (take n (drop c.args.source c.deref.result.now)) n) c.deref_mut.ensures.value
    ∙ ap (λ l. spliced ns first (take n (drop c.args.source l)) n) c.deref.ensures.value in
    let long : length c.write.new.numbers ≡ c.self.inside.numbers.len = c.write.auto.numbers ∙ ap length c.deref_mut.ensures.value ∙ sym c.self.inside.numbers.ok.0 in
    ap (λ l. values_of (cells_at c.self.inside.layout.value l)) (with_items_is c.self.inside.numbers c.write.new.numbers long ∙ written) ∙ v

pub returns-clause-forms : goal.returns-clause-forms
returns-clause-forms c = forms_kept c.args.self.now c.self.inside.layout.value c.self.inside.numbers.items _ c.self.view_is
