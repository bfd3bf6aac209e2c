use Rattle.std.proofs.Common.{◌≡◌, ◌^◌, ◌-◌, pos, ◌-ℤ◌, unsigned_abs, Some, get_or, sym, ap, ◌∙◌, arith, rules, to_z, of_z, w64}
use Rattle.std.proofs.lemmas.Int.{to_z-of_z}
use Rattle.st_exec.proofs.Keeping.{element_read}
use Rattle.st_exec.proofs.store.Store.element.Goals as goal

pub returns : goal.returns
returns c = λ x high h some.
    let i = to_z-of_z w64 c.args.index c.ranges.index in
    let l = to_z-of_z w64 c.args.low c.ranges.low in
    let e : c.abs_diff.result ≡ unsigned_abs (c.args.index -ℤ c.args.low) = c.abs_diff.ensures ∙ ap (λ z. unsigned_abs (z -ℤ to_z w64 (of_z w64 c.args.low))) i ∙ ap (λ z. unsigned_abs (c.args.index -ℤ z)) l in
    let q : to_z w64 (of_z w64 c.number_at.result) ≡ c.number_at.result = to_z-of_z w64 c.number_at.result (search rules) in
    let ns = c.self.inside.numbers.items in
    let r = element_read c.args.self.now c.self.inside.layout.value ns c.self.view_is c.self.invariant x c.args.low high c.args.index c.args.first (2 ^ 64 - 1) c.abs_diff.result h (omega (arith, c.self.inside.numbers.ok.0, c.self.inside.numbers.small)) e some in
    r ∙ ap Some (sym (q ∙ c.number_at.ensures ∙ ap (λ l. get_or l c.saturating_add-slot.result (pos 0)) c.deref.ensures.value ∙ ap (λ i. get_or ns i (pos 0)) c.saturating_add-slot.ensures))
