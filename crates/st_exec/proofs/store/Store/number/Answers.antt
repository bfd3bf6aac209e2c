use Rattle.std.proofs.Common.{◌≡◌, pos, get_or, ap, ◌∙◌, rules, to_z, of_z, w64}
use Rattle.std.proofs.lemmas.Int.{to_z-of_z}
use Rattle.st_exec.proofs.Keeping.{number_read}
use Rattle.st_exec.proofs.store.Store.number.Goals as goal

pub returns : goal.returns
returns c = λ x h.
    let q : to_z w64 (of_z w64 c.number_at.result) ≡ c.number_at.result = to_z-of_z w64 c.number_at.result (search rules) in
    q ∙ c.number_at.ensures ∙ ap (λ l. get_or l c.args.slot (pos 0)) c.deref.ensures.value ∙ number_read c.args.self.now c.self.inside.layout.value c.self.inside.numbers.items c.self.view_is c.self.invariant x c.args.slot h
