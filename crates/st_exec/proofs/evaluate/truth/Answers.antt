use Rattle.std.proofs.Common.{◌≡◌, Some, not, sym, ap, ◌∙◌, rules, to_z, of_z, w64}
use Rattle.std.proofs.lemmas.Int.{to_z-of_z}
use Rattle.fb_model.specs.Language.{holds, given, is_zero}
use Rattle.st_exec.proofs.evaluate.truth.Goals as goal

pub returns : goal.returns
unfolding holds
returns c =
    let q : to_z w64 (of_z w64 c.eval.result) ≡ c.eval.result = to_z-of_z w64 c.eval.result (search rules) in
    ap (λ o. given o (λ v. Some (not (is_zero v)))) c.eval.ensures ∙ ap (λ b. Some (not b)) (ap is_zero (sym q) ∙ sym c.is_zero.ensures)
