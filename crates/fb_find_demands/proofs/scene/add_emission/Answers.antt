use Rattle.std.proofs.Common.{◌≡◌, [], ◌∷◌, ◌++◌, map, Some, sym, ap, ◌∙◌, subst, OnOk, string_bytes}
use Rattle.fb_model.specs.Demands.{emitted}
use Rattle.fb_types_blocks.specs.Views.{action_of, name_of}
use Rattle.fb_find_demands.specs.Grounds.{ground_in}
use Rattle.fb_find_demands.specs.Rights.{numbers_of}
use Rattle.fb_find_demands.proofs.Charts.{emission_is}
use Rattle.fb_find_demands.proofs.scene.add_emission.Goals as goal

pub returns-in-Some : goal.returns-in-Some
returns-in-Some c =
    let g = ground_in c.args.scene.now in
    let f = numbers_of c.args.scene.now.numbering.now in
    let a = action_of c.args.action.now in
    let o = string_bytes c.in-Some.output in
    let is : map f (emitted g (record { algorithm = a.algorithm; output = Some o } ∷ [])) ≡ map f (emitted g (a ∷ [])) =
    ap (λ t. map f (emitted g (record { algorithm = a.algorithm; output = name_of t } ∷ []))) (sym c.in-Some.is) in
    subst (λ ns. OnOk c.add_output.result (c.add_output.new.terms.items ≡ c.args.terms.now.items ++ ns)) (emission_is f g a.algorithm o ∙ is) (rw c.as_str.ensures.value at c.add_output.ensures)
