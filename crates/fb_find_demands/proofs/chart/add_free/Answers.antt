use Rattle.std.proofs.Common.{◌≡◌, [], ◌∷◌, ◌++◌, ap, ◌∙◌, None}
use Rattle.fb_model.specs.Demands.{free_demand}
use Rattle.fb_find_laws.specs.Nodes.{by_number}
use Rattle.fb_types_blocks.specs.Views.{block_of, transition_of, name_of}
use Rattle.fb_find_demands.specs.Grounds.{ground_in, actions_in}
use Rattle.fb_find_demands.specs.Rights.{numbered, numbers_of, right_of, rights_of}
use Rattle.fb_find_demands.proofs.Charts.{pushed, free_is, actions_are}
use Rattle.fb_find_demands.proofs.chart.add_free.Goals as goal

pub returns-in_ok-push-in-None-clause-added : goal.returns-in_ok-push-in-None-clause-added
returns-in_ok-push-in-None-clause-added c =
    let n = c.args.scene.now.numbering.now in
    let g = ground_in c.args.scene.now in
    let t = transition_of c.args.transition.now in
    let b = block_of c.args.block.now in
    let es = c.args.block.now.states.entries in
    let r = c.in_ok-free_right-in-None.field-0 in
    let one : right_of r ≡ by_number (numbers_of n) (free_demand g (actions_in es t.source) t.source t.target) = rw (c.in_ok-reckon-in-None.ensures.name, c.as_str-source.ensures.value, c.as_str.ensures.value) at (c.in_ok-free_right-in-None.ensures es c.in_ok-reckon-in-None.ensures.spent) in
    let none : t.event ≡ None = ap name_of c.in-None.is in
    pushed n c.args.rights.now.items c.push.new.self.items r (free_demand g (actions_in es t.source) t.source t.target) c.in_ok-push-in-None.ensures.items one
    ∙ ap (λ xs. rights_of c.args.rights.now.items ++ numbered n (free_demand g xs t.source t.target ∷ [])) (actions_are es t.source)
    ∙ ap (λ ds. rights_of c.args.rights.now.items ++ numbered n ds) (free_is g b t none)
