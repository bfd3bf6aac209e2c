use Rattle.std.proofs.Common.{map, drop, ◌+◌, sym, ap, subst, ◌∙◌, arith}
use Rattle.std.proofs.lemmas.List.{map_push}
use Rattle.fb_tree.specs.Files as tree
use Rattle.st_types.specs.Views.{entries}
use Rattle.fb_types_blocks.specs.Answers.{names_in_map}
use Rattle.fb_types_blocks.specs.Views.{transition_of}
use Rattle.fb_types_blocks.proofs.Charts.{TransitionsLeft, transitions_step, transitions_none}
use Rattle.fb_types_blocks.proofs.Refused.{drop_step, drop_all}
use Rattle.fb_types_blocks.proofs.chart.transitions.Goals as goal

pub loop-source-preserved : goal.loop-source-preserved
loop-source-preserved c =
    let env = entries c.args.scope.now in
    let states = names_in_map c.args.states.now in
    let inputs = names_in_map c.args.inputs.now in
    let all = map tree.transition_of c.args.sources.now in
    let l = c.loop-source in
    let t = c.in_ok-transition.field-0 in
    let rest = map tree.transition_of (drop (l.source-index + 1) c.args.sources.now) in
    let step = drop_step c.args.sources.now l.source-index c.source-item.result c.loop-source-test.true c.source-item.is in
    let left = subst (λ ts. TransitionsLeft env states inputs all (map transition_of l.transitions.items) (map tree.transition_of ts)) step l.invariant in
    subst (λ ts. TransitionsLeft env states inputs all ts rest) (sym (ap (map transition_of) c.in_ok-push.ensures.items ∙ map_push transition_of l.transitions.items t))
    (transitions_step env states inputs all rest (map transition_of l.transitions.items) (tree.transition_of c.source-item.result) (transition_of t) left c.in_ok-transition.ensures.found)

pub returns-clause-found : goal.returns-clause-found
returns-clause-found c =
    let env = entries c.args.scope.now in
    let states = names_in_map c.args.states.now in
    let inputs = names_in_map c.args.inputs.now in
    let all = map tree.transition_of c.args.sources.now in
    let made = map transition_of c.loop-source.transitions.items in
    transitions_none env states inputs all made (subst (λ ts. TransitionsLeft env states inputs all made (map tree.transition_of ts)) (drop_all c.args.sources.now c.loop-source.source-index (omega arith)) c.loop-source.invariant)
