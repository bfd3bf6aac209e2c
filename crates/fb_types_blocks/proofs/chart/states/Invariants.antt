use Rattle.std.proofs.Common.{◌≡◌, ◌++◌, map, drop}
use Rattle.std.specs.List.{AllByRecursion}
use Rattle.fb_model.specs.BlockTyping.{IsActionTyped}
use Rattle.fb_model.specs.Typing.{AreNew, typed_state, state_texts}
use Rattle.fb_tree.specs.Files as tree
use Rattle.fb_types_blocks.specs.Answers.{names_in_map}
use Rattle.fb_types_blocks.specs.Views.{states_of}
use Rattle.fb_types_blocks.proofs.chart.states.Given as goal

-- all are typed where those that are left are, whose names are new
abbrev pub invariant-loop-source : goal.invariant-loop-source
invariant-loop-source l =
    let rest = map tree.state_of (drop l.source-index l.sources) in
    let all = map tree.state_of l.sources in
    record {
      new : AreNew (names_in_map l.states) (state_texts rest);
      typed : AllByRecursion (λ s. AllByRecursion (IsActionTyped (names_in_map l.algorithms) (names_in_map l.outputs)) s.actions) rest → AllByRecursion (λ s. AllByRecursion (IsActionTyped (names_in_map l.algorithms) (names_in_map l.outputs)) s.actions) all;
      value : states_of l.states ++ map typed_state rest ≡ map typed_state all;
    }
