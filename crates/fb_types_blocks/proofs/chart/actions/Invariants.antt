use Rattle.std.proofs.Common.{◌≡◌, ◌++◌, map, drop}
use Rattle.std.specs.List.{AllByRecursion}
use Rattle.fb_model.specs.BlockTyping.{IsActionTyped}
use Rattle.fb_model.specs.Typing.{typed_action}
use Rattle.fb_tree.specs.Files as tree
use Rattle.fb_types_blocks.specs.Answers.{names_in_map}
use Rattle.fb_types_blocks.specs.Views.{action_of}
use Rattle.fb_types_blocks.proofs.chart.actions.Given as goal

-- all are typed where those that are left are
abbrev pub invariant-loop-source : goal.invariant-loop-source
invariant-loop-source l =
    let rest = map tree.action_of (drop l.source-index l.sources) in
    record {
      typed : AllByRecursion (IsActionTyped (names_in_map l.algorithms) (names_in_map l.outputs)) rest → AllByRecursion (IsActionTyped (names_in_map l.algorithms) (names_in_map l.outputs)) (map tree.action_of l.sources);
      value : map action_of l.actions.items ++ map typed_action rest ≡ map typed_action (map tree.action_of l.sources);
    }
