use Rattle.std.proofs.Common.{◌≡◌, ◌++◌, map, drop}
use Rattle.std.specs.List.{AllByRecursion}
use Rattle.fb_model.specs.BlockTyping.{AreKnown, typed_event, event_texts}
use Rattle.fb_model.specs.Typing.{AreNew}
use Rattle.fb_tree.specs.Files as tree
use Rattle.fb_types_blocks.specs.Answers.{names_in_map}
use Rattle.fb_types_blocks.specs.Views.{events_of}
use Rattle.fb_types_blocks.proofs.event.events.Given as goal

-- all are typed where those that are left are, whose names are new
abbrev pub invariant-loop-source : goal.invariant-loop-source
invariant-loop-source l =
    let rest = map tree.event_of (drop l.source-index l.sources) in
    let all = map tree.event_of l.sources in
    record {
      new : AreNew (names_in_map l.events) (event_texts rest);
      known : AllByRecursion (λ e. AreKnown (names_in_map l.variables) e.carries) rest → AllByRecursion (λ e. AreKnown (names_in_map l.variables) e.carries) all;
      value : events_of l.events ++ map typed_event rest ≡ map typed_event all;
    }
