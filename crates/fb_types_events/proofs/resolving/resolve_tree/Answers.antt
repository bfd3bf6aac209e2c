use Rattle.std.proofs.Common.{map}
use Rattle.std.proofs.lemmas.Result.{IfErr-weaker, IfOk-weaker}
use Rattle.fb_tree.specs.Files as trees_of
use Rattle.fb_types_events.proofs.EventTrees.{event_trees}
use Rattle.fb_types_events.proofs.Declared.{trees_declare}
use Rattle.fb_model.specs.SourceFaults.{no_memory_for_source}
use Rattle.fb_types.proofs.Beforehand.{elaborated_with}
use Rattle.fb_types_events.proofs.resolving.resolve_tree.Goals as goal

pub returns-in-Ok-clause-typed : goal.returns-in-Ok-clause-typed
returns-in-Ok-clause-typed c =
    IfOk-weaker c.resolve_with-system.result _ _ (λ t h. record { library = map trees_of.block_of c.in-Ok.library.blocks.items; beforehand = c.in-Ok.ensures.found; typed = h }) (rw c.tree.ensures at (rw c.deref.ensures.value at c.resolve_with-system.ensures.typed))

pub returns-in-Ok-clause-refused : goal.returns-in-Ok-clause-refused
returns-in-Ok-clause-refused c =
    IfErr-weaker c.resolve_with-system.result _ _ (λ f h. record { library = map trees_of.block_of c.in-Ok.library.blocks.items; beforehand = c.in-Ok.ensures.found; fault = h }) (rw c.tree.ensures at (rw c.deref.ensures.value at c.resolve_with-system.ensures.refused))

pub returns-in-Ok-clause-only : goal.returns-in-Ok-clause-only
returns-in-Ok-clause-only c =
    λ s h. (rw c.tree.ensures at (rw c.deref.ensures.value at c.resolve_with-system.ensures.only)) s (elaborated_with (map trees_of.block_of c.in-Ok.library.blocks.items) (trees_of.source_of c.args.tree.now) s c.in-Ok.ensures.found h)

pub returns-in-Err-clause-refused : goal.returns-in-Err-clause-refused
returns-in-Err-clause-refused c = record { library = event_trees; beforehand = trees_declare; fault = no_memory_for_source c.in-Err.ensures.refused }

pub returns-in-Err-clause-only : goal.returns-in-Err-clause-only
returns-in-Err-clause-only c = λ s h. rw c.in-Err.ensures.refused tt
