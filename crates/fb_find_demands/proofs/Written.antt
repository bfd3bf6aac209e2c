-- What is known of a system that stands in a text, and of its tables.
use Rattle.std.proofs.Common.{List}
use Rattle.std.specs.List.{AllByRecursion}
use Rattle.fb_model.specs.StructuredTextGrammar.{most_nested, most_nested_statements}
use Rattle.fb_model.specs.System.{System}
use Rattle.fb_model.specs.NetworkTyping.{ElaboratesWith}
use Rattle.fb_types_events.specs.declared.library.TheConstants.{EVENT_BLOCKS}
use Rattle.fb_types_events.proofs.EventTrees.{event_trees, event_source}
use Rattle.fb_types_events.proofs.Declared.{trees_declare}
use Rattle.fb_types_events.proofs.Spelled.{event_source_spelled}
use Rattle.fb_model_laws.specs.Words.{IsWordyDevice}
use Rattle.fb_model_laws.proofs.Systems.{wordy}
use Rattle.fb_model.specs.Written.{IsWritten}
use Rattle.fb_types.proofs.Beforehand.{elaborated_with}
use Rattle.fb_flat.specs.declared.flat.FlatDevice.{FlatDevice}
use Rattle.fb_flat.specs.Tables.{AreDevices}
use Rattle.fb_flat.proofs.Read.{devices_are}
use Rattle.fb_find_demands.specs.Shown.{AreTables}

module _ (s : System) (w : IsWritten s) where
  -- it is well typed with the event blocks as their text has them
  pub typed : ElaboratesWith event_trees w.1.source s
  typed = elaborated_with event_trees w.1.source s trees_declare w.1.typed

  -- its names are words
  pub words : AllByRecursion IsWordyDevice s.devices
  words =
      let l = event_source_spelled in
      let x = w.1.source_is in
      wordy EVENT_BLOCKS.now w.0 l.0 x.0 most_nested most_nested_statements most_nested most_nested_statements event_source w.1.source s l.1 l.2 x.1 x.2 typed

-- its tables are those of its devices
pub tables_are : (devices : List FlatDevice) (s : System) → AreTables devices s → AreDevices devices s.devices
tables_are devices s a = devices_are devices s.devices a.tables (words s a.written)
