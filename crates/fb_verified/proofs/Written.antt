-- What is known of systems that stand in texts.
use Rattle.std.proofs.Common.{◌≡◌, List, map}
use Rattle.std.specs.List.{AllByRecursion}
use Rattle.fb_model.specs.Certificates as book
use Rattle.fb_model.specs.Certificates.{DeviceHolds, Fits}
use Rattle.fb_model.specs.Declarations.{SourceTree}
use Rattle.fb_model.specs.StructuredTextGrammar.{most_nested, most_nested_statements}
use Rattle.fb_model.specs.System.{System}
use Rattle.fb_model.specs.EventBlocks.{Elaborates}
use Rattle.fb_model.specs.NetworkTyping.{ElaboratesWith}
use Rattle.fb_model_laws.specs.Words.{IsWordyDevice}
use Rattle.fb_model_laws.proofs.Systems.{wordy}
use Rattle.fb_model_laws.proofs.Holding.{fitting_devices_hold}
use Rattle.fb_model.specs.Written.{IsWritten}
use Rattle.fb_types.proofs.Beforehand.{elaborated_with}
use Rattle.fb_types_events.specs.declared.library.TheConstants.{EVENT_BLOCKS}
use Rattle.fb_types_events.proofs.EventTrees.{event_trees, event_source}
use Rattle.fb_types_events.proofs.Declared.{trees_declare}
use Rattle.fb_types_events.proofs.Spelled.{event_source_spelled}
use Rattle.fb_flat.specs.declared.flat.FlatDevice.{FlatDevice}
use Rattle.fb_flat.specs.Leaves.{flat_device, written_device}
use Rattle.fb_flat.specs.Tables.{AreDevices}
use Rattle.fb_flat.proofs.Read.{devices_are}

-- a source is well typed with the event blocks as their text has them
pub with_event_trees : (source : SourceTree) (s : System) → Elaborates source s → ElaboratesWith event_trees source s
with_event_trees source s h = elaborated_with event_trees source s trees_declare h

-- the names of what stands in texts are words
pub words : (s : System) → IsWritten s → AllByRecursion IsWordyDevice s.devices
words s (text, is) =
    let l = event_source_spelled in
    let x = is.source_is in
    wordy EVENT_BLOCKS.now text l.0 x.0 most_nested most_nested_statements most_nested most_nested_statements event_source is.source s l.1 l.2 x.1 x.2 (with_event_trees is.source s is.typed)

-- the tables of a system that stands in texts
pub tables_are : (s : System) (fs : List FlatDevice) → IsWritten s → map flat_device fs ≡ map written_device s.devices → AreDevices fs s.devices
tables_are s fs w e = devices_are fs s.devices e (words s w)

-- where a certificate fits a system that stands in texts, each device holds
pub devices_hold : (system : System) (cert : book.Certificate) → IsWritten system → Fits system cert → AllByRecursion (DeviceHolds cert) system.devices
devices_hold system cert (text, is) fits =
    let l = event_source_spelled in
    let x = is.source_is in
    fitting_devices_hold l.0 x.0 most_nested most_nested_statements most_nested most_nested_statements event_source is.source system l.2 x.2 (with_event_trees is.source system is.typed) cert fits
