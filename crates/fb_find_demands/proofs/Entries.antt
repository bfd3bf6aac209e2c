-- Entries of tables in the book.
use Rattle.std.proofs.Common.{map, string_bytes}
use Rattle.std.specs.declared.string.String.{String}
use Rattle.std.specs.declared.vec.Vec.{Vec}
use Rattle.std.specs.declared.alloc.Global.{Global}
use Rattle.fb_model.specs.System as book
use Rattle.fb_types_blocks.specs.declared.typed.Action.{Action}
use Rattle.fb_types_blocks.specs.Views.{action_of, event_of}

abbrev pub state_of : String Global × Vec Action Global → book.State
state_of p = record { name = string_bytes p.0; actions = map action_of p.1.items }

abbrev pub event_in : String Global × Vec (String Global) Global → book.Event
event_in p = event_of (string_bytes p.0) p.1.items
