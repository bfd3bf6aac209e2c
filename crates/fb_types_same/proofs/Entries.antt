-- Entries of the tables of blocks: a name, and what it stands for.
use Rattle.std.proofs.Common.{◌≡◌, map, string_bytes, ap, ◌∙◌}
use Rattle.std.specs.declared.string.String.{String}
use Rattle.std.specs.declared.vec.Vec.{Vec}
use Rattle.std.specs.declared.alloc.Global.{Global}
use Rattle.fb_model.specs.Names.{Name}
use Rattle.fb_model.specs.System as book
use Rattle.fb_model.specs.BlockTyping.{Declared}
use Rattle.st_types.specs.declared.whole.Algo.{Algo}
use Rattle.st_types.specs.CommandViews.{commands_of}
use Rattle.fb_types_blocks.specs.declared.typed.Variable.{Variable}
use Rattle.fb_types_blocks.specs.declared.typed.Action.{Action}
use Rattle.fb_types_blocks.specs.Views.{declared_of, event_of, action_of}

abbrev pub VariableEntry : Type 0
VariableEntry = String Global × Variable

abbrev pub variable_entry : VariableEntry → Declared
variable_entry p = declared_of (string_bytes p.0) p.1

pub variables_alike : (x y : VariableEntry) → string_bytes x.0 ≡ string_bytes y.0 → ((n : Name) → declared_of n x.1 ≡ declared_of n y.1) → variable_entry x ≡ variable_entry y
variables_alike x y n h = ap (λ s. declared_of s x.1) n ∙ h (string_bytes y.0)

abbrev pub EventEntry : Type 0
EventEntry = String Global × Vec (String Global) Global

abbrev pub event_entry : EventEntry → book.Event
event_entry p = event_of (string_bytes p.0) p.1.items

pub events_alike : (x y : EventEntry) → string_bytes x.0 ≡ string_bytes y.0 → map string_bytes x.1.items ≡ map string_bytes y.1.items → event_entry x ≡ event_entry y
events_alike x y n h = ap (λ s. event_of s x.1.items) n ∙ ap (λ c. record { name = string_bytes y.0; carries = c }) h

abbrev pub StateEntry : Type 0
StateEntry = String Global × Vec Action Global

abbrev pub state_entry : StateEntry → book.State
state_entry p = record { name = string_bytes p.0; actions = map action_of p.1.items }

pub states_alike : (x y : StateEntry) → string_bytes x.0 ≡ string_bytes y.0 → map action_of x.1.items ≡ map action_of y.1.items → state_entry x ≡ state_entry y
states_alike x y n h = ap (λ s. record { name = s; actions = map action_of x.1.items }) n ∙ ap (λ a. record { name = string_bytes y.0; actions = a }) h

abbrev pub ProcedureEntry : Type 0
ProcedureEntry = String Global × Algo

abbrev pub procedure_entry : ProcedureEntry → book.Procedure
procedure_entry p = record { name = string_bytes p.0; algorithm = commands_of p.1.statements.items }

pub procedures_alike : (x y : ProcedureEntry) → string_bytes x.0 ≡ string_bytes y.0 → commands_of x.1.statements.items ≡ commands_of y.1.statements.items → procedure_entry x ≡ procedure_entry y
procedures_alike x y n h = ap (λ s. record { name = s; algorithm = commands_of x.1.statements.items }) n ∙ ap (λ a. record { name = string_bytes y.0; algorithm = a }) h
