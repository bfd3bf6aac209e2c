-- What typed block types are in the book, without where they lie in memory.
use Rattle.std.specs.Prelude.{List, map, string_bytes, Option}
use Rattle.std.specs.Option.{option_map}
use Rattle.std.specs.declared.string.String.{String}
use Rattle.std.specs.declared.vec.Vec.{Vec}
use Rattle.std.specs.declared.alloc.Global.{Global}
use Rattle.indexmap.specs.IndexMap.{IndexMap}
use Rattle.indexmap.specs.IndexSet.{IndexSet}
use Rattle.st_types.specs.declared.whole.Algo.{Algo}
use Rattle.st_types.specs.Views.{term_of}
use Rattle.st_types.specs.CommandViews.{commands_of}
use Rattle.fb_types_blocks.specs.declared.typed.Variable.{Variable}
use Rattle.fb_types_blocks.specs.declared.typed.Face.{Face}
use Rattle.fb_types_blocks.specs.declared.typed.Action.{Action}
use Rattle.fb_types_blocks.specs.declared.typed.Transition.{Transition}
use Rattle.fb_types_blocks.specs.declared.typed.Block.{Block}
use Rattle.fb_model.specs.Names.{Name}
use Rattle.fb_model.specs.System as book
use Rattle.fb_model.specs.BlockTyping.{Declared, variable_of}

-- the names of a set, in order
abbrev pub names_of : {S : Type 0} → IndexSet (String Global) S → List Name
names_of s = map string_bytes s.keys

abbrev pub name_of : Option (String Global) → Option Name
name_of o = option_map string_bytes o

-- ---- variables

abbrev pub declared_of : Name → Variable → Declared
declared_of name v = record { name = name; type = v.of_type; bounds = v.bounds; start = v.start }

abbrev pub declared_in : {S : Type 0} → IndexMap (String Global) Variable S → List Declared
declared_in m = map (λ p. declared_of (string_bytes p.0) p.1) m.entries

abbrev pub variables_of : {S : Type 0} → IndexMap (String Global) Variable S → List book.Variable
variables_of m = map variable_of (declared_in m)

-- ---- events

abbrev pub event_of : Name → List (String Global) → book.Event
event_of name carries = record { name = name; carries = map string_bytes carries }

abbrev pub events_of : {S : Type 0} → IndexMap (String Global) (Vec (String Global) Global) S → List book.Event
events_of m = map (λ p. event_of (string_bytes p.0) p.1.items) m.entries

abbrev pub face_of : Face → book.Face
face_of f = record { event_inputs = events_of f.event_inputs; event_outputs = events_of f.event_outputs; inputs = variables_of f.inputs; outputs = variables_of f.outputs }

-- ---- charts

abbrev pub action_of : Action → book.Action
action_of a = record { algorithm = name_of a.algorithm; output = name_of a.output }

abbrev pub states_of : {S : Type 0} → IndexMap (String Global) (Vec Action Global) S → List book.State
states_of m = map (λ p. record { name = string_bytes p.0; actions = map action_of p.1.items }) m.entries

abbrev pub transition_of : Transition → book.Transition
transition_of t = record { source = string_bytes t.source; target = string_bytes t.target; event = name_of t.event; guard = option_map term_of t.guard }

abbrev pub procedures_of : {S : Type 0} → IndexMap (String Global) Algo S → List book.Procedure
procedures_of m = map (λ p. record { name = string_bytes p.0; algorithm = commands_of p.1.statements.items }) m.entries

abbrev pub block_of : Block → book.Block
block_of k =
    record {
      event_inputs = (face_of k.face).event_inputs;
      event_outputs = (face_of k.face).event_outputs;
      inputs = (face_of k.face).inputs;
      outputs = (face_of k.face).outputs;
      internals = variables_of k.internals;
      states = states_of k.states;
      transitions = map transition_of k.transitions.items;
      procedures = procedures_of k.procedures;
    }
