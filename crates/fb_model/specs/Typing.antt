-- When a source tree is well typed, and the system that it elaborates to.
-- IEC 61499-1 edition 2, 5.2 and 5.3 (basic and composite types) and 6.1 (service interfaces), this project's profile and its limits.
use Rattle.std.specs.Prelude.{ℕ, ◌≡◌, ◌≤◌, ℤ, pos, Bool, true, false, List, [], ◌∷◌, ◌++◌, map, nat_eq, Option, None, Some, codes, if◌then◌else◌}
use Rattle.std.specs.List.{list_any}
use Rattle.std.specs.Option.{option_map}
use Rattle.std.specs.Str.{bytes_eq}
use Rattle.fb_words.specs.declared.elem_type.ElemType.{ElemType}
use Rattle.fb_model.specs.Names.{Name, is_in}
use Rattle.fb_model.specs.Values.{in_type, signed}
use Rattle.fb_model.specs.Productions.{Word}
use Rattle.fb_model.specs.Trees.{Literal, Whole, Typed, ActionTree, StateTree, ParameterTree}
use Rattle.fb_model.specs.System.{Event, Action, State, Input, Body, Basic, Served, Composite, Instances, nothing, instance}
use Rattle.fb_model.specs.Services.{service_event_inputs, service_event_outputs}

-- ---- names

abbrev pub texts : List Word → List Name
texts ws = map (λ w. w.text) ws

-- no name is among those before it
abbrev pub AreNew : List Name → List Name → Type 0
AreNew before [] = Unit {0}
AreNew before (x ∷ xs) = (is_in x before ≡ false) × AreNew (before ++ x ∷ []) xs

abbrev pub AreDistinct : List Name → Type 0
AreDistinct xs = AreNew [] xs

-- a name that may be left out is one of these
abbrev pub IsKnown : List Name → Option Word → Type 0
IsKnown names None = Unit {0}
IsKnown names (Some w) = is_in w.text names ≡ true

-- the names of services, which no declared type may have
abbrev pub service_names : List Name
service_names = codes "INPUT" ∷ codes "OUTPUT" ∷ codes "PUBLISH" ∷ codes "SUBSCRIBE" ∷ codes "E_DELAY" ∷ codes "E_CYCLE" ∷ codes "E_RESTART" ∷ []

-- ---- limits

abbrev pub most_ports : ℕ
most_ports = 64

abbrev pub most_states : ℕ
most_states = 256

abbrev pub most_transitions : ℕ
most_transitions = 1024

abbrev pub most_instances : ℕ
most_instances = 1024

-- ---- basic blocks

abbrev pub state_texts : List StateTree → List Name
state_texts ss = map (λ s. s.name.text) ss

abbrev pub typed_action : ActionTree → Action
typed_action a = record { algorithm = option_map (λ w. w.text) a.algorithm; output = option_map (λ w. w.text) a.output }

abbrev pub typed_state : StateTree → State
typed_state s = record { name = s.name.text; actions = map typed_action s.actions }

-- ---- instances

-- the whole number that a literal is
pub data IsWhole : Literal → ℤ → Type 0 where
  untyped : {negative : Bool} {size : ℕ} → IsWhole (Whole negative size) (signed negative size)
  with_type : {type : ElemType} {negative : Bool} {size : ℕ} → in_type type (signed negative size) ≡ true → IsWhole (Typed type negative size) (signed negative size)

-- the parameter ID, which is given once, alone, as a number from 0 to 65535
pub data IsId : List ParameterTree → ℕ → Type 0 where
  an_id : {p : ParameterTree} {n : ℕ} → p.name.text ≡ codes "ID" → IsWhole p.value.value (pos n) → n ≤ 65535 → IsId (p ∷ []) n

-- ---- connections

abbrev pub names_of : List Event → List Name
names_of es = map (λ e. e.name) es

abbrev pub event_inputs_of : Body → List Name
event_inputs_of (Basic block) = names_of block.event_inputs
event_inputs_of (Served service) = service_event_inputs service
event_inputs_of (Composite face inner events values) = names_of face.event_inputs

abbrev pub event_outputs_of : Body → List Name
event_outputs_of (Basic block) = names_of block.event_outputs
event_outputs_of (Served service) = service_event_outputs service
event_outputs_of (Composite face inner events values) = names_of face.event_outputs

-- the body of the first instance of a name
abbrev pub body_named : Instances → Name → Option Body
body_named nothing x = None
body_named (instance name parameters body rest) x = if bytes_eq x name then Some body else body_named rest x

-- ---- resources, devices and systems

-- the number of an INPUT, and of another body none
abbrev pub body_numbers : Body → List ℕ
body_numbers (Served (Input number types)) = number ∷ []
body_numbers body = []

-- the numbers of the INPUT instances, in text order
abbrev pub input_numbers : Instances → List ℕ
input_numbers nothing = []
input_numbers (instance name parameters body rest) = body_numbers body ++ input_numbers rest

-- no number is among those before it
abbrev pub AreNewNumbers : List ℕ → List ℕ → Type 0
AreNewNumbers before [] = Unit {0}
AreNewNumbers before (n ∷ ns) = (list_any (nat_eq n) before ≡ false) × AreNewNumbers (before ++ n ∷ []) ns
