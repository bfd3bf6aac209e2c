-- What a refusal says of a certificate and a system: which row is unknown or missing, what is not clear, and what does not pay.
-- This project's profile.
use Rattle.std.specs.Prelude.{◌≡◌, ℕ, ◌==◌, List, Bool, true, false, string_bytes, Option, None, Some, ◌⊎◌, [], ◌∷◌, ◌++◌, ◌≤◌, ◌<◌}
use Rattle.std.specs.List.{list_any, Any, AllByRecursion}
use Rattle.fb_model.specs.Names.{Path, Place, path_eq, place_eq, Name, is_in}
use Rattle.fb_model.specs.System.{System, Variable, Transition, Procedure, Block, Device, start_of, State}
use Rattle.fb_model.specs.Certificates.{Certificate, all_leaves, PlaceRows, required, given, with_repeats, channels_of, channel_rows, depth_rows, depth_paths, ArrivalsFit, begin_places, name_at, Column, StateFits, FreeFits, InputFits, EventFits, event_names, steps_of, places_of, far_of, channel_load}
use Rattle.fb_model.specs.CertificateText.{place_of, names_in}
use Rattle.fb_faults.specs.declared.unclear.Unclear.{Unclear}
use Rattle.fb_faults.specs.declared.unclear.Unclear.TheVariants as u
use Rattle.fb_words.specs.declared.elem_type.ElemType.{ElemType}
use Rattle.fb_model.specs.Values.{Value}
use Rattle.fb_model.specs.Spans.{Span, within, whole}
use Rattle.fb_model.specs.Ranges.{HoldsIn, Range, rows, row_at, SourceFits, LeafClears}
use Rattle.fb_model.specs.Language.{Guard}
use Rattle.fb_model.specs.Clear.{Spans, guard_range, Leaves, Traps, examined}
use Rattle.fb_model.specs.Wires.{Source, Kind, Charted, Serviced, Leaf, leaves}
use Rattle.fb_model.specs.Store.{first_input}
use Rattle.fb_model.specs.Wires as wires
use Rattle.fb_model.specs.Certificates as certs
use Rattle.fb_faults.specs.declared.shallow.Shallow.{Shallow}
use Rattle.fb_faults.specs.declared.shallow.Shallow.TheVariants as shallow
use Rattle.fb_model.specs.Services.{service_events}
use Rattle.fb_faults.specs.declared.shortfall.Shortfall.{Shortfall}
use Rattle.fb_faults.specs.declared.shortfall.Shortfall.TheVariants as short
use Rattle.fb_faults.specs.declared.typing.TypeFault.{TypeFault}
use Rattle.fb_faults.specs.declared.typing.TypeFault.TheVariants as types
use Rattle.fb_faults.specs.declared.refusal.Refusal.{Refusal}
use Rattle.fb_faults.specs.declared.refusal.Refusal.TheVariants as refusals

-- ---- rows

-- a path as it is written is one of these places
abbrev pub is_at : List ℕ → List Place → Bool
is_at path places = list_any (place_eq (place_of path)) places

-- a path as it is written is one of these paths
abbrev pub is_among : List ℕ → List Path → Bool
is_among path paths = list_any (path_eq (names_in path)) paths

-- the places of which the system must have rows of a kind, with the row REPEATS of the certificate
abbrev pub due : System → Certificate → PlaceRows → List Place
due s cert kind = required kind cert.repeats (all_leaves s.devices)

-- the channels of which it must have rows
abbrev pub channels_due : System → Certificate → List ℕ
channels_due s cert = with_repeats cert.repeats (channels_of (all_leaves s.devices))

-- the certificate has a row of this path, and the system must have none
pub data IsUnknown (s : System) (cert : Certificate) (path : List ℕ) : Type 0 where
  unknown_place : (kind : PlaceRows) → is_at path (given kind cert) ≡ true → is_at path (due s cert kind) ≡ false → IsUnknown s cert path
  unknown_depth : is_among path (depth_rows cert.depths) ≡ true → is_among path (depth_paths s.devices) ≡ false → IsUnknown s cert path

-- the system must have a row of this path, and the certificate has none
pub data IsMissing (s : System) (cert : Certificate) (path : List ℕ) : Type 0 where
  missing_place : (kind : PlaceRows) → is_at path (given kind cert) ≡ false → is_at path (due s cert kind) ≡ true → IsMissing s cert path
  missing_depth : is_among path (depth_rows cert.depths) ≡ false → is_among path (depth_paths s.devices) ≡ true → IsMissing s cert path

-- the certificate has a row of this channel, and the system must have none
abbrev pub IsUnknownChannel : System → Certificate → ℕ → Type 0
IsUnknownChannel s cert c = (list_any (λ n. c == n) (channel_rows cert.channels) ≡ true) × (list_any (λ n. c == n) (channels_due s cert) ≡ false)

-- the system must have a row of this channel, and the certificate has none
abbrev pub IsMissingChannel : System → Certificate → ℕ → Type 0
IsMissingChannel s cert c = (list_any (λ n. c == n) (channel_rows cert.channels) ≡ false) × (list_any (λ n. c == n) (channels_due s cert) ≡ true)

-- ---- ranges

-- why rows are not clear
pub data Reason : Type 0 where
  -- a row leaves its type, or a start value its row
  Starts : Reason
  -- what a connected input takes leaves its row
  Links : Reason
  -- an algorithm may leave a row
  Keeps : Reason
  -- an algorithm or a guard may divide by 0, or index out of bounds
  Divides : Reason

-- a refusal by what its reason says of its path; or memory ran out
abbrev pub Refuses : (Reason → List ℕ → Type 0) → Unclear → Type 0
Refuses P u.OutOfMemory = Unit {0}
Refuses P (u.Start path) = P Starts (string_bytes path)
Refuses P (u.Link path) = P Links (string_bytes path)
Refuses P (u.Kept path) = P Keeps (string_bytes path)
Refuses P (u.IndexOrDivisor path) = P Divides (string_bytes path)

-- a row lies in its type, and holds a value
abbrev pub Begins : Span → ElemType → Value → Type 0
Begins r a value = (within r (whole a) ≡ true) × HoldsIn r value

-- a guard has no range
abbrev pub GuardFails : Spans → Option Guard → Reason → Type 0
GuardFails rows None reason = ⊥
GuardFails rows (Some g) reason = (reason ≡ Divides) × (guard_range rows g ≡ None)

-- the rows of all leaves are clear
abbrev pub AllClear : List Range → System → Type 0
AllClear ranges s = AllByRecursion (λ (d : Device). AllByRecursion (LeafClears ranges (leaves d)) (leaves d)) s.devices

-- a variable or algorithm of this name, or a transition from a state of this name, is not as it has to be
abbrev pub ChartFails : List Range → List Leaf → Path → (Name → Source) → Block → Reason → Name → Type 0
ChartFails ranges all path source block Starts x =
    Any (λ (v : Variable). (v.name ≡ x) × (Begins (row_at ranges path v) v.type (first_input (source v.name) (start_of v)) → ⊥)) block.inputs
    ⊎ Any (λ (v : Variable). (v.name ≡ x) × (Begins (row_at ranges path v) v.type (start_of v) → ⊥)) block.outputs
    ⊎ Any (λ (v : Variable). (v.name ≡ x) × (Begins (row_at ranges path v) v.type (start_of v) → ⊥)) block.internals
ChartFails ranges all path source block Links x = Any (λ (v : Variable). (v.name ≡ x) × (SourceFits ranges all (row_at ranges path v) (source v.name) → ⊥)) block.inputs
ChartFails ranges all path source block Keeps x = Any (λ (p : Procedure). (p.name ≡ x) × (examined (rows ranges path (Charted block)) p.algorithm ≡ Leaves)) block.procedures
ChartFails ranges all path source block Divides x =
    Any (λ (p : Procedure). (p.name ≡ x) × (examined (rows ranges path (Charted block)) p.algorithm ≡ Traps)) block.procedures
    ⊎ Any (λ (t : Transition). (t.source ≡ x) × GuardFails (rows ranges path (Charted block)) t.guard Divides) block.transitions

-- something of this name in a leaf is not as it has to be
abbrev pub KindFails : List Range → List Leaf → Path → (Name → Source) → Kind → Reason → Name → Type 0
KindFails ranges all path source (Charted block) reason x = ChartFails ranges all path source block reason x
KindFails ranges all path source (Serviced service) reason x = ⊥

-- a refusal's path is that of a leaf, and behind it the name of what fails there
abbrev pub LeafFails : List Range → List Leaf → Leaf → Reason → List ℕ → Type 0
LeafFails ranges all leaf reason path = (x : Name) × (names_in path ≡ leaf.path ++ x ∷ []) × KindFails ranges all leaf.path leaf.source leaf.kind reason x

-- one of these leaves is at fault
abbrev pub OneLeafFails : List Range → List Leaf → Unclear → Type 0
OneLeafFails ranges all = Refuses (λ reason path. Any (λ (leaf : Leaf). LeafFails ranges all leaf reason path) all)

-- what a refusal says is so of a leaf of the system; or memory ran out
abbrev pub IsUnclear : List Range → System → Unclear → Type 0
IsUnclear ranges s = Refuses (λ reason path. Any (λ (d : Device). Any (λ (leaf : Leaf). LeafFails ranges (leaves d) leaf reason path) (leaves d)) s.devices)

-- ---- depths, charges and weights

-- one of them
abbrev pub OneOf : {X : Type 0} → (X → Type 0) → List X → Type 0
OneOf P [] = ⊥
OneOf P (x ∷ xs) = P x ⊎ OneOf P xs

-- an arrival of the resource of this path takes more places than its depth, or all its BEGIN do
abbrev pub IsShallow : certs.Certificate → Name → Device → Type 0
IsShallow cert path d =
    (n : ℕ) × (names_in path ≡ d.name ∷ name_at d.resources n ∷ [])
    × (OneOf (λ (leaf : wires.Leaf). (leaf.home ≡ n) × (ArrivalsFit cert d leaf → ⊥)) (leaves d) ⊎ (begin_places cert (leaves d) n ≤ certs.depth_of cert d n → ⊥))

-- what a refusal says is so
abbrev pub IsShallowFault : certs.Certificate → System → Shallow → Type 0
IsShallowFault cert s shallow.OutOfMemory = Unit {0}
IsShallowFault cert s (shallow.Depth path) = OneOf (IsShallow cert (string_bytes path)) s.devices

-- the charge of a state does not pay for its own actions, or not for a free transition that leaves it
abbrev pub ChargeFails : Column → Spans → (Name → List Place) → Path → Kind → Name → Type 0
ChargeFails col spans targets path (Charted block) x =
    Any (λ (s : State). (s.name ≡ x) × (StateFits col spans targets path block s → ⊥)) block.states
    ⊎ Any (λ (t : Transition). (t.source ≡ x) × (FreeFits col spans targets path block t → ⊥)) block.transitions
ChargeFails col spans targets path (Serviced service) x = ⊥

-- the weight of an event input or arrival does not pay for what it causes
abbrev pub WeightFails : Column → (Name → List Place) → Path → Kind → Name → Type 0
WeightFails col targets path (Charted block) e = (is_in e (event_names block.event_inputs) ≡ true) × (InputFits col path block e → ⊥)
WeightFails col targets path (Serviced service) e = (is_in e (service_events service) ≡ true) × (EventFits col targets path service e → ⊥)

-- the row that is named is one of the leaf, and does not fit in the column
abbrev pub IsLeafFault : Column → List Range → Leaf → Shortfall → Type 0
IsLeafFault col ranges leaf short.OutOfMemory = Unit {0}
IsLeafFault col ranges leaf (short.Charge path) = (x : Name) × (names_in (string_bytes path) ≡ leaf.path ++ x ∷ []) × ChargeFails col (rows ranges leaf.path leaf.kind) leaf.targets leaf.path leaf.kind x
IsLeafFault col ranges leaf (short.Weight path) = (e : Name) × (names_in (string_bytes path) ≡ leaf.path ++ e ∷ []) × WeightFails col leaf.targets leaf.path leaf.kind e
IsLeafFault col ranges leaf (short.Channel number) = ⊥

-- the row of a leaf of the system does not pay in this column
abbrev pub IsUnpaid : Column → List Range → System → Shortfall → Type 0
IsUnpaid col ranges s f = OneOf (λ (d : Device). OneOf (λ (leaf : Leaf). IsLeafFault col ranges leaf f) (leaves d)) s.devices

-- the row of each channel pays for what a datagram may cost at all SUBSCRIBE, where each is delivered at most so often to a device
abbrev pub ChannelsPay : Certificate → ℕ → System → Type 0
ChannelsPay cert repeats s = (c : ℕ) → channel_load (far_of cert) repeats c (all_leaves s.devices) ≤ (far_of cert).sending c

-- the row of the channel that is named does not
abbrev pub IsShortChannel : Certificate → ℕ → System → Shortfall → Type 0
IsShortChannel cert repeats s short.OutOfMemory = Unit {0}
IsShortChannel cert repeats s (short.Charge path) = ⊥
IsShortChannel cert repeats s (short.Weight path) = ⊥
IsShortChannel cert repeats s (short.Channel c) = (far_of cert).sending c < channel_load (far_of cert) repeats c (all_leaves s.devices)

-- ---- a certificate that does not fit

-- a row does not pay in one of the two columns of a device
abbrev pub IsOwing : System → Certificate → Shortfall → Type 0
IsOwing s cert f = IsUnpaid (steps_of cert) cert.ranges s f ⊎ IsUnpaid (places_of cert) cert.ranges s f

-- with a row REPEATS, the row of a state or an event does not pay for what happens on all devices
abbrev pub IsOwingFar : System → Certificate → Shortfall → Type 0
IsOwingFar s cert f = (r : ℕ) × (cert.repeats ≡ Some r) × IsUnpaid (far_of cert) cert.ranges s f

-- with a row REPEATS, the number of a channel does not pay for its datagrams
abbrev pub IsOwingChannel : System → Certificate → Shortfall → Type 0
IsOwingChannel s cert f = (r : ℕ) × (cert.repeats ≡ Some r) × IsShortChannel cert r s f

-- a declaration is one too many, and so it is of its place
abbrev pub IsLimit : (ℕ → Type 0) → TypeFault → Type 0
IsLimit Crowds (types.Limit at) = Crowds at
IsLimit Crowds other = ⊥

-- what the refusal says is so, where at such places the names of resources stand in which more connections are followed than may be
abbrev pub IsMisfit : (ℕ → Type 0) → System → Certificate → Refusal → Type 0
IsMisfit Crowds s cert refusals.OutOfMemory = Unit {0}
IsMisfit Crowds s cert (refusals.Text fault) = ⊥
IsMisfit Crowds s cert (refusals.Typing fault) = IsLimit Crowds fault
IsMisfit Crowds s cert (refusals.Certificate fault) = ⊥
IsMisfit Crowds s cert (refusals.UnknownRow path) = IsUnknown s cert (string_bytes path)
IsMisfit Crowds s cert (refusals.MissingRow path) = IsMissing s cert (string_bytes path)
IsMisfit Crowds s cert (refusals.UnknownChannel number) = IsUnknownChannel s cert number
IsMisfit Crowds s cert (refusals.MissingChannel number) = IsMissingChannel s cert number
IsMisfit Crowds s cert (refusals.RangeStart path) = IsUnclear cert.ranges s (u.Start path)
IsMisfit Crowds s cert (refusals.RangeLink path) = IsUnclear cert.ranges s (u.Link path)
IsMisfit Crowds s cert (refusals.RangeKept path) = IsUnclear cert.ranges s (u.Kept path)
IsMisfit Crowds s cert (refusals.IndexOrDivisor path) = IsUnclear cert.ranges s (u.IndexOrDivisor path)
IsMisfit Crowds s cert (refusals.Charge path) = IsOwing s cert (short.Charge path)
IsMisfit Crowds s cert (refusals.Weight path) = IsOwing s cert (short.Weight path)
IsMisfit Crowds s cert (refusals.Depth path) = IsShallowFault cert s (shallow.Depth path)
IsMisfit Crowds s cert (refusals.Far path) = IsOwingFar s cert (short.Charge path) ⊎ IsOwingFar s cert (short.Weight path)
IsMisfit Crowds s cert (refusals.Channel number) = IsOwingChannel s cert (short.Channel number)
