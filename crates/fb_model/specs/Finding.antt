-- What is said of a certificate that is found, and why there is none: it fits, its rows stand in order, its ranges are those of the last rounds, and every other
-- number is the least that fits them; or demands are a closed walk, something is not clear under these ranges, or a number is above its limit.
-- This project's profile.
use Rattle.std.specs.Prelude.{ℕ, ◌≡◌, ◌≤◌, max, List, Option, ◌+◌, ◌<◌, ◌∷◌, ◌++◌, length, map, [], if◌then◌else◌, ◌⊎◌, string_bytes, None, Some, take}
use Rattle.std.specs.List.{AllByRecursion, Contains}
use Rattle.fb_model.specs.Names.{Name, at_place, Path}
use Rattle.fb_model.specs.System.{Device, System, Resource}
use Rattle.fb_model.specs.Wires.{Leaf, leaves, resource_leaves, most_followed, resource_count}
use Rattle.fb_model.specs.Ranges.{Range, rows}
use Rattle.fb_model.specs.Certificates.{depth_rows, depth_paths, channel_rows, channels_of, with_repeats, PlaceRows, required, given, Certificate, steps_of, places_of, far_of, depth_of, all_leaves, Fits, state_places, event_places, is_restart, kind_arrivals, channel_in}
use Rattle.fb_model.specs.Demands.{Node, event, state, channel, Demand, node_in, IsClosedWalk, bare_demands, bare_network}
use Rattle.fb_model.specs.Columns.{number_of, demands, network_demands, MeetAll}
use Rattle.fb_model.specs.FinderRanges.{leaf_rows, AreFound}
use Rattle.fb_model.specs.Services.{begin}
use Rattle.fb_model.specs.Wires as wires
use Rattle.fb_model.specs.Certificates as certs
use Rattle.fb_model.specs.System as book
use Rattle.fb_model.specs.CertificateText.{names_in, place_of, most_places, most_steps}
use Rattle.fb_faults.specs.declared.place.Place.{Place}
use Rattle.fb_faults.specs.declared.place.Place.TheVariants.{State, Event, Channel}
use Rattle.std.specs.declared.string.String.{String}
use Rattle.std.specs.declared.alloc.Global.{Global}
use Rattle.fb_faults.specs.declared.unclear.Unclear.TheVariants as unclear
use Rattle.fb_model.specs.Misfits.{IsUnclear}
use Rattle.fb_faults.specs.declared.no_bound.NoBound.{NoBound}
use Rattle.fb_faults.specs.declared.no_bound.NoBound.TheVariants.{OutOfMemory, Cycle, NoRange, Limit}

-- what a system asks whatever algorithms cost: of each device alone, or of the network where datagrams are followed
abbrev pub asked : Option ℕ → book.System → List Demand
asked None s = bare_demands (all_leaves s.devices)
asked (Some r) s = bare_network (all_leaves s.devices)

-- the variables of leaves have the same ranges in both
abbrev pub HaveSameRanges : List Range → List Range → List Leaf → Type 0
HaveSameRanges xs ys all = AllByRecursion (λ (leaf : Leaf). (x : Name) → rows xs leaf.path leaf.kind x ≡ rows ys leaf.path leaf.kind x) all

-- no number of the first certificate is greater than that of the other; a depth is at least 1
pub record IsAtMost (devices : List Device) (cert other : Certificate) : Type 0 where
  pub steps : (x : Node) → number_of (steps_of cert) x ≤ number_of (steps_of other) x
  pub places : (x : Node) → number_of (places_of cert) x ≤ number_of (places_of other) x
  pub depths : AllByRecursion (λ (d : Device). (q : ℕ) → depth_of cert d q ≤ max 1 (depth_of other d q)) devices

-- its rows stand in the finder's order: those of a kind leaf by leaf or resource by resource, each leaf's in text order (variables: inputs, outputs, internals;
-- events: event inputs, and then the arrival), and channels upwards
pub record IsInOrder (system : System) (cert : Certificate) : Type 0 where
  pub places_are : (kind : PlaceRows) → given kind cert ≡ required kind cert.repeats (all_leaves system.devices)
  pub depths_are : depth_rows cert.depths ≡ depth_paths system.devices
  pub channels_are : channel_rows cert.channels ≡ with_repeats cert.repeats (channels_of (all_leaves system.devices))

-- its ranges are some of which this is so, and all else is as the finder owes it: without REPEATS it has no row of the network; with REPEATS the numbers of these rows
-- are the least of all certificates with these ranges and the same REPEATS
pub record IsFoundWith (Are : List Range → Type 0) (repeats : Option ℕ) (system : System) (cert : Certificate) : Type 0 where
  pub repeats_are : cert.repeats ≡ repeats
  pub ordered : IsInOrder system cert
  pub ranges : Are cert.ranges
  pub fits : Fits system cert
  pub least : (other : Certificate) → Fits system other → HaveSameRanges other.ranges cert.ranges (all_leaves system.devices) → IsAtMost system.devices cert other
  pub least_far : (other : Certificate) → Fits system other → HaveSameRanges other.ranges cert.ranges (all_leaves system.devices) → other.repeats ≡ repeats → (x : Node) → number_of (far_of cert) x ≤ number_of (far_of other) x

-- its ranges are those of the last rounds
abbrev pub IsFound : Option ℕ → System → Certificate → Type 0
IsFound repeats system cert = IsFoundWith (AreFound system.devices) repeats system cert

-- these rows are those of all variables that are not BOOL, in order, each with the range that it has in others, and all numbers of its type where it has none there
abbrev pub AreTaken : List Range → List Device → List Range → Type 0
AreTaken others ds ranges = ranges ≡ leaf_rows (λ leaf v. rows others leaf.path leaf.kind v.name) (all_leaves ds)

-- its ranges are taken from these
abbrev pub IsFoundWithin : List Range → Option ℕ → System → Certificate → Type 0
IsFoundWithin others repeats system cert = IsFoundWith (AreTaken others system.devices) repeats system cert

-- the nodes of leaves in the order of their rows: states, behind them event inputs and arrivals, and behind these the channels that they name
abbrev pub nodes_in_order : List Leaf → List Node
nodes_in_order all = map state (state_places all) ++ (map event (event_places all) ++ map channel (channels_of all))

-- a walk begins at that of its nodes which comes first in this order
pub record BeginsFirst (order walk : List Node) : Type 0 where
  pub before : List Node
  pub after : List Node
  pub order_is : order ≡ before ++ node_in walk 0 ∷ after
  pub none_before : (k : ℕ) → k < length walk → Contains before (node_in walk k) → ⊥

-- a closed walk of these demands of leaves, from the first of its nodes on
pub record IsFirstWalk (ds : List Demand) (all : List Leaf) (walk : List Node) : Type 0 where
  pub closed : IsClosedWalk ds walk
  pub first : BeginsFirst (nodes_in_order all) walk

-- the places of a leaf's BEGIN
abbrev pub begin_of : certs.Certificate → wires.Leaf → ℕ
begin_of cert leaf = if is_restart leaf.kind then (certs.places_of cert).weight (at_place leaf.path begin) else 0

-- the places of all BEGIN
abbrev pub begins_of : certs.Certificate → List wires.Leaf → ℕ
begins_of cert [] = 0
begins_of cert (leaf ∷ rest) = begin_of cert leaf + begins_of cert rest

-- the most places that one of these arrivals takes
abbrev pub most_at : certs.Certificate → Path → List Name → ℕ
most_at cert path [] = 0
most_at cert path (e ∷ es) = max ((certs.places_of cert).weight (at_place path e)) (most_at cert path es)

abbrev pub arrival_of : certs.Certificate → Leaf → ℕ
arrival_of cert leaf = most_at cert leaf.path (kind_arrivals leaf.kind)

abbrev pub most_arrival : certs.Certificate → List Leaf → ℕ
most_arrival cert [] = 0
most_arrival cert (leaf ∷ rest) = max (arrival_of cert leaf) (most_arrival cert rest)

-- the least depth for a resource with these leaves: 1, the places of each arrival, and those of all BEGIN together
abbrev pub needed_depth : certs.Certificate → List Leaf → ℕ
needed_depth cert all = max (max 1 (most_arrival cert all)) (begins_of cert all)

-- the resource of this path needs more depth than a row can say
abbrev pub IsPastHere : certs.Certificate → Name → ℕ → Path → book.Resource → Type 0
IsPastHere cert text n path r = (names_in text ≡ path ++ r.name ∷ []) × (4096 < needed_depth cert (resource_leaves n path r))

-- one of these does, by its number from n on
abbrev pub IsPastIn : certs.Certificate → Name → ℕ → Path → List book.Resource → Type 0
IsPastIn cert text n path [] = ⊥
IsPastIn cert text n path (r ∷ rs) = IsPastHere cert text n path r ⊎ IsPastIn cert text (n + 1) path rs

abbrev pub IsPastAmong : certs.Certificate → Name → List book.Device → Type 0
IsPastAmong cert text [] = ⊥
IsPastAmong cert text (d ∷ ds) = IsPastIn cert text 0 (d.name ∷ []) d.resources ⊎ IsPastAmong cert text ds

abbrev pub node_of : Place → Node
node_of (State path) = state (place_of (string_bytes path))
node_of (Event path) = event (place_of (string_bytes path))
node_of (Channel number) = channel number

-- the resource of this path has the node: the first two names of its place, or those of a PUBLISH or SUBSCRIBE of its channel
abbrev pub IsResourceOf : List Leaf → Node → Name → Type 0
IsResourceOf all (state p) resource = names_in resource ≡ take 2 (p.path ++ p.event ∷ [])
IsResourceOf all (event p) resource = names_in resource ≡ take 2 (p.path ++ p.event ∷ [])
IsResourceOf all (channel c) resource = (leaf : Leaf) × Contains all leaf × (channel_in leaf.kind ≡ Some c) × (names_in resource ≡ take 2 leaf.path)

-- a node of the resource of this path has more than the limit in all numbers that meet these demands
pub record IsGreat (ds : List Demand) (limit : ℕ) (s : System) (resource : Name) : Type 0 where
  pub node : Node
  pub resource_is : IsResourceOf (all_leaves s.devices) node resource
  pub great : (y : Node → ℕ) → MeetAll y ds → limit < y node

-- the resource of this path follows too many connections; or it needs a number above the limit of rows, in the steps or in the places column, or in that of the steps
-- on all devices, under ranges of which this is so; or more depth than a row can say, whatever numbers meet the demands
pub data IsAboveWith (Are : List Range → Type 0) (repeats : Option ℕ) (s : System) (resource : Name) : Type 0 where
  follows_many : (d : Device) (r : Resource) → Contains s.devices d → Contains d.resources r → names_in resource ≡ d.name ∷ r.name ∷ [] → most_followed < resource_count r → IsAboveWith Are repeats s resource
  needs_steps : (ranges : List Range) → Are ranges → IsGreat (demands 1 ranges (all_leaves s.devices)) most_steps s resource → IsAboveWith Are repeats s resource
  needs_places : (ranges : List Range) → Are ranges → IsGreat (demands 0 ranges (all_leaves s.devices)) most_places s resource → IsAboveWith Are repeats s resource
  needs_far : (r : ℕ) (ranges : List Range) → repeats ≡ Some r → Are ranges → IsGreat (network_demands r ranges (all_leaves s.devices)) most_steps s resource → IsAboveWith Are repeats s resource
  needs_depth : (ranges : List Range) → Are ranges → ((cert : Certificate) → MeetAll (number_of (places_of cert)) (demands 0 ranges (all_leaves s.devices)) → IsPastAmong cert resource s.devices) → IsAboveWith Are repeats s resource

-- want of memory; a closed walk of demands, over the network where datagrams are followed, from the first of its nodes on; a path that is at fault; or what is above a
-- limit under such ranges
abbrev pub IsNoBoundWith : (List Range → Type 0) → (String Global → Type 0) → Option ℕ → System → NoBound → Type 0
IsNoBoundWith Are Fails repeats s OutOfMemory = Unit {0}
IsNoBoundWith Are Fails repeats s (Cycle places) = IsFirstWalk (asked repeats s) (all_leaves s.devices) (map node_of places.items)
IsNoBoundWith Are Fails repeats s (NoRange path) = Fails path
IsNoBoundWith Are Fails repeats s (Limit resource) = IsAboveWith Are repeats s (string_bytes resource)

-- this algorithm or guard is not clear
abbrev pub IsUnclearRun : List Range → System → String Global → Type 0
IsUnclearRun ranges s path = IsUnclear ranges s (unclear.Kept path) ⊎ IsUnclear ranges s (unclear.IndexOrDivisor path)

-- or the range of this variable does not hold what it has at first, or what it takes
abbrev pub IsUnclearPath : List Range → System → String Global → Type 0
IsUnclearPath ranges s path = (IsUnclear ranges s (unclear.Start path) ⊎ IsUnclear ranges s (unclear.Link path)) ⊎ IsUnclearRun ranges s path

-- with the ranges that are found, this algorithm or guard is not clear
abbrev pub FailsFound : System → String Global → Type 0
FailsFound s path = (ranges : List Range) × AreFound s.devices ranges × IsUnclearRun ranges s path

-- there is no certificate with these
abbrev pub IsNoBound : Option ℕ → System → NoBound → Type 0
IsNoBound repeats s fault = IsNoBoundWith (AreFound s.devices) (FailsFound s) repeats s fault

-- with these ranges themselves
abbrev pub IsNoBoundAt : List Range → Option ℕ → System → NoBound → Type 0
IsNoBoundAt ranges repeats s fault = IsNoBoundWith (λ rs. rs ≡ ranges) (IsUnclearPath ranges s) repeats s fault

-- whatever the ranges
abbrev pub IsNeverBound : Option ℕ → System → NoBound → Type 0
IsNeverBound repeats s fault = IsNoBoundWith (λ rs. ⊥) (λ path. ⊥) repeats s fault

-- it shows a walk
abbrev pub IsWalk : NoBound → Type 0
IsWalk OutOfMemory = ⊥
IsWalk (Cycle places) = Unit {0}
IsWalk (NoRange path) = ⊥
IsWalk (Limit resource) = ⊥

-- the certificates that a walk rules out: all; and where it is one of the network, those with a row REPEATS of 1 or more
abbrev pub IsRuledOut : Option ℕ → Certificate → Type 0
IsRuledOut None cert = Unit {0}
IsRuledOut (Some r) cert = (n : ℕ) × (cert.repeats ≡ Some n) × (1 ≤ n)
