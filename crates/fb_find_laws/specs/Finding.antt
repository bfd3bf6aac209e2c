-- What is said of a certificate that is found: it fits, its rows stand in order, its ranges are those of the last rounds, and every other number is the least that fits them.
-- This project's profile.
use Rattle.std.specs.Prelude.{ℕ, ◌≡◌, ◌≤◌, List, [], ◌++◌, map, Option, Some}
use Rattle.std.specs.List.{AllByRecursion, Contains}
use Rattle.fb_model.specs.Names.{Name, at_place}
use Rattle.fb_model.specs.System.{Device, System}
use Rattle.fb_model.specs.Wires.{Leaf, leaves}
use Rattle.fb_model.specs.Ranges.{Range, rows, LeafClears}
use Rattle.fb_model.specs.Certificates.{Row, amount, row_places, far_places, channel_rows, Certificate, steps_of, places_of, far_of, depth_of, kind_arrivals, begin_places, ArrivalsFit, all_leaves, AllRows, FollowsFew}
use Rattle.fb_model.specs.CertificateText.{place_of}
use Rattle.fb_model.specs.Demands.{Node, state, event, channel}
use Rattle.fb_model.specs.Columns.{number_of, demands, network_demands}
use Rattle.fb_find_laws.specs.Numbered.{AreLeast}
use Rattle.fb_find_laws.specs.Nodes.{nodes_of}
use Rattle.fb_model.specs.FinderRanges.{AreFound}
use Rattle.fb_model.specs.Finding.{IsInOrder}

-- ---- how it is found

-- a depth is 1, the places of an arrival of the resource, or those of all its BEGIN together
pub data IsNeeded (cert : Certificate) (all : List Leaf) (q depth : ℕ) : Type 0 where
  is_one : depth ≤ 1 → IsNeeded cert all q depth
  for_arrival : (leaf : Leaf) (e : Name) → Contains all leaf → leaf.home ≡ q → Contains (kind_arrivals leaf.kind) e → depth ≤ (places_of cert).weight (at_place leaf.path e) → IsNeeded cert all q depth
  for_begins : depth ≤ begin_places cert all q → IsNeeded cert all q depth

-- each depth of a device is enough, and no more than that
pub record HasNeededDepths (cert : Certificate) (d : Device) : Type 0 where
  pub arrivals : AllByRecursion (ArrivalsFit cert d) (leaves d)
  pub begins : (q : ℕ) → begin_places cert (leaves d) q ≤ depth_of cert d q
  pub needed : (q : ℕ) → IsNeeded cert (leaves d) q (depth_of cert d q)

-- the rows are those of the system, in order; the ranges are some of which this is so, and all is clear under them; the numbers of nodes are least, with a row REPEATS
-- those of the network too, and so are the depths
pub record IsMadeWith (Are : List Range → Type 0) (repeats : Option ℕ) (system : System) (states events : List Name) (channels : List ℕ) (cert : Certificate) : Type 0 where
  pub repeats_are : cert.repeats ≡ repeats
  pub ordered : IsInOrder system cert
  pub followed : AllByRecursion FollowsFew system.devices
  pub rows : AllRows system cert
  pub ranges : Are cert.ranges
  pub clear : AllByRecursion (λ (d : Device). AllByRecursion (LeafClears cert.ranges (leaves d)) (leaves d)) system.devices
  pub steps : AreLeast (nodes_of states events []) (demands 1 cert.ranges (all_leaves system.devices)) (number_of (steps_of cert))
  pub places : AreLeast (nodes_of states events []) (demands 0 cert.ranges (all_leaves system.devices)) (number_of (places_of cert))
  pub far : (r : ℕ) → repeats ≡ Some r → AreLeast (nodes_of states events channels) (network_demands r cert.ranges (all_leaves system.devices)) (number_of (far_of cert))
  pub depths : AllByRecursion (HasNeededDepths cert) system.devices

-- the ranges are found
abbrev pub IsMade : Option ℕ → System → List Name → List Name → List ℕ → Certificate → Type 0
IsMade repeats system states events channels cert = IsMadeWith (AreFound system.devices) repeats system states events channels cert

-- the number that rows give a node, by one of their numbers
abbrev pub row_number : (Row → ℕ) → Certificate → Node → ℕ
row_number f cert (state p) = amount f cert.charges p
row_number f cert (event p) = amount f cert.weights p
row_number f cert (channel c) = 0

-- the rows CHARGE and WEIGHT are of these texts, and these are their numbers in order
pub record HasNumbers (f : Row → ℕ) (states events : List Name) (cert : Certificate) (ys : List ℕ) : Type 0 where
  pub charges_are : row_places cert.charges ≡ map place_of states
  pub weights_are : row_places cert.weights ≡ map place_of events
  pub numbers : map f cert.charges ++ map f cert.weights ≡ ys

-- the rows FARSTATE and FAR are of these texts, and the rows CHANNEL of these channels, and these are their numbers in order
pub record HasFarNumbers (states events : List Name) (channels : List ℕ) (cert : Certificate) (ys : List ℕ) : Type 0 where
  pub states_are : far_places cert.far_states ≡ map place_of states
  pub events_are : far_places cert.fars ≡ map place_of events
  pub channels_are : channel_rows cert.channels ≡ channels
  pub numbers : map (λ r. r.steps) cert.far_states ++ (map (λ r. r.steps) cert.fars ++ map (λ r. r.steps) cert.channels) ≡ ys
