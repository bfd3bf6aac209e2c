-- The work of a verified system: the least numbers that pay for it, and what then holds of every run.
-- This project's profile.
use Rattle.std.specs.Prelude.{ℕ, ◌≤◌, ◌<◌, ◌⊎◌, List, None}
use Rattle.std.specs.List.{AllByRecursion, Any, Contains}
use Rattle.fb_model.specs.Names.{Place}
use Rattle.fb_model.specs.System.{System, Device}
use Rattle.fb_model.specs.Ranges.{Range, rows}
use Rattle.fb_model.specs.Wires.{Leaf}
use Rattle.fb_model.specs.Certificates.{Certificate, Fits, all_leaves, event_places}
use Rattle.fb_model.specs.CertificateText.{most_steps}
use Rattle.fb_model.specs.Demands.{Node, Demand}
use Rattle.fb_model.specs.Columns.{MeetAll}
use Rattle.fb_model.specs.Devices.{Machine}
use Rattle.fb_flat.specs.declared.flat.FlatDevice.{FlatDevice}
use Rattle.fb_model_turns.specs.Turns.{Counts, ComesTo}
use Rattle.fb_model_work.specs.Spending.{Prices}
use Rattle.fb_model_work.specs.Work.{AllWorkFits, BoundsWork}
use Rattle.fb_find_demands.specs.declared.numbered.Numbering.{Numbering}
use Rattle.fb_find.specs.Given.{IsNumbered}
use Rattle.fb_turns.specs.Counting.{counts_in}
use Rattle.fb_work.specs.declared.work.Work.{Work}
use Rattle.fb_work.specs.Algorithms.{IsDear}

abbrev pub work_in : Work → Counts
work_in w = counts_in w.numbering w.numbers.items

-- numbers pay for a system, and others that pay say no less at an event input or arrival
pub record IsLeastWork (prices : Prices) (ranges : List Range) (s : System) (counts : Counts) : Type 0 where
  pub fits : AllWorkFits prices ranges counts s
  pub least : (others : Counts) → AllWorkFits prices ranges others s → (p : Place) → Contains (event_places (all_leaves s.devices)) p → counts.weight p ≤ others.weight p

-- over every run of each device, no cause spends more than its opening weighs
abbrev pub BoundsAllWork : Prices → Certificate → System → Counts → Type 0
BoundsAllWork prices cert s counts = AllByRecursion (λ (d : Device). (m : Machine) → ComesTo cert d m → BoundsWork prices counts cert d m) s.devices

-- an algorithm costs more than is told apart, or a state or an event does in all numbers that pay
abbrev pub IsTooMuch : Prices → List Range → System → Type 0
IsTooMuch prices ranges s =
    Any (λ (leaf : Leaf). IsDear prices (rows ranges leaf.path leaf.kind) leaf.kind) (all_leaves s.devices)
    ⊎ ((others : Counts) → AllWorkFits prices ranges others s → (p : Place) × ((most_steps < others.weight p) ⊎ (most_steps < others.charge p)))

-- ---- on the way there

-- the nodes of a system that a certificate fits have these numbers
pub record IsCountable (devices : List FlatDevice) (n : Numbering) (s : System) (cert : Certificate) : Type 0 where
  pub numbered : IsNumbered None devices n s
  pub fits : Fits s cert

-- a node has a number above the limit in all that meet the demands
abbrev pub IsPastLimit : List Demand → Type 0
IsPastLimit ds = (x : Node) × ((y : Node → ℕ) → MeetAll y ds → most_steps < y x)
