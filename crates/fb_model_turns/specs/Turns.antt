-- How many dispatches of its resource an event needs until all that it causes has ended.
-- This project's profile.
use Rattle.std.specs.Prelude.{ℕ, ◌≡◌, ◌+◌, ◌*◌, ◌<◌, ◌≤◌, max, true, false, List, [], ◌∷◌, ◌++◌, Some, None}
use Rattle.std.specs.List.{AllByRecursion}
use Rattle.fb_model.specs.Names.{Name, Path, Place, at_place}
use Rattle.fb_model.specs.System.{Action, State, Transition, Block, Service, Device}
use Rattle.fb_model.specs.Services.{service_events, can_emit}
use Rattle.fb_model.specs.Wires.{Kind, Charted, Serviced, Leaf, leaves}
use Rattle.fb_model.specs.Charts.{actions_of, is_open, emission}
use Rattle.fb_model.specs.Messages.{Stamp, IsStamp}
use Rattle.fb_model.specs.Certificates.{Certificate, depth_of, event_names, kind_arrivals, reached, steps_of}
use Rattle.fb_model.specs.Devices.{Machine, Event, Answer, Run, at_first, is_pending, places_row}
use Rattle.fb_model.specs.Headline.{IsOpen, dispatches}

-- ---- counts of dispatches

-- what a state causes from the moment that it is entered, and what an event input or an arrival causes, its own dispatch included
pub record Counts : Type 0 where
  pub charge : Place → ℕ
  pub weight : Place → ℕ

-- how the counts of events that are emitted together make one
abbrev pub Join : Type 0
Join = ℕ → ℕ → ℕ

-- all dispatches count
abbrev pub added : Join
added a b = a + b

-- those of the longest chain of emissions count: each event of it emits the next
abbrev pub largest : Join
largest a b = max a b

-- the numbers of these, joined
abbrev pub joined : {A : Type 0} → Join → (A → ℕ) → List A → ℕ
joined join number [] = 0
joined join number (x ∷ xs) = join (number x) (joined join number xs)

-- what follows from these event outputs
abbrev pub caused : Join → Counts → (Name → List Place) → List Name → ℕ
caused join counts targets outs = joined join counts.weight (reached targets outs)

-- the event outputs of these actions
abbrev pub outputs_of : List Action → List Name
outputs_of [] = []
outputs_of (a ∷ rest) = emission a.output ++ outputs_of rest

-- ---- when counts fit

-- a state is charged with what its actions emit
abbrev pub StateCounts : Join → Counts → (Name → List Place) → Path → State → Type 0
StateCounts join counts targets path x = caused join counts targets (outputs_of x.actions) ≤ counts.charge (at_place path x.name)

-- along a transition without an event, the charge of the target follows too
abbrev pub FreeCounts : Join → Counts → (Name → List Place) → Path → Block → Transition → Type 0
FreeCounts join counts targets path block t =
    t.event ≡ None → join (caused join counts targets (outputs_of (actions_of block.states t.source))) (counts.charge (at_place path t.target)) ≤ counts.charge (at_place path t.source)

-- a transition that names the event, or none, may be crossed in its dispatch
abbrev pub CrossingCounts : Counts → Path → Name → Transition → Type 0
CrossingCounts counts path e t = is_open t.event (Some e) ≡ true → 1 + counts.charge (at_place path t.target) ≤ counts.weight (at_place path e)

pub record InputCounts (counts : Counts) (path : Path) (block : Block) (e : Name) : Type 0 where
  pub least : 1 ≤ counts.weight (at_place path e)
  pub crossings : AllByRecursion (CrossingCounts counts path e) block.transitions

pub record ChartCounts (join : Join) (counts : Counts) (targets : Name → List Place) (path : Path) (block : Block) : Type 0 where
  pub states : AllByRecursion (StateCounts join counts targets path) block.states
  pub free : AllByRecursion (FreeCounts join counts targets path block) block.transitions
  pub weights : AllByRecursion (InputCounts counts path block) (event_names block.event_inputs)

-- an event input or arrival of a service
abbrev pub ServiceCounts : Join → Counts → (Name → List Place) → Path → Service → Name → Type 0
ServiceCounts join counts targets path service e = 1 + caused join counts targets (can_emit service e) ≤ counts.weight (at_place path e)

abbrev pub KindCounts : Join → Counts → (Name → List Place) → Path → Kind → Type 0
KindCounts join counts targets path (Charted block) = ChartCounts join counts targets path block
KindCounts join counts targets path (Serviced service) = AllByRecursion (ServiceCounts join counts targets path service) (service_events service)

-- these counts hold for all of these leaves
abbrev pub DispatchesFit : Join → Counts → List Leaf → Type 0
DispatchesFit join counts all = AllByRecursion (λ leaf. KindCounts join counts leaf.targets leaf.path leaf.kind) all

-- the steps that a certificate states, as counts
abbrev pub counts_of : Certificate → Counts
counts_of cert = record { charge = (steps_of cert).charge; weight = (steps_of cert).weight }

-- ---- states of a run

-- a device comes to this state from its start
pub record ComesTo (cert : Certificate) (device : Device) (m : Machine) : Type 0 where
  pub first : ℕ
  pub stamp : Stamp
  pub is_stamp : IsStamp stamp
  pub events : List Event
  pub answers : List Answer
  pub run : Run cert device (at_first device first stamp) events answers m

-- the places of this arrival, and those of any arrival of the resource, are more together than its DEPTH
abbrev pub IsAlone : Certificate → Device → ℕ → Place → Type 0
IsAlone cert device q o =
    AllByRecursion (λ leaf. leaf.home ≡ q → AllByRecursion (λ e. depth_of cert device q < places_row cert o + places_row cert (at_place leaf.path e)) (kind_arrivals leaf.kind)) (leaves device)

-- ---- what then holds

-- with any events between, an open cause has ended at the latest after so many dispatches of its resource as its opening counts, each DEPTH times
abbrev pub EndsInGenerations : Counts → Certificate → Device → Machine → Type 0
EndsInGenerations counts cert device old =
    (es : List Event) (answers : List Answer) (new : Machine) (q c : ℕ) (o : Place)
    → Run cert device old es answers new → IsOpen (old.queues q) c o → counts.weight o * depth_of cert device q ≤ dispatches q es → is_pending c (new.queues q) ≡ false

-- while a cause is open whose opening is alone, nothing else is pending in its resource
abbrev pub HasNothingBeside : Certificate → Device → Machine → Type 0
HasNothingBeside cert device m = (q c : ℕ) (o : Place) → IsOpen (m.queues q) c o → IsAlone cert device q o → AllByRecursion (λ e. e.cause ≡ c) (m.queues q)

-- with any events between, such a cause has ended at the latest after so many dispatches of its resource as its opening counts
abbrev pub EndsAlone : Counts → Certificate → Device → Machine → Type 0
EndsAlone counts cert device old =
    (es : List Event) (answers : List Answer) (new : Machine) (q c : ℕ) (o : Place)
    → Run cert device old es answers new → IsOpen (old.queues q) c o → IsAlone cert device q o → counts.weight o ≤ dispatches q es → is_pending c (new.queues q) ≡ false
