-- When numbers of states and events pay for the work of all that an event causes, and what then holds.
-- This project's profile.
use Rattle.std.specs.Prelude.{ℕ, ◌≡◌, ◌+◌, ◌≤◌, true, List, [], ◌∷◌, ◌++◌, Option, Some, None, if◌then◌else◌}
use Rattle.std.specs.List.{sum_by, AllByRecursion}
use Rattle.std.specs.Str.{bytes_eq}
use Rattle.fb_prices.specs.declared.primitive.Primitive.TheVariants as p
use Rattle.fb_model.specs.Names.{Name, Path, Place, at_place}
use Rattle.fb_model.specs.System.{Action, State, Transition, Block, Service, Device, System}
use Rattle.fb_model.specs.Services.{service_events, can_emit}
use Rattle.fb_model.specs.Wires.{Kind, Charted, Serviced, Leaf, leaves}
use Rattle.fb_model.specs.Charts.{actions_of, is_open, algorithm_of, emission}
use Rattle.fb_model.specs.Clear.{Spans}
use Rattle.fb_model.specs.Ranges.{Range, rows}
use Rattle.fb_model.specs.Certificates.{Certificate, event_names}
use Rattle.fb_model.specs.Devices.{Machine, Event, Answer, Run}
use Rattle.fb_model.specs.Headline.{IsOpen}
use Rattle.fb_model_turns.specs.Turns.{Counts, added, caused, outputs_of}
use Rattle.fb_model_work.specs.Spending.{Prices, in_trial, in_outputs, in_dispatch, in_course}
use Rattle.fb_model_work.specs.Most.{most_of}

-- what is reckoned with at a leaf: the prices, the rows of its variables, where its outputs lead, and its path
pub record Site : Type 0 where
  pub prices : Prices
  pub rows : Spans
  pub targets : Name → List Place
  pub path : Path

abbrev pub site_of : Prices → List Range → Leaf → Site
site_of prices ranges leaf = record { prices = prices; rows = rows ranges leaf.path leaf.kind; targets = leaf.targets; path = leaf.path }

-- ---- what a chart does

-- an action, with its algorithm and its output
abbrev pub of_action : Site → Block → Action → ℕ
of_action site block a = site.prices p.Act + (most_of site.prices site.rows (algorithm_of block a.algorithm) + in_outputs site.prices (Charted block) site.targets (emission a.output))

abbrev pub of_actions : Site → Block → List Action → ℕ
of_actions site block actions = sum_by (of_action site block) actions

-- those of these transitions that leave a state are tried, with an event or without
abbrev pub trials : Prices → List Transition → Name → Option Name → ℕ
trials prices [] s waiting = 0
trials prices (t ∷ ts) s waiting = if bytes_eq t.source s then in_trial prices waiting t + trials prices ts s waiting else trials prices ts s waiting

-- a transition is crossed, and those of the state that it leads to are looked through
abbrev pub of_crossing : Prices → ℕ
of_crossing prices = prices p.Cross + prices p.Scan

-- ---- when numbers pay

-- something holds of each transition, and of those up to it
abbrev pub AtEach : (List Transition → Transition → Type 0) → List Transition → List Transition → Type 0
AtEach P before [] = Unit {0}
AtEach P before (t ∷ ts) = P (before ++ t ∷ []) t × AtEach P (before ++ t ∷ []) ts

module _ (site : Site) (counts : Counts) (block : Block) where
  -- the charge of a state pays for its actions, for what they emit, and for trying all its transitions
  abbrev pub StateWork : State → Type 0
  StateWork x =
      (of_actions site block x.actions + trials site.prices block.transitions x.name None) + caused added counts site.targets (outputs_of x.actions) ≤ counts.charge (at_place site.path x.name)

  -- along a transition without an event, for trying those up to it, and for the charge of the state that it leads to
  abbrev pub FreeWork : List Transition → Transition → Type 0
  FreeWork upto t =
      t.event ≡ None
      → ((of_actions site block (actions_of block.states t.source) + trials site.prices upto t.source None) + of_crossing site.prices)
      + (caused added counts site.targets (outputs_of (actions_of block.states t.source)) + counts.charge (at_place site.path t.target)) ≤ counts.charge (at_place site.path t.source)

  module _ (e : Name) where
    -- what a dispatch spends before a transition is tried
    abbrev pub of_event : ℕ
    of_event = in_dispatch site.prices (Charted block) e + site.prices p.Scan

    -- the weight of an event input pays where no transition is crossed
    abbrev pub RestingWork : State → Type 0
    RestingWork x = of_event + trials site.prices block.transitions x.name (Some e) ≤ counts.weight (at_place site.path e)

    -- and where one is
    abbrev pub CrossingWork : List Transition → Transition → Type 0
    CrossingWork upto t =
        is_open t.event (Some e) ≡ true → ((of_event + trials site.prices upto t.source (Some e)) + of_crossing site.prices) + counts.charge (at_place site.path t.target) ≤ counts.weight (at_place site.path e)

    pub record InputWork : Type 0 where
      pub least : of_event ≤ counts.weight (at_place site.path e)
      pub rests : AllByRecursion RestingWork block.states
      pub crossings : AtEach CrossingWork [] block.transitions

  pub record ChartWork : Type 0 where
    pub states : AllByRecursion StateWork block.states
    pub free : AtEach FreeWork [] block.transitions
    pub weights : AllByRecursion InputWork (event_names block.event_inputs)

-- an event input or arrival of a service pays for its dispatch, and for all that it can emit
abbrev pub ServiceWork : Site → Counts → Service → Name → Type 0
ServiceWork site counts service e =
    (in_dispatch site.prices (Serviced service) e + in_outputs site.prices (Serviced service) site.targets (can_emit service e)) + caused added counts site.targets (can_emit service e) ≤ counts.weight (at_place site.path e)

abbrev pub KindWork : Site → Counts → Kind → Type 0
KindWork site counts (Charted block) = ChartWork site counts block
KindWork site counts (Serviced service) = AllByRecursion (ServiceWork site counts service) (service_events service)

-- these numbers pay for all of these leaves
abbrev pub WorkFits : Prices → List Range → Counts → List Leaf → Type 0
WorkFits prices ranges counts all = AllByRecursion (λ leaf. KindWork (site_of prices ranges leaf) counts leaf.kind) all

-- and for each device of a system
abbrev pub AllWorkFits : Prices → List Range → Counts → System → Type 0
AllWorkFits prices ranges counts system = AllByRecursion (λ (d : Device). WorkFits prices ranges counts (leaves d)) system.devices

-- ---- what then holds

-- with any events between, the dispatches of an open cause spend at most what its opening weighs
abbrev pub BoundsWork : Prices → Counts → Certificate → Device → Machine → Type 0
BoundsWork prices counts cert device old =
    (es : List Event) (answers : List Answer) (new : Machine) (q c : ℕ) (o : Place) (r : Run cert device old es answers new) → IsOpen (old.queues q) c o → in_course prices cert device c old es answers new r ≤ counts.weight o
