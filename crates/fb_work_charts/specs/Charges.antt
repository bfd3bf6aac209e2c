-- The work that each demand of a leaf asks for, in the order of the demands that hold whatever algorithms cost.
-- This project's profile.
use Rattle.std.specs.Prelude.{ℕ, ◌+◌, max, List, [], ◌∷◌, ◌++◌, map, Option, None, Some, if◌then◌else◌}
use Rattle.std.specs.List.{sum_by, flat_map}
use Rattle.fb_prices.specs.declared.primitive.Primitive.TheVariants as p
use Rattle.fb_model.specs.Names.{Name, Place}
use Rattle.fb_model.specs.System.{Action, State, Transition, Block, Service}
use Rattle.fb_model.specs.Services.{service_events, can_emit}
use Rattle.fb_model.specs.Wires.{Kind, Charted, Serviced}
use Rattle.fb_model.specs.Charts.{actions_of, is_open, emission}
use Rattle.fb_model.specs.Certificates.{event_names}
use Rattle.fb_model_work.specs.Spending.{Prices, in_outputs, in_dispatch}
use Rattle.fb_model_work.specs.Work.{trials, of_crossing}

-- what is reckoned with at a leaf: the prices, what its algorithms cost with their calls, and where its outputs lead
pub record Tariff : Type 0 where
  pub prices : Prices
  pub algorithm : Option Name → ℕ
  pub targets : Name → List Place

module _ (tariff : Tariff) where
  abbrev pub action_work : Block → Action → ℕ
  action_work block a = tariff.prices p.Act + (tariff.algorithm a.algorithm + in_outputs tariff.prices (Charted block) tariff.targets (emission a.output))

  abbrev pub actions_work : Block → List Action → ℕ
  actions_work block actions = sum_by (action_work block) actions

  -- the charge of a state
  abbrev pub state_work : Block → State → ℕ
  state_work block x = actions_work block x.actions + trials tariff.prices block.transitions x.name None

  -- a transition without an event, with those up to it
  abbrev pub free_work : Block → List Transition → Transition → ℕ
  free_work block upto t = (actions_work block (actions_of block.states t.source) + trials tariff.prices upto t.source None) + of_crossing tariff.prices

  abbrev pub frees : Block → List Transition → List Transition → List ℕ
  frees block before [] = []
  frees block before (t ∷ ts) = elim t.event [ None ↦ free_work block (before ++ t ∷ []) t ∷ [] | Some e ↦ [] ] ++ frees block (before ++ t ∷ []) ts

  -- what a dispatch spends before a transition is tried
  abbrev pub event_work : Block → Name → ℕ
  event_work block e = in_dispatch tariff.prices (Charted block) e + tariff.prices p.Scan

  -- the state of these where most is spent when nothing is crossed
  abbrev pub most_trials : Block → Name → List State → ℕ
  most_trials block e [] = 0
  most_trials block e (x ∷ xs) = max (trials tariff.prices block.transitions x.name (Some e)) (most_trials block e xs)

  abbrev pub resting_work : Block → Name → ℕ
  resting_work block e = event_work block e + most_trials block e block.states

  -- a transition that an event crosses, with those up to it
  abbrev pub crossing_work : Block → Name → List Transition → Transition → ℕ
  crossing_work block e upto t = (event_work block e + trials tariff.prices upto t.source (Some e)) + of_crossing tariff.prices

  abbrev pub crossings : Block → Name → List Transition → List Transition → List ℕ
  crossings block e before [] = []
  crossings block e before (t ∷ ts) = (if is_open t.event (Some e) then crossing_work block e (before ++ t ∷ []) t ∷ [] else []) ++ crossings block e (before ++ t ∷ []) ts

  abbrev pub input_works : Block → Name → List ℕ
  input_works block e = resting_work block e ∷ crossings block e [] block.transitions

  abbrev pub chart_works : Block → List ℕ
  chart_works block = map (state_work block) block.states ++ (frees block [] block.transitions ++ flat_map (input_works block) (event_names block.event_inputs))

  -- a service: a weight that is at least 1, and what its dispatch costs
  abbrev pub service_work : Service → Name → ℕ
  service_work service e = in_dispatch tariff.prices (Serviced service) e + in_outputs tariff.prices (Serviced service) tariff.targets (can_emit service e)

  abbrev pub event_works : Service → Name → List ℕ
  event_works service e = 0 ∷ service_work service e ∷ []

  abbrev pub kind_works : Kind → List ℕ
  kind_works (Charted block) = chart_works block
  kind_works (Serviced service) = flat_map (event_works service) (service_events service)
