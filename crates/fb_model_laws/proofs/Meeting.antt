-- A column pays exactly where its numbers meet all demands.
use Rattle.std.proofs.Common.{ℕ, ◌≡◌, ◌+◌, ◌*◌, ◌≤◌, ◌↔◌, Bool, true, false, List, [], ◌∷◌, ◌++◌, map, Option, Some, None, refl, ◌∙◌, sym, subst, arith, if◌then◌else◌}
use Rattle.std.specs.List.{sum_by, flat_map, AllByRecursion}
use Rattle.std.specs.Str.{bytes_eq}
use Rattle.std.proofs.lemmas.List.Sums.{sum_by-cons, sum_by-append}
use Rattle.fb_model.specs.Names.{Name, Path, Place, at_place}
use Rattle.fb_model.specs.Clear.{Spans}
use Rattle.fb_model.specs.System.{Action, State, Transition, Block, Service}
use Rattle.fb_model.specs.System as system
use Rattle.fb_model.specs.Services.{service_events, can_emit, init}
use Rattle.fb_model.specs.Wires.{Kind, Charted, Serviced, Leaf}
use Rattle.fb_model.specs.Charts.{actions_of, is_open, emission}
use Rattle.fb_model.specs.Ranges.{Range, rows}
use Rattle.fb_model.specs.Certificates.{Column, reached, action_load, own, StateFits, FreeFits, CrossingFits, InputFits, ChartFits, EventFits, sending_of, KindWeighs, ColumnFits, event_names}
use Rattle.fb_model.specs.Demands.{Node, state, event, channel, IsMet, Ground, sent, linked, work, emitted, of_state, of_free, of_crossing, of_input, of_chart, of_dispatch, of_kind}
use Rattle.fb_model.specs.Columns.{number_of, price_of, ground_of, demands, MeetAll}
use Rattle.fb_model_laws.proofs.Lists.{sum_by-map, all_append, all_flat, all_map}

-- a column in which datagrams ask for what they cost
module _ (col : Column) (datagram : ℕ → List Node) (means : (c : ℕ) → sum_by (number_of col) (datagram c) ≡ col.sending c) where
  -- the ground of a chart in a column
  abbrev ground : Spans → (Name → List Place) → Path → Block → Ground
  ground spans targets path block = record { unit = col.unit; price = price_of col.unit spans (Charted block); own = at_place path; targets = targets; datagram = datagram }

  own_parts : (spans : Spans) (targets : Name → List Place) (path : Path) (block : Block) (actions : List Action)
      → own col spans targets block actions ≡ work (ground spans targets path block) actions + sum_by (number_of col) (emitted (ground spans targets path block) actions)
  own_parts spans targets path block [] = refl
  own_parts spans targets path block (a ∷ as') =
      let g = ground spans targets path block in
      let here = sum_by-cons (action_load col spans targets block) a as' in
      let price = sum_by-cons (λ (b : Action). g.price b.algorithm) a as' in
      let out = sum_by-append (number_of col) (map event (reached targets (emission a.output))) (emitted g as') in
      let named = sum_by-map (number_of col) event (reached targets (emission a.output)) in
      let rest = own_parts spans targets path block as' in
      omega (arith, here, price, out, named, rest)

  state_holds : (spans : Spans) (targets : Name → List Place) (path : Path) (block : Block) (x : State)
      → StateFits col spans targets path block x ↔ IsMet (number_of col) (of_state (ground spans targets path block) x)
  state_holds spans targets path block x =
      let e = own_parts spans targets path block x.actions in
      (λ h. omega (arith, h, e), λ h. omega (arith, h, e))

  free_cases : (spans : Spans) (targets : Name → List Place) (path : Path) (block : Block) (t : Transition) (e : Option Name)
      → (e ≡ None → own col spans targets block (actions_of block.states t.source) + col.unit + col.charge (at_place path t.target) ≤ col.charge (at_place path t.source))
      ↔ AllByRecursion (IsMet (number_of col)) (of_free (ground spans targets path block) block (record t { event = e }))
  free_cases spans targets path block t None =
      let g = ground spans targets path block in
      let actions = actions_of block.states t.source in
      let parts = own_parts spans targets path block actions in
      let out = sum_by-append (number_of col) (emitted g actions) (state (at_place path t.target) ∷ []) in
      let last = sum_by-cons (number_of col) (state (at_place path t.target)) [] in
      (λ h. (omega (arith, h refl, parts, out, last), tt), λ h n. omega (arith, h.0, parts, out, last))
  free_cases spans targets path block t (Some e) = (λ h. tt, λ h n. absurd (let z : ⊥ = cc in z))

  free_holds : (spans : Spans) (targets : Name → List Place) (path : Path) (block : Block) (t : Transition)
      → FreeFits col spans targets path block t ↔ AllByRecursion (IsMet (number_of col)) (of_free (ground spans targets path block) block t)
  free_holds spans targets path block t = free_cases spans targets path block t t.event

  crossing_cases : (g : Ground) (e : Name) (t : Transition) (b : Bool) → g.unit ≡ col.unit
      → (b ≡ true → 2 * col.unit + col.charge (g.own t.target) ≤ col.weight (g.own e))
      ↔ AllByRecursion (IsMet (number_of col)) (if b then record { node = event (g.own e); constant = 2 * g.unit; terms = state (g.own t.target) ∷ [] } ∷ [] else [])
  crossing_cases g e t true u = let last = sum_by-cons (number_of col) (state (g.own t.target)) [] in (λ h. (omega (arith, h refl, last, u), tt), λ h n. omega (arith, h.0, last, u))
  crossing_cases g e t false u = (λ h. tt, λ h n. absurd (let z : ⊥ = cc in z))

  input_holds : (spans : Spans) (targets : Name → List Place) (path : Path) (block : Block) (e : Name)
      → InputFits col path block e ↔ AllByRecursion (IsMet (number_of col)) (of_input (ground spans targets path block) block e)
  input_holds spans targets path block e =
      let g = ground spans targets path block in
      let r = all_flat (IsMet (number_of col)) (CrossingFits col path e) (of_crossing g e) (λ t. crossing_cases g e t (is_open t.event (Some e)) refl) block.transitions in
      (λ h. (omega (arith, h.least), r.0 h.crossings), λ h. record { least = omega (arith, h.0); crossings = r.1 h.1 })

  chart_holds : (spans : Spans) (targets : Name → List Place) (path : Path) (block : Block)
      → ChartFits col spans targets path block ↔ AllByRecursion (IsMet (number_of col)) (of_chart (ground spans targets path block) block)
  chart_holds spans targets path block =
      let P = IsMet (number_of col) in
      let g = ground spans targets path block in
      let xs = map (of_state g) block.states in
      let ys = flat_map (of_free g block) block.transitions in
      let zs = flat_map (of_input g block) (event_names block.event_inputs) in
      let s = all_map P (StateFits col spans targets path block) (of_state g) (state_holds spans targets path block) block.states in
      let f = all_flat P (FreeFits col spans targets path block) (of_free g block) (free_holds spans targets path block) block.transitions in
      let w = all_flat P (InputFits col path block) (of_input g block) (input_holds spans targets path block) (event_names block.event_inputs) in
      let inner = all_append P ys zs in
      let outer = all_append P xs (ys ++ zs) in
      (λ h. outer.0 (s.0 h.states, inner.0 (f.0 h.free, w.0 h.weights)), λ h. let o = outer.1 h in let i = inner.1 o.1 in record { states = s.1 o.0; free = f.1 i.0; weights = w.1 i.1 })

  sent_is : (g : Ground) → ((c : ℕ) → sum_by (number_of col) (g.datagram c) ≡ col.sending c) → (service : Service) (e : Name) → sum_by (number_of col) (sent g service e) ≡ sending_of col service e
  sent_is g m (system.Publish c types) e = by (bytes_eq e init) where
    by : (b : Bool) → sum_by (number_of col) (if b then [] else g.datagram c.number) ≡ (if b then 0 else col.sending c.number)
    by true = refl
    by false = m c.number
  sent_is g m (system.Input number types) e = refl
  sent_is g m (system.Output number types) e = refl
  sent_is g m (system.Subscribe c types) e = refl
  sent_is g m system.Delay e = refl
  sent_is g m system.Cycle e = refl
  sent_is g m system.Restart e = refl

  dispatch_holds : (spans : Spans) (targets : Name → List Place) (path : Path) (service : Service) → (e : Name)
      → EventFits col targets path service e ↔ AllByRecursion (IsMet (number_of col)) (of_dispatch (record { unit = col.unit; price = price_of col.unit spans (Serviced service); own = at_place path; targets = targets; datagram = datagram }) service e)
  dispatch_holds spans targets path service e =
      let g : Ground = record { unit = col.unit; price = price_of col.unit spans (Serviced service); own = at_place path; targets = targets; datagram = datagram } in
      let named = sum_by-map (number_of col) event (reached targets (can_emit service e)) in
      let out = sum_by-append (number_of col) (sent g service e) (map event (reached targets (can_emit service e))) in
      let datagrams = sent_is g means service e in
      (λ h. (omega (arith, h.least), (omega (arith, h.emissions, named, out, datagrams), tt)), λ h. record { least = omega (arith, h.0); emissions = omega (arith, h.1.0, named, out, datagrams) })

  kind_holds : (spans : Spans) (targets : Name → List Place) (path : Path) (kind : Kind)
      → KindWeighs col spans targets path kind ↔ AllByRecursion (IsMet (number_of col)) (of_kind (record { unit = col.unit; price = price_of col.unit spans kind; own = at_place path; targets = targets; datagram = datagram }) kind)
  kind_holds spans targets path (Charted block) = chart_holds spans targets path block
  kind_holds spans targets path (Serviced service) =
      all_flat (IsMet (number_of col)) (EventFits col targets path service) (of_dispatch (record { unit = col.unit; price = price_of col.unit spans (Serviced service); own = at_place path; targets = targets; datagram = datagram }) service) (dispatch_holds spans targets path service) (service_events service)

  pub leaves_hold : (g : Leaf → Ground) (ranges : List Range) → ((leaf : Leaf) → g leaf ≡ record { unit = col.unit; price = price_of col.unit (rows ranges leaf.path leaf.kind) leaf.kind; own = at_place leaf.path; targets = leaf.targets; datagram = datagram }) → (all : List Leaf)
      → ColumnFits col ranges all ↔ AllByRecursion (IsMet (number_of col)) (flat_map (λ (leaf : Leaf). of_kind (g leaf) leaf.kind) all)
  leaves_hold g ranges is all =
      all_flat (IsMet (number_of col)) (λ (leaf : Leaf). KindWeighs col (rows ranges leaf.path leaf.kind) leaf.targets leaf.path leaf.kind) (λ (leaf : Leaf). of_kind (g leaf) leaf.kind)
      (λ leaf. subst (λ (h : Ground). KindWeighs col (rows ranges leaf.path leaf.kind) leaf.targets leaf.path leaf.kind ↔ AllByRecursion (IsMet (number_of col)) (of_kind h leaf.kind)) (sym (is leaf)) (kind_holds (rows ranges leaf.path leaf.kind) leaf.targets leaf.path leaf.kind)) all

-- a column without datagrams
pub column_meets : (col : Column) (ranges : List Range) (all : List Leaf) → ((c : ℕ) → col.sending c ≡ 0) → ColumnFits col ranges all ↔ MeetAll (number_of col) (demands col.unit ranges all)
column_meets col ranges all z = leaves_hold col (λ c. []) (λ c. sym (z c)) (ground_of col.unit ranges) ranges (λ leaf. refl) all

-- the leaves of a column over the network
pub network_meets : (col : Column) (ranges : List Range) (all : List Leaf) → ColumnFits col ranges all ↔ MeetAll (number_of col) (flat_map (λ (leaf : Leaf). of_kind (linked (ground_of col.unit ranges leaf)) leaf.kind) all)
network_meets col ranges all = leaves_hold col (λ c. channel c ∷ []) (λ c. sum_by-cons (number_of col) (channel c) [] ∙ omega arith) (λ leaf. linked (ground_of col.unit ranges leaf)) ranges (λ leaf. refl) all
