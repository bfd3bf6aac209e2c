-- Numbers that meet the demands of a system, each event with its own dispatch, are counts that fit.
use Rattle.std.proofs.Common.{◌≡◌, ℕ, ◌+◌, ◌≤◌, Bool, true, false, cond, List, [], ◌∷◌, ◌++◌, map, Option, Some, None, refl, sym, ◌∙◌, ap, subst, arith}
use Rattle.std.specs.List.{AllByRecursion, flat_map}
use Rattle.std.specs.Str.{bytes_eq}
use Rattle.fb_model.specs.Names.{Name, Place, at_place}
use Rattle.fb_model.specs.System.{Action, State, Transition, Block, Service, Device, Input, Output, Publish, Subscribe, Delay, Cycle, Restart}
use Rattle.fb_model.specs.Services.{service_events, can_emit, init}
use Rattle.fb_model.specs.Wires.{Kind, Charted, Serviced, Leaf, leaves}
use Rattle.fb_model.specs.Charts.{actions_of, is_open, emission}
use Rattle.fb_model.specs.Certificates.{reached, event_names, all_leaves}
use Rattle.fb_model.proofs.Lists.{all_append, all_weaker}
use Rattle.fb_model.proofs.Placed.{all_left, all_right}
use Rattle.fb_model.specs.Demands.{Node, state, event, channel, Demand, Ground, emitted, of_state, of_free, free_demand, of_crossing, crossing_demand, of_input, of_chart, sent, of_dispatch, of_kind, bare, bare_demands}
use Rattle.fb_model_turns.specs.Turns.{Counts, Join, joined, caused, outputs_of, StateCounts, FreeCounts, CrossingCounts, InputCounts, ChartCounts, ServiceCounts, KindCounts, DispatchesFit}
use Rattle.fb_model_turns.proofs.Joins.{IsJoin, joined-append, caused-append}
use Rattle.fb_turns.specs.Counting.{counts_by}

-- ---- lists

pub all_flat : {X Y : Type 0} (P : Y → Type 0) (f : X → List Y) (xs : List X) → AllByRecursion P (flat_map f xs) → AllByRecursion (λ x. AllByRecursion P (f x)) xs
all_flat P f [] h = tt
all_flat P f (x ∷ xs) h = (all_left P (f x) (flat_map f xs) h, all_flat P f xs (all_right P (f x) (flat_map f xs) h))

pub all_mapped : {X Y : Type 0} (P : Y → Type 0) (f : X → Y) (xs : List X) → AllByRecursion P (map f xs) → AllByRecursion (λ x. P (f x)) xs
all_mapped P f [] h = tt
all_mapped P f (x ∷ xs) h = (h.0, all_mapped P f xs h.1)

all_to_flat : {X Y : Type 0} (P : Y → Type 0) (f : X → List Y) (xs : List X) → AllByRecursion (λ x. AllByRecursion P (f x)) xs → AllByRecursion P (flat_map f xs)
all_to_flat P f [] h = tt
all_to_flat P f (x ∷ xs) h = all_append P (f x) (flat_map f xs) h.0 (all_to_flat P f xs h.1)

all_to_map : {X Y : Type 0} (P : Y → Type 0) (f : X → Y) (xs : List X) → AllByRecursion (λ x. P (f x)) xs → AllByRecursion P (map f xs)
all_to_map P f [] h = tt
all_to_map P f (x ∷ xs) h = (h.0, all_to_map P f xs h.1)

joined-map : {X Y : Type 0} (join : Join) (number : Y → ℕ) (f : X → Y) (xs : List X) → joined join number (map f xs) ≡ joined join (λ x. number (f x)) xs
joined-map join number f [] = refl
joined-map join number f (x ∷ xs) = ap (join (number (f x))) (joined-map join number f xs)

neither : (b : Bool) (xs : List Node) → xs ≡ [] → cond b [] xs ≡ []
neither true xs h = refl
neither false xs h = h

-- ---- demands of nodes

-- an event counts its own dispatch
abbrev pub own_node : Node → ℕ
own_node (state p) = 0
own_node (event p) = 1
own_node (channel c) = 0

module _ (join : Join) (is : IsJoin join) (x : Node → ℕ) where
  -- the number of a node counts its own dispatch, and what follows
  abbrev pub IsCounted : Demand → Type 0
  IsCounted d = own_node d.node + joined join x d.terms ≤ x d.node

  module _ (targets : Name → List Place) where
    reached_counts : (outs : List Name) → joined join x (map event (reached targets outs)) ≡ caused join (counts_by x) targets outs
    reached_counts outs = joined-map join x event (reached targets outs)

    -- what actions emit counts alike as nodes and as places
    emitted_counts : (g : Ground) → g.targets ≡ targets → (actions : List Action) → joined join x (emitted g actions) ≡ caused join (counts_by x) targets (outputs_of actions)
    emitted_counts g same [] = refl
    emitted_counts g same (a ∷ rest) =
        joined-append join is x (map event (reached g.targets (emission a.output))) (emitted g rest)
        ∙ ap (λ n. join n (joined join x (emitted g rest))) (ap (λ ts. joined join x (map event (reached ts (emission a.output)))) same ∙ reached_counts (emission a.output))
        ∙ ap (join (caused join (counts_by x) targets (emission a.output))) (emitted_counts g same rest)
        ∙ sym (caused-append join is (counts_by x) targets (emission a.output) (outputs_of rest))

  -- a node alone
  one_counts : (v : Node) → joined join x (v ∷ []) ≡ x v
  one_counts v = is.alone (x v)

  module _ (leaf : Leaf) where
    abbrev counts : Counts
    counts = counts_by x

    state_counts : (s : State) → IsCounted (of_state (bare leaf) s) → StateCounts join counts leaf.targets leaf.path s
    state_counts s h = omega (arith, h, emitted_counts leaf.targets (bare leaf) refl s.actions)

    free_apart : (acts : List Action) (target : Name) → joined join x (emitted (bare leaf) acts ++ state (at_place leaf.path target) ∷ []) ≡ join (caused join counts leaf.targets (outputs_of acts)) (x (state (at_place leaf.path target)))
    free_apart acts target =
        joined-append join is x (emitted (bare leaf) acts) (state (at_place leaf.path target) ∷ [])
        ∙ ap (λ n. join n (joined join x (state (at_place leaf.path target) ∷ []))) (emitted_counts leaf.targets (bare leaf) refl acts)
        ∙ ap (join (caused join counts leaf.targets (outputs_of acts))) (one_counts (state (at_place leaf.path target)))

    free_counts : (block : Block) (t : Transition) → AllByRecursion IsCounted (of_free (bare leaf) block t) → FreeCounts join counts leaf.targets leaf.path block t
    free_counts block t h none =
        let g = bare leaf in
        let acts = actions_of block.states t.source in
        let d : IsCounted (free_demand g acts t.source t.target) =
        (subst (λ o. AllByRecursion IsCounted (elim o [ None ↦ free_demand g acts t.source t.target ∷ [] | Some e ↦ [] ])) none h).0 in
        omega (arith, d, free_apart acts t.target)

    crossing_counts : (e : Name) (t : Transition) → AllByRecursion IsCounted (of_crossing (bare leaf) e t) → CrossingCounts counts leaf.path e t
    crossing_counts e t h opens =
        let d : IsCounted (crossing_demand (bare leaf) e t.target) = (subst (λ b. AllByRecursion IsCounted (cond b (crossing_demand (bare leaf) e t.target ∷ []) [])) opens h).0 in
        omega (arith, d, one_counts (state (at_place leaf.path t.target)))

    input_counts : (block : Block) (e : Name) → AllByRecursion IsCounted (of_input (bare leaf) block e) → InputCounts counts leaf.path block e
    input_counts block e h =
        record {
          least = omega (arith, h.0);
          crossings = all_weaker (λ t. AllByRecursion IsCounted (of_crossing (bare leaf) e t)) (CrossingCounts counts leaf.path e) block.transitions (crossing_counts e) (all_flat IsCounted (of_crossing (bare leaf) e) block.transitions h.1);
        }

    chart_counts : (block : Block) → AllByRecursion IsCounted (of_chart (bare leaf) block) → ChartCounts join counts leaf.targets leaf.path block
    chart_counts block h =
        let g = bare leaf in
        let states_of = map (of_state g) block.states in
        let free_of = flat_map (of_free g block) block.transitions in
        let inputs_of = flat_map (of_input g block) (event_names block.event_inputs) in
        let rest = all_right IsCounted states_of (free_of ++ inputs_of) h in
        record {
          states = all_weaker (λ s. IsCounted (of_state g s)) (StateCounts join counts leaf.targets leaf.path) block.states state_counts (all_mapped IsCounted (of_state g) block.states (all_left IsCounted states_of (free_of ++ inputs_of) h));
          free = all_weaker (λ t. AllByRecursion IsCounted (of_free g block t)) (FreeCounts join counts leaf.targets leaf.path block) block.transitions (free_counts block) (all_flat IsCounted (of_free g block) block.transitions (all_left IsCounted free_of inputs_of rest));
          weights = all_weaker (λ e. AllByRecursion IsCounted (of_input g block e)) (InputCounts counts leaf.path block) (event_names block.event_inputs) (input_counts block)
              (all_flat IsCounted (of_input g block) (event_names block.event_inputs) (all_right IsCounted free_of inputs_of rest));
        }

    -- datagrams do not count
    none_sent : (service : Service) (e : Name) → sent (bare leaf) service e ≡ []
    none_sent (Input n types) e = refl
    none_sent (Output n types) e = refl
    none_sent (Publish c types) e = neither (bytes_eq e init) [] refl
    none_sent (Subscribe c types) e = refl
    none_sent Delay e = refl
    none_sent Cycle e = refl
    none_sent Restart e = refl

    sent_counts : (service : Service) (e : Name) → joined join x (sent (bare leaf) service e ++ map event (reached leaf.targets (can_emit service e))) ≡ caused join counts leaf.targets (can_emit service e)
    sent_counts service e = ap (λ d. joined join x (d ++ map event (reached leaf.targets (can_emit service e)))) (none_sent service e) ∙ reached_counts leaf.targets (can_emit service e)

    service_counts : (service : Service) (e : Name) → AllByRecursion IsCounted (of_dispatch (bare leaf) service e) → ServiceCounts join counts leaf.targets leaf.path service e
    service_counts service e h =
        omega (arith, h.1.0, sent_counts service e)

    kind_counts : (kind : Kind) → AllByRecursion IsCounted (of_kind (bare leaf) kind) → KindCounts join counts leaf.targets leaf.path kind
    kind_counts (Charted block) h = chart_counts block h
    kind_counts (Serviced service) h =
        all_weaker (λ e. AllByRecursion IsCounted (of_dispatch (bare leaf) service e)) (ServiceCounts join counts leaf.targets leaf.path service) (service_events service) (service_counts service)
        (all_flat IsCounted (of_dispatch (bare leaf) service) (service_events service) h)

    -- and counts that fit are such numbers

    state_met : (s : State) → StateCounts join counts leaf.targets leaf.path s → IsCounted (of_state (bare leaf) s)
    state_met s h = omega (arith, h, emitted_counts leaf.targets (bare leaf) refl s.actions)

    free_met : (block : Block) (t : Transition) → FreeCounts join counts leaf.targets leaf.path block t → AllByRecursion IsCounted (of_free (bare leaf) block t)
    free_met block t h = by t.event h where
      by : (o : Option Name) → (o ≡ None → join (caused join counts leaf.targets (outputs_of (actions_of block.states t.source))) (x (state (at_place leaf.path t.target))) ≤ x (state (at_place leaf.path t.source)))
          → AllByRecursion IsCounted (elim o [ None ↦ free_demand (bare leaf) (actions_of block.states t.source) t.source t.target ∷ [] | Some e ↦ [] ])
      by None k = (omega (arith, k refl, free_apart (actions_of block.states t.source) t.target), tt)
      by (Some e) k = tt

    crossing_met : (e : Name) (t : Transition) → CrossingCounts counts leaf.path e t → AllByRecursion IsCounted (of_crossing (bare leaf) e t)
    crossing_met e t h = by (is_open t.event (Some e)) h where
      by : (b : Bool) → (b ≡ true → 1 + x (state (at_place leaf.path t.target)) ≤ x (event (at_place leaf.path e))) → AllByRecursion IsCounted (cond b (crossing_demand (bare leaf) e t.target ∷ []) [])
      by true k = (omega (arith, k refl, one_counts (state (at_place leaf.path t.target))), tt)
      by false k = tt

    input_met : (block : Block) (e : Name) → InputCounts counts leaf.path block e → AllByRecursion IsCounted (of_input (bare leaf) block e)
    input_met block e h = (
      omega (arith, h.least),
      all_to_flat IsCounted (of_crossing (bare leaf) e) block.transitions (all_weaker (CrossingCounts counts leaf.path e) (λ t. AllByRecursion IsCounted (of_crossing (bare leaf) e t)) block.transitions (crossing_met e) h.crossings),
    )

    chart_met : (block : Block) → ChartCounts join counts leaf.targets leaf.path block → AllByRecursion IsCounted (of_chart (bare leaf) block)
    chart_met block h =
        let g = bare leaf in
        let states_of = map (of_state g) block.states in
        let free_of = flat_map (of_free g block) block.transitions in
        let inputs_of = flat_map (of_input g block) (event_names block.event_inputs) in
        all_append IsCounted states_of (free_of ++ inputs_of)
        (all_to_map IsCounted (of_state g) block.states (all_weaker (StateCounts join counts leaf.targets leaf.path) (λ s. IsCounted (of_state g s)) block.states state_met h.states))
        (all_append IsCounted free_of inputs_of
        (all_to_flat IsCounted (of_free g block) block.transitions (all_weaker (FreeCounts join counts leaf.targets leaf.path block) (λ t. AllByRecursion IsCounted (of_free g block t)) block.transitions (free_met block) h.free))
        (all_to_flat IsCounted (of_input g block) (event_names block.event_inputs)
        (all_weaker (InputCounts counts leaf.path block) (λ e. AllByRecursion IsCounted (of_input g block e)) (event_names block.event_inputs) (input_met block) h.weights)))

    service_met : (service : Service) (e : Name) → ServiceCounts join counts leaf.targets leaf.path service e → AllByRecursion IsCounted (of_dispatch (bare leaf) service e)
    service_met service e h = (omega (arith, h), (omega (arith, h, sent_counts service e), tt))

    kind_met : (kind : Kind) → KindCounts join counts leaf.targets leaf.path kind → AllByRecursion IsCounted (of_kind (bare leaf) kind)
    kind_met (Charted block) h = chart_met block h
    kind_met (Serviced service) h =
        all_to_flat IsCounted (of_dispatch (bare leaf) service) (service_events service)
        (all_weaker (ServiceCounts join counts leaf.targets leaf.path service) (λ e. AllByRecursion IsCounted (of_dispatch (bare leaf) service e)) (service_events service) (service_met service) h)

  pub leaves_count : (all : List Leaf) → AllByRecursion IsCounted (bare_demands all) → DispatchesFit join (counts_by x) all
  leaves_count all h =
      all_weaker (λ leaf. AllByRecursion IsCounted (of_kind (bare leaf) leaf.kind)) (λ leaf. KindCounts join (counts_by x) leaf.targets leaf.path leaf.kind) all (λ leaf k. kind_counts leaf leaf.kind k)
      (all_flat IsCounted (λ leaf. of_kind (bare leaf) leaf.kind) all h)

  pub devices_fit : (ds : List Device) → DispatchesFit join (counts_by x) (all_leaves ds) → AllByRecursion (λ (d : Device). DispatchesFit join (counts_by x) (leaves d)) ds
  devices_fit [] h = tt
  devices_fit (d ∷ ds) h =
      let K = λ (leaf : Leaf). KindCounts join (counts_by x) leaf.targets leaf.path leaf.kind in
      (all_left K (leaves d) (all_leaves ds) h, devices_fit ds (all_right K (leaves d) (all_leaves ds) h))

  leaves_met : (all : List Leaf) → DispatchesFit join (counts_by x) all → AllByRecursion IsCounted (bare_demands all)
  leaves_met all h =
      all_to_flat IsCounted (λ leaf. of_kind (bare leaf) leaf.kind) all
      (all_weaker (λ leaf. KindCounts join (counts_by x) leaf.targets leaf.path leaf.kind) (λ leaf. AllByRecursion IsCounted (of_kind (bare leaf) leaf.kind)) all (λ leaf k. kind_met leaf leaf.kind k) h)

  all_of_devices : (ds : List Device) → AllByRecursion (λ (d : Device). DispatchesFit join (counts_by x) (leaves d)) ds → DispatchesFit join (counts_by x) (all_leaves ds)
  all_of_devices [] h = tt
  all_of_devices (d ∷ ds) h = all_append (λ (leaf : Leaf). KindCounts join (counts_by x) leaf.targets leaf.path leaf.kind) (leaves d) (all_leaves ds) h.0 (all_of_devices ds h.1)

  pub devices_met : (ds : List Device) → AllByRecursion (λ (d : Device). DispatchesFit join (counts_by x) (leaves d)) ds → AllByRecursion IsCounted (bare_demands (all_leaves ds))
  devices_met ds h = leaves_met (all_leaves ds) (all_of_devices ds h)
