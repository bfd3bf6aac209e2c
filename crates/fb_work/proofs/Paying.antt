-- Numbers that meet the demands of work pay for it, and numbers that pay for it meet them.
use Rattle.std.proofs.Common.{◌≡◌, ◌↔◌, ℕ, ◌+◌, ◌≤◌, Bool, true, false, cond, List, [], ◌∷◌, ◌++◌, map, max, length, Option, Some, None, refl, sym, ap, subst, arith}
use Rattle.std.specs.List.{AllByRecursion, flat_map, sum_by}
use Rattle.std.proofs.lemmas.List.{length-append}
use Rattle.fb_model.specs.Names.{Name, Path, Place, at_place}
use Rattle.fb_model.specs.System.{State, Transition, Block, Service, Device, System}
use Rattle.fb_model.specs.Services.{service_events}
use Rattle.fb_model.specs.Wires.{Kind, Charted, Serviced, Leaf, leaves}
use Rattle.fb_model.specs.Charts.{actions_of, is_open}
use Rattle.fb_model.specs.Clear.{Spans}
use Rattle.fb_model.specs.Ranges.{Range, rows}
use Rattle.fb_model.specs.Certificates.{event_names, all_leaves}
use Rattle.fb_model.specs.Columns.{MeetAll}
use Rattle.fb_model.specs.Demands.{Node, state, event, Demand, IsMet, Ground, of_state, of_free, free_demand, of_crossing, crossing_demand, of_input, of_chart, of_dispatch, of_kind, bare}
use Rattle.fb_model.proofs.Lists.{all_append}
use Rattle.fb_model.proofs.Placed.{all_left, all_right}
use Rattle.fb_model_turns.specs.Turns.{Counts, added, caused, outputs_of}
use Rattle.fb_model_work.specs.Spending.{Prices}
use Rattle.fb_model_work.specs.Work.{Site, site_of, trials, AtEach, StateWork, FreeWork, RestingWork, CrossingWork, InputWork, ChartWork, ServiceWork, KindWork, WorkFits, AllWorkFits}
use Rattle.fb_turns.specs.Counting.{counts_by}
use Rattle.fb_work_charts.specs.Charges.{Tariff, state_work, free_work, frees, event_work, most_trials, crossing_work, crossings, input_works, chart_works, service_work, event_works, kind_works}
use Rattle.fb_work.specs.Algorithms.{cost_named}
use Rattle.fb_work.specs.Demands.{with_works, leaf_works, work_demands}
use Rattle.fb_work.proofs.Emitted.{emitted_sum, followed_sum, one_sum, sent_sum}

-- ---- lists

both : {A B C D : Type 0} → A ↔ B → C ↔ D → (A × C) ↔ (B × D)
both f g = (λ h. (f.0 h.0, g.0 h.1), λ h. (f.1 h.0, g.1 h.1))

-- works and demands that are as many stand side by side
works_append : (ns ms : List ℕ) (ds es : List Demand) → length ns ≡ length ds → with_works (ns ++ ms) (ds ++ es) ≡ with_works ns ds ++ with_works ms es
works_append [] ms [] es h = refl
works_append [] ms (d ∷ ds) es h = absurd (omega (arith, h))
works_append (n ∷ ns) ms [] es h = absurd (omega (arith, h))
works_append (n ∷ ns) ms (d ∷ ds) es h = ap (λ ws. record { node = d.node; constant = n; terms = d.terms } ∷ ws) (works_append ns ms ds es (omega (arith, h)))

map_long : {X : Type 0} (f : X → ℕ) (g : X → Demand) (ys : List X) → length (map f ys) ≡ length (map g ys)
map_long f g [] = refl
map_long f g (y ∷ ys) = omega (arith, map_long f g ys)

flat_long : {X : Type 0} (f : X → List ℕ) (g : X → List Demand) (ys : List X) → ((y : X) → length (f y) ≡ length (g y))
    → length (flat_map f ys) ≡ length (flat_map g ys)
flat_long f g [] h = refl
flat_long f g (y ∷ ys) h = omega (arith, length-append (f y) (flat_map f ys), length-append (g y) (flat_map g ys), h y, flat_long f g ys h)

both_long : (ns ms : List ℕ) (ds es : List Demand) → length ns ≡ length ds → length ms ≡ length es → length (ns ++ ms) ≡ length (ds ++ es)
both_long ns ms ds es h k = omega (arith, length-append ns ms, length-append ds es, h, k)

-- equal sums are paid alike
same_paid : (n a b m : ℕ) → a ≡ b → (n + a ≤ m) ↔ (n + b ≤ m)
same_paid n a b m e = (λ h. omega (arith, h, e), λ h. omega (arith, h, e))

module _ (x : Node → ℕ) where
  -- the numbers meet these demands, with these works
  abbrev pub Pay : List ℕ → List Demand → Type 0
  Pay ns ds = MeetAll x (with_works ns ds)

  parts_pay : {A B : Type 0} (ns ms : List ℕ) (ds es : List Demand) → length ns ≡ length ds → Pay ns ds ↔ A → Pay ms es ↔ B
      → Pay (ns ++ ms) (ds ++ es) ↔ (A × B)
  parts_pay ns ms ds es e f g = (
    λ h. let k : MeetAll x (with_works ns ds ++ with_works ms es) = subst (MeetAll x) (works_append ns ms ds es e) h in
        (f.0 (all_left (IsMet x) (with_works ns ds) (with_works ms es) k), g.0 (all_right (IsMet x) (with_works ns ds) (with_works ms es) k)),
    λ h. subst (MeetAll x) (sym (works_append ns ms ds es e)) (all_append (IsMet x) (with_works ns ds) (with_works ms es) (f.1 h.0) (g.1 h.1)),
  )

  map_pays : {X : Type 0} (f : X → ℕ) (g : X → Demand) (P : X → Type 0) → ((y : X) → (f y + sum_by x (g y).terms ≤ x (g y).node) ↔ P y)
      → (ys : List X) → Pay (map f ys) (map g ys) ↔ AllByRecursion P ys
  map_pays f g P h [] = (λ k. tt, λ k. tt)
  map_pays f g P h (y ∷ ys) = both (h y) (map_pays f g P h ys)

  flat_pays : {X : Type 0} (f : X → List ℕ) (g : X → List Demand) (P : X → Type 0) → ((y : X) → length (f y) ≡ length (g y))
      → ((y : X) → Pay (f y) (g y) ↔ P y) → (ys : List X) → Pay (flat_map f ys) (flat_map g ys) ↔ AllByRecursion P ys
  flat_pays f g P e h [] = (λ k. tt, λ k. tt)
  flat_pays f g P e h (y ∷ ys) = parts_pay (f y) (flat_map f ys) (g y) (flat_map g ys) (e y) (h y) (flat_pays f g P e h ys)

-- ---- a leaf

module _ (prices : Prices) (spans : Spans) (targets : Name → List Place) (path : Path) where
  abbrev site : Site
  site = record { prices = prices; rows = spans; targets = targets; path = path }

  abbrev tariff : Kind → Tariff
  tariff kind = record { prices = prices; algorithm = cost_named prices spans kind; targets = targets }

  abbrev ground : Ground
  ground = record { unit = 1; price = λ a. 0; own = at_place path; targets = targets; datagram = λ c. [] }

  module _ (block : Block) where
    abbrev chart : Tariff
    chart = tariff (Charted block)

    -- ---- how many there are

    free_long : (upto : List Transition) (t : Transition) (o : Option Name)
        → length {A = ℕ} (elim o [ None ↦ free_work chart block upto t ∷ [] | Some e ↦ [] ]) ≡ length {A = Demand} (elim o [ None ↦ free_demand ground (actions_of block.states t.source) t.source t.target ∷ [] | Some e ↦ [] ])
    free_long upto t None = refl
    free_long upto t (Some e) = refl

    frees_long : (before ts : List Transition) → length (frees chart block before ts) ≡ length (flat_map (of_free ground block) ts)
    frees_long before [] = refl
    frees_long before (t ∷ ts) = both_long _ (frees chart block (before ++ t ∷ []) ts) _ (flat_map (of_free ground block) ts) (free_long (before ++ t ∷ []) t t.event) (frees_long (before ++ t ∷ []) ts)

    crossing_long : (e : Name) (upto : List Transition) (t : Transition) (b : Bool)
        → length (cond b (crossing_work chart block e upto t ∷ []) []) ≡ length (cond b (crossing_demand ground e t.target ∷ []) [])
    crossing_long e upto t true = refl
    crossing_long e upto t false = refl

    crossings_long : (e : Name) (before ts : List Transition) → length (crossings chart block e before ts) ≡ length (flat_map (of_crossing ground e) ts)
    crossings_long e before [] = refl
    crossings_long e before (t ∷ ts) =
        both_long _ (crossings chart block e (before ++ t ∷ []) ts) _ (flat_map (of_crossing ground e) ts) (crossing_long e (before ++ t ∷ []) t (is_open t.event (Some e))) (crossings_long e (before ++ t ∷ []) ts)

    input_long : (e : Name) → length (input_works chart block e) ≡ length (of_input ground block e)
    input_long e = omega (arith, crossings_long e [] block.transitions)

    chart_long : length (chart_works chart block) ≡ length (of_chart ground block)
    chart_long =
        both_long (map (state_work chart block) block.states) _ (map (of_state ground) block.states) _ (map_long (state_work chart block) (of_state ground) block.states)
        (both_long (frees chart block [] block.transitions) _ (flat_map (of_free ground block) block.transitions) _ (frees_long [] block.transitions)
        (flat_long (input_works chart block) (of_input ground block) (event_names block.event_inputs) input_long))

    -- ---- what they say

    module _ (x : Node → ℕ) where
      abbrev counts : Counts
      counts = counts_by x

      state_pays : (s : State) → (state_work chart block s + sum_by x (of_state ground s).terms ≤ x (of_state ground s).node) ↔ StateWork site counts block s
      state_pays s = same_paid (state_work chart block s) _ _ (x (state (at_place path s.name))) (emitted_sum x ground s.actions)

      free_pays : (upto : List Transition) (t : Transition)
          → Pay x (elim t.event [ None ↦ free_work chart block upto t ∷ [] | Some e ↦ [] ]) (of_free ground block t) ↔ FreeWork site counts block upto t
      free_pays upto t = by t.event where
        by : (o : Option Name)
            → Pay x (elim o [ None ↦ free_work chart block upto t ∷ [] | Some e ↦ [] ]) (elim o [ None ↦ free_demand ground (actions_of block.states t.source) t.source t.target ∷ [] | Some e ↦ [] ])
            ↔ (o ≡ None → free_work chart block upto t + (caused added counts targets (outputs_of (actions_of block.states t.source)) + x (state (at_place path t.target))) ≤ x (state (at_place path t.source)))
        by None =
            let same = same_paid (free_work chart block upto t) _ _ (x (state (at_place path t.source))) (followed_sum x ground (actions_of block.states t.source) (state (at_place path t.target))) in
            (λ h k. same.0 h.0, λ h. (same.1 (h refl), tt))
        by (Some e) = (λ h k. absurd cc, λ h. tt)

      frees_pay : (before ts : List Transition) → Pay x (frees chart block before ts) (flat_map (of_free ground block) ts)
          ↔ AtEach (FreeWork site counts block) before ts
      frees_pay before [] = (λ h. tt, λ h. tt)
      frees_pay before (t ∷ ts) =
          parts_pay x _ (frees chart block (before ++ t ∷ []) ts) _ (flat_map (of_free ground block) ts) (free_long (before ++ t ∷ []) t t.event) (free_pays (before ++ t ∷ []) t) (frees_pay (before ++ t ∷ []) ts)

      crossing_pays : (e : Name) (upto : List Transition) (t : Transition)
          → Pay x (cond (is_open t.event (Some e)) (crossing_work chart block e upto t ∷ []) []) (of_crossing ground e t)
          ↔ CrossingWork site counts block e upto t
      crossing_pays e upto t = by (is_open t.event (Some e)) where
        by : (b : Bool) → Pay x (cond b (crossing_work chart block e upto t ∷ []) []) (cond b (crossing_demand ground e t.target ∷ []) [])
            ↔ (b ≡ true → crossing_work chart block e upto t + x (state (at_place path t.target)) ≤ x (event (at_place path e)))
        by true =
            let same = same_paid (crossing_work chart block e upto t) _ _ (x (event (at_place path e))) (one_sum x (state (at_place path t.target))) in
            (λ h k. same.0 h.0, λ h. (same.1 (h refl), tt))
        by false = (λ h k. absurd cc, λ h. tt)

      crossings_pay : (e : Name) (before ts : List Transition) → Pay x (crossings chart block e before ts) (flat_map (of_crossing ground e) ts)
          ↔ AtEach (CrossingWork site counts block e) before ts
      crossings_pay e before [] = (λ h. tt, λ h. tt)
      crossings_pay e before (t ∷ ts) =
          parts_pay x _ (crossings chart block e (before ++ t ∷ []) ts) _ (flat_map (of_crossing ground e) ts) (crossing_long e (before ++ t ∷ []) t (is_open t.event (Some e)))
          (crossing_pays e (before ++ t ∷ []) t) (crossings_pay e (before ++ t ∷ []) ts)

      -- the most of all states, and each
      rests_pay : (e : Name) (xs : List State) → (event_work chart block e + most_trials chart block e xs ≤ x (event (at_place path e)))
          ↔ ((event_work chart block e ≤ x (event (at_place path e))) × AllByRecursion (RestingWork site counts block e) xs)
      rests_pay e [] = (λ h. (omega (arith, h), tt), λ h. omega (arith, h.0))
      rests_pay e (s ∷ xs) =
          let rest = rests_pay e xs in
          let a = event_work chart block e in
          let b = trials prices block.transitions s.name (Some e) in
          let c = most_trials chart block e xs in
          let m = x (event (at_place path e)) in (
            λ h. let k = rest.0 (right_le a b c m h) in (k.0, (left_le a b c m h, k.1)),
            λ h. both_le a b c m h.1.0 (rest.1 (h.0, h.1.1)),
          ) where
            right_le : (a b c m : ℕ) → a + max b c ≤ m → a + c ≤ m
            right_le a b c m h = omega (arith, h)

            left_le : (a b c m : ℕ) → a + max b c ≤ m → a + b ≤ m
            left_le a b c m h = omega (arith, h)

            both_le : (a b c m : ℕ) → a + b ≤ m → a + c ≤ m → a + max b c ≤ m
            both_le a b c m h k = omega (arith, h, k)

      input_pays : (e : Name) → Pay x (input_works chart block e) (of_input ground block e) ↔ InputWork site counts block e
      input_pays e =
          let rest = rests_pay e block.states in
          let cross = crossings_pay e [] block.transitions in (
            λ h. let k = rest.0 (omega (arith, h.0)) in record { least = k.0; rests = k.1; crossings = cross.0 h.1 },
            λ h. (omega (arith, rest.1 (h.least, h.rests)), cross.1 h.crossings),
          )

      chart_pays : Pay x (chart_works chart block) (of_chart ground block) ↔ ChartWork site counts block
      chart_pays =
          let all = parts_pay x (map (state_work chart block) block.states) _ (map (of_state ground) block.states) _ (map_long (state_work chart block) (of_state ground) block.states)
          (map_pays x (state_work chart block) (of_state ground) (StateWork site counts block) state_pays block.states)
          (parts_pay x (frees chart block [] block.transitions) _ (flat_map (of_free ground block) block.transitions) _ (frees_long [] block.transitions) (frees_pay [] block.transitions)
          (flat_pays x (input_works chart block) (of_input ground block) (InputWork site counts block) input_long input_pays (event_names block.event_inputs))) in (
            λ h. let k = all.0 h in record { states = k.0; free = k.1.0; weights = k.1.1 },
            λ h. all.1 (h.states, (h.free, h.weights)),
          )

  service_pays : (x : Node → ℕ) (service : Service) (e : Name)
      → Pay x (event_works (tariff (Serviced service)) service e) (of_dispatch ground service e) ↔ ServiceWork site (counts_by x) service e
  service_pays x service e =
      let same = same_paid (service_work (tariff (Serviced service)) service e) _ _ (x (event (at_place path e))) (sent_sum x ground (λ c. refl) service e) in
      (λ h. same.0 h.1.0, λ h. (omega arith, (same.1 h, tt)))

  kind_long : (kind : Kind) → length (kind_works (tariff kind) kind) ≡ length (of_kind ground kind)
  kind_long (Charted block) = chart_long block
  kind_long (Serviced service) = flat_long (event_works (tariff (Serviced service)) service) (of_dispatch ground service) (service_events service) (λ e. refl)

  kind_pays : (x : Node → ℕ) (kind : Kind) → Pay x (kind_works (tariff kind) kind) (of_kind ground kind) ↔ KindWork site (counts_by x) kind
  kind_pays x (Charted block) = chart_pays block x
  kind_pays x (Serviced service) =
      flat_pays x (event_works (tariff (Serviced service)) service) (of_dispatch ground service) (ServiceWork site (counts_by x) service) (λ e. refl) (service_pays x service) (service_events service)

-- ---- all leaves

module _ (prices : Prices) (ranges : List Range) where
  leaf_long : (leaf : Leaf) → length (leaf_works prices ranges leaf) ≡ length (of_kind (bare leaf) leaf.kind)
  leaf_long leaf = kind_long prices (rows ranges leaf.path leaf.kind) leaf.targets leaf.path leaf.kind

  module _ (x : Node → ℕ) where
    leaves_pay : (all : List Leaf) → MeetAll x (work_demands prices ranges all) ↔ WorkFits prices ranges (counts_by x) all
    leaves_pay all =
        flat_pays x (leaf_works prices ranges) (λ leaf. of_kind (bare leaf) leaf.kind) (λ leaf. KindWork (site_of prices ranges leaf) (counts_by x) leaf.kind) leaf_long
        (λ leaf. kind_pays prices (rows ranges leaf.path leaf.kind) leaf.targets leaf.path x leaf.kind) all

    abbrev PayLeaf : Leaf → Type 0
    PayLeaf leaf = KindWork (site_of prices ranges leaf) (counts_by x) leaf.kind

    devices_pay : (ds : List Device) → WorkFits prices ranges (counts_by x) (all_leaves ds)
        ↔ AllByRecursion (λ (d : Device). WorkFits prices ranges (counts_by x) (leaves d)) ds
    devices_pay [] = (λ h. tt, λ h. tt)
    devices_pay (d ∷ ds) =
        let rest = devices_pay ds in (
          λ h. (all_left PayLeaf (leaves d) (all_leaves ds) h, rest.0 (all_right PayLeaf (leaves d) (all_leaves ds) h)),
          λ h. all_append PayLeaf (leaves d) (all_leaves ds) h.0 (rest.1 h.1),
        )

    -- what meets the demands of work pays for each device, and what pays for each device meets them
    pub meets_fits : (s : System) → MeetAll x (work_demands prices ranges (all_leaves s.devices)) → AllWorkFits prices ranges (counts_by x) s
    meets_fits s h = (devices_pay s.devices).0 ((leaves_pay (all_leaves s.devices)).0 h)

    pub fits_meets : (s : System) → AllWorkFits prices ranges (counts_by x) s → MeetAll x (work_demands prices ranges (all_leaves s.devices))
    fits_meets s h = (leaves_pay (all_leaves s.devices)).1 ((devices_pay s.devices).1 h)
