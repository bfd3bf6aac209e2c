-- What is made so fits, and is least.
use Rattle.std.specs.Prelude.{max, ◌&&◌, ◌||◌}
use Rattle.std.proofs.Common.{ℕ, ◌≡◌, ◌+◌, ◌≤◌, ◌⊎◌, inl, inr, ◌==◌, Bool, true, false, List, [], ◌∷◌, ◌++◌, Option, None, Some, refl, sym, ◌∙◌, ap, subst, arith, Contains, append_assoc, if◌then◌else◌}
use Rattle.std.specs.List.{list_any, flat_map, AllByRecursion}
use Rattle.std.proofs.Math.Path.{fun_ext}
use Rattle.std.proofs.lemmas.List.Elements.{All-contains, All-from_recursion}
use Rattle.fb_model.specs.Names.{Name, Place, at_place, place_eq}
use Rattle.fb_model.specs.System.{Device, System}
use Rattle.fb_model.specs.Services.{begin}
use Rattle.fb_model.specs.Wires.{Leaf, leaves}
use Rattle.fb_model.specs.Ranges.{Range, rows}
use Rattle.fb_model.specs.Clear.{Spans}
use Rattle.fb_model.specs.Certificates.{Certificate, Row, FarRow, ChannelRow, amount, far_amount, channel_amount, row_places, far_places, channel_rows, state_places, event_places, channels_of, with_repeats, Charge_rows, Weight_rows, Far_rows, Far_state_rows, Column, steps_of, places_of, far_of, ColumnFits, depth_of, kind_arrivals, is_restart, begin_places, ArrivalsFit, DeviceFits, all_leaves, AllRows, Fits}
use Rattle.fb_model.proofs.Networks.{is_one as among, number_turned}
use Rattle.fb_model.specs.Demands.{Node, state, event, channel, Demand, IsMet, of_kind, linked, channel_demands}
use Rattle.fb_model.specs.Columns.{number_of, ground_of, demands, network_demands, price_of, MeetAll}
use Rattle.fb_model_laws.proofs.Lists.{all_append}
use Rattle.fb_model_laws.proofs.Meeting.{column_meets}
use Rattle.fb_model_laws.proofs.Networks.{far_meets}
use Rattle.fb_find_laws.specs.Nodes.{nodes_of, AreRowsOf}
use Rattle.fb_find_laws.specs.Finding.{IsNeeded, is_one, for_arrival, for_begins, HasNeededDepths, IsMadeWith}
use Rattle.fb_model.specs.Finding.{HaveSameRanges, IsFoundWith}
use Rattle.fb_find_laws.proofs.Members.{state_node, event_node, channel_node}

-- ---- devices one after another

flat_append : {X Y : Type 0} (f : X → List Y) (xs ys : List X) → flat_map f (xs ++ ys) ≡ flat_map f xs ++ flat_map f ys
flat_append f [] ys = refl
flat_append f (x ∷ xs) ys = ap (λ zs. f x ++ zs) (flat_append f xs ys) ∙ sym (append_assoc (f x) (flat_map f xs) (flat_map f ys))

demands_apart : (unit : ℕ) (ranges : List Range) (xs ys : List Leaf) → demands unit ranges (xs ++ ys) ≡ demands unit ranges xs ++ demands unit ranges ys
demands_apart unit ranges xs ys = flat_append (λ (leaf : Leaf). of_kind (ground_of unit ranges leaf) leaf.kind) xs ys

-- a column pays at each device where its numbers meet all demands
each_pays : (col : Column) (ranges : List Range) → ((c : ℕ) → col.sending c ≡ 0) → (ds : List Device) → MeetAll (number_of col) (demands col.unit ranges (all_leaves ds)) → AllByRecursion (λ (d : Device). ColumnFits col ranges (leaves d)) ds
each_pays col ranges z [] h = tt
each_pays col ranges z (d ∷ ds) h =
    let k = (all_append (IsMet (number_of col)) (demands col.unit ranges (leaves d)) (demands col.unit ranges (all_leaves ds))).1 (subst (λ (es : List Demand). MeetAll (number_of col) es) (demands_apart col.unit ranges (leaves d) (all_leaves ds)) h) in
    ((column_meets col ranges (leaves d) z).1 k.0, each_pays col ranges z ds k.1)

all_meet : (col : Column) (ranges : List Range) → ((c : ℕ) → col.sending c ≡ 0) → (ds : List Device) → AllByRecursion (λ (d : Device). ColumnFits col ranges (leaves d)) ds → MeetAll (number_of col) (demands col.unit ranges (all_leaves ds))
all_meet col ranges z [] h = tt
all_meet col ranges z (d ∷ ds) h =
    subst (λ (es : List Demand). MeetAll (number_of col) es) (sym (demands_apart col.unit ranges (leaves d) (all_leaves ds)))
    ((all_append (IsMet (number_of col)) (demands col.unit ranges (leaves d)) (demands col.unit ranges (all_leaves ds))).0 ((column_meets col ranges (leaves d) z).0 h.0, all_meet col ranges z ds h.1))

-- ---- the same ranges

same_demands : (unit : ℕ) (xs ys : List Range) (all : List Leaf) → HaveSameRanges xs ys all → demands unit xs all ≡ demands unit ys all
same_demands unit xs ys [] h = refl
same_demands unit xs ys (leaf ∷ rest) h =
    let e : rows xs leaf.path leaf.kind ≡ rows ys leaf.path leaf.kind = fun_ext h.0 in
    ap (λ (r : Spans). of_kind (record { unit = unit; price = price_of unit r leaf.kind; own = at_place leaf.path; targets = leaf.targets; datagram = λ c. [] }) leaf.kind ++ demands unit xs rest) e
    ∙ ap (λ es. of_kind (ground_of unit ys leaf) leaf.kind ++ es) (same_demands unit xs ys rest h.1)

same_linked : (xs ys : List Range) (all : List Leaf) → HaveSameRanges xs ys all → flat_map (λ (leaf : Leaf). of_kind (linked (ground_of 1 xs leaf)) leaf.kind) all ≡ flat_map (λ (leaf : Leaf). of_kind (linked (ground_of 1 ys leaf)) leaf.kind) all
same_linked xs ys [] h = refl
same_linked xs ys (leaf ∷ rest) h =
    let e : rows xs leaf.path leaf.kind ≡ rows ys leaf.path leaf.kind = fun_ext h.0 in
    let f : List Range → List Demand = λ zs. flat_map (λ (leaf : Leaf). of_kind (linked (ground_of 1 zs leaf)) leaf.kind) rest in
    ap (λ (r : Spans). of_kind (linked (record { unit = 1; price = price_of 1 r leaf.kind; own = at_place leaf.path; targets = leaf.targets; datagram = λ c. [] })) leaf.kind ++ f xs) e
    ∙ ap (λ es. of_kind (linked (ground_of 1 ys leaf)) leaf.kind ++ es) (same_linked xs ys rest h.1)

same_network : (r : ℕ) (xs ys : List Range) (all : List Leaf) → HaveSameRanges xs ys all → network_demands r xs all ≡ network_demands r ys all
same_network r xs ys all h = ap (λ es. es ++ channel_demands r all) (same_linked xs ys all h)

-- ---- what has no row has no number

pub no_amount : (f : Row → ℕ) (rs : List Row) (p : Place) → ((q : Place) → place_eq q p ≡ place_eq p q) → list_any (place_eq p) (row_places rs) ≡ false → amount f rs p ≡ 0
no_amount f [] p turned h = refl
no_amount f (r ∷ rs) p turned h = by (place_eq p r.place) refl h (no_amount f rs p turned) where
  by : (b : Bool) → place_eq p r.place ≡ b → (b || list_any (place_eq p) (row_places rs)) ≡ false → (list_any (place_eq p) (row_places rs) ≡ false → amount f rs p ≡ 0) → (if place_eq r.place p then f r else amount f rs p) ≡ 0
  by true e h k = absurd cc
  by false e h k = rw (turned r.place ∙ e) (k h)

pub no_far_amount : (rs : List FarRow) (p : Place) → ((q : Place) → place_eq q p ≡ place_eq p q) → list_any (place_eq p) (far_places rs) ≡ false → far_amount rs p ≡ 0
no_far_amount [] p turned h = refl
no_far_amount (r ∷ rs) p turned h = by (place_eq p r.place) refl h (no_far_amount rs p turned) where
  by : (b : Bool) → place_eq p r.place ≡ b → (b || list_any (place_eq p) (far_places rs)) ≡ false → (list_any (place_eq p) (far_places rs) ≡ false → far_amount rs p ≡ 0) → (if place_eq r.place p then r.steps else far_amount rs p) ≡ 0
  by true e h k = absurd cc
  by false e h k = rw (turned r.place ∙ e) (k h)

pub no_channel_amount : (rs : List ChannelRow) (c : ℕ) → among c (channel_rows rs) ≡ false → channel_amount rs c ≡ 0
no_channel_amount [] c h = refl
no_channel_amount (r ∷ rs) c h = by (c == r.channel) refl h (no_channel_amount rs c) where
  by : (b : Bool) → (c == r.channel) ≡ b → (b || among c (channel_rows rs)) ≡ false → (among c (channel_rows rs) ≡ false → channel_amount rs c ≡ 0) → (if r.channel == c then r.steps else channel_amount rs c) ≡ 0
  by true e h k = absurd cc
  by false e h k = rw (number_turned r.channel c ∙ e) (k h)

-- without its channels
on_device : (repeats : Option ℕ) (all : List Leaf) (states events : List Name) (channels : List ℕ) → AreRowsOf repeats all states events channels → AreRowsOf None all states events []
on_device repeats all states events channels are = record { states_are = are.states_are; events_are = are.events_are; states_apart = are.states_apart; events_apart = are.events_apart; channels_are = refl }

module _ (repeats : Option ℕ) (system : System) (states events : List Name) (channels : List ℕ) (cert : Certificate) (are : AreRowsOf repeats (all_leaves system.devices) states events channels) (same : AllRows system cert) (repeats_are : cert.repeats ≡ repeats)
    (turned : (p q : Place) → place_eq q p ≡ place_eq p q) where
  abbrev all : List Leaf
  all = all_leaves system.devices

  charge_node : (f : Row → ℕ) (p : Place) → Contains (nodes_of states events []) (state p) ⊎ (amount f cert.charges p ≡ 0)
  charge_node f p = by (list_any (place_eq p) (state_places all)) refl where
    by : (b : Bool) → list_any (place_eq p) (state_places all) ≡ b → Contains (nodes_of states events []) (state p) ⊎ (amount f cert.charges p ≡ 0)
    by true e = inl (state_node None all states events [] (on_device repeats all states events channels are) p e)
    by false e = inr (no_amount f cert.charges p (turned p) ((same.places Charge_rows).same p ∙ e))

  weight_node : (f : Row → ℕ) (p : Place) → Contains (nodes_of states events []) (event p) ⊎ (amount f cert.weights p ≡ 0)
  weight_node f p = by (list_any (place_eq p) (event_places all)) refl where
    by : (b : Bool) → list_any (place_eq p) (event_places all) ≡ b → Contains (nodes_of states events []) (event p) ⊎ (amount f cert.weights p ≡ 0)
    by true e = inl (event_node None all states events [] (on_device repeats all states events channels are) p e)
    by false e = inr (no_amount f cert.weights p (turned p) ((same.places Weight_rows).same p ∙ e))

  steps_node : (x : Node) → Contains (nodes_of states events []) x ⊎ (number_of (steps_of cert) x ≡ 0)
  steps_node (state p) = charge_node (λ r. r.steps) p
  steps_node (event p) = weight_node (λ r. r.steps) p
  steps_node (channel c) = inr refl

  places_node : (x : Node) → Contains (nodes_of states events []) x ⊎ (number_of (places_of cert) x ≡ 0)
  places_node (state p) = charge_node (λ r. r.places) p
  places_node (event p) = weight_node (λ r. r.places) p
  places_node (channel c) = inr refl

  -- of the network
  far_node : (r : ℕ) → repeats ≡ Some r → (x : Node) → Contains (nodes_of states events channels) x ⊎ (number_of (far_of cert) x ≡ 0)
  far_node r with_row (state p) = by (list_any (place_eq p) (state_places all)) refl where
    by : (b : Bool) → list_any (place_eq p) (state_places all) ≡ b → Contains (nodes_of states events channels) (state p) ⊎ (far_amount cert.far_states p ≡ 0)
    by true e = inl (state_node repeats all states events channels are p e)
    by false e = inr (no_far_amount cert.far_states p (turned p) ((same.places Far_state_rows).same p ∙ (ap (λ o. list_any (place_eq p) (with_repeats o (state_places all))) (repeats_are ∙ with_row) ∙ e)))
  far_node r with_row (event p) = by (list_any (place_eq p) (event_places all)) refl where
    by : (b : Bool) → list_any (place_eq p) (event_places all) ≡ b → Contains (nodes_of states events channels) (event p) ⊎ (far_amount cert.fars p ≡ 0)
    by true e = inl (event_node repeats all states events channels are p e)
    by false e = inr (no_far_amount cert.fars p (turned p) ((same.places Far_rows).same p ∙ (ap (λ o. list_any (place_eq p) (with_repeats o (event_places all))) (repeats_are ∙ with_row) ∙ e)))
  far_node r with_row (channel c) = by (among c (channels_of all)) refl where
    by : (b : Bool) → among c (channels_of all) ≡ b → Contains (nodes_of states events channels) (channel c) ⊎ (channel_amount cert.channels c ≡ 0)
    by true e = inl (channel_node repeats all states events channels are r c with_row e)
    by false e = inr (no_channel_amount cert.channels c (same.channels c ∙ (ap (λ o. among c (with_repeats o (channels_of all))) (repeats_are ∙ with_row) ∙ e)))

  -- without a row REPEATS there are no numbers of the network
  no_far : repeats ≡ None → (x : Node) → number_of (far_of cert) x ≡ 0
  no_far without (state p) = no_far_amount cert.far_states p (turned p) ((same.places Far_state_rows).same p ∙ ap (λ o. list_any (place_eq p) (with_repeats o (state_places all))) (repeats_are ∙ without))
  no_far without (event p) = no_far_amount cert.fars p (turned p) ((same.places Far_rows).same p ∙ ap (λ o. list_any (place_eq p) (with_repeats o (event_places all))) (repeats_are ∙ without))
  no_far without (channel c) = no_channel_amount cert.channels c (same.channels c ∙ ap (λ o. among c (with_repeats o (channels_of all))) (repeats_are ∙ without))

-- ---- depths

more_begins : (cert other : Certificate) (all : List Leaf) (q : ℕ) → ((p : Place) → (places_of cert).weight p ≤ (places_of other).weight p) → begin_places cert all q ≤ begin_places other all q
more_begins cert other [] q h = omega arith
more_begins cert other (leaf ∷ rest) q h = by (is_restart leaf.kind && (leaf.home == q)) (more_begins cert other rest q h) where
  by : (b : Bool) → begin_places cert rest q ≤ begin_places other rest q
      → (if b then (places_of cert).weight (at_place leaf.path begin) else 0) + begin_places cert rest q ≤ (if b then (places_of other).weight (at_place leaf.path begin) else 0) + begin_places other rest q
  by true k = omega (arith, k, h (at_place leaf.path begin))
  by false k = omega (arith, k)

depth_least : (cert other : Certificate) (d : Device) (q n : ℕ) → DeviceFits other d → ((p : Place) → (places_of cert).weight p ≤ (places_of other).weight p) → IsNeeded cert (leaves d) q n → n ≤ max 1 (depth_of other d q)
depth_least cert other d q n f h (is_one l) = grind arith
depth_least cert other d q n f h (for_begins l) = let k = f.begins q in let m = more_begins cert other (leaves d) q h in grind arith
depth_least cert other d q n f h (for_arrival leaf e c home a l) =
    let fits = All-contains (ArrivalsFit other d) (leaves d) leaf (All-from_recursion (ArrivalsFit other d) (leaves d) f.arrivals) c in
    let k : (places_of other).weight (at_place leaf.path e) ≤ depth_of other d leaf.home = All-contains (λ e. (places_of other).weight (at_place leaf.path e) ≤ depth_of other d leaf.home) (kind_arrivals leaf.kind) e (All-from_recursion (λ e. (places_of other).weight (at_place leaf.path e) ≤ depth_of other d leaf.home) (kind_arrivals leaf.kind) fits) a in
    let m : (places_of other).weight (at_place leaf.path e) ≤ depth_of other d q = subst (λ (i : ℕ). (places_of other).weight (at_place leaf.path e) ≤ depth_of other d i) home k in
    let w = h (at_place leaf.path e) in
    grind arith

-- ---- put together

fit_each : (cert : Certificate) (ds : List Device) → AllByRecursion (λ (d : Device). ColumnFits (steps_of cert) cert.ranges (leaves d)) ds → AllByRecursion (λ (d : Device). ColumnFits (places_of cert) cert.ranges (leaves d)) ds → AllByRecursion (HasNeededDepths cert) ds → AllByRecursion (DeviceFits cert) ds
fit_each cert [] s p n = tt
fit_each cert (d ∷ ds) s p n = (record { steps = s.0; places = p.0; arrivals = n.0.arrivals; begins = n.0.begins }, fit_each cert ds s.1 p.1 n.1)

least_depths : (cert other : Certificate) (ds : List Device) → AllByRecursion (DeviceFits other) ds → ((p : Place) → (places_of cert).weight p ≤ (places_of other).weight p) → AllByRecursion (HasNeededDepths cert) ds → AllByRecursion (λ (d : Device). (q : ℕ) → depth_of cert d q ≤ max 1 (depth_of other d q)) ds
least_depths cert other [] f h n = tt
least_depths cert other (d ∷ ds) f h n = (λ q. depth_least cert other d q (depth_of cert d q) f.0 h (n.0.needed q), least_depths cert other ds f.1 h n.1)

steps_of_fits : (other : Certificate) (ds : List Device) → AllByRecursion (DeviceFits other) ds → AllByRecursion (λ (d : Device). ColumnFits (steps_of other) other.ranges (leaves d)) ds
steps_of_fits other [] h = tt
steps_of_fits other (d ∷ ds) h = (h.0.steps, steps_of_fits other ds h.1)

places_of_fits : (other : Certificate) (ds : List Device) → AllByRecursion (DeviceFits other) ds → AllByRecursion (λ (d : Device). ColumnFits (places_of other) other.ranges (leaves d)) ds
places_of_fits other [] h = tt
places_of_fits other (d ∷ ds) h = (h.0.places, places_of_fits other ds h.1)

at_most : (x y : Node → ℕ) (nodes : List Node) → ((v : Node) → Contains nodes v → x v ≤ y v) → ((v : Node) → Contains nodes v ⊎ (x v ≡ 0)) → (v : Node) → x v ≤ y v
at_most x y nodes l z v = elim (z v) [ inl c ↦ l v c | inr e ↦ omega (arith, e) ]

-- the numbers of the network are least
far_least : (Are : List Range → Type 0) (repeats : Option ℕ) (system : System) (states events : List Name) (channels : List ℕ) (cert other : Certificate) → ((p q : Place) → place_eq q p ≡ place_eq p q) → AreRowsOf repeats (all_leaves system.devices) states events channels
    → IsMadeWith Are repeats system states events channels cert → Fits system other → HaveSameRanges other.ranges cert.ranges (all_leaves system.devices) → other.repeats ≡ repeats → (o : Option ℕ) → repeats ≡ o → (x : Node) → number_of (far_of cert) x ≤ number_of (far_of other) x
far_least Are repeats system states events channels cert other turned are made f same e None is x = omega (arith, no_far repeats system states events channels cert are made.rows made.repeats_are turned is x)
far_least Are repeats system states events channels cert other turned are made f same e (Some r) is x =
    let all = all_leaves system.devices in
    let y = number_of (far_of other) in
    let meets = subst (λ (es : List Demand). MeetAll y es) (same_network r other.ranges cert.ranges all same) ((far_meets other r system).0 (f.far r (e ∙ is))) in
    at_most (number_of (far_of cert)) y (nodes_of states events channels) ((made.far r is).least y meets) (far_node repeats system states events channels cert are made.rows made.repeats_are turned r is) x

pub made_found : (Are : List Range → Type 0) (repeats : Option ℕ) (system : System) (states events : List Name) (channels : List ℕ) (cert : Certificate) → ((p q : Place) → place_eq q p ≡ place_eq p q) → AreRowsOf repeats (all_leaves system.devices) states events channels
    → IsMadeWith Are repeats system states events channels cert → IsFoundWith Are repeats system cert
made_found Are repeats system states events channels cert turned are made = record {
  repeats_are = made.repeats_are;
  ordered = made.ordered;
  ranges = made.ranges;
  fits = record {
    followed = made.followed;
    rows = made.rows;
    clear = made.clear;
    devices = fit_each cert system.devices (each_pays (steps_of cert) cert.ranges (λ c. refl) system.devices made.steps.meets) (each_pays (places_of cert) cert.ranges (λ c. refl) system.devices made.places.meets) made.depths;
    far = λ r e. (far_meets cert r system).1 (made.far r (sym made.repeats_are ∙ e)).meets;
  };
  least = λ other f same.
      let all = all_leaves system.devices in
      let nodes = nodes_of states events [] in
      let s = subst (λ (es : List Demand). MeetAll (number_of (steps_of other)) es) (same_demands 1 other.ranges cert.ranges all same) (all_meet (steps_of other) other.ranges (λ c. refl) system.devices (steps_of_fits other system.devices f.devices)) in
      let p = subst (λ (es : List Demand). MeetAll (number_of (places_of other)) es) (same_demands 0 other.ranges cert.ranges all same) (all_meet (places_of other) other.ranges (λ c. refl) system.devices (places_of_fits other system.devices f.devices)) in
      let steps = at_most (number_of (steps_of cert)) (number_of (steps_of other)) nodes (made.steps.least (number_of (steps_of other)) s) (steps_node repeats system states events channels cert are made.rows made.repeats_are turned) in
      let places = at_most (number_of (places_of cert)) (number_of (places_of other)) nodes (made.places.least (number_of (places_of other)) p) (places_node repeats system states events channels cert are made.rows made.repeats_are turned) in
      record { steps = steps; places = places; depths = least_depths cert other system.devices f.devices (λ q. places (event q)) made.depths };
  least_far = λ other f same e x. far_least Are repeats system states events channels cert other turned are made f same e repeats refl x;
}
