-- Least numbers, needed depths and clear ranges make a certificate.
use Rattle.std.proofs.Common.{ℕ, zero, suc, ◌≡◌, ◌≤◌, ◌<◌, ◌+◌, ◌==◌, Bool, true, false, inl, inr, refl, sym, ap, subst, ◌∙◌, arith, append-nil, List, [], ◌∷◌, ◌++◌, Option, None, Some, Contains, length, map, take, slice_index, string_bytes}
use Rattle.std.specs.Prelude.{◌||◌, cond, max}
use Rattle.std.specs.Str.{bytes_eq}
use Rattle.std.specs.List.{AllByRecursion, flat_map, IsDistinct, list_any}
use Rattle.std.proofs.lemmas.List.{length-append, length-map}
use Rattle.std.proofs.Math.Nat.{le-max_left, le-max_right, max-le}
use Rattle.fb_model.specs.Services.{begin}
use Rattle.fb_model.specs.Names.{Name, Path, Place, at_place, is_in, path_eq, place_eq}
use Rattle.fb_model.specs.System.{Device, Resource, System}
use Rattle.fb_model.specs.Wires.{Leaf, resource_leaves}
use Rattle.fb_model.specs.Ranges.{Range}
use Rattle.fb_model.specs.Certificates as certs
use Rattle.fb_model.specs.Certificates.{all_leaves, AllRows, Certificate, PlaceRows, Range_rows, Charge_rows, Weight_rows, Far_rows, Far_state_rows, channels_of, event_places, far_of, given, places_of, range_places, required, Row, state_places, steps_of, with_repeats}
use Rattle.fb_model.specs.CertificateText.{IsTold, most_places, most_steps, names_in, place_of}
use Rattle.fb_model.proofs.Lists.{all_both}
use Rattle.fb_model.specs.Demands.{Demand, Node, state, event, channel}
use Rattle.fb_model.specs.Columns.{demands, network_demands, MeetAll, number_of}
use Rattle.fb_find_laws.specs.Numbered.{AreLeast, AreOf}
use Rattle.fb_find_laws.specs.Nodes.{nodes_of, number}
use Rattle.fb_find_laws.specs.Finding.{HasFarNumbers, HasNumbers, IsMadeWith, row_number}
use Rattle.fb_model.specs.Finding.{IsInOrder}
use Rattle.fb_find_laws.proofs.Fitting.{no_amount}
use Rattle.fb_find_laws.proofs.Members.{in_rows}
use Rattle.fb_find_laws.proofs.Rows.{far_numbers_are, least_of_fewer, least_same, numbers_are}
use Rattle.fb_find_laws.proofs.Laws.{place_turned}
use Rattle.std.proofs.lemmas.List.Elements.{Contains-append_cases, Contains-append_left, Contains-append_right}
use Rattle.fb_cert.specs.Adding.{is_upper_path}
use Rattle.fb_cert.specs.Views.{book_of, channel_rows, depth_rows, far_rows, Rows, Table}
use Rattle.fb_flat.specs.declared.flat.FlatDevice.{FlatDevice}
use Rattle.fb_flat.specs.declared.flat.FlatResource.{FlatResource}
use Rattle.fb_model.specs.Misfits.{AllClear}
use Rattle.fb_check_rows.specs.Faults.{HasNoRowTwice}
use Rattle.fb_check_rows.specs.Texts.{resource_texts as row_texts, texts_of}
use Rattle.fb_check_rows.specs.declared.kind.RowKind.TheVariants.{Depth}
use Rattle.fb_check_rows.proofs.Names.{bytes_turned}
use Rattle.fb_check_rows.proofs.Spelled.{spelled}
use Rattle.fb_check_rows.proofs.Systems.{devices_named}
use Rattle.fb_find_ranges.proofs.Capitals.{rows_have_capitals}
use Rattle.fb_find_ranges.proofs.Distinct.{resources_are_apart}
use Rattle.fb_model.specs.Finding.{begins_of}
use Rattle.fb_faults.specs.declared.no_bound.NoBound.{NoBound}
use Rattle.fb_faults.specs.declared.no_bound.NoBound.TheVariants.{OutOfMemory, Cycle, NoRange, Limit}
use Rattle.fb_find_rows.specs.Numbers.{counts}
use Rattle.fb_find_rows.proofs.Telling.{far_told, places_told, steps_told}
use Rattle.fb_find_rows.specs.Needs as queues
use Rattle.fb_find_rows.specs.Needs.{all_rows, AreFresh, resource_texts, with_more}
use Rattle.fb_model.specs.Finding.{arrival_of, IsPastAmong, IsPastIn, most_arrival, most_at, needed_depth}
use Rattle.fb_find_rows.proofs.Deep.{needed_depths, paths_all}
use Rattle.fb_find_demands.specs.declared.numbered.Numbering.{Numbering}
use Rattle.fb_find_demands.specs.Rights.{numbers_of}
use Rattle.fb_find.specs.Given.{nodes_in}
use Rattle.fb_find.specs.Columns as columns
use Rattle.fb_find.specs.Columns.{AreSmallest}
use Rattle.fb_find.specs.Bounds.{IsFarFault}
use Rattle.fb_model.specs.Finding.{needs_depth, needs_far, needs_places, needs_steps, IsNoBoundAt}
use Rattle.fb_find.specs.Networks.{behind_events, behind_states, HasNetwork, HasNoNetwork}
use Rattle.fb_find.specs.Parts.{events_in, HasRanges, IsReady, states_in, with_columns}
use Rattle.fb_find.proofs.Adding.{all_listed}
use Rattle.fb_find.proofs.Columns.{of_network, of_own, own_have}
use Rattle.fb_find.proofs.Resources.{great, same_number}

-- ---- the paths of resources

depth_texts : (fs : List FlatDevice) → texts_of Depth fs ≡ flat_map resource_texts fs
depth_texts [] = refl
depth_texts (f ∷ fs) = ap (λ (ts : List Name). ts ++ texts_of Depth fs) (own f.resources.items) ∙ ap (λ (ts : List Name). resource_texts f ++ ts) (depth_texts fs) where
  own : (rs : List FlatResource) → flat_map (row_texts Depth) rs ≡ map (λ (r : FlatResource). string_bytes r.path) rs
  own [] = refl
  own (r ∷ rs) = ap (λ (ts : List Name). string_bytes r.path ∷ ts) (own rs)

in_more : (y t : Name) (before : List Name) → is_in y before ≡ false → bytes_eq y t ≡ false → is_in y (before ++ t ∷ []) ≡ false
in_more y t [] h k = rw k refl
in_more y t (x ∷ before) h k = by (bytes_eq y x) h (λ r. in_more y t before r k) where
  by : (b : Bool) → (b || is_in y before) ≡ false → (is_in y before ≡ false → is_in y (before ++ t ∷ []) ≡ false) → (b || is_in y (before ++ t ∷ [])) ≡ false
  by true h f = absurd cc
  by false h f = f h

fresh_from : (before ts : List Name) → AllByRecursion (λ t. is_in t before ≡ false) ts → IsDistinct bytes_eq ts → AllByRecursion (λ t. is_upper_path t ≡ true) ts → AreFresh before ts
unfolding IsDistinct
fresh_from before [] b d u = tt
fresh_from before (t ∷ ts) b d u = (
  u.0,
  b.0,
  fresh_from (before ++ t ∷ []) ts
      (all_both (λ y. is_in y before ≡ false) (λ y. bytes_eq t y ≡ false) (λ y. is_in y (before ++ t ∷ []) ≡ false) ts (λ y h k. in_more y t before h (bytes_turned t y false k)) b.1 d.0) d.1 u.1,
)

none_before : (ts : List Name) → AllByRecursion (λ t. is_in t [] ≡ false) ts
none_before [] = tt
none_before (t ∷ ts) = (refl, none_before ts)

-- ---- more places need no less depth

at_more : (cert other : Certificate) (path : Path) (es : List Name) → ((p : Place) → (places_of cert).weight p ≤ (places_of other).weight p) → most_at cert path es ≤ most_at other path es
at_more cert other path [] h = omega arith
at_more cert other path (e ∷ es) h =
    let w = h (at_place path e) in
    let r = at_more cert other path es h in
    let a = le-max_left ((places_of other).weight (at_place path e)) (most_at other path es) in
    let b = le-max_right ((places_of other).weight (at_place path e)) (most_at other path es) in
    max-le (omega (arith, w, a)) (omega (arith, r, b))

arrivals_more : (cert other : Certificate) (all : List Leaf) → ((p : Place) → (places_of cert).weight p ≤ (places_of other).weight p) → most_arrival cert all ≤ most_arrival other all
arrivals_more cert other [] h = omega arith
arrivals_more cert other (leaf ∷ rest) h =
    let w = at_more cert other leaf.path (certs.kind_arrivals leaf.kind) h in
    let r = arrivals_more cert other rest h in
    let a = le-max_left (arrival_of other leaf) (most_arrival other rest) in
    let b = le-max_right (arrival_of other leaf) (most_arrival other rest) in
    max-le (omega (arith, w, a)) (omega (arith, r, b))

begins_more : (cert other : Certificate) (all : List Leaf) → ((p : Place) → (places_of cert).weight p ≤ (places_of other).weight p) → begins_of cert all ≤ begins_of other all
begins_more cert other [] h = omega arith
begins_more cert other (leaf ∷ rest) h =
    let w = begin_more (certs.is_restart leaf.kind) (h (at_place leaf.path begin)) in
    let r = begins_more cert other rest h in
    omega (arith, w, r)
  where
    begin_more : (b : Bool) → (places_of cert).weight (at_place leaf.path begin) ≤ (places_of other).weight (at_place leaf.path begin)
        → cond b ((places_of cert).weight (at_place leaf.path begin)) 0 ≤ cond b ((places_of other).weight (at_place leaf.path begin)) 0
    begin_more true k = k
    begin_more false k = omega arith

need_more : (cert other : Certificate) (all : List Leaf) → ((p : Place) → (places_of cert).weight p ≤ (places_of other).weight p) → needed_depth cert all ≤ needed_depth other all
need_more cert other all h =
    let a = arrivals_more cert other all h in
    let b = begins_more cert other all h in
    let l1 = le-max_left 1 (most_arrival other all) in
    let l2 = le-max_right 1 (most_arrival other all) in
    let l3 = le-max_left (max 1 (most_arrival other all)) (begins_of other all) in
    let l4 = le-max_right (max 1 (most_arrival other all)) (begins_of other all) in
    max-le (max-le (omega (arith, l1, l3)) (omega (arith, a, l2, l3))) (omega (arith, b, l4))

past_in_more : (cert other : Certificate) (t : Name) (n : ℕ) (path : Path) (rs : List Resource) → ((p : Place) → (places_of cert).weight p ≤ (places_of other).weight p) → IsPastIn cert t n path rs → IsPastIn other t n path rs
past_in_more cert other t n path [] h p = p
past_in_more cert other t n path (r ∷ rs) h (inl p) = inl (p.0, let m = need_more cert other (resource_leaves n path r) h in let k = p.1 in omega (arith, m, k))
past_in_more cert other t n path (r ∷ rs) h (inr p) = inr (past_in_more cert other t (n + 1) path rs h p)

past_more : (cert other : Certificate) (t : Name) (ds : List Device) → ((p : Place) → (places_of cert).weight p ≤ (places_of other).weight p) → IsPastAmong cert t ds → IsPastAmong other t ds
past_more cert other t [] h p = p
past_more cert other t (d ∷ ds) h (inl p) = inl (past_in_more cert other t 0 (d.name ∷ []) d.resources h p)
past_more cert other t (d ∷ ds) h (inr p) = inr (past_more cert other t ds h p)

-- ---- a certificate

paths_are : (rows : Table ℕ) → certs.depth_rows (depth_rows rows) ≡ map names_in (queues.paths rows)
paths_are [] = refl
paths_are (r ∷ rows) = ap (λ (ps : List Path). names_in r.0 ∷ ps) (paths_are rows)

steps_number : (cert : Certificate) (v : Node) → row_number (λ (r : Row). r.steps) cert v ≡ number_of (steps_of cert) v
steps_number cert (state p) = refl
steps_number cert (event p) = refl
steps_number cert (channel c) = refl

places_number : (cert : Certificate) (v : Node) → row_number (λ (r : Row). r.places) cert v ≡ number_of (places_of cert) v
places_number cert (state p) = refl
places_number cert (event p) = refl
places_number cert (channel c) = refl

-- how many nodes have numbers, and how many of them are states and events
count_is : (ts us : List Name) (cs : List ℕ) → length (nodes_of ts us cs) ≡ length ts + (length us + length cs)
count_is ts us cs =
    omega (
      arith,
      length-append (map (λ t. state (place_of t)) ts) (map (λ t. event (place_of t)) us ++ map channel cs),
      length-append (map (λ t. event (place_of t)) us) (map channel cs),
      length-map ts (λ t. state (place_of t)),
      length-map us (λ t. event (place_of t)),
      length-map cs channel,
    )

-- the first numbers of a list
first_number : (k : ℕ) (xs : List ℕ) (i : ℕ) → i < k → slice_index (take k xs) i ≡ slice_index xs i
first_number zero xs i h = absurd (omega (arith, h))
first_number (suc k) [] i h = refl
first_number (suc k) (x ∷ xs) zero h = refl
first_number (suc k) (x ∷ xs) (suc i) h = first_number k xs i (omega (arith, h))

own_among : (ts us : List Name) (cs : List ℕ) (x : Node) → Contains (nodes_of ts us []) x → Contains (nodes_of ts us cs) x
own_among ts us cs x c = elim (Contains-append_cases front (middle ++ []) x c) [
  | inl l ↦ Contains-append_left front (middle ++ map channel cs) x l
  | inr r ↦ Contains-append_right front (middle ++ map channel cs) x (Contains-append_left middle (map channel cs) x (subst (λ (xs : List Node). Contains xs x) (append-nil middle) r))
]
  where
    front : List Node
    front = map (λ t. state (place_of t)) ts

    middle : List Node
    middle = map (λ t. event (place_of t)) us

-- the rows of the network are these
abbrev HasFar : Numbering → System → List Range → Option ℕ → Table ℕ → Table ℕ → List (ℕ × ℕ) → Type 0
HasFar n s ranges None fars far_states channels = (fars ≡ []) × (far_states ≡ []) × (channels ≡ [])
HasFar n s ranges (Some r) fars far_states channels =
    (numbers : List ℕ) × AreSmallest n (network_demands r ranges (all_leaves s.devices)) most_steps numbers × (far_states ≡ counts (states_in n) numbers) × (fars ≡ counts (events_in n) (behind_states n numbers))
    × (channels ≡ counts n.channels.items (behind_events n numbers))

module _ (repeats : Option ℕ) (devices : List FlatDevice) (n : Numbering) (order : List ℕ) (s : System) (ready : IsReady repeats devices n order s) (ranges : List Range) (steps places : List ℕ) (start : Rows) (a : AreSmallest n (demands 1 ranges (all_leaves s.devices)) most_steps steps)
    (b : AreSmallest n (demands 0 ranges (all_leaves s.devices)) most_places places) (has : HasRanges s ranges start) where
  abbrev mid : Rows
  mid = with_columns n steps places start

  abbrev deep : Rows
  deep = with_more (all_rows (book_of mid) devices s.devices) mid

  pub fresh : AreFresh [] (flat_map resource_texts devices)
  fresh =
      let given = ready.numbering.numbered.given in
      subst (AreFresh []) (depth_texts devices)
      (fresh_from [] (texts_of Depth devices) (none_before (texts_of Depth devices)) (resources_are_apart given.library given.source devices s given.typed given.tables)
      (all_listed (λ t. is_upper_path t ≡ true) (texts_of Depth devices) (rows_have_capitals Depth devices s given.tables given.capitals)))

  -- states and events
  abbrev own : ℕ
  own = length (states_in n) + length (events_in n)

  many_steps : own ≤ length steps
  many_steps = omega (arith, a.sized, count_is (states_in n) (events_in n) n.channels.items)

  many_places : own ≤ length places
  many_places = omega (arith, b.sized, count_is (states_in n) (events_in n) n.channels.items)

  places_mid : HasNumbers (λ r. r.places) (states_in n) (events_in n) (book_of mid) (take own places)
  places_mid = places_told (states_in n) (events_in n) steps places mid refl refl many_places

  small_own : (x : Node) → Contains (nodes_of (states_in n) (events_in n) []) x → number (states_in n) (events_in n) [] x < own
  small_own x c = let l = ((own_have repeats devices n order s ready).at x c).0 in omega (arith, l, count_is (states_in n) (events_in n) [])

  -- a number of all is that of states and events alone
  own_number : (xs : List ℕ) (x : Node) → Contains (nodes_of (states_in n) (events_in n) []) x → slice_index xs (numbers_of n x) ≡ slice_index (take own xs) (number (states_in n) (events_in n) [] x)
  own_number xs x c = ap (slice_index xs) (same_number (states_in n) (events_in n) n.channels.items x (own_have repeats devices n order s ready) c) ∙ sym (first_number own xs (number (states_in n) (events_in n) [] x) (small_own x c))

  own_least : (ds : List Demand) (xs : List ℕ) (y : Node → ℕ) → AreOf (nodes_of (states_in n) (events_in n) []) ds → ((x : Node) → Contains (nodes_of (states_in n) (events_in n) []) x → y x ≡ slice_index (take own xs) (number (states_in n) (events_in n) [] x))
      → AreLeast (nodes_in n) ds (λ x. slice_index xs (numbers_of n x)) → AreLeast (nodes_of (states_in n) (events_in n) []) ds y
  own_least ds xs y of e l =
      least_same (λ x. slice_index xs (numbers_of n x)) y (nodes_of (states_in n) (events_in n) []) ds (λ v c. own_number xs v c ∙ sym (e v c)) of
      (least_of_fewer (nodes_in n) (nodes_of (states_in n) (events_in n) []) ds (λ x. slice_index xs (numbers_of n x)) (own_among (states_in n) (events_in n) n.channels.items) l)

  module _ (fars far_states : Table ℕ) (channels : List (ℕ × ℕ)) (net : HasFar n s ranges repeats fars far_states channels) where
    abbrev final : Rows
    final = record deep { repeats = repeats; fars = fars; far_states = far_states; channels = channels }

    steps_in : HasNumbers (λ r. r.steps) (states_in n) (events_in n) (book_of final) (take own steps)
    steps_in = steps_told (states_in n) (events_in n) steps places final refl refl many_steps

    places_in : HasNumbers (λ r. r.places) (states_in n) (events_in n) (book_of final) (take own places)
    places_in = places_told (states_in n) (events_in n) steps places final refl refl many_places

    depths_are : (book_of final).depths ≡ depth_rows (all_rows (book_of final) devices s.devices)
    depths_are = ap (λ (t : Table ℕ). depth_rows (t ++ all_rows (book_of mid) devices s.devices)) has.no_depth

    fars_are : (rep : Option ℕ) → repeats ≡ rep → HasFar n s ranges rep fars far_states channels
        → (certs.far_places (far_rows fars) ≡ with_repeats rep (event_places (all_leaves s.devices))) × (certs.far_places (far_rows far_states) ≡ with_repeats rep (state_places (all_leaves s.devices)))
        × (certs.channel_rows (channel_rows channels) ≡ with_repeats rep (channels_of (all_leaves s.devices)))
    fars_are None e h = (ap (λ t. certs.far_places (far_rows t)) h.0, ap (λ t. certs.far_places (far_rows t)) h.1, ap (λ t. certs.channel_rows (channel_rows t)) h.2)
    fars_are (Some r) e h =
        let told = far_in r h in
        let ordered = ready.numbering.numbered.ordered in
        (told.events_are ∙ ordered.events_are, told.states_are ∙ ordered.states_are, told.channels_are ∙ ready.numbering.numbered.rows.channels_are ∙ ap (λ o. with_repeats o (channels_of (all_leaves s.devices))) e)
      where
        far_in : (r : ℕ) (h : HasFar n s ranges (Some r) fars far_states channels) → HasFarNumbers (states_in n) (events_in n) n.channels.items (book_of final) h.0
        far_in r h = far_told (states_in n) (events_in n) n.channels.items h.0 final h.2 h.3 h.4 (h.1.sized ∙ count_is (states_in n) (events_in n) n.channels.items)

    in_order : IsInOrder s (book_of final)
    in_order =
        let given = ready.numbering.numbered.given in
        record {
          places_are = each_placed;
          depths_are =
              ap certs.depth_rows depths_are ∙ paths_are (all_rows (book_of final) devices s.devices) ∙ ap (map names_in) (paths_all (book_of final) devices s.devices given.tables ∙ sym (depth_texts devices)) ∙ devices_named devices s.devices given.tables;
          channels_are = (fars_are repeats refl net).2;
        }
      where
        each_placed : (kind : PlaceRows) → given kind (book_of final) ≡ required kind repeats (all_leaves s.devices)
        each_placed Range_rows = ap range_places has.are ∙ has.places
        each_placed Charge_rows = steps_in.charges_are ∙ ready.numbering.numbered.ordered.states_are
        each_placed Weight_rows = steps_in.weights_are ∙ ready.numbering.numbered.ordered.events_are
        each_placed Far_rows = (fars_are repeats refl net).0
        each_placed Far_state_rows = (fars_are repeats refl net).1

    all_there : HasNoRowTwice (book_of final) → AllRows s (book_of final)
    all_there once =
        record {
          places = λ kind. record { same = λ p. ap (list_any (place_eq p)) (in_order.places_are kind); once = once.once kind };
          depths = λ path. ap (list_any (path_eq path)) in_order.depths_are;
          channels = λ c. ap (list_any (λ m. c == m)) in_order.channels_are;
        }

    far_least : (r : ℕ) → repeats ≡ Some r → AreLeast (nodes_in n) (network_demands r ranges (all_leaves s.devices)) (number_of (far_of (book_of final)))
    far_least r e = by repeats e ready net where
      by : (rep : Option ℕ) → rep ≡ Some r → IsReady rep devices n order s → HasFar n s ranges rep fars far_states channels → AreLeast (nodes_in n) (network_demands r ranges (all_leaves s.devices)) (number_of (far_of (book_of final)))
      by None f ready h = absurd cc
      by (Some q) f ready h =
          let same : q ≡ r = cc in
          let told : HasFarNumbers (states_in n) (events_in n) n.channels.items (book_of final) h.0 = far_told (states_in n) (events_in n) n.channels.items h.0 final h.2 h.3 h.4 (h.1.sized ∙ count_is (states_in n) (events_in n) n.channels.items) in
          subst (λ k. AreLeast (nodes_in n) (network_demands k ranges (all_leaves s.devices)) (number_of (far_of (book_of final)))) same
          (least_same (λ x. slice_index h.0 (numbers_of n x)) (number_of (far_of (book_of final))) (nodes_in n) (network_demands q ranges (all_leaves s.devices))
          (λ v c. sym (far_numbers_are (states_in n) (events_in n) n.channels.items (book_of final) h.0 told v c)) (of_network q devices n order s ready ranges) h.1.least)

    made_here : IsTold (book_of final) → IsMadeWith (λ rs. rs ≡ ranges) repeats s (states_in n) (events_in n) n.channels.items (book_of final)
    made_here told =
        let given = ready.numbering.numbered.given in
        let once = spelled told.0 (book_of final) told.1 in
        record {
          repeats_are = refl;
          ordered = in_order;
          followed = given.followed;
          rows = all_there once;
          ranges = has.are;
          clear = subst (λ rs. AllClear rs s) (sym has.are) has.clear;
          steps =
              subst (λ rs. AreLeast (nodes_of (states_in n) (events_in n) []) (demands 1 rs (all_leaves s.devices)) (number_of (steps_of (book_of final)))) (sym has.are)
              (own_least (demands 1 ranges (all_leaves s.devices)) steps (number_of (steps_of (book_of final))) (of_own repeats devices n order s ready 1 ranges)
              (λ v c. sym (steps_number (book_of final) v) ∙ numbers_are (λ r. r.steps) (states_in n) (events_in n) [] (book_of final) (take own steps) steps_in v c) a.least);
          places =
              subst (λ rs. AreLeast (nodes_of (states_in n) (events_in n) []) (demands 0 rs (all_leaves s.devices)) (number_of (places_of (book_of final)))) (sym has.are)
              (own_least (demands 0 ranges (all_leaves s.devices)) places (number_of (places_of (book_of final))) (of_own repeats devices n order s ready 0 ranges)
              (λ v c. sym (places_number (book_of final) v) ∙ numbers_are (λ r. r.places) (states_in n) (events_in n) [] (book_of final) (take own places) places_in v c) b.least);
          far = λ r e. subst (λ rs. AreLeast (nodes_in n) (network_demands r rs (all_leaves s.devices)) (number_of (far_of (book_of final)))) (sym has.are) (far_least r e);
          depths = needed_depths (book_of final) devices s.devices given.tables given.words fresh depths_are;
        }

  -- the places of rows are no more than those of any numbers that meet the demands
  no_more : (other : Certificate) → MeetAll (number_of (places_of other)) (demands 0 ranges (all_leaves s.devices)) → (p : Place) → (places_of (book_of mid)).weight p ≤ (places_of other).weight p
  no_more other meets p = by (list_any (place_eq p) (map place_of (events_in n))) refl where
    by : (t : Bool) → list_any (place_eq p) (map place_of (events_in n)) ≡ t → (places_of (book_of mid)).weight p ≤ (places_of other).weight p
    by true e =
        let c = Contains-append_right (map (λ t. state (place_of t)) (states_in n)) (map (λ t. event (place_of t)) (events_in n) ++ []) (event p) (Contains-append_left (map (λ t. event (place_of t)) (events_in n)) [] (event p) (in_rows event (events_in n) p e)) in
        let same = numbers_are (λ r. r.places) (states_in n) (events_in n) [] (book_of mid) (take own places) places_mid (event p) c ∙ sym (own_number places (event p) c) in
        let l = b.least.least (number_of (places_of other)) meets (event p) (own_among (states_in n) (events_in n) n.channels.items (event p) c) in
        omega (arith, same, l)
    by false e = let z = no_amount (λ r. r.places) (book_of mid).weights p (place_turned p) (ap (list_any (place_eq p)) places_mid.weights_are ∙ e) in omega (arith, z)

  past_here : (fault : NoBound) → queues.IsPastFault (λ t. IsPastAmong (book_of mid) t s.devices) fault → IsNoBoundAt ranges repeats s fault
  past_here OutOfMemory h = tt
  past_here (Cycle places) h = absurd h
  past_here (NoRange path) h = absurd h
  past_here (Limit resource) h = needs_depth ranges refl (λ other meets. past_more (book_of mid) other (string_bytes resource) s.devices (no_more other meets) h)

  -- ---- the same of what the code has

  by_network : (rep : Option ℕ) → rep ≡ repeats → (last : Rows) → HasNetwork rep n s ranges deep last → IsTold (book_of last) → IsMadeWith (λ rs. rs ≡ ranges) repeats s (states_in n) (events_in n) n.channels.items (book_of last)
  by_network None e last h told =
      let same : last ≡ record deep { repeats = repeats; fars = []; far_states = []; channels = [] } =
      h ∙ (ap (λ o. record deep { repeats = o }) (has.no_repeats ∙ e) ∙ (ap (λ t. record deep { repeats = repeats; fars = t }) has.no_far ∙ (ap (λ t. record deep { repeats = repeats; fars = []; far_states = t }) has.no_far_state ∙ ap (λ t. record deep { repeats = repeats; fars = []; far_states = []; channels = t }) has.no_channel))) in
      subst (λ rows. IsMadeWith (λ rs. rs ≡ ranges) repeats s (states_in n) (events_in n) n.channels.items (book_of rows)) (sym same)
      (made_here [] [] [] (subst (λ o. HasFar n s ranges o [] [] []) e (refl, refl, refl)) (subst (λ rows. IsTold (book_of rows)) same told))
  by_network (Some r) e last h told =
      let numbers = h.0 in
      let fs = counts (events_in n) (behind_states n numbers) in
      let ss = counts (states_in n) numbers in
      let cs = counts n.channels.items (behind_events n numbers) in
      let same : last ≡ record deep { repeats = repeats; fars = fs; far_states = ss; channels = cs } = h.2 ∙ ap (λ o. record deep { repeats = o; fars = fs; far_states = ss; channels = cs }) e in
      subst (λ rows. IsMadeWith (λ rs. rs ≡ ranges) repeats s (states_in n) (events_in n) n.channels.items (book_of rows)) (sym same)
      (made_here fs ss cs (subst (λ o. HasFar n s ranges o fs ss cs) e (numbers, h.1, refl, refl, refl)) (subst (λ rows. IsTold (book_of rows)) same told))

  pub made : (now then last : Rows) → now ≡ mid → then ≡ with_more (all_rows (book_of now) devices s.devices) now → HasNetwork repeats n s ranges then last → IsTold (book_of last) → IsMadeWith (λ rs. rs ≡ ranges) repeats s (states_in n) (events_in n) n.channels.items (book_of last)
  made now then last e f h told =
      let g : then ≡ deep = f ∙ ap (λ rows. with_more (all_rows (book_of rows) devices s.devices) rows) e in
      by_network repeats refl last (subst (λ rows. HasNetwork repeats n s ranges rows last) g h) told

  pub fresh_now : (now : Rows) → now ≡ mid → AreFresh (queues.paths now.depths) (flat_map resource_texts devices)
  fresh_now now e = subst (λ ts. AreFresh ts (flat_map resource_texts devices)) (sym (ap (λ (rows : Rows). queues.paths rows.depths) e ∙ ap queues.paths has.no_depth)) fresh

  -- there is no row of the network yet
  pub none_yet : (now then : Rows) → now ≡ mid → then ≡ with_more (all_rows (book_of now) devices s.devices) now → HasNoNetwork then
  none_yet now then e f =
      let g : then ≡ deep = f ∙ ap (λ rows. with_more (all_rows (book_of rows) devices s.devices) rows) e in
      record {
        no_repeats = ap (λ (rows : Rows). rows.repeats) g ∙ has.no_repeats;
        no_far = ap (λ (rows : Rows). rows.fars) g ∙ has.no_far;
        no_far_state = ap (λ (rows : Rows). rows.far_states) g ∙ has.no_far_state;
        no_channel = ap (λ (rows : Rows). rows.channels) g ∙ has.no_channel;
      }

  pub past : (now : Rows) (fault : NoBound) → now ≡ mid → queues.IsPastFault (λ t. IsPastAmong (book_of now) t s.devices) fault → IsNoBoundAt ranges repeats s fault
  past now fault e h = past_here fault (subst (λ rows. queues.IsPastFault (λ t. IsPastAmong (book_of rows) t s.devices) fault) e h)

-- ---- numbers above their limit

module _ (repeats : Option ℕ) (devices : List FlatDevice) (n : Numbering) (order : List ℕ) (s : System) (ready : IsReady repeats devices n order s) (ranges : List Range) (start : Rows) (has : HasRanges s ranges start) where
  pub steps_past : (fault : NoBound) → columns.IsPastFault n (demands 1 ranges (all_leaves s.devices)) most_steps fault → IsNoBoundAt ranges repeats s fault
  steps_past OutOfMemory h = tt
  steps_past (Cycle places) h = absurd h
  steps_past (NoRange path) h = absurd h
  steps_past (Limit resource) h = needs_steps ranges refl (great repeats devices n order s ready (demands 1 ranges (all_leaves s.devices)) most_steps (string_bytes resource) h)

  pub places_past : (fault : NoBound) → columns.IsPastFault n (demands 0 ranges (all_leaves s.devices)) most_places fault → IsNoBoundAt ranges repeats s fault
  places_past OutOfMemory h = tt
  places_past (Cycle places) h = absurd h
  places_past (NoRange path) h = absurd h
  places_past (Limit resource) h = needs_places ranges refl (great repeats devices n order s ready (demands 0 ranges (all_leaves s.devices)) most_places (string_bytes resource) h)

  pub far_past : (fault : NoBound) → IsFarFault repeats n s ranges fault → IsNoBoundAt ranges repeats s fault
  far_past fault h = by repeats refl fault h where
    by : (rep : Option ℕ) → repeats ≡ rep → (fault : NoBound) → IsFarFault rep n s ranges fault → IsNoBoundAt ranges repeats s fault
    by None e fault h = subst (IsNoBoundAt ranges repeats s) (sym h) tt
    by (Some r) e OutOfMemory h = tt
    by (Some r) e (Cycle places) h = absurd h
    by (Some r) e (NoRange path) h = absurd h
    by (Some r) e (Limit resource) h = needs_far r ranges e refl (great repeats devices n order s ready (network_demands r ranges (all_leaves s.devices)) most_steps (string_bytes resource) h)
