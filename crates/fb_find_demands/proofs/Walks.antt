-- From places that are shown to numbers, and back.
use Rattle.std.proofs.Common.{ℕ, zero, suc, ◌≡◌, ◌+◌, ◌-◌, ◌<◌, ◌≤◌, ◌⊎◌, inl, inr, ◌↔◌, Bool, true, false, not, cond, List, [], ◌∷◌, length, map, slice_index, slice_index_or, nat_lt, ◌++◌, ◌==◌, refl, sym, ◌∙◌, ap, subst, arith, Contains}
use Rattle.std.specs.Str.{bytes_eq}
use Rattle.std.proofs.lemmas.Bool.{eqb-true}
use Rattle.std.proofs.lemmas.Bool.Decides.{nat_tests}
use Rattle.std.proofs.lemmas.List.{length-map, length-append, get_or-map, get_or_append_left, get_or-append-add}
use Rattle.std.proofs.lemmas.List.Elements.{Contains-append_left, Contains-append_right}
use Rattle.fb_model.specs.Names.{Name, Place, at_place}
use Rattle.fb_model.specs.CertificateText.{place_of}
use Rattle.fb_model.proofs.Lists.{same_name}
use Rattle.fb_model.specs.Demands.{Node, state, event, channel, Demand, node_in, IsClosedWalk}
use Rattle.fb_find_graph.specs.Systems.{System, IsSystem}
use Rattle.fb_find_graph.specs.Systems as numbered
use Rattle.fb_find_laws.specs.Numbered.{AreNumbers, AreOf, SaysSame}
use Rattle.fb_find_laws.proofs.Numbering.{walk_nodes, walk_numbers}
use Rattle.fb_find_laws.specs.Nodes.{written, index_in, rank_in, nodes_of, number}
use Rattle.fb_find_laws.proofs.Nodes.{written_place}
use Rattle.fb_find_demands.specs.Shown.{index_or, number_or_end}

-- ---- closed walks stay within the nodes

split : (m n : ℕ) → (m < n) ⊎ (n ≤ m)
split m n = grind arith

known_nodes : (nodes : List Node) (ds : List Demand) (xs : List Node) → AreOf nodes ds → IsClosedWalk ds xs → (k : ℕ) → k < length xs → Contains nodes (node_in xs k)
known_nodes nodes ds xs o w k l = by (split (k + 1) (length xs)) where
  before : (j : ℕ) → j + 1 < length xs → Contains nodes (node_in xs j)
  before j h = let a = (w.chain j h).1 in subst (λ (x : Node). Contains nodes x) a.2 (o.node a.0 a.1)

  by : (k + 1 < length xs) ⊎ (length xs ≤ k + 1) → Contains nodes (node_in xs k)
  by (inl h) = before k h
  by (inr h) =
      let e : length xs - 1 ≡ k = omega (arith, h, l) in
      subst (λ (x : Node). Contains nodes x) (w.closes ∙ ap (node_in xs) e) (before 0 (omega (arith, w.long)))

known_numbers : (system : System) (ks : List ℕ) → IsSystem system → numbered.IsClosedWalk system ks → (k : ℕ) → k < length ks → slice_index ks k < length system
known_numbers system ks is w zero l =
    let j = length ks - 2 in
    let d = w.chain j (omega (arith, w.long)) in
    let e : j + 1 ≡ length ks - 1 = omega (arith, w.long) in
    subst (λ (p : ℕ). p < length system) (ap (slice_index ks) e ∙ sym w.closes) (is.known (slice_index ks j) (slice_index ks (j + 1)) d.0 d.1)
known_numbers system ks is w (suc j) l =
    let d = w.chain j (omega (arith, l)) in
    let e : j + 1 ≡ suc j = omega arith in
    subst (λ (i : ℕ). slice_index ks i < length system) e (is.known (slice_index ks j) (slice_index ks (j + 1)) d.0 d.1)

-- ---- things that stand for nodes, each with a number that is that of its node, if this has one, and else is behind the end

module _ {T : Type 0} (nodes : List Node) (number : Node → ℕ) (node : T → Node) (f : T → ℕ) (from : (t : T) → f t < length nodes → node_in nodes (f t) ≡ node t) (to : (t : T) → Contains nodes (node t) → f t ≡ number (node t)) where
  back : (ts : List T) → ((k : ℕ) → k < length ts → slice_index (map f ts) k < length nodes) → map (node_in nodes) (map f ts) ≡ map node ts
  back [] h = refl
  back (t ∷ ts) h = ap (λ x. x ∷ map (node_in nodes) (map f ts)) (from t (h 0 (omega arith))) ∙ ap (λ xs. node t ∷ xs) (back ts (λ k l. h (suc k) (omega (arith, l))))

  same : (ts : List T) → ((k : ℕ) → k < length ts → Contains nodes (node_in (map node ts) k)) → map f ts ≡ map number (map node ts)
  same [] h = refl
  same (t ∷ ts) h = ap (λ p. p ∷ map f ts) (to t (h 0 (omega arith))) ∙ ap (λ ps. number (node t) ∷ ps) (same ts (λ k l. h (suc k) (omega (arith, l))))

  pub walks_alike : (ds : List Demand) (system : System) (ts : List T) → AreNumbers nodes number → AreOf nodes ds → SaysSame ds number system → IsSystem system → length system ≡ length nodes
      → numbered.IsClosedWalk system (map f ts) ↔ IsClosedWalk ds (map node ts)
  walks_alike ds system ts n o s is sized = (
    λ w. subst (IsClosedWalk ds) (back ts (λ k l. omega (arith, known_numbers system (map f ts) is w k (omega (arith, l, length-map ts f)), sized))) (walk_nodes nodes ds number system (map f ts) n o s w),
    λ w. subst (numbered.IsClosedWalk system) (sym (same ts (λ k l. known_nodes nodes ds (map node ts) o w k (omega (arith, l, length-map ts node))))) (walk_numbers nodes ds number system (map node ts) n o s w),
  )

-- ---- texts in lists

found_at : (t s : Name) (ss : List Name) (b : Bool) → bytes_eq t s ≡ b → (index_in ss t < length ss → Contains ss t) → cond (not b) (1 + index_in ss t) 0 < length (s ∷ ss) → Contains (s ∷ ss) t
found_at t s ss true e h l = (0, omega arith, sym (same_name t s e))
found_at t s ss false e h l = Contains-append_right (s ∷ []) ss t (h (omega (arith, l)))

found : (texts : List Name) (t : Name) → index_in texts t < length texts → Contains texts t
found [] t l = absurd (omega (arith, l))
found (s ∷ ss) t l = found_at t s ss (bytes_eq t s) refl (found ss t) l

contains_map : {X Y : Type 0} (g : X → Y) (xs : List X) (x : X) → Contains xs x → Contains (map g xs) (g x)
contains_map g xs x h = (h.0, omega (arith, length-map xs g, h.1), get_or-map g xs h.0 x (g x) h.1 ∙ ap g h.2)

or_within : (k n i : ℕ) (b : Bool) → nat_lt i n ≡ b → i < n → cond b i k ≡ i
or_within k n i true e l = refl
or_within k n i false e l = grind (arith, nat_tests)

or_behind : (k n i : ℕ) (b : Bool) → nat_lt i n ≡ b → n ≤ i → cond b i k ≡ k
or_behind k n i true e l = grind (arith, nat_tests)
or_behind k n i false e l = refl

within_or : (k n i : ℕ) (b : Bool) → nat_lt i n ≡ b → cond b i k < k → i < n
within_or k n i true e l = grind (arith, nat_tests)
within_or k n i false e l = absurd (omega (arith, l))

pub index_at : (texts : List Name) (t : Name) → index_in texts (written (place_of t)) ≡ index_in texts t
index_at texts t = ap (index_in texts) (written_place t)

-- a text that is found has its index, and one that is not the other number
pub found_or : (k : ℕ) (texts : List Name) (t : Name) (i : ℕ) → i ≡ index_in texts t → i < length texts → i ≡ index_or k texts (written (place_of t))
found_or k texts t i e l =
    let w = written (place_of t) in
    let j : i ≡ index_in texts w = e ∙ sym (index_at texts t) in
    j ∙ sym (or_within k (length texts) (index_in texts w) (nat_lt (index_in texts w) (length texts)) refl (omega (arith, j, l)))

pub none_or : (k : ℕ) (texts : List Name) (t : Name) → length texts ≡ index_in texts t → k ≡ index_or k texts (written (place_of t))
none_or k texts t e =
    let w = written (place_of t) in
    sym (or_behind k (length texts) (index_in texts w) (nat_lt (index_in texts w) (length texts)) refl (omega (arith, e, index_at texts t)))

-- ---- numbers in lists

rank_found_at : (c d : ℕ) (ds : List ℕ) (b : Bool) → (c == d) ≡ b → (rank_in ds c < length ds → Contains ds c) → cond (not b) (1 + rank_in ds c) 0 < length (d ∷ ds) → Contains (d ∷ ds) c
rank_found_at c d ds true e h l = (0, omega arith, sym (eqb-true c d e))
rank_found_at c d ds false e h l = Contains-append_right (d ∷ []) ds c (h (omega (arith, l)))

rank_found : (ds : List ℕ) (c : ℕ) → rank_in ds c < length ds → Contains ds c
rank_found [] c l = absurd (omega (arith, l))
rank_found (d ∷ ds) c l = rank_found_at c d ds (c == d) refl (rank_found ds c) l

-- ---- nodes of rows

-- how many there are
pub count_is : (states events : List Name) (channels : List ℕ) → length (nodes_of states events channels) ≡ length states + (length events + length channels)
count_is states events channels =
    omega (
      arith,
      length-append (map (λ t. state (place_of t)) states) (map (λ t. event (place_of t)) events ++ map channel channels),
      length-append (map (λ t. event (place_of t)) events) (map channel channels),
      length-map states (λ t. state (place_of t)),
      length-map events (λ t. event (place_of t)),
      length-map channels channel,
    )

-- what nodes are, and where they stand
abbrev is_state : Node → Bool
is_state (state p) = true
is_state (event p) = false
is_state (channel c) = false

abbrev is_event : Node → Bool
is_event (state p) = false
is_event (event p) = true
is_event (channel c) = false

module _ (states events : List Name) (channels : List ℕ) (stand : AreNumbers (nodes_of states events channels) (number states events channels)) where
  abbrev nodes : List Node
  nodes = nodes_of states events channels

  abbrev front : List Node
  front = map (λ t. state (place_of t)) states

  abbrev middle : List Node
  middle = map (λ t. event (place_of t)) events

  abbrev behind : List Node
  behind = middle ++ map channel channels

  sized : length nodes ≡ length states + (length events + length channels)
  sized = count_is states events channels

  state_known : (t : Name) → index_in states t < length states → Contains nodes (state (place_of t))
  state_known t l = Contains-append_left front behind (state (place_of t)) (contains_map (λ s. state (place_of s)) states t (found states t l))

  event_known : (t : Name) → index_in events t < length events → Contains nodes (event (place_of t))
  event_known t l = Contains-append_right front behind (event (place_of t)) (Contains-append_left middle (map channel channels) (event (place_of t)) (contains_map (λ s. event (place_of s)) events t (found events t l)))

  channel_known : (c : ℕ) → rank_in channels c < length channels → Contains nodes (channel c)
  channel_known c l = Contains-append_right front behind (channel c) (Contains-append_right middle (map channel channels) (channel c) (contains_map channel channels c (rank_found channels c l)))

  -- what stands behind the states
  at_behind : (k : ℕ) → node_in nodes (length states + k) ≡ slice_index_or behind k (state (at_place [] []))
  at_behind k = ap (λ n. node_in nodes (n + k)) (sym (length-map states (λ t. state (place_of t)))) ∙ get_or-append-add front behind k (state (at_place [] []))

  event_at : (k : ℕ) → k < length events → node_in nodes (length states + k) ≡ event (place_of (slice_index_or events k []))
  event_at k h = at_behind k ∙ (get_or_append_left middle (map channel channels) (state (at_place [] [])) k (omega (arith, h, length-map events (λ t. event (place_of t)))) ∙ get_or-map (λ t. event (place_of t)) events k [] (state (at_place [] [])) h)

  channel_at : (k : ℕ) → k < length channels → node_in nodes (length states + (length events + k)) ≡ channel (slice_index_or channels k 0)
  channel_at k h =
      at_behind (length events + k)
      ∙ (ap (λ n. slice_index_or behind (n + k) (state (at_place [] []))) (sym (length-map events (λ t. event (place_of t))))
      ∙ (get_or-append-add middle (map channel channels) k (state (at_place [] [])) ∙ get_or-map channel channels k 0 (state (at_place [] [])) h))

  -- states stand first
  state_early : (k : ℕ) (p : Place) → k < length nodes → node_in nodes k ≡ state p → k < length states
  state_early k p l e = by (split k (length states)) (split k (length states + length events)) where
    by : (k < length states) ⊎ (length states ≤ k) → (k < length states + length events) ⊎ (length states + length events ≤ k) → k < length states
    by (inl h) m = h
    by (inr h) (inl m) =
        let j = k - length states in
        let whole : length states + j ≡ k = omega (arith, h) in
        let at : event (place_of (slice_index_or events j [])) ≡ state p = sym (event_at j (omega (arith, h, m))) ∙ (ap (node_in nodes) whole ∙ e) in
        absurd (let z : false ≡ true = ap is_state at in cc)
    by (inr h) (inr m) =
        let j = k - (length states + length events) in
        let whole : length states + (length events + j) ≡ k = omega (arith, m) in
        let at : channel (slice_index_or channels j 0) ≡ state p = sym (channel_at j (omega (arith, m, l, sized))) ∙ (ap (node_in nodes) whole ∙ e) in
        absurd (let z : false ≡ true = ap is_state at in cc)

  -- and events before channels
  event_early : (k : ℕ) (p : Place) → length states + k < length nodes → node_in nodes (length states + k) ≡ event p → k < length events
  event_early k p l e = by (split k (length events)) where
    by : (k < length events) ⊎ (length events ≤ k) → k < length events
    by (inl h) = h
    by (inr h) =
        let j = k - length events in
        let whole : length states + (length events + j) ≡ length states + k = omega (arith, h) in
        let at : channel (slice_index_or channels j 0) ≡ event p = sym (channel_at j (omega (arith, h, l, sized))) ∙ (ap (node_in nodes) whole ∙ e) in
        absurd (let z : false ≡ true = ap is_event at in cc)

  pub state_from : (t : Name) → number_or_end states events channels (state (place_of t)) < length nodes → node_in nodes (number_or_end states events channels (state (place_of t))) ≡ state (place_of t)
  state_from t l =
      let w = written (place_of t) in
      let i = index_in states w in
      let end = length states + (length events + length channels) in
      let h : i < length states = within_or end (length states) i (nat_lt i (length states)) refl (omega (arith, l, sized)) in
      let e : number_or_end states events channels (state (place_of t)) ≡ i = or_within end (length states) i (nat_lt i (length states)) refl h in
      ap (node_in nodes) e ∙ (stand.at (state (place_of t)) (state_known t (omega (arith, h, index_at states t)))).1

  pub state_to : (t : Name) → Contains nodes (state (place_of t)) → number_or_end states events channels (state (place_of t)) ≡ number states events channels (state (place_of t))
  state_to t c =
      let own = stand.at (state (place_of t)) c in
      let i = index_in states (written (place_of t)) in
      or_within (length states + (length events + length channels)) (length states) i (nat_lt i (length states)) refl (state_early i (place_of t) own.0 own.1)

  pub event_from : (t : Name) → number_or_end states events channels (event (place_of t)) < length nodes → node_in nodes (number_or_end states events channels (event (place_of t))) ≡ event (place_of t)
  event_from t l =
      let w = written (place_of t) in
      let i = index_in events w in
      let end = length events + length channels in
      let h : i < length events = within_or end (length events) i (nat_lt i (length events)) refl (omega (arith, l, sized)) in
      let e : index_or end events w ≡ i = or_within end (length events) i (nat_lt i (length events)) refl h in
      ap (λ k. node_in nodes (length states + k)) e ∙ (stand.at (event (place_of t)) (event_known t (omega (arith, h, index_at events t)))).1

  pub event_to : (t : Name) → Contains nodes (event (place_of t)) → number_or_end states events channels (event (place_of t)) ≡ number states events channels (event (place_of t))
  event_to t c =
      let own = stand.at (event (place_of t)) c in
      let i = index_in events (written (place_of t)) in
      ap (λ k. length states + k) (or_within (length events + length channels) (length events) i (nat_lt i (length events)) refl (event_early i (place_of t) own.0 own.1))

  pub channel_from : (c : ℕ) → number_or_end states events channels (channel c) < length nodes → node_in nodes (number_or_end states events channels (channel c)) ≡ channel c
  channel_from c l = (stand.at (channel c) (channel_known c (omega (arith, l, sized)))).1
