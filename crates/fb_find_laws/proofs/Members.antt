-- All demands are of nodes of the system, and ask for such.
use Rattle.std.specs.Prelude.{◌&&◌, ◌||◌}
use Rattle.std.proofs.Common.{ℕ, zero, suc, ◌≡◌, ◌==◌, Bool, true, false, List, [], ◌∷◌, ◌++◌, map, replicate, Option, Some, None, refl, sym, ◌∙◌, ap, subst, arith, Contains, if◌then◌else◌}
use Rattle.std.specs.List.{list_any, flat_map, AllByRecursion}
use Rattle.std.specs.Str.{bytes_eq}
use Rattle.std.proofs.lemmas.List.Elements.{All-contains, All-from_recursion, Contains-append_left, Contains-append_right}
use Rattle.fb_model.specs.Names.{Name, Path, Place, at_place, path_eq, place_eq, is_in}
use Rattle.fb_model.specs.System.{Action, State, Transition, Block, Service, Device}
use Rattle.fb_model.specs.Services.{service_events, can_emit, arrive, init}
use Rattle.fb_model.specs.Wires.{Kind, Charted, Serviced, Leaf, leaf_at, leaves}
use Rattle.fb_model.specs.Charts.{actions_of, is_open, emission}
use Rattle.fb_model.specs.Certificates.{reached, event_names, names, state_names, events_of, has_event, is_input, each_leaf, places_in, state_places, event_places, admissions, channel_in, with_number, channels_of, with_repeats, all_leaves, IsWired}
use Rattle.fb_model.specs.CertificateText.{place_of}
use Rattle.fb_model.proofs.Lists.{all_append, all_weaker, all_both, same_name, same_path}
use Rattle.std.proofs.lemmas.Bool.{eqb-true}
use Rattle.fb_model.proofs.Networks.{is_one, among_with, number_same}
use Rattle.fb_model.proofs.Placed.{path_same, all_left, all_right}
use Rattle.fb_model_laws.specs.Leaves.{IsClosedBlock, IsClosed}
use Rattle.fb_model.specs.Demands.{Node, state, event, channel, Demand, Ground, emitted, of_state, free_demand, of_free, crossing_demand, of_crossing, of_input, of_chart, sent, of_dispatch, of_kind, linked, heard, of_channel, channel_demands}
use Rattle.fb_find_laws.specs.Numbered.{AreOf}
use Rattle.fb_find_laws.specs.Nodes.{nodes_of, AreRowsOf}
use Rattle.fb_lists.proofs.Lists.{all_image}
use Rattle.fb_find_laws.proofs.Lists.{each_flat, all_self, on_names, or_more, or_here, units}

-- ---- the demands of a leaf

abbrev pub OnNodes : (Node → Type 0) → Demand → Type 0
OnNodes P d = P d.node × AllByRecursion P d.terms

-- what is so of the nodes of a leaf and of where its outputs lead
pub record AreNodes (P : Node → Type 0) (g : Ground) (states events : List Name) : Type 0 where
  pub state_is : (s : Name) → is_in s states ≡ true → P (state (g.own s))
  pub event_is : (e : Name) → is_in e events ≡ true → P (event (g.own e))
  pub lead : (o : Name) → AllByRecursion (λ (p : Place). P (event p)) (g.targets o)

module _ (P : Node → Type 0) (g : Ground) where
  reached_on : ((o : Name) → AllByRecursion (λ (p : Place). P (event p)) (g.targets o)) → (os : List Name) → AllByRecursion P (map event (reached g.targets os))
  reached_on h os = all_image (λ p. P (event p)) P event (reached g.targets os) (λ p q. q) (all os) where
    all : (ns : List Name) → AllByRecursion (λ (p : Place). P (event p)) (reached g.targets ns)
    all [] = tt
    all (o ∷ ns) = all_append (λ (p : Place). P (event p)) (g.targets o) (reached g.targets ns) (h o) (all ns)

  emitted_on : ((o : Name) → AllByRecursion (λ (p : Place). P (event p)) (g.targets o)) → (actions : List Action) → AllByRecursion P (emitted g actions)
  emitted_on h actions = each_flat P (λ a. Unit {0}) (λ a. map event (reached g.targets (emission a.output))) actions (λ a u. reached_on h (emission a.output)) (units actions) where
    units : (xs : List Action) → AllByRecursion (λ (a : Action). Unit {0}) xs
    units [] = tt
    units (x ∷ xs) = (tt, units xs)

  free_on : ((o : Name) → AllByRecursion (λ (p : Place). P (event p)) (g.targets o)) → (actions : List Action) (source target : Name) → P (state (g.own source)) → P (state (g.own target)) → (e : Option Name)
      → AllByRecursion (OnNodes P) (elim e [ None ↦ free_demand g actions source target ∷ [] | Some n ↦ [] ])
  free_on h actions source target s t None = ((s, all_append P (emitted g actions) (state (g.own target) ∷ []) (emitted_on h actions) (t, tt)), tt)
  free_on h actions source target s t (Some n) = tt

  crossing_on : (e target : Name) → P (event (g.own e)) → P (state (g.own target)) → (b : Bool) → AllByRecursion (OnNodes P) (if b then crossing_demand g e target ∷ [] else [])
  crossing_on e target s t true = ((s, (t, tt)), tt)
  crossing_on e target s t false = tt

  chart_on : (block : Block) → IsClosedBlock block → AreNodes P g (names block.states) (event_names block.event_inputs) → AllByRecursion (OnNodes P) (of_chart g block)
  chart_on block c a =
      let xs = map (of_state g) block.states in
      let ys = flat_map (of_free g block) block.transitions in
      let zs = flat_map (of_input g block) (event_names block.event_inputs) in
      let targets : AllByRecursion (λ (t : Transition). P (state (g.own t.target))) block.transitions = all_weaker (λ (t : Transition). is_in t.target (names block.states) ≡ true) (λ (t : Transition). P (state (g.own t.target))) block.transitions (λ t h. a.state_is t.target h) c.targets in
      let ends : AllByRecursion (λ (t : Transition). P (state (g.own t.source)) × P (state (g.own t.target))) block.transitions =
      all_both (λ (t : Transition). is_in t.source (names block.states) ≡ true) (λ (t : Transition). P (state (g.own t.target))) (λ (t : Transition). P (state (g.own t.source)) × P (state (g.own t.target))) block.transitions (λ t h k. (a.state_is t.source h, k)) c.sources targets in
      let first = all_image (λ (s : State). is_in s.name (names block.states) ≡ true) (OnNodes P) (of_state g) block.states (λ s h. (a.state_is s.name h, emitted_on a.lead s.actions)) (on_names (λ n. is_in n (names block.states) ≡ true) block.states (all_self (names block.states))) in
      let second =
      each_flat (OnNodes P) (λ (t : Transition). P (state (g.own t.source)) × P (state (g.own t.target))) (of_free g block) block.transitions (λ t h. free_on a.lead (actions_of block.states t.source) t.source t.target h.0 h.1 t.event) ends in
      let third =
      each_flat (OnNodes P) (λ e. is_in e (event_names block.event_inputs) ≡ true) (of_input g block) (event_names block.event_inputs)
      (λ e h. ((a.event_is e h, tt), each_flat (OnNodes P) (λ (t : Transition). P (state (g.own t.target))) (of_crossing g e) block.transitions (λ t k. crossing_on e t.target (a.event_is e h) k (is_open t.event (Some e))) targets)) (all_self (event_names block.event_inputs)) in
      all_append (OnNodes P) xs (ys ++ zs) first (all_append (OnNodes P) ys zs second third)

  -- what a datagram asks for that a service can send
  sent_on : (service : Service) → ((c : ℕ) → channel_in (Serviced service) ≡ Some c → AllByRecursion P (g.datagram c)) → (e : Name) → AllByRecursion P (sent g service e)
  sent_on (Service.Publish k types) h e = by (bytes_eq e init) where
    by : (b : Bool) → AllByRecursion P (if b then [] else g.datagram k.number)
    by true = tt
    by false = h k.number refl
  sent_on (Service.Input number types) h e = tt
  sent_on (Service.Output number types) h e = tt
  sent_on (Service.Subscribe k types) h e = tt
  sent_on Service.Delay h e = tt
  sent_on Service.Cycle h e = tt
  sent_on Service.Restart h e = tt

  pub kind_on : (kind : Kind) → IsClosed kind → AreNodes P g (state_names kind) (events_of kind) → ((c : ℕ) → channel_in kind ≡ Some c → AllByRecursion P (g.datagram c)) → AllByRecursion (OnNodes P) (of_kind g kind)
  kind_on (Charted block) c a h = chart_on block c a
  kind_on (Serviced service) c a h =
      each_flat (OnNodes P) (λ e. is_in e (service_events service) ≡ true) (of_dispatch g service) (service_events service)
      (λ e i. ((a.event_is e i, tt), ((a.event_is e i, all_append P (sent g service e) (map event (reached g.targets (can_emit service e))) (sent_on service h e) (reached_on a.lead (can_emit service e))), tt))) (all_self (service_events service))

-- ---- rows of leaves

any_append : {X : Type 0} (t : X → Bool) (xs ys : List X) → list_any t (xs ++ ys) ≡ (list_any t xs || list_any t ys)
any_append t [] ys = refl
any_append t (x ∷ xs) ys = by (t x) (any_append t xs ys) where
  by : (b : Bool) → list_any t (xs ++ ys) ≡ (list_any t xs || list_any t ys) → (b || list_any t (xs ++ ys)) ≡ ((b || list_any t xs) || list_any t ys)
  by true h = refl
  by false h = h

-- a place in the rows of a leaf is in those of all
each_has : (f : Leaf → List Place) (all : List Leaf) → AllByRecursion (λ (leaf : Leaf). (p : Place) → list_any (place_eq p) (f leaf) ≡ true → list_any (place_eq p) (each_leaf f all) ≡ true) all
each_has f [] = tt
each_has f (leaf ∷ rest) = (
  λ p h. any_append (place_eq p) (f leaf) (each_leaf f rest) ∙ or_here (list_any (place_eq p) (f leaf)) (list_any (place_eq p) (each_leaf f rest)) h,
  all_weaker (λ (x : Leaf). (p : Place) → list_any (place_eq p) (f x) ≡ true → list_any (place_eq p) (each_leaf f rest) ≡ true) (λ (x : Leaf). (p : Place) → list_any (place_eq p) (f x) ≡ true → list_any (place_eq p) (each_leaf f (leaf ∷ rest)) ≡ true) rest
      (λ x k p h. any_append (place_eq p) (f leaf) (each_leaf f rest) ∙ or_more (list_any (place_eq p) (f leaf)) (list_any (place_eq p) (each_leaf f rest)) (k p h)) (each_has f rest),
)

own_place : (path : Path) (ns : List Name) (s : Name) → is_in s ns ≡ true → list_any (place_eq (at_place path s)) (places_in path ns) ≡ true
own_place path [] s h = absurd cc
own_place path (n ∷ ns) s h = by (bytes_eq s n) h (own_place path ns s) where
  by : (b : Bool) → (b || is_in s ns) ≡ true → (is_in s ns ≡ true → list_any (place_eq (at_place path s)) (places_in path ns) ≡ true) → ((path_eq path path && b) || list_any (place_eq (at_place path s)) (places_in path ns)) ≡ true
  by true h k = rw (path_same path) refl
  by false h k = or_more (path_eq path path && false) (list_any (place_eq (at_place path s)) (places_in path ns)) (k h)

pub same_place : (p q : Place) → place_eq p q ≡ true → p ≡ q
same_place p q h = by (path_eq p.path q.path) (bytes_eq p.event q.event) refl refl h where
  by : (a b : Bool) → path_eq p.path q.path ≡ a → bytes_eq p.event q.event ≡ b → (a && b) ≡ true → p ≡ q
  by true true e f h = let s : p.path ≡ q.path = same_path p.path q.path e in let t : p.event ≡ q.event = same_name p.event q.event f in ap (λ x. at_place x p.event) s ∙ ap (λ x. at_place q.path x) t
  by true false e f h = absurd cc
  by false b e f h = absurd cc

-- a place among those of rows has its node
pub in_rows : (f : Place → Node) (ts : List Name) (p : Place) → list_any (place_eq p) (map place_of ts) ≡ true → Contains (map (λ t. f (place_of t)) ts) (f p)
in_rows f [] p h = absurd cc
in_rows f (t ∷ ts) p h = by (place_eq p (place_of t)) refl h (in_rows f ts p) where
  by : (b : Bool) → place_eq p (place_of t) ≡ b → (b || list_any (place_eq p) (map place_of ts)) ≡ true → (list_any (place_eq p) (map place_of ts) ≡ true → Contains (map (λ t. f (place_of t)) ts) (f p)) → Contains (map (λ t. f (place_of t)) (t ∷ ts)) (f p)
  by true e h k = (0, omega arith, ap f (sym (same_place p (place_of t) e)))
  by false e h k = Contains-append_right (f (place_of t) ∷ []) (map (λ t. f (place_of t)) ts) (f p) (k h)

-- a channel among channels has its node
in_channels : (cs : List ℕ) (c : ℕ) → is_one c cs ≡ true → Contains (map channel cs) (channel c)
in_channels [] c h = absurd cc
in_channels (k ∷ ks) c h = by (c == k) refl h (in_channels ks c) where
  by : (b : Bool) → (c == k) ≡ b → (b || is_one c ks) ≡ true → (is_one c ks ≡ true → Contains (map channel ks) (channel c)) → Contains (map channel (k ∷ ks)) (channel c)
  by true e h f = (0, omega arith, ap channel (sym (eqb-true c k e)))
  by false e h f = Contains-append_right (channel k ∷ []) (map channel ks) (channel c) (f h)

-- numbers are among themselves
all_ones : (cs : List ℕ) → AllByRecursion (λ c. is_one c cs ≡ true) cs
all_ones [] = tt
all_ones (k ∷ ks) = (or_here (k == k) (is_one k ks) (number_same k), all_weaker (λ c. is_one c ks ≡ true) (λ c. is_one c (k ∷ ks) ≡ true) ks (λ c h. or_more (c == k) (is_one c ks) h) (all_ones ks))

-- the channel of each leaf is among those of all
all_named : (all : List Leaf) → AllByRecursion (λ (leaf : Leaf). (c : ℕ) → channel_in leaf.kind ≡ Some c → is_one c (channels_of all) ≡ true) all
all_named [] = tt
all_named (leaf ∷ rest) = (
  λ c h. here c h,
  all_weaker (λ (x : Leaf). (c : ℕ) → channel_in x.kind ≡ Some c → is_one c (channels_of rest) ≡ true) (λ (x : Leaf). (c : ℕ) → channel_in x.kind ≡ Some c → is_one c (channels_of (leaf ∷ rest)) ≡ true) rest
      (λ x k c h. more (channel_in leaf.kind) c (k c h)) (all_named rest),
)
  where
    more : (o : Option ℕ) (c : ℕ) → is_one c (channels_of rest) ≡ true → is_one c (elim o [ None ↦ channels_of rest | Some n ↦ with_number n (channels_of rest) ]) ≡ true
    more None c h = h
    more (Some n) c h = among_with c n (channels_of rest) ∙ or_more (c == n) (is_one c (channels_of rest)) h

    here : (c : ℕ) → channel_in leaf.kind ≡ Some c → is_one c (channels_of (leaf ∷ rest)) ≡ true
    here c h = subst (λ (o : Option ℕ). is_one c (elim o [ None ↦ channels_of rest | Some n ↦ with_number n (channels_of rest) ]) ≡ true) (sym h) (among_with c c (channels_of rest) ∙ or_here (c == c) (is_one c (channels_of rest)) (number_same c))

-- ---- the nodes of a system

module _ (repeats : Option ℕ) (all : List Leaf) (states events : List Name) (channels : List ℕ) (are : AreRowsOf repeats all states events channels) where
  abbrev IsNode : Node → Type 0
  IsNode x = Contains (nodes_of states events channels) x

  abbrev front : List Node
  front = map (λ t. state (place_of t)) states

  abbrev middle : List Node
  middle = map (λ t. event (place_of t)) events

  pub state_node : (p : Place) → list_any (place_eq p) (state_places all) ≡ true → IsNode (state p)
  state_node p h = Contains-append_left front (middle ++ map channel channels) (state p) (in_rows state states p (are.states_are p ∙ h))

  pub event_node : (p : Place) → list_any (place_eq p) (event_places all) ≡ true → IsNode (event p)
  event_node p h = Contains-append_right front (middle ++ map channel channels) (event p) (Contains-append_left middle (map channel channels) (event p) (in_rows event events p (are.events_are p ∙ h)))

  pub channel_node : (r c : ℕ) → repeats ≡ Some r → is_one c (channels_of all) ≡ true → IsNode (channel c)
  channel_node r c e h =
      let same : channels ≡ channels_of all = are.channels_are ∙ ap (λ o. with_repeats o (channels_of all)) e in
      Contains-append_right front (middle ++ map channel channels) (channel c) (Contains-append_right middle (map channel channels) (channel c) (in_channels channels c (ap (is_one c) same ∙ h)))

  -- the states and events of a leaf are nodes
  pub record HasNodes (leaf : Leaf) : Type 0 where
    pub state_is : (s : Name) → is_in s (state_names leaf.kind) ≡ true → Contains (nodes_of states events channels) (state (at_place leaf.path s))
    pub event_is : (e : Name) → is_in e (events_of leaf.kind) ≡ true → Contains (nodes_of states events channels) (event (at_place leaf.path e))

  leaves_have : AllByRecursion HasNodes all
  leaves_have =
      let s = each_has (λ (leaf : Leaf). places_in leaf.path (state_names leaf.kind)) all in
      let e = each_has (λ (leaf : Leaf). places_in leaf.path (events_of leaf.kind)) all in
      all_both
      (λ (leaf : Leaf). (p : Place) → list_any (place_eq p) (places_in leaf.path (state_names leaf.kind)) ≡ true → list_any (place_eq p) (state_places all) ≡ true)
      (λ (leaf : Leaf). (p : Place) → list_any (place_eq p) (places_in leaf.path (events_of leaf.kind)) ≡ true → list_any (place_eq p) (event_places all) ≡ true) HasNodes all
      (λ leaf h k. record {
        state_is = λ x i. state_node (at_place leaf.path x) (h (at_place leaf.path x) (own_place leaf.path (state_names leaf.kind) x i));
        event_is = λ x i. event_node (at_place leaf.path x) (k (at_place leaf.path x) (own_place leaf.path (events_of leaf.kind) x i));
      }) s e

  -- an event input of one of these leaves is a node
  input_is : (ls : List Leaf) → AllByRecursion HasNodes ls → (p : Place) → is_input ls p ≡ true → IsNode (event p)
  input_is [] h p i = absurd cc
  input_is (leaf ∷ ls) h p i = by (path_eq leaf.path p.path) refl i (input_is ls h.1 p) where
    by : (b : Bool) → path_eq leaf.path p.path ≡ b → has_event (if b then Some leaf else leaf_at ls p.path) p.event ≡ true → (is_input ls p ≡ true → IsNode (event p)) → IsNode (event p)
    by true e i k = subst (λ (q : Path). IsNode (event (at_place q p.event))) (same_path leaf.path p.path e) (h.0.event_is p.event i)
    by false e i k = k i

  -- ---- of demands with their places

  abbrev IsPlaced : (Leaf → Ground) → Type 0
  IsPlaced g = (leaf : Leaf) → ((s : Name) → (g leaf).own s ≡ at_place leaf.path s) × ((o : Name) → (g leaf).targets o ≡ leaf.targets o)

  -- what datagrams of the channel of a leaf ask for are nodes
  abbrev IsHeard : (Leaf → Ground) → Leaf → Type 0
  IsHeard g leaf = (c : ℕ) → channel_in leaf.kind ≡ Some c → AllByRecursion IsNode ((g leaf).datagram c)

  abbrev IsGoodLeaf : Leaf → Type 0
  IsGoodLeaf leaf = IsClosed leaf.kind × HasNodes leaf × ((o : Name) → AllByRecursion (λ (p : Place). IsNode (event p)) (leaf.targets o))

  leaf_on : (g : Leaf → Ground) → IsPlaced g → (leaf : Leaf) → IsGoodLeaf leaf × IsHeard g leaf → AllByRecursion (OnNodes IsNode) (of_kind (g leaf) leaf.kind)
  leaf_on g placed leaf (h, k) =
      kind_on IsNode (g leaf) leaf.kind h.0 (record {
        state_is = λ s i. subst (λ (p : Place). IsNode (state p)) (sym ((placed leaf).0 s)) (h.1.state_is s i);
        event_is = λ e i. subst (λ (p : Place). IsNode (event p)) (sym ((placed leaf).0 e)) (h.1.event_is e i);
        lead = λ o. subst (AllByRecursion (λ (p : Place). IsNode (event p))) (sym ((placed leaf).1 o)) (h.2 o);
      }) k

  device_good : (ls : List Leaf) → AllByRecursion (IsWired ls) ls → AllByRecursion (λ (leaf : Leaf). IsClosed leaf.kind) ls → AllByRecursion HasNodes ls → AllByRecursion IsGoodLeaf ls
  device_good ls w c h =
      all_both (λ (leaf : Leaf). IsClosed leaf.kind) (λ (leaf : Leaf). HasNodes leaf × IsWired ls leaf) IsGoodLeaf ls
      (λ leaf k m. (k, m.0, λ o. all_weaker (λ (p : Place). is_input ls p ≡ true) (λ (p : Place). IsNode (event p)) (leaf.targets o) (λ p i. input_is ls h p i) (m.1.targets o))) c
      (all_both HasNodes (IsWired ls) (λ (leaf : Leaf). HasNodes leaf × IsWired ls leaf) ls (λ leaf x y. (x, y)) h w)

  devices_good : (ds : List Device) → AllByRecursion (λ (d : Device). AllByRecursion (IsWired (leaves d)) (leaves d)) ds → AllByRecursion (λ (d : Device). AllByRecursion (λ (leaf : Leaf). IsClosed leaf.kind) (leaves d)) ds
      → AllByRecursion HasNodes (all_leaves ds) → AllByRecursion IsGoodLeaf (all_leaves ds)
  devices_good [] w c h = tt
  devices_good (d ∷ ds) w c h =
      all_append IsGoodLeaf (leaves d) (all_leaves ds) (device_good (leaves d) w.0 c.0 (all_left HasNodes (leaves d) (all_leaves ds) h)) (devices_good ds w.1 c.1 (all_right HasNodes (leaves d) (all_leaves ds) h))

  of_these : (ds : List Demand) → AllByRecursion (OnNodes IsNode) ds → AreOf (nodes_of states events channels) ds
  of_these ds h = record {
    node = λ d c. (All-contains (OnNodes IsNode) ds d (All-from_recursion (OnNodes IsNode) ds h) c).0;
    terms = λ d x c k. All-contains IsNode d.terms x (All-from_recursion IsNode d.terms ((All-contains (OnNodes IsNode) ds d (All-from_recursion (OnNodes IsNode) ds h) c).1)) k;
  }

  abbrev AreWired : List Device → Type 0
  AreWired ds = AllByRecursion (λ (d : Device). AllByRecursion (IsWired (leaves d)) (leaves d)) ds

  abbrev AreClosed : List Device → Type 0
  AreClosed ds = AllByRecursion (λ (d : Device). AllByRecursion (λ (leaf : Leaf). IsClosed leaf.kind) (leaves d)) ds

  leaves_on : (g : Leaf → Ground) → IsPlaced g → AllByRecursion (IsHeard g) all → (ds : List Device) → all ≡ all_leaves ds → AreWired ds → AreClosed ds → AllByRecursion (OnNodes IsNode) (flat_map (λ (leaf : Leaf). of_kind (g leaf) leaf.kind) all)
  leaves_on g placed heard ds e w c =
      let good = subst (AllByRecursion IsGoodLeaf) (sym e) (devices_good ds w c (subst (AllByRecursion HasNodes) e leaves_have)) in
      each_flat (OnNodes IsNode) (λ (leaf : Leaf). IsGoodLeaf leaf × IsHeard g leaf) (λ (leaf : Leaf). of_kind (g leaf) leaf.kind) all (leaf_on g placed)
      (all_both IsGoodLeaf (IsHeard g) (λ (leaf : Leaf). IsGoodLeaf leaf × IsHeard g leaf) all (λ leaf x y. (x, y)) good heard)

  -- of a column without datagrams
  pub all_of : (g : Leaf → Ground) → IsPlaced g → ((leaf : Leaf) (c : ℕ) → (g leaf).datagram c ≡ []) → (ds : List Device) → all ≡ all_leaves ds → AreWired ds → AreClosed ds
      → AreOf (nodes_of states events channels) (flat_map (λ (leaf : Leaf). of_kind (g leaf) leaf.kind) all)
  all_of g placed none ds e w c =
      of_these (flat_map (λ (leaf : Leaf). of_kind (g leaf) leaf.kind) all)
      (leaves_on g placed (all_weaker (λ (leaf : Leaf). Unit {0}) (IsHeard g) all (λ leaf u k n. subst (AllByRecursion IsNode) (sym (none leaf k)) tt) (units all)) ds e w c)

  -- ---- of the network

  arrivals_on : (r c : ℕ) (leaf : Leaf) → HasNodes leaf → AllByRecursion IsNode (heard r c leaf)
  arrivals_on r c leaf h = by leaf.kind h.event_is where
    many : (n : ℕ) → IsNode (event (at_place leaf.path arrive)) → AllByRecursion IsNode (replicate n (event (at_place leaf.path arrive)))
    many zero i = tt
    many (suc n) i = (i, many n i)

    by : (kind : Kind) → ((e : Name) → is_in e (events_of kind) ≡ true → IsNode (event (at_place leaf.path e))) → AllByRecursion IsNode (replicate (admissions r c kind) (event (at_place leaf.path arrive)))
    by (Charted block) f = tt
    by (Serviced (Service.Input number types)) f = tt
    by (Serviced (Service.Output number types)) f = tt
    by (Serviced (Service.Publish k types)) f = tt
    by (Serviced (Service.Subscribe k types)) f = many (admissions r c (Serviced (Service.Subscribe k types))) (f arrive refl)
    by (Serviced Service.Delay) f = tt
    by (Serviced Service.Cycle) f = tt
    by (Serviced Service.Restart) f = tt

  channels_on : (r q : ℕ) → repeats ≡ Some q → (cs : List ℕ) → AllByRecursion (λ c. is_one c (channels_of all) ≡ true) cs → AllByRecursion (OnNodes IsNode) (map (of_channel r all) cs)
  channels_on r q e cs h =
      all_image (λ c. is_one c (channels_of all) ≡ true) (OnNodes IsNode) (of_channel r all) cs
      (λ c i. (channel_node q c e i, each_flat IsNode HasNodes (heard r c) all (λ leaf k. arrivals_on r c leaf k) leaves_have)) h

  pub network_of : (g : Leaf → Ground) → IsPlaced g → (r q : ℕ) → repeats ≡ Some q → (ds : List Device) → all ≡ all_leaves ds → AreWired ds → AreClosed ds
      → AreOf (nodes_of states events channels) (flat_map (λ (leaf : Leaf). of_kind (linked (g leaf)) leaf.kind) all ++ channel_demands r all)
  network_of g placed r q same ds e w c =
      let named = all_weaker (λ (leaf : Leaf). (k : ℕ) → channel_in leaf.kind ≡ Some k → is_one k (channels_of all) ≡ true) (IsHeard (λ leaf. linked (g leaf))) all (λ leaf f k n. (channel_node q k same (f k n), tt)) (all_named all) in
      of_these (flat_map (λ (leaf : Leaf). of_kind (linked (g leaf)) leaf.kind) all ++ channel_demands r all)
      (all_append (OnNodes IsNode) (flat_map (λ (leaf : Leaf). of_kind (linked (g leaf)) leaf.kind) all) (channel_demands r all)
      (leaves_on (λ leaf. linked (g leaf)) placed named ds e w c) (channels_on r q same (channels_of all) (all_ones (channels_of all))))
