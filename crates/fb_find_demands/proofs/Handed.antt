-- What the numbers of a system's demands say of places that are shown.
use Rattle.std.proofs.Common.{ℕ, ◌≡◌, ◌+◌, ◌<◌, ◌≤◌, ◌↔◌, Bool, List, Option, None, Some, length, map, Result, Ok, Err, IfOk, refl, sym, ◌∙◌, ap, subst, arith, Contains, string_bytes, Vec}
use Rattle.std.specs.Prelude.{IsTrue}
use Rattle.std.specs.declared.alloc.Global.{Global}
use Rattle.std.proofs.lemmas.List.{length-map}
use Rattle.fb_model.specs.Spelling.{upper}
use Rattle.fb_model.specs.System as book
use Rattle.fb_model.specs.Certificates.{Certificate, Fits, all_leaves}
use Rattle.fb_model_laws.proofs.Closed.{all_charts_closed}
use Rattle.fb_model.specs.Demands.{Node, Demand, node_in, IsClosedWalk}
use Rattle.fb_model_laws.proofs.Walks.{walks_exclude}
use Rattle.fb_model_laws.proofs.Networks.{networks_exclude}
use Rattle.fb_find_graph.specs.declared.system.Alternative.{Alternative}
use Rattle.fb_find_graph.specs.Views.{inequality_of, system_of}
use Rattle.fb_find_graph.specs.Systems.{System, IsSystem}
use Rattle.fb_find_graph.specs.Systems as least
use Rattle.fb_find_laws.specs.Numbered.{AreNumbers, AreOf, SaysSame}
use Rattle.fb_find_laws.specs.Nodes.{Numbered, by_number, AreGrouped}
use Rattle.fb_find_laws.proofs.Nodes.{rows_numbered}
use Rattle.fb_find_laws.proofs.Laws.{of_nodes, network_nodes}
use Rattle.fb_find_laws.proofs.Bare.{bare_same, network_same}
use Rattle.fb_find_laws.proofs.Orders.{known_terms}
use Rattle.fb_types_events.proofs.EventTrees.{event_trees}
use Rattle.fb_faults.specs.declared.place.Place.{Place}
use Rattle.fb_faults.specs.declared.place.Place.TheVariants.{State, Event, Channel}
use Rattle.fb_find_demands.specs.Leaves.{AreClosed}
use Rattle.fb_types_blocks.specs.Views.{names_of}
use Rattle.fb_flat.specs.declared.flat.FlatDevice.{FlatDevice}
use Rattle.fb_find_demands.specs.declared.numbered.Numbering.{Numbering}
use Rattle.fb_find_demands.specs.Rights.{numbers_of, numbered}
use Rattle.fb_find_demands.specs.Shown.{asked, shown_node, sought, nodes_in, AreTables, IsNumbered}
use Rattle.fb_find_demands.proofs.Written.{typed}
use Rattle.fb_find_demands.proofs.Walks.{walks_alike, count_is, state_from, state_to, event_from, event_to, channel_from}

-- the charts of a system that stands in a text are closed
pub closed : (devices : List FlatDevice) (s : book.System) → AreTables devices s → AreClosed s.devices
closed devices s a = all_charts_closed event_trees a.written.1.source s (typed s a.written)

-- the numbers say what the demands say
asked_same : (repeats : Option ℕ) (nodes : List Node) (s : book.System) (number : Node → ℕ) (system : System) → AreNumbers nodes number → AreOf nodes (asked repeats s) → AreGrouped (length nodes) (map (by_number number) (asked repeats s)) system → SaysSame (asked repeats s) number system
asked_same None nodes s number system = bare_same nodes (all_leaves s.devices) number system
asked_same (Some r) nodes s number system = network_same nodes (all_leaves s.devices) number system

asked_of : (repeats : Option ℕ) (devices : List FlatDevice) (n : Numbering) (s : book.System) → IsNumbered repeats devices n s → AreOf (nodes_in n) (asked repeats s)
asked_of None devices n s are = (of_nodes event_trees are.given.written.1.source s None (names_of n.states) (names_of n.events) n.channels.items (typed s are.given.written) are.rows).0
asked_of (Some r) devices n s are = (network_nodes event_trees are.given.written.1.source s r (names_of n.states) (names_of n.events) n.channels.items (typed s are.given.written) are.rows).0

module _ (repeats : Option ℕ) (devices : List FlatDevice) (n : Numbering) (s : book.System) (are : IsNumbered repeats devices n s) where
  abbrev ds : List Demand
  ds = asked repeats s

  numbers_stand : AreNumbers (nodes_in n) (numbers_of n)
  numbers_stand = rows_numbered repeats (all_leaves s.devices) (names_of n.states) (names_of n.events) n.channels.items are.rows

  known_of : AreOf (nodes_in n) ds
  known_of = asked_of repeats devices n s are

  shown_from : (p : Place) → sought n (shown_node p) < length (nodes_in n) → node_in (nodes_in n) (sought n (shown_node p)) ≡ shown_node p
  shown_from (State path) l = state_from (names_of n.states) (names_of n.events) n.channels.items numbers_stand (upper (string_bytes path)) l
  shown_from (Event path) l = event_from (names_of n.states) (names_of n.events) n.channels.items numbers_stand (upper (string_bytes path)) l
  shown_from (Channel c) l = channel_from (names_of n.states) (names_of n.events) n.channels.items numbers_stand c l

  shown_to : (p : Place) → Contains (nodes_in n) (shown_node p) → sought n (shown_node p) ≡ numbers_of n (shown_node p)
  shown_to (State path) c = state_to (names_of n.states) (names_of n.events) n.channels.items numbers_stand (upper (string_bytes path)) c
  shown_to (Event path) c = event_to (names_of n.states) (names_of n.events) n.channels.items numbers_stand (upper (string_bytes path)) c
  shown_to (Channel k) c = refl

  module _ (rights : List Numbered) (system : System) (is : rights ≡ numbered n ds) (grouped : AreGrouped (length (nodes_in n)) rights system) (many : length system ≡ length (nodes_in n)) where
    own : AreGrouped (length (nodes_in n)) (map (by_number (numbers_of n)) ds) system
    own = subst (λ (rs : List Numbered). AreGrouped (length (nodes_in n)) rs system) is grouped

    pub asked_system : IsSystem system
    asked_system = known_terms (nodes_in n) ds (numbers_of n) system numbers_stand known_of own many

    shown_walks : (ps : List Place) → least.IsClosedWalk system (map (λ p. sought n (shown_node p)) ps) ↔ IsClosedWalk ds (map shown_node ps)
    shown_walks ps =
        walks_alike (nodes_in n) (numbers_of n) shown_node (λ p. sought n (shown_node p)) shown_from shown_to ds system ps numbers_stand known_of
        (asked_same repeats (nodes_in n) s (numbers_of n) system numbers_stand known_of own) asked_system many

    -- what is answered of the numbers is answered of the places
    pub answered : {E : Type 0} (ps : List Place) (ks : List ℕ) → ks ≡ map (λ p. sought n (shown_node p)) ps → (r : Result Bool E) → IfOk r (λ b. IsTrue b ↔ least.IsClosedWalk system ks) → IfOk r (λ b. IsTrue b ↔ IsClosedWalk ds (map shown_node ps))
    answered ps ks e (Ok b) h =
        let w = shown_walks ps in
        (λ t. w.0 (subst (least.IsClosedWalk system) e (h.0 t)), λ c. h.1 (subst (least.IsClosedWalk system) (sym e) (w.1 c)))
    answered ps ks e (Err f) h = tt

-- ---- how many there are

module _ (n : Numbering) (count : ℕ) (rights : List Numbered) (items slice : List (Vec Alternative Global)) (is : count ≡ length (names_of n.states) + (length (names_of n.events) + length n.channels.items)) (handed : slice ≡ items) where
  count_of : count ≡ length (nodes_in n)
  count_of = omega (arith, count_is (names_of n.states) (names_of n.events) n.channels.items, is)

  pub handed_many : length items ≡ count → length (system_of slice) ≡ length (nodes_in n)
  handed_many h = length-map slice (λ v. map inequality_of v.items) ∙ (ap length handed ∙ (h ∙ count_of))

  pub handed_grouped : AreGrouped count rights (system_of items) → AreGrouped (length (nodes_in n)) rights (system_of slice)
  handed_grouped g = subst (λ k. AreGrouped k rights (system_of slice)) count_of (subst (λ xs. AreGrouped count rights (system_of xs)) (sym handed) g)

-- ---- no certificate fits

none_fits : (repeats : Option ℕ) (s : book.System) (walk : List Node) → IsClosedWalk (asked repeats s) walk → (cert : Certificate) (r : ℕ) → cert.repeats ≡ Some r → 1 ≤ r → Fits s cert → ⊥
none_fits None s walk w cert r e l f = walks_exclude s cert walk w f
none_fits (Some q) s walk w cert r e l f = networks_exclude s cert r walk w e l f

pub denied : {E : Type 0} (repeats : Option ℕ) (s : book.System) (ps : List Place) (r : Result Bool E) → IfOk r (λ b. IsTrue b ↔ IsClosedWalk (asked repeats s) (map shown_node ps)) → repeats ≡ None → IfOk r (λ b. IsTrue b → (cert : Certificate) → Fits s cert → ⊥)
denied repeats s ps (Ok b) h e = λ t cert f. walks_exclude s cert (map shown_node ps) (subst (λ (o : Option ℕ). IsClosedWalk (asked o s) (map shown_node ps)) e (h.0 t)) f
denied repeats s ps (Err x) h e = tt

pub denied_repeats : {E : Type 0} (repeats : Option ℕ) (s : book.System) (ps : List Place) (r : Result Bool E) → IfOk r (λ b. IsTrue b ↔ IsClosedWalk (asked repeats s) (map shown_node ps))
    → IfOk r (λ b. IsTrue b → (cert : Certificate) (q : ℕ) → cert.repeats ≡ Some q → 1 ≤ q → Fits s cert → ⊥)
denied_repeats repeats s ps (Ok b) h = λ t cert q e l f. none_fits repeats s (map shown_node ps) (h.0 t) cert q e l f
denied_repeats repeats s ps (Err x) h = tt
