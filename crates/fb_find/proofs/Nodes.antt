-- From places to nodes, for a column and for the order.
use Rattle.std.proofs.Common.{ℕ, ◌≡◌, ◌+◌, ◌<◌, ◌≤◌, List, [], ◌++◌, length, map, slice_index, Option, None, Some, Result, Ok, Err, IfOk, IfErr, sym, ◌∙◌, ap, subst, arith, Contains, string_bytes, Vec}
use Rattle.std.specs.declared.alloc.Global.{Global}
use Rattle.fb_find_graph.specs.declared.system.Alternative.{Alternative}
use Rattle.fb_find_graph.specs.Views.{inequality_of, system_of}
use Rattle.std.specs.List.{All}
use Rattle.std.proofs.lemmas.List.{length-map, length-append}
use Rattle.std.proofs.lemmas.List.Elements.{Contains-get_or}
use Rattle.fb_model.specs.Names.{Name, at_place}
use Rattle.fb_model.specs.System as book
use Rattle.fb_model.specs.Certificates.{all_leaves}
use Rattle.fb_model.specs.CertificateText.{place_of}
use Rattle.fb_model.specs.Demands.{Node, state, event, channel, Demand, node_in}
use Rattle.fb_find_graph.specs.Graphs.{IsOrder}
use Rattle.fb_find_graph.specs.Systems.{System, IsSystem, IsLeast, IsPaying, needed, needs}
use Rattle.fb_find_graph.proofs.Solving.{walk_of}
use Rattle.fb_find_laws.specs.Numbered.{AreNumbers, AreOf, SaysSame}
use Rattle.fb_find_laws.proofs.Numbering.{walk_nodes}
use Rattle.fb_find_laws.proofs.Paying.{numbered_pays, numbered_network_pays}
use Rattle.fb_find_laws.specs.Nodes.{Numbered, by_number, nodes_of, AreGrouped}
use Rattle.fb_model.specs.Finding.{IsFirstWalk}
use Rattle.fb_find_laws.proofs.Firsts.{begins_first, begins_in_order}
use Rattle.fb_find_laws.proofs.Nodes.{rows_numbered}
use Rattle.fb_find_laws.proofs.Laws.{of_nodes, network_nodes, small_least, great_needed}
use Rattle.fb_find_laws.proofs.Bare.{bare_same, network_same}
use Rattle.fb_find_laws.proofs.Orders.{order_serves_less, known_terms}
use Rattle.fb_faults.specs.declared.no_bound.NoBound.{NoBound}
use Rattle.fb_faults.specs.declared.no_bound.NoBound.TheVariants.{OutOfMemory, Cycle, NoRange, Limit}
use Rattle.fb_find_rows.specs.Faults.{IsWalk, IsPastLimit, IsResourceIn}
use Rattle.fb_find_rows.specs.Places.{text_at}
use Rattle.fb_find_rows.proofs.Walks.{all_known}
use Rattle.fb_types_blocks.specs.Views.{names_of}
use Rattle.fb_flat.specs.declared.flat.FlatDevice.{FlatDevice}
use Rattle.fb_find_demands.specs.declared.numbered.Numbering.{Numbering}
use Rattle.fb_find_demands.specs.Rights.{numbers_of, numbered}
use Rattle.fb_find.specs.Given.{nodes_in, IsNumbered}
use Rattle.fb_find.specs.Columns.{FulfilsAll, IsColumn, AreSmallest, IsPastFault, IsCycle}
use Rattle.fb_model.specs.Finding.{asked}

-- how many nodes there are
pub count_is : (ts us : List Name) (cs : List ℕ) → length (nodes_of ts us cs) ≡ length ts + (length us + length cs)
count_is ts us cs =
    omega (
      arith,
      length-append (map (λ t. state (place_of t)) ts) (map (λ t. event (place_of t)) us ++ map channel cs),
      length-append (map (λ t. event (place_of t)) us) (map channel cs),
      length-map ts (λ t. state (place_of t)),
      length-map us (λ t. event (place_of t)),
      length-map cs channel,
    )

-- ---- a column

module _ (n : Numbering) (order : List ℕ) (rights : List Numbered) (ds : List Demand) (col : IsColumn n order rights ds) (system : System) (grouped : AreGrouped (length (nodes_in n)) rights system) (sized : length system ≡ length (nodes_in n)) where
  own : AreGrouped (length (nodes_in n)) (map (by_number (numbers_of n)) ds) system
  own = subst (λ (rs : List Numbered). AreGrouped (length (nodes_in n)) rs system) col.are grouped

  pub is_system : IsSystem system
  is_system = known_terms (nodes_in n) ds (numbers_of n) system col.nodes_have col.of_nodes own sized

  pub is_order : IsOrder (needs system) order
  is_order = col.serves system own sized

  small_at : (limit : ℕ) (v : List ℕ) → All (λ k. k ≤ limit) v → limit ≤ 1000000000000 → length v ≡ length system → (p : ℕ) → p < length (nodes_in n) → slice_index v p ≤ 1000000000000
  small_at limit v a l e p h = let k : slice_index v p ≤ limit = a p 0 (omega (arith, h, sized, e)) in omega (arith, k, l)

  pub smallest : (limit : ℕ) (v : List ℕ) → limit ≤ 1000000000000 → length v ≡ length system → All (λ k. k ≤ limit) v → IsLeast system (slice_index v) → AreSmallest n ds limit v
  smallest limit v l e a least = record {
    sized = omega (arith, e, sized);
    small = a;
    least = small_least (nodes_in n) ds (numbers_of n) system (slice_index v) col.nodes_have col.of_nodes own least (small_at limit v a l e);
  }

  pub past : (limit : ℕ) (f : NoBound) → IsPastLimit system limit (names_of n.states) (names_of n.events) (map string_bytes n.ends.items) f → IsPastFault n ds limit f
  past limit OutOfMemory h = tt
  past limit (Cycle places) h = h
  past limit (NoRange path) h = h
  past limit (Limit resource) h =
      let nodes = nodes_in n in
      let p = h.0 in
      let here : p < length nodes = omega (arith, h.4, sized) in
      let x = node_in nodes p in
      let back : numbers_of n x ≡ p = col.nodes_have.back p here in
      let known : Contains nodes x = Contains-get_or nodes p (state (at_place [] [])) here in
      record {
        node = x;
        known = known;
        resource_is = subst (λ (q : ℕ). IsResourceIn (text_at (names_of n.states) (names_of n.events) (map string_bytes n.ends.items) q) (string_bytes resource)) (sym back) h.5;
        above = great_needed nodes ds (numbers_of n) system h.1 x limit col.nodes_have col.of_nodes own h.2 known (omega (arith, h.3, ap h.1 back));
      }

-- ---- the order

module _ (repeats : Option ℕ) (devices : List FlatDevice) (n : Numbering) (s : book.System) (are : IsNumbered repeats devices n s) where
  pub numbers_stand : AreNumbers (nodes_in n) (numbers_of n)
  numbers_stand = rows_numbered repeats (all_leaves s.devices) (names_of n.states) (names_of n.events) n.channels.items are.rows

pub asked_of : (repeats : Option ℕ) (devices : List FlatDevice) (n : Numbering) (s : book.System) → IsNumbered repeats devices n s → AreOf (nodes_in n) (asked repeats s)
asked_of None devices n s are = (of_nodes are.given.library are.given.source s None (names_of n.states) (names_of n.events) n.channels.items are.given.typed are.rows).0
asked_of (Some r) devices n s are = (network_nodes are.given.library are.given.source s r (names_of n.states) (names_of n.events) n.channels.items are.given.typed are.rows).0

-- the numbers say what the demands say, and each walk through them pays
asked_same : (repeats : Option ℕ) (nodes : List Node) (s : book.System) (number : Node → ℕ) (system : System) → AreNumbers nodes number → AreOf nodes (asked repeats s) → AreGrouped (length nodes) (map (by_number number) (asked repeats s)) system → SaysSame (asked repeats s) number system
asked_same None nodes s number system = bare_same nodes (all_leaves s.devices) number system
asked_same (Some r) nodes s number system = network_same nodes (all_leaves s.devices) number system

asked_pays : (repeats : Option ℕ) (nodes : List Node) (s : book.System) (number : Node → ℕ) (system : System) → AreNumbers nodes number → AreOf nodes (asked repeats s) → SaysSame (asked repeats s) number system → IsPaying system
asked_pays None nodes s number system = numbered_pays nodes (all_leaves s.devices) number system
asked_pays (Some r) nodes s number system = numbered_network_pays nodes (all_leaves s.devices) number system

module _ (repeats : Option ℕ) (devices : List FlatDevice) (n : Numbering) (s : book.System) (are : IsNumbered repeats devices n s) (rights : List Numbered) (system : System) (is : rights ≡ numbered n (asked repeats s)) (grouped : AreGrouped (length (nodes_in n)) rights system) (sized : length system ≡ length (nodes_in n)) where
  abbrev ds : List Demand
  ds = asked repeats s

  stand : AreNumbers (nodes_in n) (numbers_of n)
  stand = numbers_stand repeats devices n s are

  known_of : AreOf (nodes_in n) ds
  known_of = asked_of repeats devices n s are

  asked_grouped : AreGrouped (length (nodes_in n)) (map (by_number (numbers_of n)) ds) system
  asked_grouped = subst (λ (rs : List Numbered). AreGrouped (length (nodes_in n)) rs system) is grouped

  pub asked_system : IsSystem system
  asked_system = known_terms (nodes_in n) ds (numbers_of n) system stand known_of asked_grouped sized

  pub serves_all : (order : List ℕ) → IsOrder (needs system) order → FulfilsAll repeats n s order
  serves_all order o = λ es asks other g e. order_serves_less (numbers_of n) (length (nodes_in n)) ds es system other order asks asked_grouped g (omega (arith, sized, e)) o

  pub cycle : (f : NoBound) → IsWalk system (names_of n.states) (names_of n.events) n.channels.items f → IsCycle repeats s f
  cycle OutOfMemory h = tt
  cycle (NoRange path) h = h
  cycle (Limit resource) h = h
  cycle (Cycle places) h =
      let same = asked_same repeats (nodes_in n) s (numbers_of n) system stand known_of asked_grouped in
      let pays = asked_pays repeats (nodes_in n) s (numbers_of n) system stand known_of same in
      let walk = walk_of system h.0 pays h.1 in
      let nodes = walk_nodes (nodes_in n) ds (numbers_of n) system h.0 stand known_of same walk in
      let known = all_known (needs system) h.0 (length (nodes_in n)) h.1 (length-map system needed ∙ sized) in
      let first = begins_first (nodes_in n) (numbers_of n) h.0 stand (omega (arith, h.1.long)) (λ k l. known k 0 l) h.2 in
      let here : IsFirstWalk ds (all_leaves s.devices) (map (node_in (nodes_in n)) h.0) =
      record { closed = nodes; first = begins_in_order repeats (all_leaves s.devices) (names_of n.states) (names_of n.events) n.channels.items (map (node_in (nodes_in n)) h.0) are.rows are.ordered first } in
      subst (λ (ns : List Node). IsFirstWalk ds (all_leaves s.devices) ns) (sym (h.3 (omega (arith, sized, count_is (names_of n.states) (names_of n.events) n.channels.items)))) here

-- ---- answers

pub if_err : {X E : Type 0} {P Q : E → Type 0} → ((e : E) → P e → Q e) → (r : Result X E) → IfErr r P → IfErr r Q
if_err f (Ok x) h = tt
if_err f (Err e) h = f e h

pub if_ok : {X E : Type 0} {P Q : X → Type 0} → ((x : X) → P x → Q x) → (r : Result X E) → IfOk r P → IfOk r Q
if_ok f (Ok x) h = f x h
if_ok f (Err e) h = tt

-- ---- how many there are

pub count_of : (n : Numbering) (count : ℕ) → count ≡ length (names_of n.states) + (length (names_of n.events) + length n.channels.items) → count ≡ length (nodes_in n)
count_of n count e = omega (arith, count_is (names_of n.states) (names_of n.events) n.channels.items, e)

pub sized_slice : (n : Numbering) (count : ℕ) (items slice : List (Vec Alternative Global)) → count ≡ length (names_of n.states) + (length (names_of n.events) + length n.channels.items) → slice ≡ items → length items ≡ count → length (system_of slice) ≡ length (nodes_in n)
sized_slice n count items slice e s h = length-map slice (λ v. map inequality_of v.items) ∙ (ap length s ∙ (h ∙ count_of n count e))

pub ok_three : {X E : Type 0} {P Q R S : X → Type 0} → ((x : X) → P x → Q x → R x → S x) → (r : Result X E) → IfOk r P → IfOk r Q → IfOk r R → IfOk r S
ok_three f (Ok x) p q r = f x p q r
ok_three f (Err e) p q r = tt

pub grouped_slice : (n : Numbering) (count : ℕ) (rights : List Numbered) (items slice : List (Vec Alternative Global)) → count ≡ length (names_of n.states) + (length (names_of n.events) + length n.channels.items) → slice ≡ items → AreGrouped count rights (system_of items) → AreGrouped (length (nodes_in n)) rights (system_of slice)
grouped_slice n count rights items slice e s g = subst (λ k. AreGrouped k rights (system_of slice)) (count_of n count e) (subst (λ xs. AreGrouped count rights (system_of xs)) (sym s) g)
