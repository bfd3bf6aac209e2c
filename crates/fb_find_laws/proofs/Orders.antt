-- One order serves all columns: their demands differ in constants alone.
use Rattle.std.proofs.Common.{ℕ, zero, suc, ◌≡◌, ◌<◌, ◌≤◌, ◌⊎◌, inl, inr, ◌==◌, Bool, true, false, List, [], ◌∷◌, ◌++◌, length, map, replicate, Option, Some, None, slice_index_or, refl, sym, ◌∙◌, ap, subst, arith, Contains, if◌then◌else◌}
use Rattle.std.specs.List.{flat_map}
use Rattle.std.specs.Str.{bytes_eq}
use Rattle.std.proofs.lemmas.List.Elements.{Contains-append_left, Contains-append_right, Contains-append_cases}
use Rattle.fb_words.specs.declared.format.Format.{Format}
use Rattle.fb_words.specs.declared.format.Format.TheVariants.{First, Second}
use Rattle.fb_model.specs.Names.{Name, at_place}
use Rattle.fb_model.specs.System.{Action, Service}
use Rattle.fb_model.specs.Services.{service_events, can_emit, arrive, init}
use Rattle.fb_model.specs.Wires.{Kind, Charted, Serviced, Leaf}
use Rattle.fb_model.specs.Charts.{actions_of, is_open}
use Rattle.fb_model.specs.Ranges.{Range}
use Rattle.fb_model.specs.Certificates.{event_names, reached, admissions, channels_of}
use Rattle.fb_model.specs.Demands.{Node, event, Demand, Ground, of_state, free_demand, of_free, crossing_demand, of_crossing, of_input, sent, sending_demand, of_dispatch, of_kind, linked, heard, of_channel, channel_demands, bare, bare_demands, bare_network}
use Rattle.fb_model.specs.Columns.{ground_of, demands, network_demands}
use Rattle.fb_model_laws.specs.Likeness.{AreLike}
use Rattle.fb_model_laws.proofs.Likening.{like_append}
use Rattle.fb_find_graph.specs.Graphs.{row, HasEdge, IsOrder}
use Rattle.fb_find_graph.specs.Systems.{Inequality, System, inequalities, needed, needs, IsSystem}
use Rattle.fb_find_graph.proofs.Solving.{row-needs}
use Rattle.std.proofs.lemmas.List.{length-map}
use Rattle.fb_find_laws.specs.Numbered.{AreNumbers, AreOf}
use Rattle.fb_find_laws.proofs.Numbering.{term_of}
use Rattle.fb_find_laws.specs.Nodes.{Numbered, by_number, asked_of, asked_at, AreGrouped, AskForAll}
use Rattle.fb_find_laws.proofs.Same.{says_same, capped_of, in_piece, piece_in, in_image, image_in, asked_is, asks_own}

abbrev AreAlike : List Demand → List Demand → Type 0
AreAlike ds es = AreLike (λ m n. Unit {0}) ds es

like_map : {X : Type 0} (f h : X → Demand) → ((x : X) → ((f x).node ≡ (h x).node) × ((f x).terms ≡ (h x).terms)) → (xs : List X) → AreAlike (map f xs) (map h xs)
like_map f h same [] = tt
like_map f h same (x ∷ xs) = ((same x).0, (same x).1, tt, like_map f h same xs)

like_flat : {X : Type 0} (f h : X → List Demand) → ((x : X) → AreAlike (f x) (h x)) → (xs : List X) → AreAlike (flat_map f xs) (flat_map h xs)
like_flat f h same [] = tt
like_flat f h same (x ∷ xs) = like_append (λ m n. Unit {0}) (f x) (h x) (flat_map f xs) (flat_map h xs) (same x) (like_flat f h same xs)

-- the ground with other numbers
abbrev other : Ground → ℕ → (Option Name → ℕ) → Ground
other g unit price = record { unit = unit; price = price; own = g.own; targets = g.targets; datagram = g.datagram }

module _ (g : Ground) (unit : ℕ) (price : Option Name → ℕ) where
  abbrev h : Ground
  h = other g unit price

  free_alike : (actions : List Action) (source target : Name) (e : Option Name) → AreAlike (elim e [ None ↦ free_demand g actions source target ∷ [] | Some n ↦ [] ]) (elim e [ None ↦ free_demand h actions source target ∷ [] | Some n ↦ [] ])
  free_alike actions source target None = (refl, refl, tt, tt)
  free_alike actions source target (Some n) = tt

  crossing_alike : (e target : Name) (b : Bool) → AreAlike (if b then crossing_demand g e target ∷ [] else []) (if b then crossing_demand h e target ∷ [] else [])
  crossing_alike e target true = (refl, refl, tt, tt)
  crossing_alike e target false = tt

  kind_alike : (kind : Kind) → AreAlike (of_kind g kind) (of_kind h kind)
  kind_alike (Charted block) =
      like_append (λ m n. Unit {0}) (map (of_state g) block.states) (map (of_state h) block.states) (flat_map (of_free g block) block.transitions ++ flat_map (of_input g block) (event_names block.event_inputs)) (flat_map (of_free h block) block.transitions ++ flat_map (of_input h block) (event_names block.event_inputs))
      (like_map (of_state g) (of_state h) (λ x. (refl, refl)) block.states)
      (
      like_append (λ m n. Unit {0}) (flat_map (of_free g block) block.transitions) (flat_map (of_free h block) block.transitions) (flat_map (of_input g block) (event_names block.event_inputs)) (flat_map (of_input h block) (event_names block.event_inputs))
      (like_flat (of_free g block) (of_free h block) (λ t. free_alike (actions_of block.states t.source) t.source t.target t.event) block.transitions)
      (
      like_flat (of_input g block) (of_input h block)
      (λ e. (refl, refl, tt, like_flat (of_crossing g e) (of_crossing h e) (λ t. crossing_alike e t.target (is_open t.event (Some e))) block.transitions)) (event_names block.event_inputs)
      )
      )
  kind_alike (Serviced service) = like_flat (of_dispatch g service) (of_dispatch h service) (λ e. (refl, refl, tt, (refl, refl, tt, tt))) (service_events service)

-- the demands of a column ask for the same nodes as those without what algorithms cost
pub columns_alike : (unit : ℕ) (ranges : List Range) (all : List Leaf) → AreLike (λ m n. Unit {0}) (bare_demands all) (demands unit ranges all)
columns_alike unit ranges all = like_flat (λ leaf. of_kind (bare leaf) leaf.kind) (λ leaf. of_kind (ground_of unit ranges leaf) leaf.kind) (λ leaf. kind_alike (bare leaf) unit (ground_of unit ranges leaf).price leaf.kind) all

-- ---- what places need

needed_append : (as' bs : List Inequality) → needed (as' ++ bs) ≡ needed as' ++ needed bs
needed_append [] bs = refl
needed_append (a ∷ as') bs = ap (λ ts. a.terms ++ ts) (needed_append as' bs) ∙ sym (assoc a.terms (needed as') (needed bs)) where
  assoc : (xs ys zs : List ℕ) → (xs ++ ys) ++ zs ≡ xs ++ (ys ++ zs)
  assoc [] ys zs = refl
  assoc (x ∷ xs) ys zs = ap (λ ts. x ∷ ts) (assoc xs ys zs)

piece_needs : (b : Bool) (c k : ℕ) (ts us : List ℕ) → ts ≡ us → needed (if b then record { constant = c; terms = ts } ∷ [] else []) ≡ needed (if b then record { constant = k; terms = us } ∷ [] else [])
piece_needs true c k ts us e = ap (λ xs. xs ++ []) e
piece_needs false c k ts us e = refl

like_needs : (number : Node → ℕ) (p : ℕ) (ds es : List Demand) → AreAlike ds es → needed (asked_at p (map (by_number number) ds)) ≡ needed (asked_at p (map (by_number number) es))
like_needs number p [] [] a = refl
like_needs number p [] (e ∷ es) a = absurd a
like_needs number p (d ∷ ds) [] a = absurd a
like_needs number p (d ∷ ds) (e ∷ es) a =
    let x = by_number number d in
    let y = by_number number e in
    let node : x.node ≡ y.node = ap number a.0 in
    let here : needed (asked_of p x) ≡ needed (asked_of p y) =
    piece_needs (x.node == p) x.constant y.constant x.terms y.terms (ap (map number) a.1) ∙ ap (λ n. needed (if n == p then record { constant = y.constant; terms = y.terms } ∷ [] else [])) node in
    needed_append (asked_of p x) (asked_at p (map (by_number number) ds))
    ∙ (ap (λ ts. ts ++ needed (asked_at p (map (by_number number) ds))) here ∙ (ap (λ ts. needed (asked_of p y) ++ ts) (like_needs number p ds es a.3) ∙ sym (needed_append (asked_of p y) (asked_at p (map (by_number number) es)))))

split : (m n : ℕ) → (m < n) ⊎ (n ≤ m)
split m n = grind arith

same_rows : (number : Node → ℕ) (count : ℕ) (ds es : List Demand) (system another : System) → AreAlike ds es → AreGrouped count (map (by_number number) ds) system → AreGrouped count (map (by_number number) es) another → (p : ℕ) → row (needs system) p ≡ row (needs another) p
same_rows number count ds es system another a g k p = row-needs system p ∙ (by (split p count) ∙ sym (row-needs another p)) where
  by : (p < count) ⊎ (count ≤ p) → needed (inequalities system p) ≡ needed (inequalities another p)
  by (inl l) = ap needed (g.own p l) ∙ (like_needs number p ds es a ∙ sym (ap needed (k.own p l)))
  by (inr l) = ap needed (g.none p l) ∙ sym (ap needed (k.none p l))

order_same : (rows others : List (List ℕ)) (order : List ℕ) → length rows ≡ length others → ((p : ℕ) → row rows p ≡ row others p) → IsOrder rows order → IsOrder others order
order_same rows others order sized same o = record {
  known = λ k l. omega (arith, o.known k l, sized);
  before = λ k q l e. o.before k q l (subst (λ (r : List ℕ). Contains r q) (sym (same (slice_index_or order k 0))) e);
  once = o.once;
  every = λ p l. o.every p (omega (arith, l, sized));
}

-- an order of the places of one system is one of another, whose demands differ in constants alone
pub order_serves : (number : Node → ℕ) (count : ℕ) (ds es : List Demand) (system another : System) (order : List ℕ) → AreLike (λ m n. Unit {0}) ds es → AreGrouped count (map (by_number number) ds) system → AreGrouped count (map (by_number number) es) another
    → length system ≡ length another → IsOrder (needs system) order → IsOrder (needs another) order
order_serves number count ds es system another order a g k sized o =
    order_same (needs system) (needs another) order (omega (arith, sized, length-map system needed, length-map another needed)) (same_rows number count ds es system another a g k) o

-- ---- demands that ask for less

-- what a place needs of others is what its demands ask for
need_of : (number : Node → ℕ) (p q : ℕ) (ds : List Demand) → Contains (needed (asked_at p (map (by_number number) ds))) q → (d : Demand) × (x : Node) × Contains ds d × (number d.node ≡ p) × Contains d.terms x × (number x ≡ q)
need_of number p q ds h =
    let a = in_piece (λ (a : Inequality). a.terms) (asked_at p (map (by_number number) ds)) q h in
    let r = in_piece (asked_of p) (map (by_number number) ds) a.0 a.1 in
    let d = in_image (by_number number) ds r.0 r.1 in
    let is = asked_is p r.0 a.0 r.2 in
    let t = in_image number d.0.terms q (subst (λ (ts : List ℕ). Contains ts q) (sym (ap (λ (r : Numbered). r.terms) d.2)) (subst (λ (b : Inequality). Contains b.terms q) is.1 a.2)) in
    (d.0, t.0, d.1, ap (λ (r : Numbered). r.node) d.2 ∙ is.0, t.1, t.2)

need_in : (number : Node → ℕ) (ds : List Demand) (d : Demand) (x : Node) → Contains ds d → Contains d.terms x → Contains (needed (asked_at (number d.node) (map (by_number number) ds))) (number x)
need_in number ds d x h k =
    let r = by_number number d in
    piece_in (λ (a : Inequality). a.terms) (asked_at (number d.node) (map (by_number number) ds)) (record { constant = r.constant; terms = r.terms }) (number x)
    (piece_in (asked_of (number d.node)) (map (by_number number) ds) r (record { constant = r.constant; terms = r.terms }) (image_in (by_number number) ds d h) (asks_own r))
    (image_in number d.terms x k)

fewer_needs : (number : Node → ℕ) (p q : ℕ) (ds es : List Demand) → AskForAll ds es → Contains (needed (asked_at p (map (by_number number) es))) q → Contains (needed (asked_at p (map (by_number number) ds))) q
fewer_needs number p q ds es a h =
    let e = need_of number p q es h in
    let d = a e.0 e.1 e.2 e.4 in
    let at : number d.0.node ≡ p = ap number d.2 ∙ e.3 in
    subst (λ (i : ℕ). Contains (needed (asked_at i (map (by_number number) ds))) q) at (subst (λ (i : ℕ). Contains (needed (asked_at (number d.0.node) (map (by_number number) ds))) i) e.5 (need_in number ds d.0 e.1 d.1 d.3))

fewer_rows : (number : Node → ℕ) (count : ℕ) (ds es : List Demand) (system another : System) → AskForAll ds es → AreGrouped count (map (by_number number) ds) system → AreGrouped count (map (by_number number) es) another → (p q : ℕ) → HasEdge (needs another) p q → HasEdge (needs system) p q
fewer_rows number count ds es system another a g k p q h =
    subst (λ (r : List ℕ). Contains r q) (sym (row-needs system p)) (by (split p count) (subst (λ (r : List ℕ). Contains r q) (row-needs another p) h))
  where
    by : (p < count) ⊎ (count ≤ p) → Contains (needed (inequalities another p)) q → Contains (needed (inequalities system p)) q
    by (inl l) c = subst (λ (as' : List Inequality). Contains (needed as') q) (sym (g.own p l)) (fewer_needs number p q ds es a (subst (λ (as' : List Inequality). Contains (needed as') q) (k.own p l) c))
    by (inr l) c = absurd (let z = subst (λ (as' : List Inequality). Contains (needed as') q) (k.none p l) c in omega (arith, z.1))

-- an order of the places of one system is one of another, whose demands ask for no more
pub order_serves_less : (number : Node → ℕ) (count : ℕ) (ds es : List Demand) (system another : System) (order : List ℕ) → AskForAll ds es → AreGrouped count (map (by_number number) ds) system → AreGrouped count (map (by_number number) es) another
    → length system ≡ length another → IsOrder (needs system) order → IsOrder (needs another) order
order_serves_less number count ds es system another order a g k sized o = record {
  known = λ j l. omega (arith, o.known j l, sized, length-map system needed, length-map another needed);
  before = λ j q l e. o.before j q l (fewer_rows number count ds es system another a g k (slice_index_or order j 0) q e);
  once = o.once;
  every = λ p l. o.every p (omega (arith, l, sized, length-map system needed, length-map another needed));
}

-- ---- the network

-- demands that differ in constants alone ask for the same
pub like_asks : (ds es : List Demand) → AreAlike ds es → AskForAll ds es
like_asks [] [] a e x c k = absurd (omega (arith, c.1))
like_asks [] (f ∷ es) a e x c k = absurd a
like_asks (d ∷ ds) [] a e x c k = absurd a
like_asks (d ∷ ds) (f ∷ es) a e x (zero, l, is) k =
    let t : Contains f.terms x = subst (λ (g : Demand). Contains g.terms x) (sym is) k in
    (d, (0, omega arith, refl), a.0 ∙ ap (λ (g : Demand). g.node) is, subst (λ (ts : List Node). Contains ts x) (sym a.1) t)
like_asks (d ∷ ds) (f ∷ es) a e x (suc n, l, is) k = let r = like_asks ds es a.3 e x (n, omega (arith, l), is) k in (r.0, Contains-append_right (d ∷ []) ds r.0 r.1, r.2, r.3)

both_ask : (ds es fs gs : List Demand) → AskForAll ds es → AskForAll fs gs → AskForAll (ds ++ fs) (es ++ gs)
both_ask ds es fs gs a b e x c k = elim (Contains-append_cases es gs e c) [
  | inl l ↦ let r = a e x l k in (r.0, Contains-append_left ds fs r.0 r.1, r.2, r.3)
  | inr m ↦ let r = b e x m k in (r.0, Contains-append_right ds fs r.0 r.1, r.2, r.3)
]

-- what is heard so often is heard once
in_replicate : {X : Type 0} (n : ℕ) (y x : X) → Contains (replicate n y) x → y ≡ x
in_replicate zero y x c = absurd (omega (arith, c.1))
in_replicate (suc n) y x (zero, l, e) = e
in_replicate (suc n) y x (suc k, l, e) = in_replicate n y x (k, omega (arith, l), e)

heard_once : (r c : ℕ) (leaf : Leaf) (x : Node) → Contains (heard r c leaf) x → Contains (heard 1 c leaf) x
heard_once r c leaf x h = by leaf.kind h where
  by : (kind : Kind) → Contains (replicate (admissions r c kind) (event (at_place leaf.path arrive))) x → Contains (replicate (admissions 1 c kind) (event (at_place leaf.path arrive))) x
  by (Charted block) h = h
  by (Serviced (Service.Input number types)) h = h
  by (Serviced (Service.Output number types)) h = h
  by (Serviced (Service.Publish k types)) h = h
  by (Serviced (Service.Subscribe k types)) h = at (k.number == c) k.format h where
    at : (b : Bool) (f : Format) → Contains (replicate (if b then elim f [ First ↦ r | Second ↦ 1 ] else 0) (event (at_place leaf.path arrive))) x → Contains (replicate (if b then elim f [ First ↦ 1 | Second ↦ 1 ] else 0) (event (at_place leaf.path arrive))) x
    at true First h = (0, omega arith, in_replicate r (event (at_place leaf.path arrive)) x h)
    at true Second h = h
    at false f h = h
  by (Serviced Service.Delay) h = h
  by (Serviced Service.Cycle) h = h
  by (Serviced Service.Restart) h = h

channels_ask : (r : ℕ) (all : List Leaf) → AskForAll (channel_demands 1 all) (channel_demands r all)
channels_ask r all e x c k =
    let i = in_image (of_channel r all) (channels_of all) e c in
    let t = in_piece (heard r i.0) all x (subst (λ (d : Demand). Contains d.terms x) (sym i.2) k) in
    (of_channel 1 all i.0, image_in (of_channel 1 all) (channels_of all) i.0 i.1, ap (λ (d : Demand). d.node) i.2, piece_in (heard 1 i.0) all t.0 x t.1 (heard_once r i.0 t.0 x t.2))

-- the demands of the network ask for the same nodes as those without what algorithms cost, in which a datagram is admitted once
pub network_asks : (r : ℕ) (ranges : List Range) (all : List Leaf) → AskForAll (bare_network all) (network_demands r ranges all)
network_asks r ranges all =
    both_ask (flat_map (λ (leaf : Leaf). of_kind (linked (bare leaf)) leaf.kind) all) (flat_map (λ (leaf : Leaf). of_kind (linked (ground_of 1 ranges leaf)) leaf.kind) all) (channel_demands 1 all) (channel_demands r all)
    (like_asks (flat_map (λ (leaf : Leaf). of_kind (linked (bare leaf)) leaf.kind) all) (flat_map (λ (leaf : Leaf). of_kind (linked (ground_of 1 ranges leaf)) leaf.kind) all)
    (like_flat (λ (leaf : Leaf). of_kind (linked (bare leaf)) leaf.kind) (λ (leaf : Leaf). of_kind (linked (ground_of 1 ranges leaf)) leaf.kind) (λ leaf. kind_alike (linked (bare leaf)) 1 (ground_of 1 ranges leaf).price leaf.kind) all))
    (channels_ask r all)

flat_ask : {X : Type 0} (f h : X → List Demand) → ((x : X) → AskForAll (f x) (h x)) → (xs : List X) → AskForAll (flat_map f xs) (flat_map h xs)
flat_ask f h a [] e x c k = absurd (omega (arith, c.1))
flat_ask f h a (y ∷ ys) e x c k = both_ask (f y) (h y) (flat_map f ys) (flat_map h ys) (a y) (flat_ask f h a ys) e x c k

none_sent : (leaf : Leaf) (service : Service) (e : Name) (x : Node) → Contains (sent (bare leaf) service e) x → ⊥
none_sent leaf (Service.Publish k types) e x h = by (bytes_eq e init) h where
  by : (b : Bool) → Contains {X = Node} (if b then [] else []) x → ⊥
  by true h = omega (arith, h.1)
  by false h = omega (arith, h.1)
none_sent leaf (Service.Input number types) e x h = omega (arith, h.1)
none_sent leaf (Service.Output number types) e x h = omega (arith, h.1)
none_sent leaf (Service.Subscribe k types) e x h = omega (arith, h.1)
none_sent leaf Service.Delay e x h = omega (arith, h.1)
none_sent leaf Service.Cycle e x h = omega (arith, h.1)
none_sent leaf Service.Restart e x h = omega (arith, h.1)

dispatch_asks : (leaf : Leaf) (service : Service) (n : Name) → AskForAll (of_dispatch (linked (bare leaf)) service n) (of_dispatch (bare leaf) service n)
dispatch_asks leaf service n e x (zero, l, is) k = absurd (let h : Contains [] x = subst (λ (d : Demand). Contains d.terms x) (sym is) k in omega (arith, h.1))
dispatch_asks leaf service n e x (suc zero, l, is) k =
    let d = sending_demand (linked (bare leaf)) n (sent (linked (bare leaf)) service n) (can_emit service n) in
    let out = map event (reached leaf.targets (can_emit service n)) in
    let h : Contains (sent (bare leaf) service n ++ out) x = subst (λ (d : Demand). Contains d.terms x) (sym is) k in (
      d,
      (1, omega arith, refl),
      ap (λ (d : Demand). d.node) is,
      elim (Contains-append_cases (sent (bare leaf) service n) out x h) [ inl a ↦ absurd (none_sent leaf service n x a) | inr b ↦ Contains-append_right (sent (linked (bare leaf)) service n) out x b ],
    )
dispatch_asks leaf service n e x (suc (suc j), l, is) k = absurd (omega (arith, l))

leaf_asks : (leaf : Leaf) → AskForAll (of_kind (linked (bare leaf)) leaf.kind) (of_kind (bare leaf) leaf.kind)
leaf_asks leaf = by leaf.kind where
  by : (kind : Kind) → AskForAll (of_kind (linked (bare leaf)) kind) (of_kind (bare leaf) kind)
  by (Charted block) = λ e x c k. (e, c, refl, k)
  by (Serviced service) = flat_ask (of_dispatch (linked (bare leaf)) service) (of_dispatch (bare leaf) service) (dispatch_asks leaf service) (service_events service)

-- and for those of each column without datagrams: so an order of the network serves all columns
pub network_asks_devices : (unit : ℕ) (ranges : List Range) (all : List Leaf) → AskForAll (bare_network all) (demands unit ranges all)
network_asks_devices unit ranges all e x c k =
    let a = like_asks (bare_demands all) (demands unit ranges all) (columns_alike unit ranges all) e x c k in
    let b = flat_ask (λ (leaf : Leaf). of_kind (linked (bare leaf)) leaf.kind) (λ (leaf : Leaf). of_kind (bare leaf) leaf.kind) leaf_asks all a.0 x a.1 a.3 in
    (b.0, Contains-append_left (flat_map (λ (leaf : Leaf). of_kind (linked (bare leaf)) leaf.kind) all) (channel_demands 1 all) b.0 b.1, b.2 ∙ a.2, b.3)

-- the terms of numbered demands are places
pub known_terms : (nodes : List Node) (ds : List Demand) (number : Node → ℕ) (system : System) → AreNumbers nodes number → AreOf nodes ds → AreGrouped (length nodes) (map (by_number number) ds) system → length system ≡ length nodes → IsSystem system
known_terms nodes ds number system n o g sized = record {
  known = λ p q k d.
      let f = (says_same nodes ds number system n o g).from p d.0 d.1 in
      let t = term_of number f.0.terms q (subst (λ (a : Inequality). Contains a.terms q) f.3 d.2) in
      let own = (n.at t.0 ((capped_of nodes ds o).terms f.0 t.0 f.1 t.1)).0 in
      omega (arith, own, t.2, sized);
}
