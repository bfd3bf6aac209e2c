-- The rows that a well typed system must have are of different places.
use Rattle.std.proofs.Common.{◌≡◌, ℕ, Bool, true, false, cond, List, [], ◌∷◌, ◌++◌, map, Option, None, Some, refl, sym, ap, ap₂, subst, ◌∙◌, append_assoc}
use Rattle.std.specs.List.{list_any, AllByRecursion}
use Rattle.std.specs.Str.{bytes_eq}
use Rattle.std.proofs.lemmas.Bool.{and_right, or_from}
use Rattle.fb_model.specs.Names.{Name, Path, at_place, path_eq, place_eq}
use Rattle.fb_model.specs.Declarations.{ChartTree, BlockTree, SourceTree}
use Rattle.fb_model.specs.System.{Variable, Block, Service, Input, Output, Publish, Subscribe, Delay, Cycle, Restart, Device, System}
use Rattle.fb_model.specs.Services.{service_events}
use Rattle.fb_model.specs.BlockTyping.{Declared, names_in, variable_of, event_texts, IsBasic}
use Rattle.fb_model.specs.NetworkTyping.{ElaboratesWith}
use Rattle.fb_model.specs.Wires.{Kind, Charted, Serviced, Leaf, leaves}
use Rattle.fb_model.specs.Certificates.{is_boolean, PlaceRows, Range_rows, Charge_rows, Weight_rows, Far_rows, Far_state_rows, places_in, ranged_variables, of_kind, state_names, events_of, each_leaf, event_names, event_places, state_places, ranged, required, all_leaves, AreDifferent}
use Rattle.fb_model.proofs.Lists.{all_append, all_weaker}
use Rattle.fb_model.proofs.Placed.{Apart, all_left, apart}
use Rattle.fb_model_laws.specs.Leaves.{AreApart, OnChart, IsClosed}
use Rattle.fb_model_laws.proofs.Charts.{on_charts}
use Rattle.fb_model_laws.proofs.Closed.{all_charts_closed}
use Rattle.fb_model_laws.proofs.Devices.{names_apart, paths_differ, IsOf, LeafIsOf, of_device}
use Rattle.fb_model_laws.proofs.Paths.{all_apart}
use Rattle.fb_model_laws.proofs.Places.{variables_join}
use Rattle.fb_model_lengths.proofs.Different.{AreAt, leaves_differ}

-- ---- lists of names

apart_left : (xs ys : List Name) → Apart (xs ++ ys) → Apart xs
apart_left [] ys h = tt
apart_left (x ∷ xs) ys h = (all_left (λ m. bytes_eq x m ≡ false) xs ys h.0, apart_left xs ys h.1)

apart_right : (xs ys : List Name) → Apart (xs ++ ys) → Apart ys
apart_right [] ys h = h
apart_right (x ∷ xs) ys h = apart_right xs ys h.1

-- ---- the variables of a block

abbrev named : List Variable → List Name
named [] = []
named (v ∷ vs) = v.name ∷ named vs

named_append : (vs ws : List Variable) → named (vs ++ ws) ≡ named vs ++ named ws
named_append [] ws = refl
named_append (v ∷ vs) ws = ap (λ ns. v.name ∷ ns) (named_append vs ws)

named_declared : (ds : List Declared) → named (map variable_of ds) ≡ names_in ds
named_declared [] = refl
named_declared (d ∷ ds) = ap (λ ns. d.name ∷ ns) (named_declared ds)

abbrev all_of : Block → List Variable
all_of k = (k.inputs ++ k.outputs) ++ k.internals

abbrev IsNamed : Block → Type 0
IsNamed k = Apart (named (all_of k))

block_named : (b : BlockTree) (c : ChartTree) (k : Block) → IsBasic b c k → IsNamed k
block_named b c k h =
    let front = event_texts b.event_inputs ++ event_texts b.event_outputs in
    let ins = names_in h.ins in
    let outs = names_in h.outs in
    let inner = names_in h.inner in
    let together : ((front ++ ins) ++ outs) ++ inner ≡ front ++ ((ins ++ outs) ++ inner) = ap (λ ns. ns ++ inner) (append_assoc front ins outs) ∙ append_assoc front (ins ++ outs) inner in
    let own : Apart ((ins ++ outs) ++ inner) = apart_right front ((ins ++ outs) ++ inner) (subst Apart together (apart (((front ++ ins) ++ outs) ++ inner) h.names)) in
    let ins_are : named k.inputs ≡ ins = ap (λ f. named f.inputs) h.face.face ∙ named_declared h.ins in
    let outs_are : named k.outputs ≡ outs = ap (λ f. named f.outputs) h.face.face ∙ named_declared h.outs in
    let inner_are : named k.internals ≡ inner = ap named h.internals_are ∙ named_declared h.inner in
    let all : named (all_of k) ≡ (ins ++ outs) ++ inner =
    named_append (k.inputs ++ k.outputs) k.internals ∙ (ap (λ ns. ns ++ named k.internals) (named_append k.inputs k.outputs ∙ ap₂ (λ (x : List Name) (y : List Name). x ++ y) ins_are outs_are) ∙ ap (λ ns. (ins ++ outs) ++ ns) inner_are) in
    subst Apart (sym all) own

-- ---- places of one leaf

none_named : (path : Path) (n : Name) (ns : List Name) → AllByRecursion (λ m. bytes_eq n m ≡ false) ns → list_any (place_eq (at_place path n)) (places_in path ns) ≡ false
none_named path n [] h = refl
none_named path n (m ∷ ns) h = or_from (place_eq (at_place path n) (at_place path m)) (list_any (place_eq (at_place path n)) (places_in path ns)) (and_right (path_eq path path) (bytes_eq n m) h.0) (none_named path n ns h.1)

names_differ : (path : Path) (ns : List Name) → Apart ns → AreDifferent (places_in path ns)
names_differ path [] h = tt
names_differ path (n ∷ ns) h = (none_named path n ns h.0, names_differ path ns h.1)

names_at : (path : Path) (ns : List Name) → AreAt path (places_in path ns)
names_at path [] = tt
names_at path (n ∷ ns) = (refl, names_at path ns)

none_ranged : (path : Path) (n : Name) (vs : List Variable) → AllByRecursion (λ m. bytes_eq n m ≡ false) (named vs) → list_any (place_eq (at_place path n)) (ranged_variables path vs) ≡ false
none_ranged path n [] h = refl
none_ranged path n (v ∷ vs) h = by (is_boolean v.type) (none_ranged path n vs h.1) where
  by : (b : Bool) → list_any (place_eq (at_place path n)) (ranged_variables path vs) ≡ false → list_any (place_eq (at_place path n)) (cond b (ranged_variables path vs) (at_place path v.name ∷ ranged_variables path vs)) ≡ false
  by true k = k
  by false k = or_from (place_eq (at_place path n) (at_place path v.name)) (list_any (place_eq (at_place path n)) (ranged_variables path vs)) (and_right (path_eq path path) (bytes_eq n v.name) h.0) k

variables_differ : (path : Path) (vs : List Variable) → Apart (named vs) → AreDifferent (ranged_variables path vs)
variables_differ path [] h = tt
variables_differ path (v ∷ vs) h = by (is_boolean v.type) (variables_differ path vs h.1) where
  by : (b : Bool) → AreDifferent (ranged_variables path vs) → AreDifferent (cond b (ranged_variables path vs) (at_place path v.name ∷ ranged_variables path vs))
  by true k = k
  by false k = (none_ranged path v.name vs h.0, k)

variables_at : (path : Path) (vs : List Variable) → AreAt path (ranged_variables path vs)
variables_at path [] = tt
variables_at path (v ∷ vs) = by (is_boolean v.type) (variables_at path vs) where
  by : (b : Bool) → AreAt path (ranged_variables path vs) → AreAt path (cond b (ranged_variables path vs) (at_place path v.name ∷ ranged_variables path vs))
  by true k = k
  by false k = (refl, k)

ranged_of : (path : Path) (k : Block) → ranged_variables path (all_of k) ≡ of_kind path (Charted k)
ranged_of path k = variables_join path (k.inputs ++ k.outputs) k.internals ∙ ap (λ ps. ps ++ ranged_variables path k.internals) (variables_join path k.inputs k.outputs)

kind_differs : (path : Path) (kind : Kind) → OnChart IsNamed kind → AreDifferent (of_kind path kind)
kind_differs path (Charted k) h = subst AreDifferent (ranged_of path k) (variables_differ path (all_of k) h)
kind_differs path (Serviced service) h = tt

kind_at : (path : Path) (kind : Kind) → AreAt path (of_kind path kind)
kind_at path (Charted k) = subst (AreAt path) (ranged_of path k) (variables_at path (all_of k))
kind_at path (Serviced service) = tt

service_apart : (s : Service) → Apart (service_events s)
service_apart (Input number types) = (tt, tt)
service_apart (Output number types) = (tt, tt)
service_apart (Publish channel types) = ((refl, tt), (tt, tt))
service_apart (Subscribe channel types) = ((refl, (refl, tt)), ((refl, tt), (tt, tt)))
service_apart Delay = ((refl, (refl, tt)), ((refl, tt), (tt, tt)))
service_apart Cycle = ((refl, (refl, tt)), ((refl, tt), (tt, tt)))
service_apart Restart = (tt, tt)

events_apart : (kind : Kind) → IsClosed kind → Apart (events_of kind)
events_apart (Charted k) h = apart_left (event_names k.event_inputs) (event_names k.event_outputs) (apart _ h.events_apart)
events_apart (Serviced s) h = service_apart s

states_apart : (kind : Kind) → IsClosed kind → Apart (state_names kind)
states_apart (Charted k) h = apart _ h.states_apart
states_apart (Serviced s) h = tt

-- ---- the leaves of all devices

over_all : (P : Leaf → Type 0) (ds : List Device) → AllByRecursion (λ (d : Device). AllByRecursion P (leaves d)) ds → AllByRecursion P (all_leaves ds)
over_all P [] h = tt
over_all P (d ∷ ds) h = all_append P (leaves d) (all_leaves ds) h.0 (over_all P ds h.1)

-- a leaf of a device of another name
record IsElsewhere (n : Name) (leaf : Leaf) : Type 0 where
  other : Name
  differs : bytes_eq n other ≡ false
  is : IsOf other leaf.path

elsewhere : (n : Name) (ds : List Device) → AllByRecursion (λ m. bytes_eq n m ≡ false) (map (λ (d : Device). d.name) ds) → AllByRecursion (IsElsewhere n) (all_leaves ds)
elsewhere n [] h = tt
elsewhere n (d ∷ ds) h = all_append (IsElsewhere n) (leaves d) (all_leaves ds) (all_weaker (LeafIsOf d.name) (IsElsewhere n) (leaves d) (λ leaf k. record { other = d.name; differs = h.0; is = k }) (of_device d)) (elsewhere n ds h.1)

apart_append : (xs ys : List Leaf) → AreApart xs → AreApart ys → AllByRecursion (λ (x : Leaf). AllByRecursion (λ (y : Leaf). path_eq x.path y.path ≡ false) ys) xs → AreApart (xs ++ ys)
apart_append [] ys f g h = g
apart_append (x ∷ xs) ys f g h = (all_append _ xs ys f.0 h.0, apart_append xs ys f.1 g h.1)

devices_apart : (ds : List Device) → Apart (map (λ (d : Device). d.name) ds) → AllByRecursion (λ (d : Device). AreApart (leaves d)) ds → AreApart (all_leaves ds)
devices_apart [] n h = tt
devices_apart (d ∷ ds) n h =
    apart_append (leaves d) (all_leaves ds) h.0 (devices_apart ds n.1 h.1)
    (all_weaker (LeafIsOf d.name) (λ (x : Leaf). AllByRecursion (λ (y : Leaf). path_eq x.path y.path ≡ false) (all_leaves ds)) (leaves d)
    (λ x k. all_weaker (IsElsewhere d.name) (λ (y : Leaf). path_eq x.path y.path ≡ false) (all_leaves ds) (λ y e. paths_differ d.name e.other x.path y.path e.differs k e.is) (elsewhere d.name ds n.0)) (of_device d))

-- ---- all rows

ranged_each : (all : List Leaf) → each_leaf (λ leaf. of_kind leaf.path leaf.kind) all ≡ ranged all
ranged_each [] = refl
ranged_each (leaf ∷ rest) = ap (λ ps. of_kind leaf.path leaf.kind ++ ps) (ranged_each rest)

module _ (library : List BlockTree) (source : SourceTree) (system : System) (typed : ElaboratesWith library source system) where
  leaves_apart : AreApart (all_leaves system.devices)
  leaves_apart = devices_apart system.devices (names_apart library source system typed) (all_apart library source system typed)

  closed : AllByRecursion (λ (leaf : Leaf). IsClosed leaf.kind) (all_leaves system.devices)
  closed = over_all (λ (leaf : Leaf). IsClosed leaf.kind) system.devices (all_charts_closed library source system typed)

  ranged_differ : AreDifferent (ranged (all_leaves system.devices))
  ranged_differ =
      let ls = all_leaves system.devices in
      let own : AllByRecursion (λ (leaf : Leaf). OnChart IsNamed leaf.kind) ls = over_all (λ (leaf : Leaf). OnChart IsNamed leaf.kind) system.devices (on_charts IsNamed block_named library source system typed) in
      subst AreDifferent (ranged_each ls)
      (leaves_differ (λ leaf. of_kind leaf.path leaf.kind) ls leaves_apart (all_weaker (λ (leaf : Leaf). IsClosed leaf.kind) (λ (leaf : Leaf). AreAt leaf.path (of_kind leaf.path leaf.kind)) ls (λ leaf k. kind_at leaf.path leaf.kind) closed)
      (all_weaker (λ (leaf : Leaf). OnChart IsNamed leaf.kind) (λ (leaf : Leaf). AreDifferent (of_kind leaf.path leaf.kind)) ls (λ leaf k. kind_differs leaf.path leaf.kind k) own))

  states_differ : AreDifferent (state_places (all_leaves system.devices))
  states_differ =
      let ls = all_leaves system.devices in
      leaves_differ (λ leaf. places_in leaf.path (state_names leaf.kind)) ls leaves_apart
      (all_weaker (λ (leaf : Leaf). IsClosed leaf.kind) (λ (leaf : Leaf). AreAt leaf.path (places_in leaf.path (state_names leaf.kind))) ls (λ leaf k. names_at leaf.path (state_names leaf.kind)) closed)
      (all_weaker (λ (leaf : Leaf). IsClosed leaf.kind) (λ (leaf : Leaf). AreDifferent (places_in leaf.path (state_names leaf.kind))) ls (λ leaf k. names_differ leaf.path (state_names leaf.kind) (states_apart leaf.kind k)) closed)

  events_differ : AreDifferent (event_places (all_leaves system.devices))
  events_differ =
      let ls = all_leaves system.devices in
      leaves_differ (λ leaf. places_in leaf.path (events_of leaf.kind)) ls leaves_apart
      (all_weaker (λ (leaf : Leaf). IsClosed leaf.kind) (λ (leaf : Leaf). AreAt leaf.path (places_in leaf.path (events_of leaf.kind))) ls (λ leaf k. names_at leaf.path (events_of leaf.kind)) closed)
      (all_weaker (λ (leaf : Leaf). IsClosed leaf.kind) (λ (leaf : Leaf). AreDifferent (places_in leaf.path (events_of leaf.kind))) ls (λ leaf k. names_differ leaf.path (events_of leaf.kind) (events_apart leaf.kind k)) closed)

  pub required_differ : (kind : PlaceRows) (repeats : Option ℕ) → AreDifferent (required kind repeats (all_leaves system.devices))
  required_differ Range_rows repeats = ranged_differ
  required_differ Charge_rows repeats = states_differ
  required_differ Weight_rows repeats = events_differ
  required_differ Far_rows None = tt
  required_differ Far_rows (Some r) = events_differ
  required_differ Far_state_rows None = tt
  required_differ Far_state_rows (Some r) = states_differ
