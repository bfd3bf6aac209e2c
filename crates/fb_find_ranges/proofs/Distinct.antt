-- No two rows of a well typed system stand under one path.
use Rattle.std.proofs.Common.{◌≡◌, Bool, true, false, ◌&&◌, List, [], ◌∷◌, ◌++◌, map, refl, sym, ap, ap₂, subst, ◌∙◌, append_assoc, if◌then◌else◌}
use Rattle.std.specs.List.{AllByRecursion, IsDistinct}
use Rattle.std.specs.Str.{bytes_eq}
use Rattle.fb_model.specs.Names.{Name, Path, Place, at_place, path_eq, place_eq}
use Rattle.fb_model.specs.Declarations.{BlockTree, SourceTree}
use Rattle.fb_model.specs.NetworkTyping.{ElaboratesWith}
use Rattle.fb_model.specs.System.{Variable, Block, Service, Input, Output, Publish, Subscribe, Delay, Cycle, Restart, Resource, Device, System}
use Rattle.fb_model.specs.Services.{service_events}
use Rattle.fb_model.specs.Wires.{Kind, Charted, Serviced, Leaf, leaves}
use Rattle.fb_model.specs.Store.{variable_names}
use Rattle.fb_model.specs.Ranges.{variables}
use Rattle.fb_model.specs.Certificates.{all_leaves, each_leaf, event_names, events_of, is_boolean, names, places_in, ranged_variables, of_kind, ranged, resource_paths, depth_paths, state_names}
use Rattle.fb_model.specs.CertificateText.{names_in, place_of}
use Rattle.fb_model.proofs.Lists.{all_append, all_weaker}
use Rattle.fb_model.proofs.Placed.{Apart, apart}
use Rattle.fb_model_laws.specs.Leaves.{AreApart, IsClosed, OnChart}
use Rattle.fb_model_laws.proofs.Charts.{on_charts}
use Rattle.fb_model_laws.proofs.Closed.{all_charts_closed}
use Rattle.fb_model_laws.proofs.Made.{IsWellDevice}
use Rattle.fb_model_laws.proofs.Paths.{all_apart}
use Rattle.fb_model_laws.proofs.Typed.{devices_made}
use Rattle.fb_model_laws.proofs.Beginning.{basic_names}
use Rattle.fb_model_laws.proofs.Places.{variables_join}
use Rattle.fb_model_laws.proofs.Devices.{IsOf, LeafIsOf, of_device, paths_differ, names_apart}
use Rattle.fb_model_laws.specs.Words.{IsWordyDevice}
use Rattle.fb_flat.specs.declared.flat.FlatDevice.{FlatDevice}
use Rattle.fb_flat.specs.Tables.{AreDevices}
use Rattle.fb_check_rows.specs.declared.kind.RowKind.TheVariants.{Charge, Weight, Range, Depth}
use Rattle.fb_check_rows.specs.Texts.{texts_of}
use Rattle.fb_check_rows.proofs.Places.{same_place, same_names}
use Rattle.fb_check_rows.proofs.Systems.{devices_placed, devices_ranged, devices_named}

-- ---- lists apart, by a test

abbrev Differ : {X : Type 0} → (X → X → Bool) → List X → Type 0
Differ eq [] = Unit {0}
Differ eq (x ∷ xs) = AllByRecursion (λ y. eq x y ≡ false) xs × Differ eq xs

joined : {X : Type 0} (eq : X → X → Bool) (xs ys : List X) → Differ eq xs → Differ eq ys → AllByRecursion (λ x. AllByRecursion (λ y. eq x y ≡ false) ys) xs → Differ eq (xs ++ ys)
joined eq [] ys h k m = k
joined eq (x ∷ xs) ys h k m = (all_append (λ y. eq x y ≡ false) xs ys h.0 m.0, joined eq xs ys h.1 k m.1)

-- what differs by its image differs
unmapped : {X : Type 0} (eq : X → X → Bool) (f : Name → X) → ((p q : Name) → eq (f p) (f q) ≡ bytes_eq p q) → (ts : List Name) → Differ eq (map f ts) → IsDistinct bytes_eq ts
unfolding IsDistinct
unmapped eq f same [] h = tt
unmapped eq f same (t ∷ ts) h = (each t ts h.0, unmapped eq f same ts h.1) where
  each : (t : Name) (ts : List Name) → AllByRecursion (λ y. eq (f t) y ≡ false) (map f ts) → AllByRecursion (λ u. bytes_eq t u ≡ false) ts
  each t [] h = tt
  each t (u ∷ us) h = (sym (same t u) ∙ h.0, each t us h.1)

-- ---- the variables of a leaf

and_right : (a b : Bool) → b ≡ false → (a && b) ≡ false
and_right true b h = h
and_right false b h = refl

other_names : (path : Path) (n : Name) (vs : List Variable) → AllByRecursion (λ m. bytes_eq n m ≡ false) (variable_names vs) → AllByRecursion (λ p. place_eq (at_place path n) p ≡ false) (ranged_variables path vs)
other_names path n [] h = tt
other_names path n (v ∷ vs) h = by (is_boolean v.type) (other_names path n vs h.1) where
  by : (b : Bool) → AllByRecursion (λ p. place_eq (at_place path n) p ≡ false) (ranged_variables path vs)
      → AllByRecursion (λ p. place_eq (at_place path n) p ≡ false) (if b then ranged_variables path vs else at_place path v.name ∷ ranged_variables path vs)
  by true k = k
  by false k = (and_right (path_eq path path) (bytes_eq n v.name) h.0, k)

variables_differ : (path : Path) (vs : List Variable) → Apart (variable_names vs) → Differ place_eq (ranged_variables path vs)
variables_differ path [] h = tt
variables_differ path (v ∷ vs) h = by (is_boolean v.type) (variables_differ path vs h.1) where
  by : (b : Bool) → Differ place_eq (ranged_variables path vs) → Differ place_eq (if b then ranged_variables path vs else at_place path v.name ∷ ranged_variables path vs)
  by true k = k
  by false k = (other_names path v.name vs h.0, k)

-- a chart's variables have names that differ
abbrev AreNamed : Block → Type 0
AreNamed block = Apart (variable_names (variables (Charted block)))

leaf_differs : (path : Path) (kind : Kind) → OnChart AreNamed kind → Differ place_eq (of_kind path kind)
leaf_differs path (Charted block) h =
    let ins = ranged_variables path block.inputs in
    let joins : ranged_variables path (variables (Charted block)) ≡ of_kind path (Charted block) =
    variables_join path block.inputs (block.outputs ++ block.internals)
    ∙ (ap (λ (ps : List Place). ins ++ ps) (variables_join path block.outputs block.internals) ∙ sym (append_assoc ins (ranged_variables path block.outputs) (ranged_variables path block.internals))) in
    subst (Differ place_eq) joins (variables_differ path (variables (Charted block)) h)
leaf_differs path (Serviced service) h = tt

-- ---- leaves

-- places of blocks on other paths
abbrev AreOn : Path → List Place → Type 0
AreOn path ps = AllByRecursion (λ (p : Place). p.path ≡ path) ps

variables_on : (path : Path) (vs : List Variable) → AreOn path (ranged_variables path vs)
variables_on path [] = tt
variables_on path (v ∷ vs) = by (is_boolean v.type) (variables_on path vs) where
  by : (b : Bool) → AreOn path (ranged_variables path vs) → AreOn path (if b then ranged_variables path vs else at_place path v.name ∷ ranged_variables path vs)
  by true k = k
  by false k = (refl, k)

kind_on : (path : Path) (kind : Kind) → AreOn path (of_kind path kind)
kind_on path (Charted block) =
    all_append (λ (p : Place). p.path ≡ path) (ranged_variables path block.inputs ++ ranged_variables path block.outputs) (ranged_variables path block.internals)
    (all_append (λ (p : Place). p.path ≡ path) (ranged_variables path block.inputs) (ranged_variables path block.outputs) (variables_on path block.inputs) (variables_on path block.outputs)) (variables_on path block.internals)
kind_on path (Serviced service) = tt

and_left : (a b : Bool) → a ≡ false → (a && b) ≡ false
and_left true b h = absurd cc
and_left false b h = refl

-- leaves on paths that differ
abbrev AreElsewhere : List Leaf → Type 0
AreElsewhere all = Differ (λ (x y : Leaf). path_eq x.path y.path) all

own_paths : (all : List Leaf) → AreApart all → AreElsewhere all
own_paths [] h = tt
own_paths (leaf ∷ all) h = (h.0, own_paths all h.1)

-- places that each leaf has on its own path
abbrev AreOwn : (Leaf → List Place) → Type 0
AreOwn g = (leaf : Leaf) → AreOn leaf.path (g leaf)

elsewhere : (g : Leaf → List Place) → AreOwn g → (p : Place) (path : Path) (all : List Leaf) → p.path ≡ path → AllByRecursion (λ (other : Leaf). path_eq path other.path ≡ false) all → AllByRecursion (λ q. place_eq p q ≡ false) (each_leaf g all)
elsewhere g own p path [] e h = tt
elsewhere g own p path (leaf ∷ all) e h =
    all_append (λ q. place_eq p q ≡ false) (g leaf) (each_leaf g all)
    (all_weaker (λ (q : Place). q.path ≡ leaf.path) (λ (q : Place). place_eq p q ≡ false) (g leaf) (λ q k. and_left (path_eq p.path q.path) (bytes_eq p.event q.event) (ap₂ path_eq e k ∙ h.0)) (own leaf)) (elsewhere g own p path all e h.1)

leaves_differ : (g : Leaf → List Place) → AreOwn g → (all : List Leaf) → AreElsewhere all → AllByRecursion (λ (leaf : Leaf). Differ place_eq (g leaf)) all → Differ place_eq (each_leaf g all)
leaves_differ g own [] h k = tt
leaves_differ g own (leaf ∷ all) h k =
    joined place_eq (g leaf) (each_leaf g all) k.0 (leaves_differ g own all h.1 k.1)
    (all_weaker (λ (p : Place). p.path ≡ leaf.path) (λ (p : Place). AllByRecursion (λ q. place_eq p q ≡ false) (each_leaf g all)) (g leaf) (λ p e. elsewhere g own p leaf.path all e h.0) (own leaf))

-- ---- devices

-- a path of one device is that of no leaf of others
of_others : (n : Name) (x : Leaf) (ds : List Device) → LeafIsOf n x → AllByRecursion (λ m. bytes_eq n m ≡ false) (map (λ (d : Device). d.name) ds) → AllByRecursion (λ (y : Leaf). path_eq x.path y.path ≡ false) (all_leaves ds)
of_others n x [] h k = tt
of_others n x (d ∷ ds) h k =
    all_append (λ (y : Leaf). path_eq x.path y.path ≡ false) (leaves d) (all_leaves ds)
    (all_weaker (LeafIsOf d.name) (λ (y : Leaf). path_eq x.path y.path ≡ false) (leaves d) (λ y m. paths_differ n d.name x.path y.path k.0 h m) (of_device d)) (of_others n x ds h k.1)

-- the leaves of all devices have paths that differ
all_elsewhere : (ds : List Device) → AllByRecursion (λ (d : Device). AreApart (leaves d)) ds → Apart (map (λ (d : Device). d.name) ds) → AreElsewhere (all_leaves ds)
all_elsewhere [] h k = tt
all_elsewhere (d ∷ ds) h k =
    joined (λ (x y : Leaf). path_eq x.path y.path) (leaves d) (all_leaves ds) (own_paths (leaves d) h.0) (all_elsewhere ds h.1 k.1)
    (all_weaker (LeafIsOf d.name) (λ (x : Leaf). AllByRecursion (λ (y : Leaf). path_eq x.path y.path ≡ false) (all_leaves ds)) (leaves d) (λ x m. of_others d.name x ds m k.0) (of_device d))

-- what holds of the leaves of each device holds of all
pub on_all_leaves : (P : Leaf → Type 0) (ds : List Device) → AllByRecursion (λ (d : Device). AllByRecursion P (leaves d)) ds → AllByRecursion P (all_leaves ds)
on_all_leaves P [] h = tt
on_all_leaves P (d ∷ ds) h = all_append P (leaves d) (all_leaves ds) h.0 (on_all_leaves P ds h.1)

-- the places of all leaves differ where those of each do
places_differ : (g : Leaf → List Place) → AreOwn g → (library : List BlockTree) (source : SourceTree) (s : System) → ElaboratesWith library source s → AllByRecursion (λ (leaf : Leaf). Differ place_eq (g leaf)) (all_leaves s.devices) → Differ place_eq (each_leaf g (all_leaves s.devices))
places_differ g own library source s e h = leaves_differ g own (all_leaves s.devices) (all_elsewhere s.devices (all_apart library source s e) (names_apart library source s e)) h

-- ---- variables

ranged_each : (all : List Leaf) → ranged all ≡ each_leaf (λ leaf. of_kind leaf.path leaf.kind) all
ranged_each [] = refl
ranged_each (leaf ∷ all) = ap (λ ps. of_kind leaf.path leaf.kind ++ ps) (ranged_each all)

variables_apart : (library : List BlockTree) (source : SourceTree) (s : System) → ElaboratesWith library source s → Differ place_eq (ranged (all_leaves s.devices))
variables_apart library source s e =
    subst (Differ place_eq) (sym (ranged_each (all_leaves s.devices)))
    (places_differ (λ leaf. of_kind leaf.path leaf.kind) (λ leaf. kind_on leaf.path leaf.kind) library source s e
    (all_weaker (λ (leaf : Leaf). OnChart AreNamed leaf.kind) (λ (leaf : Leaf). Differ place_eq (of_kind leaf.path leaf.kind)) (all_leaves s.devices) (λ leaf o. leaf_differs leaf.path leaf.kind o)
    (on_all_leaves (λ (leaf : Leaf). OnChart AreNamed leaf.kind) s.devices (on_charts AreNamed basic_names library source s e))))

pub ranges_are_apart : (library : List BlockTree) (source : SourceTree) (devices : List FlatDevice) (s : System) → ElaboratesWith library source s → AreDevices devices s.devices → AllByRecursion IsWordyDevice s.devices → IsDistinct bytes_eq (texts_of Range devices)
ranges_are_apart library source devices s e are plain = unmapped place_eq place_of same_place (texts_of Range devices) (subst (Differ place_eq) (sym (devices_ranged devices s.devices are plain)) (variables_apart library source s e))

-- ---- states and events

named_on : (path : Path) (ns : List Name) → AreOn path (places_in path ns)
named_on path [] = tt
named_on path (n ∷ ns) = (refl, named_on path ns)

named_differ : (path : Path) (ns : List Name) → Apart ns → Differ place_eq (places_in path ns)
named_differ path [] h = tt
named_differ path (n ∷ ns) h = (others ns h.0, named_differ path ns h.1) where
  others : (ms : List Name) → AllByRecursion (λ m. bytes_eq n m ≡ false) ms → AllByRecursion (λ p. place_eq (at_place path n) p ≡ false) (places_in path ms)
  others [] k = tt
  others (m ∷ ms) k = (and_right (path_eq path path) (bytes_eq n m) k.0, others ms k.1)

-- the first of two lists that are apart
first_apart : (xs ys : List Name) → Apart (xs ++ ys) → Apart xs
first_apart [] ys h = tt
first_apart (x ∷ xs) ys h = (first xs h.0, first_apart xs ys h.1) where
  first : (zs : List Name) → AllByRecursion (λ m. bytes_eq x m ≡ false) (zs ++ ys) → AllByRecursion (λ m. bytes_eq x m ≡ false) zs
  first [] k = tt
  first (z ∷ zs) k = (k.0, first zs k.1)

states_apart : (kind : Kind) → IsClosed kind → Apart (state_names kind)
states_apart (Charted block) h = apart (names block.states) h.states_apart
states_apart (Serviced service) h = tt

served_apart : (service : Service) → Apart (service_events service)
served_apart (Input number types) = (tt, tt)
served_apart (Output number types) = (tt, tt)
served_apart (Publish channel types) = ((refl, tt), (tt, tt))
served_apart (Subscribe channel types) = ((refl, (refl, tt)), ((refl, tt), (tt, tt)))
served_apart Delay = ((refl, (refl, tt)), ((refl, tt), (tt, tt)))
served_apart Cycle = ((refl, (refl, tt)), ((refl, tt), (tt, tt)))
served_apart Restart = (tt, tt)

events_apart : (kind : Kind) → IsClosed kind → Apart (events_of kind)
events_apart (Charted block) h = first_apart (event_names block.event_inputs) (event_names block.event_outputs) (apart (event_names block.event_inputs ++ event_names block.event_outputs) h.events_apart)
events_apart (Serviced service) h = served_apart service

named_apart : (f : Kind → List Name) → ((kind : Kind) → IsClosed kind → Apart (f kind)) → (library : List BlockTree) (source : SourceTree) (s : System) → ElaboratesWith library source s
    → Differ place_eq (each_leaf (λ leaf. places_in leaf.path (f leaf.kind)) (all_leaves s.devices))
named_apart f h library source s e =
    places_differ (λ leaf. places_in leaf.path (f leaf.kind)) (λ leaf. named_on leaf.path (f leaf.kind)) library source s e
    (all_weaker (λ (leaf : Leaf). IsClosed leaf.kind) (λ (leaf : Leaf). Differ place_eq (places_in leaf.path (f leaf.kind))) (all_leaves s.devices) (λ leaf c. named_differ leaf.path (f leaf.kind) (h leaf.kind c))
    (on_all_leaves (λ (leaf : Leaf). IsClosed leaf.kind) s.devices (all_charts_closed library source s e)))

pub charges_are_apart : (library : List BlockTree) (source : SourceTree) (devices : List FlatDevice) (s : System) → ElaboratesWith library source s → AreDevices devices s.devices → AllByRecursion IsWordyDevice s.devices → IsDistinct bytes_eq (texts_of Charge devices)
charges_are_apart library source devices s e are plain = unmapped place_eq place_of same_place (texts_of Charge devices) (subst (Differ place_eq) (sym (devices_placed Charge devices s.devices are plain)) (named_apart state_names states_apart library source s e))

pub weights_are_apart : (library : List BlockTree) (source : SourceTree) (devices : List FlatDevice) (s : System) → ElaboratesWith library source s → AreDevices devices s.devices → AllByRecursion IsWordyDevice s.devices → IsDistinct bytes_eq (texts_of Weight devices)
weights_are_apart library source devices s e are plain = unmapped place_eq place_of same_place (texts_of Weight devices) (subst (Differ place_eq) (sym (devices_placed Weight devices s.devices are plain)) (named_apart events_of events_apart library source s e))

-- ---- resources

resources_under : (device : Name) (rs : List Resource) → AllByRecursion (IsOf device) (resource_paths device rs)
resources_under device [] = tt
resources_under device (r ∷ rs) = (refl, resources_under device rs)

other_resources : (device n : Name) (rs : List Resource) → AllByRecursion (λ m. bytes_eq n m ≡ false) (map (λ (r : Resource). r.name) rs) → AllByRecursion (λ path. path_eq (device ∷ n ∷ []) path ≡ false) (resource_paths device rs)
other_resources device n [] h = tt
other_resources device n (r ∷ rs) h = (and_right (bytes_eq device device) (bytes_eq n r.name && true) (and_left (bytes_eq n r.name) true h.0), other_resources device n rs h.1)

resources_differ : (device : Name) (rs : List Resource) → Apart (map (λ (r : Resource). r.name) rs) → Differ path_eq (resource_paths device rs)
resources_differ device [] h = tt
resources_differ device (r ∷ rs) h = (other_resources device r.name rs h.0, resources_differ device rs h.1)

under_none : (n : Name) (p : Path) (ds : List Device) → IsOf n p → AllByRecursion (λ m. bytes_eq n m ≡ false) (map (λ (d : Device). d.name) ds) → AllByRecursion (λ q. path_eq p q ≡ false) (depth_paths ds)
under_none n p [] h k = tt
under_none n p (d ∷ ds) h k =
    all_append (λ q. path_eq p q ≡ false) (resource_paths d.name d.resources) (depth_paths ds)
    (all_weaker (IsOf d.name) (λ q. path_eq p q ≡ false) (resource_paths d.name d.resources) (λ q m. paths_differ n d.name p q k.0 h m) (resources_under d.name d.resources)) (under_none n p ds h k.1)

paths_apart : (ds : List Device) → AllByRecursion IsWellDevice ds → Apart (map (λ (d : Device). d.name) ds) → Differ path_eq (depth_paths ds)
paths_apart [] h k = tt
paths_apart (d ∷ ds) h k =
    joined path_eq (resource_paths d.name d.resources) (depth_paths ds) (resources_differ d.name d.resources h.0.apart) (paths_apart ds h.1 k.1)
    (all_weaker (IsOf d.name) (λ p. AllByRecursion (λ q. path_eq p q ≡ false) (depth_paths ds)) (resource_paths d.name d.resources) (λ p m. under_none d.name p ds m k.0) (resources_under d.name d.resources))

pub resources_are_apart : (library : List BlockTree) (source : SourceTree) (devices : List FlatDevice) (s : System) → ElaboratesWith library source s → AreDevices devices s.devices → IsDistinct bytes_eq (texts_of Depth devices)
resources_are_apart library source devices s e are =
    unmapped path_eq names_in same_names (texts_of Depth devices) (subst (Differ path_eq) (sym (devices_named devices s.devices are)) (paths_apart s.devices (devices_made library source s e) (names_apart library source s e)))
