-- The leaves of each device find its own rows among those of all devices: their paths begin with its name.
use Rattle.std.proofs.Common.{ℕ, ◌≡◌, ◌+◌, pos, Bool, true, false, ◌&&◌, List, [], ◌∷◌, ◌++◌, map, Option, None, Some, refl, sym, ap₂, subst, ◌∙◌, if◌then◌else◌}
use Rattle.std.specs.Str.{bytes_eq}
use Rattle.std.specs.List.{AllByRecursion}
use Rattle.fb_words.specs.declared.elem_type.ElemType.TheVariants as t
use Rattle.fb_model.specs.Names.{Name, Path, Place, path_eq}
use Rattle.fb_model.specs.Values.{One}
use Rattle.fb_model.specs.Declarations.{BlockTree, DeviceTree, SourceTree}
use Rattle.fb_model.specs.System.{Variable, Body, Basic, Served, Composite, Instances, nothing, instance, Resource, Device, System, constant}
use Rattle.fb_model.specs.NetworkTyping.{variable_named, AreDevices, no_device as no_tree, a_device as a_tree, ElaboratesWith}
use Rattle.fb_model.specs.Wires.{Source, Constant, Kind, Charted, Serviced, Leaf, followed, entered_in, fed, given_in, inputs_of, leaves_of, leaves_in, leaves_from, leaves}
use Rattle.fb_model.specs.Spans.{Span, whole}
use Rattle.fb_model.specs.Ranges.{Range, variables, row_at, row_of, rows}
use Rattle.fb_model.specs.Certificates.{is_boolean}
use Rattle.fb_model.proofs.Lists.{all_append, all_weaker, all_both}
use Rattle.fb_model.proofs.Placed.{Apart, apart}
use Rattle.fb_model.proofs.Names.{eq_turned}
use Rattle.fb_model_laws.proofs.Paths.{resource_body}
use Rattle.fb_model.specs.FinderRanges.{range_row, rows_by, kind_rows, leaf_rows, IsLast, AreFound, no_device, a_device}
use Rattle.fb_model_laws.specs.Devices.{FindsAlike, FindsItsLast}
use Rattle.fb_model_laws.proofs.Places.{last_rows}

-- ---- the names of devices differ

devices_named : (bs : List BlockTree) (ts : List DeviceTree) (ds : List Device) → AreDevices bs ts ds → map (λ (d : Device). d.name) ds ≡ map (λ (t : DeviceTree). t.name.text) ts
devices_named bs ts ds no_tree = refl
devices_named bs ts ds (a_tree {d = t} {ds = us} {e = d} {es = es} h more) = ap₂ (λ (n : Name) (ns : List Name). n ∷ ns) h.name (devices_named bs us es more)

pub names_apart : (library : List BlockTree) (source : SourceTree) (system : System) → ElaboratesWith library source system → Apart (map (λ (d : Device). d.name) system.devices)
names_apart library source system e = subst Apart (sym (devices_named (source.blocks ++ library) source.system.devices system.devices e.devices)) (apart _ e.device_names)

-- ---- paths begin with the names of devices

abbrev pub IsOf : Name → Path → Type 0
IsOf n [] = ⊥
IsOf n (m ∷ p) = m ≡ n

further : (n : Name) (p q : Path) → IsOf n p → IsOf n (p ++ q)
further n [] q h = absurd h
further n (m ∷ p) q h = h

pub paths_differ : (n m : Name) (p q : Path) → bytes_eq n m ≡ false → IsOf n p → IsOf m q → path_eq p q ≡ false
paths_differ n m [] q d h k = absurd h
paths_differ n m (a ∷ p) [] d h k = absurd k
paths_differ n m (a ∷ p) (b ∷ q) d h k = rw (h, k, d) refl

abbrev pub LeafIsOf : Name → Leaf → Type 0
LeafIsOf n leaf = IsOf n leaf.path

mutual
  of_body : (body : Body) (home : ℕ) (path : Path) (targets : Name → List Place) (source : Name → Source) (n : Name) → IsOf n path → AllByRecursion (LeafIsOf n) (leaves_of body home path targets source)
  of_body (Basic block) home path targets source n h = (h, tt)
  of_body (Served service) home path targets source n h = (h, tt)
  of_body (Composite face inner events values) home path targets source n h =
      of_instances inner home path (λ j port. followed events (Some j) port (entered_in inner path) targets) (λ j port other. fed values (Some j) port (given_in inner path) source other) n h

  of_instances : (inner : Instances) (home : ℕ) (path : Path) (targets : Name → Name → List Place) (source : Name → Name → Source → Source) (n : Name) → IsOf n path → AllByRecursion (LeafIsOf n) (leaves_in inner home path targets source)
  of_instances nothing home path targets source n h = tt
  of_instances (instance name parameters body rest) home path targets source n h =
      all_append (LeafIsOf n) _ _
      (of_body body home (path ++ name ∷ []) (targets name) (λ port. source name port (Constant (constant parameters (inputs_of body) port))) n (further n path (name ∷ []) h))
      (of_instances rest home path targets source n h)

of_resources : (home : ℕ) (path : Path) (rs : List Resource) (n : Name) → IsOf n path → AllByRecursion (LeafIsOf n) (leaves_from home path rs)
of_resources home path [] n h = tt
of_resources home path (r ∷ rs) n h =
    all_append (LeafIsOf n) _ _ (of_body (resource_body r) home (path ++ r.name ∷ []) (λ o. []) (λ i. Constant (One (pos 0))) n (further n path (r.name ∷ []) h)) (of_resources (home + 1) path rs n h)

pub of_device : (d : Device) → AllByRecursion (LeafIsOf d.name) (leaves d)
of_device d = of_resources 0 (d.name ∷ []) d.resources d.name refl

-- ---- and so do those of their rows

abbrev RowIsOf : Name → Range → Type 0
RowIsOf n r = IsOf n r.path

rows_of_path : (n : Name) (f : Variable → Span) (path : Path) (vs : List Variable) → IsOf n path → AllByRecursion (RowIsOf n) (rows_by f path vs)
rows_of_path n f path [] h = tt
rows_of_path n f path (v ∷ vs) h = by (is_boolean v.type) (rows_of_path n f path vs h) where
  by : (b : Bool) → AllByRecursion (RowIsOf n) (rows_by f path vs) → AllByRecursion (RowIsOf n) (if b then rows_by f path vs else range_row path v.name (f v) ∷ rows_by f path vs)
  by true k = k
  by false k = (h, k)

rows_of_kind : (n : Name) (f : Variable → Span) (path : Path) (kind : Kind) → IsOf n path → AllByRecursion (RowIsOf n) (kind_rows f path kind)
rows_of_kind n f path (Charted block) h = rows_of_path n f path (variables (Charted block)) h
rows_of_kind n f path (Serviced service) h = tt

rows_of_leaves : (n : Name) (all : List Leaf) → AllByRecursion (LeafIsOf n) all → (f : Leaf → Variable → Span) → AllByRecursion (RowIsOf n) (leaf_rows f all)
rows_of_leaves n [] h f = tt
rows_of_leaves n (leaf ∷ rest) h f = all_append (RowIsOf n) (kind_rows (f leaf) leaf.path leaf.kind) (leaf_rows f rest) (rows_of_kind n (f leaf) leaf.path leaf.kind h.0) (rows_of_leaves n rest h.1 f)

rows_of_device : (d : Device) (xs : List Range) → IsLast (leaves d) xs → AllByRecursion (RowIsOf d.name) xs
rows_of_device d xs last = last_rows (AllByRecursion (RowIsOf d.name)) (leaves d) (rows_of_leaves d.name (leaves d) (of_device d)) xs last

-- ---- look-ups

-- none of these rows is of this path
abbrev AreElsewhere : Path → List Range → Type 0
AreElsewhere p xs = AllByRecursion (λ (r : Range). path_eq r.path p ≡ false) xs

row_behind : (xs ys : List Range) (p : Path) (v : Variable) → AreElsewhere p xs → row_at (xs ++ ys) p v ≡ row_at ys p v
row_behind [] ys p v h = refl
row_behind (x ∷ xs) ys p v h = rw h.0 (row_behind xs ys p v h.1)

no_row : (ys : List Range) (p : Path) (v : Variable) → AreElsewhere p ys → row_at ys p v ≡ whole v.type
no_row [] p v h = refl
no_row (y ∷ ys) p v h = rw h.0 (no_row ys p v h.1)

row_before : (xs ys : List Range) (p : Path) (v : Variable) → AreElsewhere p ys → row_at (xs ++ ys) p v ≡ row_at xs p v
row_before [] ys p v h = no_row ys p v h
row_before (x ∷ xs) ys p v h = by (path_eq x.path p && bytes_eq x.variable v.name) (row_before xs ys p v h) where
  by : (b : Bool) → row_at (xs ++ ys) p v ≡ row_at xs p v → (if b then record { low = x.low; high = x.high } else row_at (xs ++ ys) p v) ≡ (if b then record { low = x.low; high = x.high } else row_at xs p v)
  by true e = refl
  by false e = e

-- the same rows by names, if by variables
by_names : (xs ys : List Range) (path : Path) (kind : Kind) → ((v : Variable) → row_of xs path kind v ≡ row_of ys path kind v) → (o : Option Variable)
    → ◌≡◌ {A = Span} (elim o [ None ↦ whole t.Lint | Some v ↦ row_of xs path kind v ]) (elim o [ None ↦ whole t.Lint | Some v ↦ row_of ys path kind v ])
by_names xs ys path kind h None = refl
by_names xs ys path kind h (Some v) = h v

of_kind : (xs ys : List Range) (path : Path) (kind : Kind) → ((v : Variable) → row_at xs path v ≡ row_at ys path v) → (v : Variable) → row_of xs path kind v ≡ row_of ys path kind v
of_kind xs ys path (Charted block) h v = h v
of_kind xs ys path (Serviced service) h v = refl

finds_alike : (xs ys : List Range) (leaf : Leaf) → ((v : Variable) → row_at xs leaf.path v ≡ row_at ys leaf.path v) → FindsAlike xs ys leaf
finds_alike xs ys leaf h =
    let f = of_kind xs ys leaf.path leaf.kind h in
    record { of_variables = f; of_names = λ x. by_names xs ys leaf.path leaf.kind f (variable_named (variables leaf.kind) x) }

alike_through : (xs ys zs : List Range) (leaf : Leaf) → FindsAlike xs ys leaf → FindsAlike ys zs leaf → FindsAlike xs zs leaf
alike_through xs ys zs leaf h k = record { of_variables = λ v. h.of_variables v ∙ k.of_variables v; of_names = λ x. h.of_names x ∙ k.of_names x }

-- ---- all devices

-- rows of a device of another name are elsewhere
others_elsewhere : (n m : Name) (p : Path) (xs : List Range) → bytes_eq n m ≡ false → IsOf m p → AllByRecursion (RowIsOf n) xs → AreElsewhere p xs
others_elsewhere n m p xs d h rows = all_weaker (RowIsOf n) (λ (r : Range). path_eq r.path p ≡ false) xs (λ r k. paths_differ n m r.path p d k h) rows

-- the rows of devices of other names are elsewhere
rest_elsewhere : (n : Name) (p : Path) (ds : List Device) (xs : List Range) → IsOf n p → AllByRecursion (λ m. bytes_eq n m ≡ false) (map (λ (d : Device). d.name) ds) → AreFound ds xs → AreElsewhere p xs
rest_elsewhere n p ds xs h differ no_device = tt
rest_elsewhere n p ds xs h differ (a_device {d = d} {ds = es} {xs = ys} {ys = zs} last found) =
    all_append (λ (r : Range). path_eq r.path p ≡ false) ys zs
    (others_elsewhere d.name n p ys (eq_turned d.name n ∙ differ.0) h (rows_of_device d ys last)) (rest_elsewhere n p es zs h differ.1 found)

-- what later devices find is not hidden by the rows of another
found_behind : (n : Name) (xs ys : List Range) (ds : List Device) → AllByRecursion (RowIsOf n) xs → AllByRecursion (λ m. bytes_eq n m ≡ false) (map (λ (d : Device). d.name) ds) → AllByRecursion (FindsItsLast ys) ds → AllByRecursion (FindsItsLast (xs ++ ys)) ds
found_behind n xs ys [] of differ finds = tt
found_behind n xs ys (d ∷ ds) of differ finds = (
  record {
    own = finds.0.own;
    last = finds.0.last;
    alike =
        all_both (LeafIsOf d.name) (FindsAlike ys finds.0.own) (FindsAlike (xs ++ ys) finds.0.own) (leaves d)
        (λ leaf h k. alike_through (xs ++ ys) ys finds.0.own leaf (finds_alike (xs ++ ys) ys leaf (λ v. row_behind xs ys leaf.path v (others_elsewhere n d.name leaf.path xs differ.0 h of))) k)
        (of_device d) finds.0.alike;
  },
  found_behind n xs ys ds of differ.1 finds.1,
)

each_finds : (ds : List Device) (xs : List Range) → Apart (map (λ (d : Device). d.name) ds) → AreFound ds xs → AllByRecursion (FindsItsLast xs) ds
each_finds ds xs apart no_device = tt
each_finds ds xs apart (a_device {d = d} {ds = es} {xs = ys} {ys = zs} last found) = (
  record {
    own = ys;
    last = last;
    alike =
        all_weaker (LeafIsOf d.name) (FindsAlike (ys ++ zs) ys) (leaves d)
        (λ leaf h. finds_alike (ys ++ zs) ys leaf (λ v. row_before ys zs leaf.path v (rest_elsewhere d.name leaf.path es zs h apart.0 found))) (of_device d);
  },
  found_behind d.name ys zs es (rows_of_device d ys last) apart.0 (each_finds es zs apart.1 found),
)

pub found_rows_are_last : (library : List BlockTree) (source : SourceTree) (system : System) (ranges : List Range) → ElaboratesWith library source system → AreFound system.devices ranges → AllByRecursion (FindsItsLast ranges) system.devices
found_rows_are_last library source system ranges e found = each_finds system.devices ranges (names_apart library source system e) found
