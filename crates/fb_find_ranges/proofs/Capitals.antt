-- The rows of leaf tables stand under paths in capitals.
use Rattle.std.proofs.Common.{◌≡◌, ℕ, zero, suc, ◌+◌, arith, Bool, true, false, ◌&&◌, cond, List, [], ◌∷◌, ◌++◌, refl, sym, ap, ap₂, subst, ◌∙◌, string_bytes, if◌then◌else◌}
use Rattle.std.specs.Prelude.{◌==◌}
use Rattle.std.specs.List.{All, AllByRecursion, flat_map, onto_first}
use Rattle.std.specs.Char.{to_ascii_uppercase}
use Rattle.std.specs.Str.{bytes_eq}
use Rattle.std.proofs.lemmas.Bool.{eqb-true}
use Rattle.fb_model.specs.Names.{Name, Path}
use Rattle.fb_model.specs.System as book
use Rattle.fb_model.specs.Wires as wires
use Rattle.fb_model.specs.Wires.{Kind, Charted, Serviced, resource_leaves, leaves_from, leaves}
use Rattle.fb_model.specs.Spelling.{IsWord, upper}
use Rattle.fb_model.specs.Store.{variable_names}
use Rattle.fb_model.specs.Certificates.{is_boolean}
use Rattle.fb_model.specs.CertificateText.{names_in}
use Rattle.fb_model.proofs.Lists.{all_append, all_weaker}
use Rattle.fb_model.proofs.Placed.{name_same, all_left, all_right}
use Rattle.fb_model_laws.specs.Words.{IsCapital, AreCapitals, IsCapitalLeaf, IsCapitalDevice, declared_names}
use Rattle.fb_cert.specs.Adding.{is_upper_path}
use Rattle.fb_cert.proofs.Paths.{dotted_read}
use Rattle.fb_flat.specs.declared.flat.Leaf.{Leaf}
use Rattle.fb_flat.specs.declared.flat.FlatResource.{FlatResource}
use Rattle.fb_flat.specs.declared.flat.FlatDevice.{FlatDevice}
use Rattle.fb_flat.specs.Leaves.{kind_of}
use Rattle.fb_flat.specs.Sites.{dotted}
use Rattle.fb_flat.specs.Tables.{IsLeaf, AreLeaves, AreResources, AreDevices}
use Rattle.fb_flat.proofs.Dotted.{names_dotted}
use Rattle.fb_check_rows.specs.declared.kind.RowKind.{RowKind}
use Rattle.fb_check_rows.specs.declared.kind.RowKind.TheVariants.{Charge, Weight, Range, Depth}
use Rattle.fb_check_rows.specs.Texts.{ranged_names, range_names, row_names, leaf_texts, texts_in, resource_texts, device_texts, texts_of}

-- ---- one text

abbrev IsUp : Name → Type 0
IsUp n = upper n ≡ n

heads : {c d : ℕ} {cs ds : Name} → c ∷ cs ≡ d ∷ ds → (c ≡ d) × (cs ≡ ds)
heads e = (cc, cc)

onto_up : (c : ℕ) (cs : Name) (ns : Path) → AllByRecursion IsUp (onto_first c ns) → (AllByRecursion IsUp ns → upper cs ≡ cs) → upper (c ∷ cs) ≡ c ∷ cs
onto_up c cs [] h next = ap₂ (λ (x : ℕ) (xs : Name). x ∷ xs) (heads h.0).0 (next tt)
onto_up c cs (n ∷ ns) h next = let k = heads h.0 in ap₂ (λ (x : ℕ) (xs : Name). x ∷ xs) k.0 (next (k.1, h.1))

-- a text whose names are in upper case is so
names_up : (cs : Name) → AllByRecursion IsUp (names_in cs) → upper cs ≡ cs
names_up [] h = refl
names_up (c ∷ cs) h = by (c == 46) refl h (names_up cs) where
  by : (b : Bool) → (c == 46) ≡ b → AllByRecursion IsUp (cond b ([] ∷ names_in cs) (onto_first c (names_in cs))) → (AllByRecursion IsUp (names_in cs) → upper cs ≡ cs) → upper (c ∷ cs) ≡ c ∷ cs
  by true e k next = let d : c ≡ 46 = eqb-true c 46 e in ap₂ (λ (x : ℕ) (xs : Name). x ∷ xs) (ap to_ascii_uppercase d ∙ sym d) (next k.1)
  by false e k next = onto_up c cs (names_in cs) k next

-- names in capitals, joined by dots
upper_path : (t : Name) → AreCapitals (names_in t) → is_upper_path t ≡ true
upper_path t h =
    ap₂ (λ (a b : Bool). a && b) (dotted_read t (all_weaker IsCapital IsWord (names_in t) (λ n k. k.0) h))
    (ap (λ u. bytes_eq u t) (names_up t (all_weaker IsCapital IsUp (names_in t) (λ n k. k.1) h)) ∙ name_same t)

-- a name behind a path
upper_dotted : (p n : Name) → AreCapitals (names_in p) → IsCapital n → is_upper_path (dotted p n) ≡ true
upper_dotted p n h k = upper_path (dotted p n) (subst AreCapitals (sym (names_dotted p n k.0)) (all_append IsCapital (names_in p) (n ∷ []) h (k, tt)))

-- ---- leaves

abbrev IsUpperPath : Name → Type 0
IsUpperPath t = is_upper_path t ≡ true

upper_in : (p : Name) (ns : List Name) → AreCapitals (names_in p) → AreCapitals ns → AllByRecursion IsUpperPath (texts_in p ns)
upper_in p [] h k = tt
upper_in p (n ∷ ns) h k = (upper_dotted p n h k.0, upper_in p ns h k.1)

capitals_apart : (vs ws : List book.Variable) → AreCapitals (variable_names (vs ++ ws)) → AreCapitals (variable_names vs) × AreCapitals (variable_names ws)
capitals_apart [] ws h = (tt, h)
capitals_apart (v ∷ vs) ws h = let k = capitals_apart vs ws h.1 in ((h.0, k.0), k.1)

ranged_capitals : (vs : List book.Variable) → AreCapitals (variable_names vs) → AreCapitals (ranged_names vs)
ranged_capitals [] h = tt
ranged_capitals (v ∷ vs) h = by (is_boolean v.type) (ranged_capitals vs h.1) where
  by : (b : Bool) → AreCapitals (ranged_names vs) → AreCapitals (if b then ranged_names vs else v.name ∷ ranged_names vs)
  by true k = k
  by false k = (h.0, k)

range_capitals : (kind : Kind) → AreCapitals (declared_names kind) → AreCapitals (range_names kind)
range_capitals (Charted block) h =
    let first = capitals_apart block.inputs (block.outputs ++ block.internals) h in
    let others = capitals_apart block.outputs block.internals first.1 in
    all_append IsCapital (ranged_names block.inputs ++ ranged_names block.outputs) (ranged_names block.internals)
    (all_append IsCapital (ranged_names block.inputs) (ranged_names block.outputs) (ranged_capitals block.inputs first.0) (ranged_capitals block.outputs others.0))
    (ranged_capitals block.internals others.1)
range_capitals (Serviced service) h = tt

row_capitals : (kind : RowKind) (leaf : wires.Leaf) → IsCapitalLeaf leaf → AreCapitals (row_names kind leaf.kind)
row_capitals Charge leaf h = h.states
row_capitals Weight leaf h = h.events
row_capitals Range leaf h = range_capitals leaf.kind h.variables
row_capitals Depth leaf h = tt

leaf_upper : (kind : RowKind) (l : Leaf) (leaf : wires.Leaf) → IsLeaf l leaf → IsCapitalLeaf leaf → AllByRecursion IsUpperPath (leaf_texts kind l)
leaf_upper kind l leaf h k =
    upper_in (string_bytes l.path) (row_names kind (kind_of l.body)) (subst AreCapitals (sym h.path) k.path) (subst (λ (x : Kind). AreCapitals (row_names kind x)) (sym h.kind) (row_capitals kind leaf k))

leaves_upper : (kind : RowKind) (ls : List Leaf) (all : List wires.Leaf) → AreLeaves ls all → AllByRecursion IsCapitalLeaf all → AllByRecursion IsUpperPath (flat_map (leaf_texts kind) ls)
leaves_upper kind [] [] h k = tt
leaves_upper kind [] (leaf ∷ all) h k = absurd h
leaves_upper kind (l ∷ ls) [] h k = absurd h
leaves_upper kind (l ∷ ls) (leaf ∷ all) h k = all_append IsUpperPath (leaf_texts kind l) (flat_map (leaf_texts kind) ls) (leaf_upper kind l leaf h.0 k.0) (leaves_upper kind ls all h.1 k.1)

-- ---- resources and devices

abbrev AreUp : Name → List book.Resource → Type 0
AreUp device rs = IsCapital device × AllByRecursion (λ (r : book.Resource). IsCapital r.name) rs

resource_upper : (kind : RowKind) (n : ℕ) (device : Name) (f : FlatResource) (r : book.Resource) → names_in (string_bytes f.path) ≡ device ∷ r.name ∷ [] → AreLeaves f.leaves.items (resource_leaves n (device ∷ []) r)
    → IsCapital device → IsCapital r.name → AllByRecursion IsCapitalLeaf (resource_leaves n (device ∷ []) r) → AllByRecursion IsUpperPath (resource_texts kind f)
resource_upper Charge n device f r e h d k all = leaves_upper Charge f.leaves.items (resource_leaves n (device ∷ []) r) h all
resource_upper Weight n device f r e h d k all = leaves_upper Weight f.leaves.items (resource_leaves n (device ∷ []) r) h all
resource_upper Range n device f r e h d k all = leaves_upper Range f.leaves.items (resource_leaves n (device ∷ []) r) h all
resource_upper Depth n device f r e h d k all = (upper_path (string_bytes f.path) (subst AreCapitals (sym e) (d, (k, tt))), tt)

resources_upper : (kind : RowKind) (n : ℕ) (device : Name) (fs : List FlatResource) (rs : List book.Resource) → AreResources n (device ∷ []) fs rs → IsCapital device → AllByRecursion (λ (r : book.Resource). IsCapital r.name) rs
    → AllByRecursion IsCapitalLeaf (leaves_from n (device ∷ []) rs) → AllByRecursion IsUpperPath (flat_map (resource_texts kind) fs)
resources_upper kind n device [] [] h d k all = tt
resources_upper kind n device [] (r ∷ rs) h d k all = absurd h
resources_upper kind n device (f ∷ fs) [] h d k all = absurd h
resources_upper kind n device (f ∷ fs) (r ∷ rs) h d k all =
    all_append IsUpperPath (resource_texts kind f) (flat_map (resource_texts kind) fs)
    (resource_upper kind n device f r h.0.path_is h.0.leaves d k.0 (all_left IsCapitalLeaf (resource_leaves n (device ∷ []) r) (leaves_from (n + 1) (device ∷ []) rs) all))
    (resources_upper kind (n + 1) device fs rs h.1 d k.1 (all_right IsCapitalLeaf (resource_leaves n (device ∷ []) r) (leaves_from (n + 1) (device ∷ []) rs) all))

devices_upper : (kind : RowKind) (fs : List FlatDevice) (ds : List book.Device) → AreDevices fs ds → AllByRecursion IsCapitalDevice ds → AllByRecursion IsUpperPath (texts_of kind fs)
devices_upper kind [] [] h k = tt
devices_upper kind [] (d ∷ ds) h k = absurd h
devices_upper kind (f ∷ fs) [] h k = absurd h
devices_upper kind (f ∷ fs) (d ∷ ds) h k =
    all_append IsUpperPath (device_texts kind f) (texts_of kind fs) (resources_upper kind 0 d.name f.resources.items d.resources h.0.resources k.0.name k.0.resources k.0.leaves) (devices_upper kind fs ds h.1 k.1)

pub listed : {X : Type 0} (P : X → Type 0) (xs : List X) → AllByRecursion P xs → All P xs
listed P [] h i d l = absurd (omega (arith, l))
listed P (x ∷ xs) h zero d l = h.0
listed P (x ∷ xs) h (suc i) d l = listed P xs h.1 i d (omega (arith, l))

pub rows_have_capitals : (kind : RowKind) (devices : List FlatDevice) (s : book.System) → AreDevices devices s.devices → AllByRecursion IsCapitalDevice s.devices → All (λ t. is_upper_path t ≡ true) (texts_of kind devices)
rows_have_capitals kind devices s h k = listed IsUpperPath (texts_of kind devices) (devices_upper kind devices s.devices h k)
