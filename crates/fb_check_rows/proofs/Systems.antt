-- The rows of leaf tables against the places and paths of the system that they are.
use Rattle.std.proofs.Common.{◌≡◌, ℕ, ◌+◌, Bool, true, false, List, [], ◌∷◌, ◌++◌, map, refl, sym, ap, subst, ◌∙◌, append_assoc, string_bytes, if◌then◌else◌}
use Rattle.std.specs.List.{flat_map, AllByRecursion}
use Rattle.std.proofs.lemmas.List.{map-append}
use Rattle.fb_model.specs.Names.{Name, Path, Place, at_place}
use Rattle.fb_model.specs.System as book
use Rattle.fb_model.specs.Wires as wires
use Rattle.fb_model.specs.Wires.{Kind, Charted, Serviced, resource_leaves, leaves_from, leaves}
use Rattle.fb_model.specs.Spelling.{IsWord, AreWords}
use Rattle.fb_model.specs.Store.{variable_names}
use Rattle.fb_model.specs.Certificates.{places_in, each_leaf, all_leaves, is_boolean, ranged_variables, of_kind, ranged, resource_paths, depth_paths}
use Rattle.fb_model.specs.CertificateText.{names_in, place_of}
use Rattle.fb_model_laws.specs.Words.{declared_names, IsWordyLeaf, IsWordyDevice}
use Rattle.fb_flat.specs.declared.flat.Leaf.{Leaf}
use Rattle.fb_flat.specs.declared.flat.FlatResource.{FlatResource}
use Rattle.fb_flat.specs.declared.flat.FlatDevice.{FlatDevice}
use Rattle.fb_flat.specs.Leaves.{kind_of}
use Rattle.fb_flat.specs.Tables.{IsLeaf, AreLeaves, AreResources, AreDevices}
use Rattle.fb_check_rows.specs.declared.kind.RowKind.{RowKind}
use Rattle.fb_check_rows.specs.declared.kind.RowKind.TheVariants.{Charge, Weight, Range, Depth}
use Rattle.fb_check_rows.specs.Texts.{ranged_names, range_names, row_names, leaf_texts, resource_texts, device_texts, texts_of}
use Rattle.fb_model.proofs.Lists.{all_append}
use Rattle.fb_check_rows.proofs.Places.{placed_in}

-- ---- words

words_apart : (vs ws : List book.Variable) → AreWords (variable_names (vs ++ ws)) → AreWords (variable_names vs) × AreWords (variable_names ws)
words_apart [] ws h = (tt, h)
words_apart (v ∷ vs) ws h = let k = words_apart vs ws h.1 in ((h.0, k.0), k.1)

ranged_words : (vs : List book.Variable) → AreWords (variable_names vs) → AreWords (ranged_names vs)
ranged_words [] h = tt
ranged_words (v ∷ vs) h = by (is_boolean v.type) h.0 (ranged_words vs h.1) where
  by : (b : Bool) → IsWord v.name → AreWords (ranged_names vs) → AreWords (if b then ranged_names vs else v.name ∷ ranged_names vs)
  by true w k = k
  by false w k = (w, k)

range_words : (kind : Kind) → AreWords (declared_names kind) → AreWords (range_names kind)
range_words (Charted block) h =
    let first = words_apart block.inputs (block.outputs ++ block.internals) h in
    let others = words_apart block.outputs block.internals first.1 in
    all_append IsWord (ranged_names block.inputs ++ ranged_names block.outputs) (ranged_names block.internals)
    (all_append IsWord (ranged_names block.inputs) (ranged_names block.outputs) (ranged_words block.inputs first.0) (ranged_words block.outputs others.0))
    (ranged_words block.internals others.1)
range_words (Serviced service) h = tt

-- the rows of a leaf have words for names
row_words : (kind : RowKind) (leaf : wires.Leaf) → IsWordyLeaf leaf → AreWords (row_names kind leaf.kind)
row_words Charge leaf h = h.states
row_words Weight leaf h = h.events
row_words Range leaf h = range_words leaf.kind h.variables
row_words Depth leaf h = tt

wordy_leaves : (ds : List book.Device) → AllByRecursion IsWordyDevice ds → AllByRecursion IsWordyLeaf (all_leaves ds)
wordy_leaves [] h = tt
wordy_leaves (d ∷ ds) h = all_joined IsWordyLeaf (leaves d) (all_leaves ds) h.0.leaves (wordy_leaves ds h.1) where
  all_joined : {X : Type 0} (P : X → Type 0) (xs ys : List X) → AllByRecursion P xs → AllByRecursion P ys → AllByRecursion P (xs ++ ys)
  all_joined P [] ys a b = b
  all_joined P (x ∷ xs) ys a b = (a.0, all_joined P xs ys a.1 b)

-- ---- lists

each_append : (f : wires.Leaf → List Place) (xs ys : List wires.Leaf) → each_leaf f (xs ++ ys) ≡ each_leaf f xs ++ each_leaf f ys
each_append f [] ys = refl
each_append f (x ∷ xs) ys = ap (λ ps. f x ++ ps) (each_append f xs ys) ∙ sym (append_assoc (f x) (each_leaf f xs) (each_leaf f ys))

all_parts : {X : Type 0} (P : X → Type 0) (xs ys : List X) → AllByRecursion P (xs ++ ys) → AllByRecursion P xs × AllByRecursion P ys
all_parts P [] ys h = (tt, h)
all_parts P (x ∷ xs) ys h = let k = all_parts P xs ys h.1 in ((h.0, k.0), k.1)

-- ---- rows of leaves

-- the places of a leaf's rows
abbrev pub row_at : RowKind → wires.Leaf → List Place
row_at kind leaf = places_in leaf.path (row_names kind leaf.kind)

leaf_placed : (kind : RowKind) (l : Leaf) (leaf : wires.Leaf) → IsLeaf l leaf → IsWordyLeaf leaf → map place_of (leaf_texts kind l) ≡ row_at kind leaf
leaf_placed kind l leaf h plain =
    let words : AreWords (row_names kind (kind_of l.body)) = subst (λ x. AreWords (row_names kind x)) (sym h.kind) (row_words kind leaf plain) in
    placed_in (string_bytes l.path) (row_names kind (kind_of l.body)) words
    ∙ ap (λ path. places_in path (row_names kind (kind_of l.body))) h.path
    ∙ ap (λ x. places_in leaf.path (row_names kind x)) h.kind

leaves_placed : (kind : RowKind) (ls : List Leaf) (all : List wires.Leaf) → AreLeaves ls all → AllByRecursion IsWordyLeaf all → map place_of (flat_map (leaf_texts kind) ls) ≡ each_leaf (row_at kind) all
leaves_placed kind [] [] h plain = refl
leaves_placed kind [] (leaf ∷ all) h plain = absurd h
leaves_placed kind (l ∷ ls) [] h plain = absurd h
leaves_placed kind (l ∷ ls) (leaf ∷ all) h plain =
    map-append place_of (leaf_texts kind l) (flat_map (leaf_texts kind) ls)
    ∙ ap (λ ps. ps ++ map place_of (flat_map (leaf_texts kind) ls)) (leaf_placed kind l leaf h.0 plain.0)
    ∙ ap (λ ps. row_at kind leaf ++ ps) (leaves_placed kind ls all h.1 plain.1)

-- the rows of all leaves of a resource
abbrev pub leaf_rows : RowKind → FlatResource → List Name
leaf_rows kind f = flat_map (leaf_texts kind) f.leaves.items

resources_placed : (kind : RowKind) (n : ℕ) (path : Path) (fs : List FlatResource) (rs : List book.Resource) → AreResources n path fs rs → AllByRecursion IsWordyLeaf (leaves_from n path rs)
    → map place_of (flat_map (leaf_rows kind) fs) ≡ each_leaf (row_at kind) (leaves_from n path rs)
resources_placed kind n path [] [] h plain = refl
resources_placed kind n path [] (r ∷ rs) h plain = absurd h
resources_placed kind n path (f ∷ fs) [] h plain = absurd h
resources_placed kind n path (f ∷ fs) (r ∷ rs) h plain =
    let k = all_parts IsWordyLeaf (resource_leaves n path r) (leaves_from (n + 1) path rs) plain in
    map-append place_of (leaf_rows kind f) (flat_map (leaf_rows kind) fs)
    ∙ ap (λ ps. ps ++ map place_of (flat_map (leaf_rows kind) fs)) (leaves_placed kind f.leaves.items (resource_leaves n path r) h.0.leaves k.0)
    ∙ ap (λ ps. each_leaf (row_at kind) (resource_leaves n path r) ++ ps) (resources_placed kind (n + 1) path fs rs h.1 k.1)
    ∙ sym (each_append (row_at kind) (resource_leaves n path r) (leaves_from (n + 1) path rs))

-- the rows of all leaves of a device
abbrev pub resource_rows : RowKind → FlatDevice → List Name
resource_rows kind d = flat_map (leaf_rows kind) d.resources.items

devices_at : (kind : RowKind) (fs : List FlatDevice) (ds : List book.Device) → AreDevices fs ds → AllByRecursion IsWordyLeaf (all_leaves ds) → map place_of (flat_map (resource_rows kind) fs) ≡ each_leaf (row_at kind) (all_leaves ds)
devices_at kind [] [] h plain = refl
devices_at kind [] (d ∷ ds) h plain = absurd h
devices_at kind (f ∷ fs) [] h plain = absurd h
devices_at kind (f ∷ fs) (d ∷ ds) h plain =
    let k = all_parts IsWordyLeaf (leaves d) (all_leaves ds) plain in
    map-append place_of (resource_rows kind f) (flat_map (resource_rows kind) fs)
    ∙ ap (λ ps. ps ++ map place_of (flat_map (resource_rows kind) fs)) (resources_placed kind 0 (d.name ∷ []) f.resources.items d.resources h.0.resources k.0)
    ∙ ap (λ ps. each_leaf (row_at kind) (leaves d) ++ ps) (devices_at kind fs ds h.1 k.1)
    ∙ sym (each_append (row_at kind) (leaves d) (all_leaves ds))

-- the rows of leaf tables are at the places of the leaves
pub devices_placed : (kind : RowKind) (fs : List FlatDevice) (ds : List book.Device) → AreDevices fs ds → AllByRecursion IsWordyDevice ds → map place_of (flat_map (resource_rows kind) fs) ≡ each_leaf (row_at kind) (all_leaves ds)
devices_placed kind fs ds h plain = devices_at kind fs ds h (wordy_leaves ds plain)

-- ---- rows of resources

resources_named : (n : ℕ) (device : Name) (fs : List FlatResource) (rs : List book.Resource) → AreResources n (device ∷ []) fs rs → map names_in (flat_map (resource_texts Depth) fs) ≡ resource_paths device rs
resources_named n device [] [] h = refl
resources_named n device [] (r ∷ rs) h = absurd h
resources_named n device (f ∷ fs) [] h = absurd h
resources_named n device (f ∷ fs) (r ∷ rs) h = ap (λ path. path ∷ map names_in (flat_map (resource_texts Depth) fs)) h.0.path_is ∙ ap (λ paths. (device ∷ r.name ∷ []) ∷ paths) (resources_named (n + 1) device fs rs h.1)

-- the rows DEPTH of leaf tables are on the paths of the resources
pub devices_named : (fs : List FlatDevice) (ds : List book.Device) → AreDevices fs ds → map names_in (texts_of Depth fs) ≡ depth_paths ds
devices_named [] [] h = refl
devices_named [] (d ∷ ds) h = absurd h
devices_named (f ∷ fs) [] h = absurd h
devices_named (f ∷ fs) (d ∷ ds) h =
    map-append names_in (device_texts Depth f) (texts_of Depth fs)
    ∙ ap (λ ps. ps ++ map names_in (texts_of Depth fs)) (resources_named 0 d.name f.resources.items d.resources h.0.resources)
    ∙ ap (λ ps. resource_paths d.name d.resources ++ ps) (devices_named fs ds h.1)

-- ---- rows of variables

places_append : (path : Path) (ns ms : List Name) → places_in path (ns ++ ms) ≡ places_in path ns ++ places_in path ms
places_append path [] ms = refl
places_append path (n ∷ ns) ms = ap (λ ps. at_place path n ∷ ps) (places_append path ns ms)

variables_placed : (path : Path) (vs : List book.Variable) → places_in path (ranged_names vs) ≡ ranged_variables path vs
variables_placed path [] = refl
variables_placed path (v ∷ vs) = by (is_boolean v.type) (variables_placed path vs) where
  by : (b : Bool) → places_in path (ranged_names vs) ≡ ranged_variables path vs
      → places_in path (if b then ranged_names vs else v.name ∷ ranged_names vs) ≡ (if b then ranged_variables path vs else at_place path v.name ∷ ranged_variables path vs)
  by true h = h
  by false h = ap (λ ps. at_place path v.name ∷ ps) h

kind_placed : (path : Path) (kind : Kind) → places_in path (range_names kind) ≡ of_kind path kind
kind_placed path (Serviced service) = refl
kind_placed path (Charted block) =
    places_append path (ranged_names block.inputs ++ ranged_names block.outputs) (ranged_names block.internals)
    ∙ ap (λ ps. ps ++ places_in path (ranged_names block.internals)) (places_append path (ranged_names block.inputs) (ranged_names block.outputs))
    ∙ ap (λ ps. ps ++ places_in path (ranged_names block.outputs) ++ places_in path (ranged_names block.internals)) (variables_placed path block.inputs)
    ∙ ap (λ ps. ranged_variables path block.inputs ++ ps ++ places_in path (ranged_names block.internals)) (variables_placed path block.outputs)
    ∙ ap (λ ps. ranged_variables path block.inputs ++ ranged_variables path block.outputs ++ ps) (variables_placed path block.internals)

ranged_are : (all : List wires.Leaf) → each_leaf (row_at Range) all ≡ ranged all
ranged_are [] = refl
ranged_are (leaf ∷ all) = ap (λ ps. ps ++ each_leaf (row_at Range) all) (kind_placed leaf.path leaf.kind) ∙ ap (λ ps. of_kind leaf.path leaf.kind ++ ps) (ranged_are all)

-- the rows RANGE of leaf tables are at the places of the leaves' integer and TIME variables
pub devices_ranged : (fs : List FlatDevice) (ds : List book.Device) → AreDevices fs ds → AllByRecursion IsWordyDevice ds → map place_of (texts_of Range fs) ≡ ranged (all_leaves ds)
devices_ranged fs ds h plain = devices_placed Range fs ds h plain ∙ ranged_are (all_leaves ds)
