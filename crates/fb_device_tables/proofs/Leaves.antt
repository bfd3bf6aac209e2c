-- The leaves of tables and those of the book, one by one.
use Rattle.std.proofs.Common.{◌≡◌, ◌+◌, ℕ, suc, Bool, true, false, ◌||◌, List, [], ◌∷◌, ◌++◌, map, length, string_bytes, refl, sym, ap, ap₂, ◌∙◌}
use Rattle.std.specs.List.{AllByRecursion}
use Rattle.std.specs.Str.{bytes_eq}
use Rattle.fb_model.specs.Names.{Name, Path, path_eq, is_in}
use Rattle.fb_model.specs.System.{Resource}
use Rattle.fb_model.specs.Typing.{AreNew, AreDistinct}
use Rattle.fb_model.specs.Wires as wires
use Rattle.fb_model.specs.Wires.{resource_leaves, leaves_from}
use Rattle.fb_model.proofs.Lists.{all_both}
use Rattle.fb_model.proofs.Homes.{resource_homes}
use Rattle.fb_model_laws.specs.Leaves.{AreApart}
use Rattle.fb_cert.proofs.Places.{path_same}
use Rattle.fb_flat.specs.declared.flat.Leaf.{Leaf}
use Rattle.fb_flat.specs.declared.flat.FlatResource.{FlatResource}
use Rattle.fb_flat.specs.Tables.{IsLeaf, AreLeaves, AreResources}
use Rattle.fb_chart.specs.Tables.{Each}
use Rattle.fb_device_tables.specs.Filling.{Numbered, numbered, numbered_from, Seated, numbered_leaf, paths_of}
use Rattle.fb_device_tables.proofs.Lists.{each_append}

-- ---- one by one

-- a numbered leaf of tables is this one of the book
pub record IsNumbered (s : Numbered) (b : wires.Leaf) : Type 0 where
  pub leaf : IsLeaf s.1 b
  pub home : s.0 ≡ b.home

-- the same of a seat
pub record IsSeated (s : Seated) (b : wires.Leaf) : Type 0 where
  pub leaf : IsLeaf s.leaf b
  pub home : s.home ≡ b.home

-- the seats of numbered leaves
pub seats_from : (ss : List Seated) (bs : List wires.Leaf) → Each IsNumbered (map numbered_leaf ss) bs → Each IsSeated ss bs
seats_from [] [] h = tt
seats_from [] (b ∷ bs) h = absurd h
seats_from (s ∷ ss) [] h = absurd h
seats_from (s ∷ ss) (b ∷ bs) h = (record { leaf = h.0.leaf; home = h.0.home }, seats_from ss bs h.1)

numbered_are : (n : ℕ) (ls : List Leaf) (bs : List wires.Leaf) → AreLeaves ls bs → AllByRecursion (λ (b : wires.Leaf). b.home ≡ n) bs → Each IsNumbered (numbered n ls) bs
numbered_are n [] [] a h = tt
numbered_are n [] (b ∷ bs) a h = absurd a
numbered_are n (l ∷ ls) [] a h = absurd a
numbered_are n (l ∷ ls) (b ∷ bs) a h = (record { leaf = a.0; home = sym h.0 }, numbered_are n ls bs a.1 h.1)

-- all leaves of a device
pub all_numbered : (n : ℕ) (path : Path) (fs : List FlatResource) (rs : List Resource) → AreResources n path fs rs → Each IsNumbered (numbered_from n fs) (leaves_from n path rs)
all_numbered n path [] [] a = tt
all_numbered n path [] (r ∷ rs) a = absurd a
all_numbered n path (f ∷ fs) [] a = absurd a
all_numbered n path (f ∷ fs) (r ∷ rs) a =
    each_append IsNumbered (numbered n f.leaves.items) (numbered_from (n + 1) fs) (resource_leaves n path r) (leaves_from (n + 1) path rs)
    (numbered_are n f.leaves.items (resource_leaves n path r) a.0.leaves (resource_homes n path r)) (all_numbered (n + 1) path fs rs a.1)

pub as_many_resources : (n : ℕ) (path : Path) (fs : List FlatResource) (rs : List Resource) → AreResources n path fs rs → length fs ≡ length rs
as_many_resources n path [] [] a = refl
as_many_resources n path [] (r ∷ rs) a = absurd a
as_many_resources n path (f ∷ fs) [] a = absurd a
as_many_resources n path (f ∷ fs) (r ∷ rs) a = ap suc (as_many_resources (n + 1) path fs rs a.1)

-- ---- names apart

in_push : (y x : Name) (before : List Name) → is_in y before ≡ false → bytes_eq y x ≡ false → is_in y (before ++ x ∷ []) ≡ false
in_push y x [] h e = ap (λ b. b || false) e
in_push y x (z ∷ before) h e = by (bytes_eq y z) h (in_push y x before) where
  by : (b : Bool) → (b || is_in y before) ≡ false → (is_in y before ≡ false → bytes_eq y x ≡ false → is_in y (before ++ x ∷ []) ≡ false) → (b || is_in y (before ++ x ∷ [])) ≡ false
  by true g again = absurd cc
  by false g again = again g e

-- each name differs from all behind it
abbrev pub Differ : List Name → Type 0
Differ [] = Unit {0}
Differ (x ∷ xs) = AllByRecursion (λ (y : Name). bytes_eq y x ≡ false) xs × Differ xs

new_from : (before xs : List Name) → AllByRecursion (λ (y : Name). is_in y before ≡ false) xs → Differ xs → AreNew before xs
new_from before [] h d = tt
new_from before (x ∷ xs) h d =
    (h.0, new_from (before ++ x ∷ []) xs (all_both (λ (y : Name). is_in y before ≡ false) (λ (y : Name). bytes_eq y x ≡ false) (λ (y : Name). is_in y (before ++ x ∷ []) ≡ false) xs (λ y a b. in_push y x before a b) h.1 d.0) d.1)

none_before : (xs : List Name) → AllByRecursion (λ (y : Name). is_in y [] ≡ false) xs
none_before [] = tt
none_before (x ∷ xs) = (refl, none_before xs)

differ_from : (x : Seated) (leaf : wires.Leaf) (ss : List Seated) (bs : List wires.Leaf) → IsSeated x leaf → Each IsSeated ss bs → AllByRecursion (λ (other : wires.Leaf). path_eq leaf.path other.path ≡ false) bs
    → AllByRecursion (λ (y : Name). bytes_eq y (string_bytes x.leaf.path) ≡ false) (paths_of ss)
differ_from x leaf [] [] i h a = tt
differ_from x leaf [] (b ∷ bs) i h a = absurd h
differ_from x leaf (s ∷ ss) [] i h a = absurd h
differ_from x leaf (s ∷ ss) (b ∷ bs) i h a =
    (sym (path_same (string_bytes x.leaf.path) (string_bytes s.leaf.path)) ∙ ap₂ path_eq i.leaf.path h.0.leaf.path ∙ a.0, differ_from x leaf ss bs i h.1 a.1)

paths_differ : (ss : List Seated) (bs : List wires.Leaf) → Each IsSeated ss bs → AreApart bs → Differ (paths_of ss)
paths_differ [] [] h a = tt
paths_differ [] (b ∷ bs) h a = absurd h
paths_differ (s ∷ ss) [] h a = absurd h
paths_differ (s ∷ ss) (b ∷ bs) h a = (differ_from s b ss bs h.0 h.1 a.0, paths_differ ss bs h.1 a.1)

-- the paths of leaves that are apart are distinct as texts
pub paths_apart : (ss : List Seated) (bs : List wires.Leaf) → Each IsSeated ss bs → AreApart bs → AreDistinct (paths_of ss)
paths_apart ss bs h a = new_from [] (paths_of ss) (none_before (paths_of ss)) (paths_differ ss bs h a)
