-- Leaves of the tables and of the book by their paths.
use denote.Ref.{Bor}
use Rattle.std.proofs.Common.{◌≡◌, ◌↔◌, ℕ, suc, ◌+◌, ◌<◌, Bool, true, false, List, [], ◌∷◌, ◌++◌, map, drop, length, get_or, Option, None, Some, refl, sym, ap, subst, ◌∙◌, arith, string_bytes, Global}
use Rattle.std.specs.Prelude.{if◌then◌else◌, IsTrue}
use Rattle.std.specs.List.{AllByRecursion}
use Rattle.std.specs.Str.{bytes_eq}
use Rattle.std.proofs.Math.Seq.{drop-cons}
use Rattle.fb_model.specs.Names.{Name, Path, path_eq}
use Rattle.fb_model.specs.System as book
use Rattle.fb_model.specs.Wires as wires
use Rattle.fb_model.specs.Wires.{leaf_at, resource_leaves, leaves_from, Output_of}
use Rattle.fb_model.specs.Spans.{Span, within}
use Rattle.fb_model.specs.CertificateText.{names_in}
use Rattle.fb_model.proofs.Lists.{same_path}
use Rattle.fb_cert.specs.declared.certificate.Certificate.{Certificate}
use Rattle.fb_cert.proofs.Places.{path_same}
use Rattle.fb_flat.specs.declared.flat.Leaf.{Leaf}
use Rattle.fb_flat.specs.declared.flat.FlatResource.{FlatResource}
use Rattle.fb_flat.specs.Leaves.{kind_of}
use Rattle.fb_flat.specs.Tables.{IsLeaf, AreLeaves, AreResources}
use Rattle.fb_check_ranges.specs.Places.{leaves_in, leaf_named, leaf_placed, or_else, SourceLies}
use Rattle.fb_check_ranges.specs.Rows.{rows_in}
use Rattle.fb_check_ranges.specs.Fitting.{IsKnownLeaf}
use Rattle.fb_check_ranges.specs.Tables.{AreKnownLeaves}

-- ---- texts and paths

pub placed_named : (ls : List Leaf) (path : Name) → leaf_placed ls (names_in path) ≡ leaf_named ls path
placed_named [] path = refl
placed_named (l ∷ ls) path = by (path_eq (names_in (string_bytes l.path)) (names_in path)) (bytes_eq path (string_bytes l.path)) (path_same (string_bytes l.path) path) (placed_named ls path) where
  by : (b c : Bool) → b ≡ c → leaf_placed ls (names_in path) ≡ leaf_named ls path → (if b then Some l else leaf_placed ls (names_in path)) ≡ (if c then Some l else leaf_named ls path)
  by true true e h = refl
  by false false e h = h
  by true false e h = absurd cc
  by false true e h = absurd cc

-- ---- one after another

pub or_again : {A : Type 0} (a b c : Option A) → or_else (or_else a b) c ≡ or_else a (or_else b c)
or_again None b c = refl
or_again (Some a) b c = refl

pub named_both : (xs ys : List Leaf) (path : Name) → leaf_named (xs ++ ys) path ≡ or_else (leaf_named xs path) (leaf_named ys path)
named_both [] ys path = refl
named_both (x ∷ xs) ys path = by (bytes_eq path (string_bytes x.path)) (named_both xs ys path) where
  by : (b : Bool) → leaf_named (xs ++ ys) path ≡ or_else (leaf_named xs path) (leaf_named ys path) → (if b then Some x else leaf_named (xs ++ ys) path) ≡ or_else (if b then Some x else leaf_named xs path) (leaf_named ys path)
  by true h = refl
  by false h = h

-- ---- leaves of the book

-- where the tables find one, the book does
pub met : (ls : List Leaf) (bs : List wires.Leaf) (from : Path) (l : Leaf) → AreLeaves ls bs → AreKnownLeaves bs → leaf_placed ls from ≡ Some l → (b : wires.Leaf) × (leaf_at bs from ≡ Some b) × IsLeaf l b × IsKnownLeaf b
met [] bs from l a k h = absurd cc
met (x ∷ ls) [] from l a k h = absurd a
met (x ∷ ls) (y ∷ bs) from l a k h = by (path_eq (names_in (string_bytes x.path)) from) (path_eq y.path from) (ap (λ p. path_eq p from) a.0.path) h (met ls bs from l a.1 k.1) where
  by : (c d : Bool) → c ≡ d → (if c then Some x else leaf_placed ls from) ≡ Some l → (leaf_placed ls from ≡ Some l → (b : wires.Leaf) × (leaf_at bs from ≡ Some b) × IsLeaf l b × IsKnownLeaf b)
      → (b : wires.Leaf) × ((if d then Some y else leaf_at bs from) ≡ Some b) × IsLeaf l b × IsKnownLeaf b
  by true true e h next = let s : x ≡ l = cc in (y, refl, subst (λ (z : Leaf). IsLeaf z y) s a.0, k.0)
  by false false e h next = next h
  by true false e h next = absurd cc
  by false true e h next = absurd cc

-- and the other way round
pub met_back : (ls : List Leaf) (bs : List wires.Leaf) (from : Path) (b : wires.Leaf) → AreLeaves ls bs → AreKnownLeaves bs → leaf_at bs from ≡ Some b → (l : Leaf) × (leaf_placed ls from ≡ Some l) × IsLeaf l b × IsKnownLeaf b
met_back ls [] from b a k h = absurd cc
met_back [] (y ∷ bs) from b a k h = absurd a
met_back (x ∷ ls) (y ∷ bs) from b a k h = by (path_eq (names_in (string_bytes x.path)) from) (path_eq y.path from) (ap (λ p. path_eq p from) a.0.path) h (met_back ls bs from b a.1 k.1) where
  by : (c d : Bool) → c ≡ d → (if d then Some y else leaf_at bs from) ≡ Some b → (leaf_at bs from ≡ Some b → (l : Leaf) × (leaf_placed ls from ≡ Some l) × IsLeaf l b × IsKnownLeaf b)
      → (l : Leaf) × ((if c then Some x else leaf_placed ls from) ≡ Some l) × IsLeaf l b × IsKnownLeaf b
  by true true e h next = let s : y ≡ b = cc in (x, refl, subst (λ (z : wires.Leaf). IsLeaf x z) s a.0, subst IsKnownLeaf s k.0)
  by false false e h next = next h
  by true false e h next = absurd cc
  by false true e h next = absurd cc

-- ---- leaves of devices

both_leaves : (xs ys : List Leaf) (bs cs : List wires.Leaf) → AreLeaves xs bs → AreLeaves ys cs → AreLeaves (xs ++ ys) (bs ++ cs)
both_leaves [] ys [] cs h k = k
both_leaves [] ys (b ∷ bs) cs h k = absurd h
both_leaves (x ∷ xs) ys [] cs h k = absurd h
both_leaves (x ∷ xs) ys (b ∷ bs) cs h k = (h.0, both_leaves xs ys bs cs h.1 k)

pub device_leaves : (n : ℕ) (path : Path) (fs : List FlatResource) (rs : List book.Resource) → AreResources n path fs rs → AreLeaves (leaves_in fs) (leaves_from n path rs)
device_leaves n path [] [] a = tt
device_leaves n path [] (r ∷ rs) a = absurd a
device_leaves n path (f ∷ fs) [] a = absurd a
device_leaves n path (f ∷ fs) (r ∷ rs) a = both_leaves f.leaves.items (leaves_in fs) (resource_leaves n path r) (leaves_from (n + 1) path rs) a.0.leaves (device_leaves (n + 1) path fs rs a.1)

-- ---- sources

-- what an output gives lies in a row
pub lies_there : (cert : Certificate) (ls : List Leaf) (path y : Name) (r : Span) (l : Leaf) (s : Span) (b : Bool) → leaf_named ls path ≡ Some l → b ≡ within s r → s ≡ rows_in cert (string_bytes l.path) (kind_of l.body) y
    → IsTrue b ↔ SourceLies cert ls r (Output_of (names_in path) y)
lies_there cert ls path y r l s b e f g =
    let placed : leaf_placed ls (names_in path) ≡ Some l = placed_named ls path ∙ e in
    let is : b ≡ within (rows_in cert (string_bytes l.path) (kind_of l.body) y) r = f ∙ ap (λ q. within q r) g in (
      (λ h. (l, placed, sym is ∙ h)),
      (λ q. let same : q.0 ≡ l = some_is q.0 l (sym q.1 ∙ placed) in is ∙ subst (λ (z : Leaf). within (rows_in cert (string_bytes z.path) (kind_of z.body) y) r ≡ true) same q.2),
    )
  where
    some_is : (a b : Leaf) → Some a ≡ Some b → a ≡ b
    some_is a b h = cc

pub lies_nowhere : (cert : Certificate) (ls : List Leaf) (path y : Name) (r : Span) → leaf_named ls path ≡ None → IsTrue false ↔ SourceLies cert ls r (Output_of (names_in path) y)
lies_nowhere cert ls path y r e =
    let placed : leaf_placed ls (names_in path) ≡ None = placed_named ls path ∙ e in
    ((λ h. absurd (false_is h)), (λ q. absurd (none_is q.0 (sym placed ∙ q.1))))
  where
    none_is : (a : Leaf) → None ≡ Some a → ⊥
    none_is a h = absurd cc

    false_is : IsTrue false → ⊥
    false_is h = absurd cc
