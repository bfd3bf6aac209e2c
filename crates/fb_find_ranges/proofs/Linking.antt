-- Leaves, with the numbers of others before them that are the same.
use Rattle.std.proofs.Common.{◌≡◌, ℕ, zero, suc, ◌<◌, ◌≤◌, nat_lt, Bool, true, false, List, [], ◌∷◌, ◌++◌, length, map, take, get_or, slice_get, Some, None, refl, sym, ap, subst, ◌∙◌, arith}
use Rattle.std.specs.Option.{option_map}
use Rattle.std.proofs.lemmas.Option.{slice_get-map, slice_get_past}
use Rattle.std.proofs.lemmas.Bool.Decides.{nat_tests}
use Rattle.std.proofs.lemmas.List.{length-map, map_push}
use Rattle.fb_model.specs.Wires as wires
use Rattle.fb_flat.specs.Leaves.{kind_of}
use Rattle.fb_find_ranges.specs.Views.{Shared, Twin, linked_in, IsKind, AreLinked}
use Rattle.fb_find_ranges.proofs.Putting.{got}

-- what is read among the first is read among all
read_on : {X Y : Type 0} (f : X → Y) (xs : List X) (k n : ℕ) (y : Y) → Some y ≡ slice_get (map f (take k xs)) n → Some y ≡ slice_get (map f xs) n
read_on f [] zero n y h = absurd cc
read_on f [] (suc k) n y h = absurd cc
read_on f (x ∷ xs) zero n y h = absurd cc
read_on f (x ∷ xs) (suc k) zero y h = h
read_on f (x ∷ xs) (suc k) (suc n) y h = read_on f xs k n y h

-- what is read before the last
read_before : {X : Type 0} (xs : List X) (y : X) (n : ℕ) (x : X) → n < length xs → Some x ≡ slice_get (xs ++ y ∷ []) n → Some x ≡ slice_get xs n
read_before [] y n x l h = absurd (omega (arith, l))
read_before (z ∷ zs) y zero x l h = h
read_before (z ∷ zs) y (suc n) x l h = read_before zs y n x (omega (arith, l)) h

-- what is read behind all but the last
read_last : {X : Type 0} (xs : List X) (y : X) (n : ℕ) (x : X) → length xs ≤ n → Some x ≡ slice_get (xs ++ y ∷ []) n → x ≡ y
read_last [] y zero x l h = cc
read_last [] y (suc n) x l h = absurd cc
read_last (z ∷ zs) y zero x l h = absurd (omega (arith, l))
read_last (z ∷ zs) y (suc n) x l h = read_last zs y n x (omega (arith, l)) h

kind_before : (ls : List Twin) (a : Twin) (n : ℕ) (kind : wires.Kind) → n < length ls → IsKind ls n kind → IsKind (ls ++ a ∷ []) n kind
kind_before ls a n kind l is b h = is b (read_before ls a n b l h)

kind_last : (ls : List Twin) (a : Twin) → IsKind ls a.1 a.0 → IsKind (ls ++ a ∷ []) a.1 a.0
kind_last ls a is b h = by (nat_lt a.1 (length ls)) refl where
  by : (t : Bool) → nat_lt a.1 (length ls) ≡ t → b.0 ≡ a.0
  by true e = is b (read_before ls a a.1 b (grind (arith, nat_tests, e)) h)
  by false e = ap (λ (c : Twin). c.0) (read_last ls a a.1 b (grind (arith, nat_tests, e)) h)

-- one more leaf
pub one_linked : (ls : List Twin) (a : Twin) → AreLinked ls → a.1 ≤ length ls → IsKind ls a.1 a.0 → AreLinked (ls ++ a ∷ [])
one_linked ls a all within is n b h = by (nat_lt n (length ls)) refl where
  by : (t : Bool) → nat_lt n (length ls) ≡ t → (b.1 ≤ n) × IsKind (ls ++ a ∷ []) b.1 b.0
  by true e =
      let l : n < length ls = grind (arith, nat_tests, e) in
      let p = all n b (read_before ls a n b l h) in
      (p.0, kind_before ls a b.1 b.0 (omega (arith, l, p.0)) p.1)
  by false e =
      let l : length ls ≤ n = grind (arith, nat_tests, e) in
      subst (λ (c : Twin). (c.1 ≤ n) × IsKind (ls ++ a ∷ []) c.1 c.0) (sym (read_last ls a n b l h)) (omega (arith, l, within), kind_last ls a is)

-- the first of them
pub first_linked : (ss : List Shared) (k : ℕ) → AreLinked (map linked_in ss) → AreLinked (map linked_in (take k ss))
first_linked ss k all n a h = let p = all n a (read_on linked_in ss k n a h) in (p.0, λ b g. p.1 b (read_on linked_in ss k a.1 b g))

read_here : (ss : List Shared) (k : ℕ) (s : Shared) → k < length ss → s ≡ get_or ss k s → Some (linked_in s) ≡ slice_get (map linked_in ss) k
read_here ss k s l e = sym (slice_get-map linked_in ss k ∙ ap (option_map linked_in) (got ss k s l e))

-- the leaf that one names, among the first of them
pub named_kind : (ss : List Shared) (k : ℕ) (s : Shared) → AreLinked (map linked_in ss) → k < length ss → s ≡ get_or ss k s → IsKind (map linked_in (take k ss)) s.value.like (kind_of s.value.leaf.now.body)
named_kind ss k s all l e b h = (all k (linked_in s) (read_here ss k s l e)).1 b (read_on linked_in ss k s.value.like b h)

-- the leaf that one names, if there is one
pub next_kind : (ss : List Shared) (k : ℕ) (s : Shared) (kind : wires.Kind) → AreLinked (map linked_in ss) → IsKind (map linked_in ss) k kind → k < length ss → s ≡ get_or ss k s → IsKind (map linked_in ss) s.value.like kind
next_kind ss k s kind all is l e b h =
    let r = read_here ss k s l e in
    (all k (linked_in s) r).1 b h ∙ is (linked_in s) r

-- what is known of the leaf of a number
pub kind_here : (ss : List Shared) (k : ℕ) (s : Shared) (kind : wires.Kind) → IsKind (map linked_in ss) k kind → k < length ss → s ≡ get_or ss k s → kind_of s.value.leaf.now.body ≡ kind
kind_here ss k s kind is l e = is (linked_in s) (read_here ss k s l e)

pub is_kind : (ss : List Shared) (k : ℕ) (s : Shared) (kind : wires.Kind) → k < length ss → s ≡ get_or ss k s → kind_of s.value.leaf.now.body ≡ kind → IsKind (map linked_in ss) k kind
is_kind ss k s kind l e is b h = let both : Some b ≡ Some (linked_in s) = h ∙ sym (read_here ss k s l e) in let same : b ≡ linked_in s = cc in ap (λ (c : Twin). c.0) same ∙ is

-- there is none
pub no_kind : (ss : List Shared) (k : ℕ) (kind : wires.Kind) → length ss ≤ k → IsKind (map linked_in ss) k kind
no_kind ss k kind l b h = let bad : Some b ≡ None = h ∙ slice_get-map linked_in ss k ∙ ap (option_map linked_in) (slice_get_past ss k l) in absurd cc

-- one more leaf, which is linked to those before it
pub linked_more : (all now before : List Shared) (s : Shared) (kind : wires.Kind) → now ≡ all ++ s ∷ [] → before ≡ all → AreLinked (map linked_in all)
    → ((linked_in s).0 ≡ kind) × ((linked_in s).1 ≤ length before) × IsKind (map linked_in before) (linked_in s).1 kind → AreLinked (map linked_in now)
linked_more all now before s kind put same links link =
    let within : (linked_in s).1 ≤ length (map linked_in all) = subst (λ n. (linked_in s).1 ≤ n) (ap length same ∙ sym (length-map all linked_in)) link.1 in
    let is : IsKind (map linked_in all) (linked_in s).1 (linked_in s).0 = λ b h. link.2 b (subst (λ (xs : List Shared). Some b ≡ slice_get (map linked_in xs) (linked_in s).1) (sym same) h) ∙ sym link.0 in
    subst AreLinked (sym (ap (map linked_in) put ∙ map_push linked_in all s)) (one_linked (map linked_in all) (linked_in s) links within is)
