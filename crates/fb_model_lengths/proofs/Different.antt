-- Places that differ: of each of them there is a row of its own.
use Rattle.std.proofs.Common.{◌≡◌, ◌+◌, ◌≤◌, ◌⊎◌, inl, inr, Bool, true, false, cond, ◌&&◌, ◌||◌, List, [], ◌∷◌, ◌++◌, refl, sym, ap, subst, ◌∙◌, if◌then◌else◌, arith}
use Rattle.std.specs.List.{list_any, AllByRecursion}
use Rattle.std.specs.Str.{bytes_eq}
use Rattle.std.proofs.lemmas.Bool.{and_left, or_cases, or_from, or_left, or_parts, or_right}
use Rattle.std.proofs.lemmas.List.Folds.{list_any-append}
use Rattle.fb_model.specs.Names.{Path, Place, at_place, path_eq, place_eq}
use Rattle.fb_model.specs.Wires.{Leaf}
use Rattle.fb_model.specs.Certificates.{PlaceRows, AreDifferent, each_leaf}
use Rattle.fb_model.proofs.Lists.{all_weaker, same_name, same_path}
use Rattle.fb_model.proofs.Placed.{name_same, path_same}
use Rattle.fb_model_laws.specs.Leaves.{AreApart}
use Rattle.fb_model_lengths.specs.Lengths.{place_length, beside, rows_length}

-- ---- one place and another

place_same : (p : Place) → place_eq p p ≡ true
place_same p = rw (path_same p.path, name_same p.event) refl

same_place : (p q : Place) → place_eq p q ≡ true → p ≡ q
same_place p q h = by (path_eq p.path q.path) (bytes_eq p.event q.event) refl refl h where
  by : (a b : Bool) → path_eq p.path q.path ≡ a → bytes_eq p.event q.event ≡ b → (a && b) ≡ true → p ≡ q
  by true true e f h = let s : p.path ≡ q.path = same_path p.path q.path e in let t : p.event ≡ q.event = same_name p.event q.event f in ap (λ x. at_place x p.event) s ∙ ap (λ x. at_place q.path x) t
  by true false e f h = absurd cc
  by false b e f h = absurd cc

turned : (p q : Place) → place_eq p q ≡ false → place_eq q p ≡ false
turned p q n = by (place_eq q p) refl where
  by : (b : Bool) → place_eq q p ≡ b → b ≡ false
  by true e = let s : place_eq p q ≡ true = subst (λ x. place_eq p x ≡ true) (sym (same_place q p e)) (place_same p) in absurd cc
  by false e = refl

-- ---- places among others

-- the places without the first one that is this
abbrev without : Place → List Place → List Place
without p [] = []
without p (y ∷ ys) = if place_eq p y then ys else y ∷ without p ys

taken : (kind : PlaceRows) (p : Place) (ys : List Place) → list_any (place_eq p) ys ≡ true → rows_length kind ys ≡ (beside kind + place_length p) + rows_length kind (without p ys)
taken kind p [] h = absurd cc
taken kind p (y ∷ ys) h = by (place_eq p y) refl h (taken kind p ys) where
  by : (b : Bool) → place_eq p y ≡ b → (b || list_any (place_eq p) ys) ≡ true → (list_any (place_eq p) ys ≡ true → rows_length kind ys ≡ (beside kind + place_length p) + rows_length kind (without p ys))
      → (beside kind + place_length y) + rows_length kind ys ≡ (beside kind + place_length p) + rows_length kind (cond b ys (y ∷ without p ys))
  by true e k g = ap (λ q. (beside kind + place_length q) + rows_length kind ys) (sym (same_place p y e))
  by false e k g = omega (arith, g k)

kept : (p q : Place) (ys : List Place) → place_eq p q ≡ false → list_any (place_eq q) ys ≡ true → list_any (place_eq q) (without p ys) ≡ true
kept p q [] n h = h
kept p q (y ∷ ys) n h = by (place_eq p y) refl (or_cases (place_eq q y) (list_any (place_eq q) ys) h) (kept p q ys n) where
  by : (b : Bool) → place_eq p y ≡ b → (place_eq q y ≡ true) ⊎ (list_any (place_eq q) ys ≡ true) → (list_any (place_eq q) ys ≡ true → list_any (place_eq q) (without p ys) ≡ true) → list_any (place_eq q) (cond b ys (y ∷ without p ys)) ≡ true
  by true e (inl t) g = let s : place_eq q y ≡ false = subst (λ x. place_eq q x ≡ false) (same_place p y e) (turned p q n) in absurd cc
  by true e (inr t) g = t
  by false e (inl t) g = or_left (place_eq q y) (list_any (place_eq q) (without p ys)) t
  by false e (inr t) g = or_right (place_eq q y) (list_any (place_eq q) (without p ys)) (g t)

others_kept : (x : Place) (xs ys : List Place) → list_any (place_eq x) xs ≡ false → AllByRecursion (λ p. list_any (place_eq p) ys ≡ true) xs → AllByRecursion (λ p. list_any (place_eq p) (without x ys) ≡ true) xs
others_kept x [] ys n h = tt
others_kept x (p ∷ xs) ys n h = let k = or_parts (place_eq x p) (list_any (place_eq x) xs) n in (kept x p ys k.0 h.0, others_kept x xs ys k.1 h.1)

among : (kind : PlaceRows) (xs ys : List Place) → AreDifferent xs → AllByRecursion (λ p. list_any (place_eq p) ys ≡ true) xs → rows_length kind xs ≤ rows_length kind ys
among kind [] ys d h = omega arith
among kind (x ∷ xs) ys d h = omega (arith, taken kind x ys h.0, among kind xs (without x ys) d.1 (others_kept x xs ys d.0 h.1))

all_among : (xs ys : List Place) → ((p : Place) → list_any (place_eq p) xs ≡ true → list_any (place_eq p) ys ≡ true) → AllByRecursion (λ p. list_any (place_eq p) ys ≡ true) xs
all_among [] ys f = tt
all_among (x ∷ xs) ys f = (f x (or_left (place_eq x x) (list_any (place_eq x) xs) (place_same x)), all_among xs ys (λ p h. f p (or_right (place_eq p x) (list_any (place_eq p) xs) h)))

-- where the same places are there, and these differ, their rows are no longer than those
pub no_longer : (kind : PlaceRows) (xs ys : List Place) → AreDifferent xs → ((p : Place) → list_any (place_eq p) ys ≡ list_any (place_eq p) xs) → rows_length kind xs ≤ rows_length kind ys
no_longer kind xs ys d same = among kind xs ys d (all_among xs ys (λ p h. same p ∙ h))

-- ---- places of leaves

abbrev pub AreAt : Path → List Place → Type 0
AreAt path ps = AllByRecursion (λ (p : Place). p.path ≡ path) ps

none_at : (p : Place) (path : Path) (qs : List Place) → path_eq p.path path ≡ false → AreAt path qs → list_any (place_eq p) qs ≡ false
none_at p path [] e h = refl
none_at p path (q ∷ qs) e h = or_from (place_eq p q) (list_any (place_eq p) qs) (and_left (path_eq p.path q.path) (bytes_eq p.event q.event) (ap (path_eq p.path) h.0 ∙ e)) (none_at p path qs e h.1)

module _ (f : Leaf → List Place) where
  elsewhere : (p : Place) (all : List Leaf) → AllByRecursion (λ (other : Leaf). path_eq p.path other.path ≡ false) all → AllByRecursion (λ (leaf : Leaf). AreAt leaf.path (f leaf)) all → list_any (place_eq p) (each_leaf f all) ≡ false
  elsewhere p [] a h = refl
  elsewhere p (leaf ∷ rest) a h =
      list_any-append (place_eq p) (f leaf) (each_leaf f rest) ∙ or_from (list_any (place_eq p) (f leaf)) (list_any (place_eq p) (each_leaf f rest)) (none_at p leaf.path (f leaf) a.0 h.0) (elsewhere p rest a.1 h.1)

different_append : (xs ys : List Place) → AreDifferent xs → AreDifferent ys → AllByRecursion (λ p. list_any (place_eq p) ys ≡ false) xs → AreDifferent (xs ++ ys)
different_append [] ys d e h = e
different_append (x ∷ xs) ys d e h = (list_any-append (place_eq x) xs ys ∙ or_from (list_any (place_eq x) xs) (list_any (place_eq x) ys) d.0 h.0, different_append xs ys d.1 e h.1)

-- leaves apart have places that differ, where each has such
pub leaves_differ : (f : Leaf → List Place) (all : List Leaf) → AreApart all → AllByRecursion (λ (leaf : Leaf). AreAt leaf.path (f leaf)) all → AllByRecursion (λ (leaf : Leaf). AreDifferent (f leaf)) all → AreDifferent (each_leaf f all)
leaves_differ f [] a h d = tt
leaves_differ f (leaf ∷ rest) a h d =
    different_append (f leaf) (each_leaf f rest) d.0 (leaves_differ f rest a.1 h.1 d.1)
    (all_weaker (λ (p : Place). p.path ≡ leaf.path) (λ p. list_any (place_eq p) (each_leaf f rest) ≡ false) (f leaf)
    (λ p e. elsewhere f p rest (subst (λ path. AllByRecursion (λ (other : Leaf). path_eq path other.path ≡ false) rest) (sym e) a.0) h.1) h.0)
