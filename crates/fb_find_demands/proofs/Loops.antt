-- What comes behind what is there, one item after another.
use Rattle.std.proofs.Common.{◌≡◌, ℕ, zero, suc, ◌+◌, ◌<◌, ◌≤◌, List, [], ◌∷◌, ◌++◌, drop, length, get_or, slice_get, Some, refl, sym, ap, ◌∙◌, append_assoc, add-one, arith}
use Rattle.std.proofs.lemmas.List.{append-nil}
use Rattle.std.proofs.lemmas.Option.{slice_get_read}
use Rattle.std.proofs.Math.Seq.{drop-cons}

-- the item at an index, before those behind it
pub rest_at : {X : Type 0} (xs : List X) (i : ℕ) (x : X) → Some x ≡ slice_get xs i → drop i xs ≡ x ∷ drop (i + 1) xs
rest_at xs i x h = rw add-one (by xs i x h) where
  by : {X : Type 0} (xs : List X) (i : ℕ) (x : X) → Some x ≡ slice_get xs i → drop i xs ≡ x ∷ drop (suc i) xs
  by [] i x h = absurd cc
  by (y ∷ xs) zero x h = let e : y ≡ x = cc in ap (λ z. z ∷ xs) e
  by (y ∷ xs) (suc i) x h = by xs i x h

pub rest_of : {X : Type 0} (xs : List X) (i : ℕ) (x : X) → i < length xs → x ≡ get_or xs i x → drop i xs ≡ x ∷ drop (i + 1) xs
rest_of xs i x l e = rest_at xs i x (sym (slice_get_read xs (length xs) i x refl l e))

-- what comes of the items that are left comes behind what is there: one item more
pub turn : {X Y : Type 0} (F : List X → List Y) (xs : List X) (i : ℕ) (x : X) (here old new whole : List Y) → drop i xs ≡ x ∷ drop (i + 1) xs → F (x ∷ drop (i + 1) xs) ≡ here ++ F (drop (i + 1) xs) → new ≡ old ++ here
    → old ++ F (drop i xs) ≡ whole → new ++ F (drop (i + 1) xs) ≡ whole
turn F xs i x here old new whole e s n k =
    let rest = F (drop (i + 1) xs) in
    ap (λ ys. ys ++ rest) n ∙ append_assoc old here rest ∙ ap (λ ys. old ++ ys) (sym s) ∙ ap (λ ys. old ++ F ys) (sym e) ∙ k

pub drop_all : {X : Type 0} (xs : List X) (i : ℕ) → length xs ≤ i → drop i xs ≡ []
drop_all [] zero l = refl
drop_all [] (suc i) l = refl
drop_all (x ∷ xs) zero l = absurd (omega arith)
drop_all (x ∷ xs) (suc i) l = drop_all xs i (omega (arith, l))

pub past : (i n : ℕ) → (i < n → ⊥) → n ≤ i
past i n h = grind arith

-- when none are left, all is there
pub ends : {X Y : Type 0} (F : List X → List Y) (xs : List X) (i : ℕ) (old whole : List Y) → length xs ≤ i → F [] ≡ [] → old ++ F (drop i xs) ≡ whole → old ≡ whole
ends F xs i old whole l f k = sym (append-nil old) ∙ ap (λ ys. old ++ ys) (sym f) ∙ ap (λ ys. old ++ F ys) (sym (drop_all xs i l)) ∙ k

pub rest_got : {X : Type 0} (xs : List X) (i : ℕ) (d : X) → i < length xs → drop i xs ≡ get_or xs i d ∷ drop (i + 1) xs
rest_got xs i d l = rw add-one (drop-cons xs i d l)
