-- What a refusal passes on.
use Rattle.std.proofs.Common.{◌≡◌, ℕ, zero, suc, ◌<◌, ◌≤◌, ◌+◌, List, [], ◌∷◌, ◌++◌, map, length, get_or, take, drop, refl, sym, ap, ◌∙◌, subst, ◌⊎◌, inl, inr, Some, arith}
use Rattle.std.specs.Prelude.{slice_get}
use Rattle.std.specs.List.{Any}
use Rattle.std.proofs.Math.Seq.{drop-cons}
use Rattle.std.proofs.lemmas.List.{length-map, get_or-map, take-append-drop, map-append}
use Rattle.std.proofs.lemmas.Option.{slice_get_read, slice_get_within, get_or_from_slice_get}

-- one of a list, by its place
pub any_at : {X Y : Type 0} (P : Y → Type 0) (f : X → Y) (xs : List X) (i : ℕ) (x : X) → i < length xs → x ≡ get_or xs i x → P (f x) → Any P (map f xs)
any_at P f xs i x l e p = (i, f x, subst (λ n. i < n) (sym (length-map xs f)) l, get_or-map f xs i x (f x) l ∙ ap f (sym e), p)

pub read_at : {X Y : Type 0} (f : X → Y) (xs : List X) (i : ℕ) (x : X) → i < length xs → x ≡ get_or xs i x → slice_get (map f xs) i ≡ Some (f x)
read_at f xs i x l e = slice_get_read (map f xs) (length xs) i (f x) (sym (length-map xs f)) l (sym (get_or-map f xs i x (f x) l ∙ ap f (sym e)))

pub either_of : {A B C : Type 0} → (A → C) → (B → C) → A ⊎ B → C
either_of f g (inl a) = f a
either_of f g (inr b) = g b

-- a list by one of its places: what stands before it, it, and what stands behind it
pub parts_at : {X Y : Type 0} (f : X → Y) (xs : List X) (i : ℕ) (x : X) → i < length xs → x ≡ get_or xs i x → map f xs ≡ map f (take i xs) ++ f x ∷ map f (drop (suc i) xs)
parts_at f xs i x l e =
    let rest : drop i xs ≡ x ∷ drop (suc i) xs = drop-cons xs i x l ∙ ap (λ y. y ∷ drop (suc i) xs) (sym e) in
    ap (map f) (sym (take-append-drop i xs)) ∙ map-append f (take i xs) (drop i xs) ∙ ap (λ ys. map f (take i xs) ++ map f ys) rest

-- the items from i on are the one at i and those behind it
pub drop_step : {X : Type 0} (xs : List X) (i : ℕ) (x : X) → i < length xs → x ≡ get_or xs i x → drop i xs ≡ x ∷ drop (i + 1) xs
drop_step xs i x lt e = drop-cons xs i x lt ∙ ap (λ y. y ∷ drop (suc i) xs) (sym e) ∙ ap (λ k. x ∷ drop k xs) (let f : suc i ≡ i + 1 = omega arith in f)

pub drop_all : {X : Type 0} (xs : List X) (i : ℕ) → length xs ≤ i → drop i xs ≡ []
drop_all [] zero h = refl
drop_all [] (suc i) h = refl
drop_all (y ∷ ys) zero h = absurd (omega (arith, h))
drop_all (y ∷ ys) (suc i) h = drop_all ys i (omega (arith, h))

pub drop_got : {X : Type 0} (xs : List X) (i : ℕ) (x : X) → slice_get xs i ≡ Some x → drop i xs ≡ x ∷ drop (i + 1) xs
drop_got xs i x h = drop_step xs i x (slice_get_within xs i x h) (sym (get_or_from_slice_get xs i x x h))
