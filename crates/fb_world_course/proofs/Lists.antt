-- Elements of lists by their numbers.
use Rattle.std.proofs.Common.{◌≡◌, ℕ, zero, suc, ◌+◌, ◌<◌, cond, eqb, List, [], ◌∷◌, ◌++◌, length, slice_get, Some, None, refl, sym, ◌∙◌, ap, arith}
use Rattle.std.specs.Prelude.{set}
use Rattle.std.specs.List.{AllByRecursion}
use Rattle.std.proofs.lemmas.Bool.{ne_eqb}

pub eqb_suc : (i k : ℕ) → eqb (suc i) (suc k) ≡ eqb i k
eqb_suc i k = grind arith

pub set_got : {A : Type 0} (xs : List A) (i k : ℕ) (y : A) → i < length xs → slice_get (set xs i y) k ≡ cond (eqb i k) (Some y) (slice_get xs k)
set_got [] i k y h = absurd (omega (arith, h))
set_got (x ∷ xs) zero zero y h = refl
set_got (x ∷ xs) zero (suc k) y h = sym (ap (λ t. cond t (Some y) (slice_get xs k)) (ne_eqb 0 (suc k) (λ e. omega (arith, e))))
set_got (x ∷ xs) (suc i) zero y h = sym (ap (λ t. cond t (Some y) (Some x)) (ne_eqb (suc i) 0 (λ e. omega (arith, e))))
set_got (x ∷ xs) (suc i) (suc k) y h = set_got xs i k y (omega (arith, h)) ∙ sym (ap (λ t. cond t (Some y) (slice_get xs k)) (eqb_suc i k))

pub left_got : {A : Type 0} (xs ys : List A) (k : ℕ) → k < length xs → slice_get (xs ++ ys) k ≡ slice_get xs k
left_got [] ys k h = absurd (omega (arith, h))
left_got (x ∷ xs) ys zero h = refl
left_got (x ∷ xs) ys (suc k) h = left_got xs ys k (omega (arith, h))

pub right_got : {A : Type 0} (xs ys : List A) (k : ℕ) → slice_get (xs ++ ys) (length xs + k) ≡ slice_get ys k
right_got [] ys k = ap (slice_get ys) (omega arith)
right_got (x ∷ xs) ys k = ap (slice_get (x ∷ (xs ++ ys))) (let e : suc (length xs) + k ≡ suc (length xs + k) = omega arith in e) ∙ right_got xs ys k

pub got_there : {A : Type 0} (xs : List A) (k : ℕ) → k < length xs → (x : A) × (slice_get xs k ≡ Some x)
got_there [] k h = absurd (omega (arith, h))
got_there (x ∷ xs) zero h = (x, refl)
got_there (x ∷ xs) (suc k) h = got_there xs k (omega (arith, h))

pub all_set : {A : Type 0} (P : A → Type 0) (xs : List A) (i : ℕ) (y : A) → P y → AllByRecursion P xs → AllByRecursion P (set xs i y)
all_set P [] i y p h = h
all_set P (x ∷ xs) zero y p h = (p, h.1)
all_set P (x ∷ xs) (suc i) y p h = (h.0, all_set P xs i y p h.1)

pub all_by : {A : Type 0} (P : A → Type 0) (xs : List A) → ((i : ℕ) (x : A) → slice_get xs i ≡ Some x → P x) → AllByRecursion P xs
all_by P [] h = tt
all_by P (x ∷ xs) h = (h 0 x refl, all_by P xs (λ i y e. h (suc i) y e))

pub set_twice : {A : Type 0} (xs : List A) (i : ℕ) (x y : A) → set (set xs i x) i y ≡ set xs i y
set_twice [] i x y = refl
set_twice (z ∷ xs) zero x y = refl
set_twice (z ∷ xs) (suc i) x y = ap (λ zs. z ∷ zs) (set_twice xs i x y)

pub some_same : {A : Type 0} (x y : A) → Some x ≡ Some y → x ≡ y
some_same x y e = cc

pub some_none : {A : Type 0} (x : A) → Some x ≡ None → ⊥
some_none x e = cc
