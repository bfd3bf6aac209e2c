-- Elements of lists, by their places, and of two lists one by one.
use Rattle.std.proofs.Common.{◌≡◌, ℕ, zero, suc, ◌+◌, List, [], ◌∷◌, ◌++◌, map, length, slice_get, Some, refl, ap, subst, ◌∙◌}
use Rattle.std.specs.List.{AllByRecursion}
use Rattle.std.proofs.lemmas.List.{append_assoc}
use Rattle.fb_chart.specs.Tables.{Each}

-- what is so of all images
pub all_mapped : {X Y : Type 0} (P : Y → Type 0) (f : X → Y) (xs : List X) → AllByRecursion P (map f xs) → AllByRecursion (λ x. P (f x)) xs
all_mapped P f [] h = tt
all_mapped P f (x ∷ xs) h = (h.0, all_mapped P f xs h.1)

-- ---- two lists

pub each_length : {X Y : Type 0} (R : X → Y → Type 0) (xs : List X) (ys : List Y) → Each R xs ys → length ys ≡ length xs
each_length R [] [] h = refl
each_length R [] (y ∷ ys) h = absurd h
each_length R (x ∷ xs) [] h = absurd h
each_length R (x ∷ xs) (y ∷ ys) h = ap suc (each_length R xs ys h.1)

-- the elements at one index
pub record Both {X Y : Type 0} (R : X → Y → Type 0) (xs : List X) (n : ℕ) (y : Y) : Type 0 where
  pub x : X
  pub at : slice_get xs n ≡ Some x
  pub so : R x y

pub each_at : {X Y : Type 0} (R : X → Y → Type 0) (xs : List X) (ys : List Y) (n : ℕ) (y : Y) → Each R xs ys → slice_get ys n ≡ Some y → Both R xs n y
each_at R [] [] n y h e = absurd cc
each_at R [] (z ∷ ys) n y h e = absurd h
each_at R (x ∷ xs) [] n y h e = absurd h
each_at R (x ∷ xs) (z ∷ ys) zero y h e = record { x = x; at = refl; so = (let s : z ≡ y = cc in subst (R x) s h.0) }
each_at R (x ∷ xs) (z ∷ ys) (suc n) y h e = let b = each_at R xs ys n y h.1 e in record { x = b.x; at = b.at; so = b.so }

-- the first elements
pub record First {X Y : Type 0} (R : X → Y → Type 0) (xs : List X) (y : Y) (ys : List Y) : Type 0 where
  pub x : X
  pub left : List X
  pub is : xs ≡ x ∷ left
  pub so : R x y
  pub each : Each R left ys

pub each_first : {X Y : Type 0} (R : X → Y → Type 0) (xs : List X) (y : Y) (ys : List Y) → Each R xs (y ∷ ys) → First R xs y ys
each_first R [] y ys h = absurd h
each_first R (x ∷ xs) y ys h = record { x = x; left = xs; is = refl; so = h.0; each = h.1 }

pub each_none : {X Y : Type 0} (R : X → Y → Type 0) (xs : List X) → Each R xs [] → xs ≡ []
each_none R [] h = refl
each_none R (x ∷ xs) h = absurd h

-- what is appended after what was appended
pub appended_on : {X : Type 0} (old mid new ps qs : List X) → mid ≡ old ++ ps → new ≡ mid ++ qs → new ≡ old ++ (ps ++ qs)
appended_on old mid new ps qs a b = b ∙ ap (λ m. m ++ qs) a ∙ append_assoc old ps qs

-- the other element at an index
pub record Other {X Y : Type 0} (R : X → Y → Type 0) (x : X) (ys : List Y) (n : ℕ) : Type 0 where
  pub y : Y
  pub at : slice_get ys n ≡ Some y
  pub so : R x y

pub each_other : {X Y : Type 0} (R : X → Y → Type 0) (xs : List X) (ys : List Y) (n : ℕ) (x : X) → Each R xs ys → slice_get xs n ≡ Some x → Other R x ys n
each_other R [] ys n x h e = absurd cc
each_other R (w ∷ xs) [] n x h e = absurd h
each_other R (w ∷ xs) (z ∷ ys) zero x h e = record { y = z; at = refl; so = (let s : w ≡ x = cc in subst (λ v. R v z) s h.0) }
each_other R (w ∷ xs) (z ∷ ys) (suc n) x h e = let o = each_other R xs ys n x h.1 e in record { y = o.y; at = o.at; so = o.so }
