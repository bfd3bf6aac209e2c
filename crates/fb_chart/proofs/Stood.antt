-- What stands at a place of a list, and what was set there.
use Rattle.std.proofs.Common.{◌≡◌, ℕ, zero, suc, List, [], ◌∷◌, get_or, set, slice_get, Some, refl, sym, ◌∙◌, ap}
use Rattle.fb_lists.proofs.Lists.{stands_at, within_got}

same_at : {X : Type 0} (xs : List X) (i : ℕ) (x y : X) → slice_get xs i ≡ Some x → slice_get xs i ≡ Some y → x ≡ y
same_at xs i x y a b = let e : Some x ≡ Some y = sym a ∙ b in cc

-- what was read at a place is what stands there
pub read : {X : Type 0} (xs : List X) (i : ℕ) (x y : X) → slice_get xs i ≡ Some x → y ≡ get_or xs i y → y ≡ x
read xs i x y h e = same_at xs i y x (stands_at xs i y y (within_got xs i x h) e) h

pub set_stands : {X : Type 0} (xs : List X) (i : ℕ) (x y : X) → slice_get xs i ≡ Some x → slice_get (set xs i y) i ≡ Some y
set_stands [] i x y h = absurd cc
set_stands (z ∷ zs) zero x y h = refl
set_stands (z ∷ zs) (suc i) x y h = set_stands zs i x y h

pub set_twice : {X : Type 0} (xs : List X) (i : ℕ) (y z : X) → set (set xs i y) i z ≡ set xs i z
set_twice [] i y z = refl
set_twice (x ∷ xs) zero y z = refl
set_twice (x ∷ xs) (suc i) y z = ap (λ rest. x ∷ rest) (set_twice xs i y z)
