-- Elements of lists, by their places.
use Rattle.std.proofs.Common.{◌≡◌, List, [], ◌∷◌, length, drop, get_or, refl, arith}

-- a list that is not empty has a first element
pub first_of : {X : Type 0} (xs : List X) (d : X) → (length xs ≡ 0 → ⊥) → xs ≡ get_or xs 0 d ∷ drop 1 xs
first_of [] d h = absurd (h refl)
first_of (x ∷ xs) d h = refl

pub empty_list : {X : Type 0} (xs : List X) → length xs ≡ 0 → xs ≡ []
empty_list [] h = refl
empty_list (x ∷ xs) h = absurd (omega (arith, h))
