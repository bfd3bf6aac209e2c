-- Reading numbers in a row.
use Rattle.std.proofs.Common.{◌≡◌, ℕ, zero, suc, ◌<◌, ◌≤◌, ℤ, ◌-ℤ◌, unsigned_abs, int_le, Bool, true, false, ◌&&◌, List, [], ◌∷◌, length, take, None, IsSome, refl, arith}
use Rattle.std.specs.Prelude.{slice_get, if◌then◌else◌}
use Rattle.fb_model.specs.Language.{element_at}

-- an element that there is stands at its distance from the lowest index
pub element_is : (low high k : ℤ) (numbers : List ℤ) → IsSome (element_at low high numbers k) → element_at low high numbers k ≡ slice_get numbers (unsigned_abs (k -ℤ low))
element_is low high k numbers h = by (int_le low k && int_le k high) h where
  by : (b : Bool) → IsSome (if b then slice_get numbers (unsigned_abs (k -ℤ low)) else None) → (if b then slice_get numbers (unsigned_abs (k -ℤ low)) else None) ≡ slice_get numbers (unsigned_abs (k -ℤ low))
  by true h = refl
  by false h = absurd (cc)

pub some_within : (numbers : List ℤ) (j : ℕ) → IsSome (slice_get numbers j) → j < length numbers
some_within [] j h = absurd (cc)
some_within (n ∷ ns) zero h = omega arith
some_within (n ∷ ns) (suc j) h = omega (arith, some_within ns j h)

pub taken_few : (n : ℕ) (numbers : List ℤ) → length (take n numbers) ≤ n
taken_few zero numbers = omega arith
taken_few (suc n) [] = omega arith
taken_few (suc n) (x ∷ xs) = omega (arith, taken_few n xs)
