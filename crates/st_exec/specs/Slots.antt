-- How a value lies in a row of numbers.
use Rattle.std.specs.Prelude.{ℤ, pos, List, [], ◌∷◌, take, Option, None, Some}
use Rattle.fb_model.specs.Values.{Value, One, Many}
use Rattle.fb_model.specs.BlockTyping.{extent}

abbrev pub first_of : List ℤ → ℤ
first_of [] = pos 0
first_of (n ∷ ns) = n

-- the value whose numbers come first
abbrev pub formed : Option (ℤ × ℤ) → List ℤ → Value
formed None numbers = One (first_of numbers)
formed (Some b) numbers = Many (take (extent b) numbers)
