-- Numbers as words write them: this project's profile.
use Rattle.std.specs.Prelude.{ℕ, ◌+◌, ◌^◌, ◌==◌, nat_lt, ℤ, pos, neg_ℤ, not, ◌&&◌, List, length, drop, slice_index, Option, Some, None, if◌then◌else◌}
use Rattle.std.specs.Option.{option_map}
use Rattle.std.specs.Str.{all_ascii_digits}
use Rattle.fb_model.specs.CertificateText.{decimal_from}

-- the number that one digit or more write, the first ones perhaps zeros, where it is less than the limit
abbrev pub number_below : ℕ → List ℕ → Option ℕ
number_below limit cs =
    if all_ascii_digits cs && not (length cs == 0) && nat_lt (decimal_from 0 cs) limit then Some (decimal_from 0 cs) else None

-- a number of 16 bits
abbrev pub number_in : List ℕ → Option ℕ
number_in cs = number_below (2 ^ 16) cs

-- a number of 32 bits
abbrev pub long_number_in : List ℕ → Option ℕ
long_number_in cs = number_below (2 ^ 32) cs

-- a number of 64 bits
abbrev pub wide_number_in : List ℕ → Option ℕ
wide_number_in cs = number_below (2 ^ 64) cs

-- a number of 64 bits with a sign: a minus may stand before it, and no plus
abbrev pub value_in : List ℕ → Option ℤ
value_in cs =
    if slice_index cs 0 == 45 then option_map (λ n. neg_ℤ (pos n)) (number_below (2 ^ 63 + 1) (drop 1 cs)) else option_map pos (number_below (2 ^ 63) cs)
