-- How often a device may send, as a file of keys says it: this project's profile.
use Rattle.std.specs.Prelude.{ℕ, ◌-◌, ◌/◌, min, nat_le, ◌&&◌, List, [], ◌∷◌, length, take, drop, codes, Option, None, Some, option_map, option_and_then, if◌then◌else◌}
use Rattle.std.specs.Str.{bytes_eq}
use Rattle.fb_numbers.specs.Numbers.{number_in, long_number_in}
use Rattle.fb_pace.specs.declared.rate.Rate.{Rate}

-- what stands before `/s`, where a word ends so
abbrev pub before_s : List ℕ → Option (List ℕ)
before_s word = if bytes_eq (drop (length word - 2) word) (codes "/s") then Some (take (length word - 2) word) else None

-- how many datagrams a second a word says: `100/s`
abbrev pub per_second : List ℕ → Option ℕ
per_second word = option_and_then long_number_in (before_s word)

-- so many datagrams a second, at most a million, and so many at once. The nanoseconds from one to the next are rounded down.
abbrev pub rate_with : Option ℕ → Option ℕ → Option Rate
rate_with (Some n) (Some burst) =
    if nat_le 1 n && nat_le n 1000000 && nat_le 1 burst then Some (record { interval = 1000000000 / n; burst = burst }) else None
rate_with n burst = None

-- a rate that says no burst has one of as many as come in a second
abbrev pub whole_burst : Option ℕ → Option ℕ
whole_burst n = option_map (λ n. min n 65535) n

-- `100/s`, or `100/s burst 20`, or nothing
abbrev pub rate_in : List (List ℕ) → Option (Option Rate)
rate_in [] = Some None
rate_in (word ∷ []) = option_map (λ r. Some r) (rate_with (per_second word) (whole_burst (per_second word)))
rate_in (word ∷ verb ∷ burst ∷ []) =
    if bytes_eq verb (codes "burst") then option_map (λ r. Some r) (rate_with (per_second word) (number_in burst)) else None
rate_in ws = None
