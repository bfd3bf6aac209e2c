-- Which moments are within a rate, in nanoseconds. This project's profile.
use Rattle.std.specs.Prelude.{ℕ, ◌+◌, ◌-◌, ◌*◌, ◌<◌, ◌≤◌, List, length, slice_index}
use Rattle.fb_pace.specs.declared.rate.Rate.{Rate}

-- no moment is before an earlier one
abbrev pub AreInOrder : List ℕ → Type 0
AreInOrder moments = (i j : ℕ) → i ≤ j → j < length moments → slice_index moments i ≤ slice_index moments j

-- from each moment to each later one there was an interval for all that came after the first, but for one less than a burst
abbrev pub IsWithin : Rate → List ℕ → Type 0
IsWithin r moments =
    (i j : ℕ) → i ≤ j → j < length moments → (j - i) * r.interval ≤ (r.burst - 1) * r.interval + (slice_index moments j - slice_index moments i)
