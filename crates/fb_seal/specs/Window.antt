-- Which counters of a sender are fresh: a window of 64 counters, as that of IPsec (RFC 4303, 3.4.3).
use Rattle.std.specs.Prelude.{◌≡◌, ℕ, ◌+◌, ◌-◌, ◌/◌, ◌%◌, ◌^◌, nat_lt, List, [], ◌∷◌, Bool, true, ◌==◌, ◌&&◌, ◌||◌, not, if◌then◌else◌}
use Rattle.fb_seal.specs.declared.window.Window.{Window}

-- where one counter was taken, another one may be: it is another, and not 64 or more below
abbrev pub is_beside : ℕ → ℕ → Bool
is_beside taken counter = nat_lt taken (counter + 64) && not (taken == counter)

-- where all these were taken, this one may be
abbrev pub is_fresh : List ℕ → ℕ → Bool
is_fresh [] counter = true
is_fresh (first ∷ taken) counter = is_beside first counter && is_fresh taken counter

-- which of these offers are taken, one after another, where others were taken before
abbrev pub taken_of : List ℕ → List ℕ → List ℕ
taken_of before [] = []
taken_of before (counter ∷ offers) = if is_fresh before counter then counter ∷ taken_of (counter ∷ before) offers else taken_of before offers

-- how often a counter stands in a list
abbrev pub times : ℕ → List ℕ → ℕ
times k [] = 0
times k (counter ∷ more) = if counter == k then 1 + times k more else times k more

-- ---- windows

-- bit i of a mask
abbrev pub bit : ℕ → ℕ → ℕ
bit mask i = mask / 2 ^ i % 2

-- a window takes each counter above its highest one, and of the 63 below it those whose bit is 0: bit i is that of the counter i below
abbrev pub takes : Window → ℕ → Bool
takes w counter = nat_lt w.highest counter || (nat_lt w.highest (counter + 64) && bit w.mask (w.highest - counter) == 0)

-- the window of a sender of whom these counters were taken
abbrev pub Keeps : Window → List ℕ → Type 0
Keeps w taken = (counter : ℕ) → takes w counter ≡ is_fresh taken counter
