-- What a bucket answers. It is the generic cell rate algorithm (ITU-T I.371, Annex A, virtual scheduling). This project's profile.
use Rattle.std.specs.Prelude.{ℕ, ◌+◌, ◌-◌, ◌*◌, max, nat_le, List, [], ◌∷◌, Bool, true, false, if◌then◌else◌}
use Rattle.fb_pace.specs.declared.rate.Rate.{Rate}
use Rattle.fb_pace.specs.declared.bucket.Bucket.{Bucket}

-- by how much a datagram may come before it is due
abbrev pub leeway : Rate → ℕ
leeway r = (r.burst - 1) * r.interval

-- a datagram passes at this moment
abbrev pub passes : Bucket → ℕ → Bool
passes b now = nat_le b.due (now + leeway b.rate)

-- the bucket behind one that passes: the next is due an interval after this one was, or after now
abbrev pub taken : Bucket → ℕ → Bucket
taken b now = record { rate = b.rate; due = max b.due now + b.rate.interval }

-- the bucket behind a moment at which it was asked
abbrev pub after : Bucket → ℕ → Bucket
after b now = if passes b now then taken b now else b

-- what it answers, moment by moment
abbrev pub answers : Bucket → List ℕ → List Bool
answers b [] = []
answers b (now ∷ more) = passes b now ∷ answers (after b now) more

-- the moments at which the answer is yes
abbrev pub passing : List ℕ → List Bool → List ℕ
passing [] bs = []
passing (now ∷ more) [] = []
passing (now ∷ more) (true ∷ bs) = now ∷ passing more bs
passing (now ∷ more) (false ∷ bs) = passing more bs
