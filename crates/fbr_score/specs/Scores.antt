-- How stories went, and what is told of it: this project's profile.
use Rattle.std.specs.Prelude.{◌≡◌, ℕ, ◌+◌, nat_lt, min, Bool, List, [], ◌∷◌, ◌++◌, Option, Result, Ok, Err, codes, if◌then◌else◌}
use Rattle.std.specs.Fmt.{decimal}
use Rattle.std.specs.Io.KnownBytes.{Appends}
use Rattle.fbr_files.specs.declared.fault.Fault.{Fault}
use Rattle.fbr_files.specs.Outcomes.{Tells, refusal}
use Rattle.fbr_score.specs.declared.score.Score.{Score}

-- a count of 64 bits stays where it can rise no more
abbrev pub capped : ℕ → ℕ
capped n = min n 18446744073709551615

-- before the first sequence
abbrev pub no_score : Score
no_score = record { passed = 0; failed = 0 }

-- with the sequences of another story
abbrev pub with_score : Score → Score → Score
with_score s t = record { passed = capped (s.passed + t.passed); failed = capped (s.failed + t.failed) }

-- with a sequence more, which failed or passed
abbrev pub with_sequence : Score → Bool → Score
with_sequence s failed = with_score s (record { passed = if failed then 0 else 1; failed = if failed then 1 else 0 })

-- how many sequences were played
abbrev pub counted : Score → ℕ
counted s = capped (s.passed + s.failed)

-- `12 passed, 1 failed`
abbrev pub score_text : Score → List ℕ
score_text s = decimal s.passed ++ codes " passed, " ++ decimal s.failed ++ codes " failed"

-- the program's status is 1 where a sequence failed
abbrev pub status_of : Score → ℕ
status_of s = if nat_lt 0 s.failed then 1 else 0

-- the line of a score is told, and the program ends with its status
abbrev pub TellsScore : Score → Option (List ℕ) → Option (List ℕ) → ℕ → Type 0
TellsScore s old new status = (status ≡ status_of s) × Appends old new (score_text s ++ 10 ∷ [])

-- the line of a score, or why stories were not played to their end
abbrev pub TellsEnd : Result Score Fault → Option (List ℕ) → Option (List ℕ) → ℕ → Type 0
TellsEnd (Ok s) old new status = TellsScore s old new status
TellsEnd (Err f) old new status = Tells (refusal f) old new status

-- behind a page stands the line of a score, or why stories were not played to their end
abbrev pub TellsStories : Option (List ℕ) → Option (List ℕ) → ℕ → Type 0
TellsStories old new status = (page : List ℕ) × (between : Option (List ℕ)) × (outcome : Result Score Fault) × Appends old between page × TellsEnd outcome between new status
