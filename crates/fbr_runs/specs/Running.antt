-- What becomes of a run, and what is kept of it: this project's profile.
use Rattle.std.specs.Prelude.{◌≡◌, ◌⊎◌, ℕ, ◌==◌, ◌&&◌, Bool, true, List, [], ◌∷◌, Option, None, Some, IsSome, is_none, length, Ok, Err, codes, if◌then◌else◌}
use Rattle.std.specs.List.{ends_with, AllByRecursion}
use Rattle.fb_verified.specs.declared.verified.Verified.{Verified}
use Rattle.fbr_files.specs.declared.fault.Fault.{Fault}
use Rattle.fbr_files.specs.declared.fault.Fault.TheVariants.{Usage}
use Rattle.fbr_files.specs.Outcomes.{Tells, refusal}
use Rattle.fbr_files.specs.Reading.{held_by}
use Rattle.fbr_files.specs.Writing.{Sameness, Holdings, AreApart, LeavesAllBut}
use Rattle.fbr_words.specs.Program.{Watching, Simulating, Plays, Replaying, Service, state_file}
use Rattle.fbr_check.specs.Verdicts.{IsFilesOutcome, IsVerified}
use Rattle.fbr_sim.specs.Simulation.{TellsScript}
use Rattle.fbr_score.specs.Scores.{TellsStories}
use Rattle.fbr_serve.specs.Serving.{TellsServe}
use Rattle.fbr_static.specs.Tellings.{OrJson}

-- ---- what is kept of a run

-- the file that is written, where one is, is none of these
abbrev pub AllApart : Sameness → Option (List ℕ) → List (List ℕ) → Type 0
AllApart same into names = AllByRecursion (λ name. AreApart same into (Some name)) names

-- neither is a file in which something is kept
abbrev pub AreKeptApart : Sameness → Watching → List (List ℕ) → Type 0
AreKeptApart same w names = AllApart same w.dump names × (AllApart same w.table names × AllApart same w.timeline names)

-- a file is named in which something is kept
abbrev pub NamesKept : Watching → Type 0
NamesKept w = IsSome w.dump ⊎ (IsSome w.table ⊎ IsSome w.timeline)

-- nothing is watched
abbrev pub is_plain : Watching → Bool
is_plain w = (length w.paths == 0) && (is_none w.dump && (is_none w.table && is_none w.timeline))

-- ---- a simulation

-- the verdict is told where it refuses; else the two texts fit, and the script is run. Of one that is watched nothing is said.
abbrev pub TellsSimulated : Watching → List ℕ → List ℕ → Option (List ℕ) → Option (List ℕ) → Option (List ℕ) → Option (List ℕ) → Option (List ℕ) → ℕ → Type 0
TellsSimulated w one two held_one held_two held old new status =
    ((f : Fault) × IsFilesOutcome {A = Unit {0}} one two held_one held_two (Err f) × Tells (refusal f) old new status)
    ⊎ ((v : Verified) × IsVerified one two held_one held_two (Ok v) × (is_plain w ≡ true → TellsScript v held old new status))

-- the words are at fault, which they may be where a file is to be written: it is none that is read
abbrev pub TellsSim : Simulating → Sameness → Holdings → Option (List ℕ) → Option (List ℕ) → Option (List ℕ) → ℕ → Type 0
TellsSim q same before held old new status =
    (NamesKept q.watched × Tells (refusal Usage) old new status)
    ⊎ (AreKeptApart same q.watched (q.app ∷ q.cert ∷ []) × TellsSimulated q.watched q.app q.cert (held_by q.meant (before q.app)) (before q.cert) held old new status)

-- ---- a record

-- the same of a replay, of which nothing more is said; words that are at fault are told by their line, or in JSON
abbrev pub TellsReplay : Replaying → Sameness → Option (List ℕ) → Option (List ℕ) → ℕ → Type 0
TellsReplay q same old new status =
    (NamesKept q.watched × OrJson q.json (Tells (refusal Usage) old new status)) ⊎ AreKeptApart same q.watched (q.app ∷ q.cert ∷ q.recorded ∷ [])

-- ---- stories

-- a file is a story by its name
abbrev pub is_story : List ℕ → Bool
is_story name = ends_with (λ a b. a == b) name (codes ".story")

-- the file of a certificate, where one is named before the stories
abbrev pub cert_in : List (List ℕ) → Option (List ℕ)
cert_in [] = None
cert_in (name ∷ names) = if is_story name then None else Some name

-- the stories behind it
abbrev pub stories_in : List (List ℕ) → List (List ℕ)
stories_in [] = []
stories_in (name ∷ names) = if is_story name then name ∷ names else names

-- the verdict is told where it refuses; else the two texts fit, and the last line and the status are those of a score or of a refusal
abbrev pub TellsPlayed : List ℕ → List ℕ → Option (List ℕ) → Option (List ℕ) → Option (List ℕ) → Option (List ℕ) → ℕ → Type 0
TellsPlayed one two held_one held_two old new status =
    ((f : Fault) × IsFilesOutcome {A = Unit {0}} one two held_one held_two (Err f) × Tells (refusal f) old new status)
    ⊎ ((v : Verified) × IsVerified one two held_one held_two (Ok v) × TellsStories old new status)

-- so are they where a certificate was to be found, or a refusal is told
abbrev pub TellsFound : Option (List ℕ) → Option (List ℕ) → ℕ → Type 0
TellsFound old new status = TellsStories old new status ⊎ ((f : Fault) × Tells (refusal f) old new status)

-- which of these, by the certificate that is named
abbrev pub TellsWith : Plays → Option (List ℕ) → Holdings → Option (List ℕ) → Option (List ℕ) → ℕ → Type 0
TellsWith q None before old new status = TellsFound old new status
TellsWith q (Some cert) before old new status = TellsPlayed q.app cert (held_by q.meant (before q.app)) (before cert) old new status

-- a file is named that is to be written
abbrev pub NamesOne : Plays → Type 0
NamesOne q = IsSome q.report ⊎ NamesKept q.watched

-- what is written is none of the files that are read
abbrev pub ArePlayedApart : Sameness → Plays → Type 0
ArePlayedApart same q = AllApart same q.report (q.app ∷ q.files) × AreKeptApart same q.watched (q.app ∷ q.files)

-- the words are at fault where no story is named, and may be where a file is to be written: it is none that is read
abbrev pub TellsPlays : Plays → Sameness → Holdings → Option (List ℕ) → Option (List ℕ) → ℕ → Type 0
TellsPlays q same before old new status =
    (((stories_in q.files ≡ []) ⊎ NamesOne q) × Tells (refusal Usage) old new status) ⊎ (ArePlayedApart same q × TellsWith q (cert_in q.files) before old new status)

-- ---- a device

-- what `serve` tells and leaves in files, of which its seals change none but the state file, and its record, where there is one, none but its own
pub record TellsServed (q : Service) (same : Sameness) (before after : Holdings) (old new : Option (List ℕ)) (status : ℕ) : Type 0 where
  pub booted : Holdings
  pub between : Holdings
  pub told : TellsServe q before booted between old new status
  pub counted : LeavesAllBut same (state_file q.guard) booted between
  pub recorded : LeavesAllBut same q.life.recorded between after
