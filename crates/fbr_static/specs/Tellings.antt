-- What is told of an application that is looked at, and what is written of it: this project's profile.
use Rattle.std.specs.Prelude.{◌≡◌, ◌⊎◌, ℕ, Bool, true, List, [], ◌∷◌, ◌++◌, Option, None, Some, Result, Ok, Err}
use Rattle.std.specs.Io.KnownBytes.{Appends}
use Rattle.fb_numbers.specs.Numbers.{number_in}
use Rattle.fbr_files.specs.declared.fault.Fault.{Fault}
use Rattle.fbr_files.specs.declared.fault.Fault.TheVariants.{Usage}
use Rattle.fbr_files.specs.Outcomes.{IsContents, IsReadFault, Outcome, Tells, outcome_said, refusal}
use Rattle.fbr_files.specs.Reading.{held_by}
use Rattle.fbr_files.specs.Writing.{Sameness, Holdings, AreApart, Meet, Writes}
use Rattle.fbr_words.specs.Program.{Sought, least_sought, Question, Drawing, Packing}
use Rattle.fbr_check.specs.Verdicts.{IsFilesOutcome}
use Rattle.fbr_find.specs.Bounding.{IsSoughtText, IsSoughtFault}

-- ---- JSON

-- JSON is printed, of which nothing is said; or else this is so
abbrev pub OrJson : Bool → Type 0 → Type 0
OrJson json told = (json ≡ true) ⊎ told

-- ---- notes

-- a status is kept, or where notes count it is 1 in place of 0
abbrev pub IsCounted : Bool → ℕ → ℕ → Type 0
IsCounted strict status own = (own ≡ status) ⊎ ((strict ≡ true) × ((status ≡ 0) × (own ≡ 1)))

-- this is so of the status; or, where notes count, it is so of 0, and the status is 1
abbrev pub OrNoted : Bool → (ℕ → Type 0) → ℕ → Type 0
OrNoted strict told status = told status ⊎ ((strict ≡ true) × (told 0 × (status ≡ 1)))

-- ---- a file that is written

-- the words are at fault, since a file that is read would be written, and none is
pub record IsClash (same : Sameness) (into one other : Option (List ℕ)) (before after : Holdings) (old new : Option (List ℕ)) (status : ℕ) : Type 0 where
  pub met : Meet same into one ⊎ Meet same into other
  pub told : Tells (refusal Usage) old new status
  pub kept : after ≡ before

-- the file that is written is none of two that are read
pub record IsApart (same : Sameness) (into one other : Option (List ℕ)) : Type 0 where
  pub first : AreApart same into one
  pub second : AreApart same into other

-- ---- a certificate

-- a text is told, or written into the file that is named
pub data IsPutOut (into : Option (List ℕ)) (text : List ℕ) (before after : Holdings) (old new : Option (List ℕ)) (status : ℕ) : Type 0 where
  told : into ≡ None → status ≡ 0 → Appends old new text → after ≡ before → IsPutOut into text before after old new status
  written : (name : List ℕ) → into ≡ Some name → Writes name text (before name) (after name) old new status → IsPutOut into text before after old new status

-- the text that is asked for is put out; or why there is none is told, and no file is written
pub data TellsBound (q : Sought) (same : Sameness) (before after : Holdings) (old new : Option (List ℕ)) (status : ℕ) : Type 0 where
  a_clash : IsClash same q.into (Some q.app) None before after old new status → TellsBound q same before after old new status
  a_text : (text : List ℕ) → AreApart same q.into (Some q.app) → IsSoughtText q before text → IsPutOut q.into text before after old new status → TellsBound q same before after old new status
  no_text : (f : Fault) → AreApart same q.into (Some q.app) → IsSoughtFault q before f → Tells (refusal f) old new status → after ≡ before → TellsBound q same before after old new status

-- ---- a text

-- the text that is meant is put out; or why it was not read is told, and no file is written
pub data TellsPack (q : Packing) (same : Sameness) (before after : Holdings) (old new : Option (List ℕ)) (status : ℕ) : Type 0 where
  packs_itself : IsClash same q.into (Some q.app) None before after old new status → TellsPack q same before after old new status
  packs : (text : List ℕ) → AreApart same q.into (Some q.app) → IsContents (held_by q.meant (before q.app)) text → IsPutOut q.into text before after old new status
      → TellsPack q same before after old new status
  packs_none : (f : Fault) → AreApart same q.into (Some q.app) → IsReadFault q.app f → Tells (refusal f) old new status → after ≡ before → TellsPack q same before after old new status

-- ---- a graph

-- the words are at fault so, or the file that is written is none that is read
abbrev pub TellsDraw : Drawing → Sameness → Holdings → Holdings → Option (List ℕ) → Option (List ℕ) → ℕ → Type 0
TellsDraw q same before after old new status = IsClash same q.into (Some q.app) q.cert before after old new status ⊎ IsApart same q.into (Some q.app) q.cert

-- ---- a page

-- the first line is that of an outcome, and something stands behind it
abbrev pub Begins : Outcome → Option (List ℕ) → Option (List ℕ) → Type 0
Begins o old new = (more : List ℕ) × Appends old new ((o.line ++ 10 ∷ []) ++ more)

-- it is that of the verdict over two files, or memory ran out
abbrev pub TellsVerdict : List ℕ → List ℕ → Option (List ℕ) → Option (List ℕ) → Option (List ℕ) → Option (List ℕ) → ℕ → Type 0
TellsVerdict one two held_one held_two old new status =
    ((outcome : Result (Unit {0}) Fault) × IsFilesOutcome one two held_one held_two outcome × Begins (outcome_said outcome) old new) ⊎ (status ≡ 4)

-- an application is accepted where there is a certificate of it, or refused as its file or `bound` is
abbrev pub IsAloneOutcome : Sought → Holdings → Result (Unit {0}) Fault → Type 0
IsAloneOutcome q before (Ok tt) = (text : List ℕ) × IsSoughtText q before text
IsAloneOutcome q before (Err f) = IsSoughtFault q before f

-- the first line is that of an application alone, or memory ran out
abbrev pub TellsAlone : Question → Holdings → Option (List ℕ) → Option (List ℕ) → ℕ → Type 0
TellsAlone q before old new status =
    ((outcome : Result (Unit {0}) Fault) × IsAloneOutcome (least_sought q.what q.meant q.repeats) before outcome × Begins (outcome_said outcome) old new) ⊎ (status ≡ 4)

-- which of these it is, by the certificate that is named, where what is explained is no number
abbrev pub TellsBeside : Question → Option (List ℕ) → Holdings → Option (List ℕ) → Option (List ℕ) → ℕ → Type 0
TellsBeside q None before old new status = number_in q.what ≡ None → TellsAlone q before old new status
TellsBeside q (Some cert) before old new status = number_in q.what ≡ None → TellsVerdict q.what cert (held_by q.meant (before q.what)) (before cert) old new status

abbrev pub TellsExplain : Question → Holdings → Option (List ℕ) → Option (List ℕ) → ℕ → Type 0
TellsExplain q before old new status = TellsBeside q q.cert before old new status
