-- What is told of the verdict over two texts: this project's profile.
use Rattle.std.specs.Prelude.{◌≡◌, ◌≤◌, ℕ, true, ◌⊎◌, List, length, Option, Result, Ok, Err}
use Rattle.std.specs.Str.{is_utf8}
use Rattle.fb_verdict.specs.Verdicts as verdicts
use Rattle.fb_model.specs.Verdicts as truths
use Rattle.fb_verified.specs.declared.verified.Verified.{Verified}
use Rattle.fbr_files.specs.declared.fault.Fault.{Fault}
use Rattle.fbr_files.specs.declared.fault.Fault.TheVariants.{Memory, Input, File, Refused}
use Rattle.fbr_files.specs.Outcomes.{Tells, outcome_said, IsContents}
use Rattle.fbr_check.specs.Halves.{divide}

-- two texts are accepted only where what was verified is theirs, and a fault of a text is one that the text has
abbrev pub IsVerdict : {A : Type 0} → List ℕ → List ℕ → Result A Fault → Type 0
IsVerdict app cert (Ok a) = (v : Verified) × verdicts.IsOfTexts app cert v
IsVerdict app cert (Err Memory) = Unit {0}
IsVerdict app cert (Err (Refused refusal)) = truths.IsFaultOf app cert refusal
IsVerdict app cert (Err other) = ⊥

-- bytes hold two texts: they are within the limit, and both halves are UTF-8
abbrev pub HoldsTexts : List ℕ → Type 0
HoldsTexts bytes = (length bytes ≤ 33554432) × ((is_utf8 (divide true bytes).0 ≡ true) × (is_utf8 (divide true bytes).1 ≡ true))

-- the verdict over the bytes of standard input
abbrev pub IsInputVerdict : {A : Type 0} → List ℕ → Result A Fault → Type 0
IsInputVerdict bytes (Err Input) = HoldsTexts bytes → ⊥
IsInputVerdict bytes (Err Memory) = Unit {0}
IsInputVerdict bytes other = HoldsTexts bytes × IsVerdict (divide true bytes).0 (divide true bytes).1 other

-- standard input was not read, or this is the verdict over what it held
abbrev pub IsInputOutcome : {A : Type 0} → Option (List ℕ) → Result A Fault → Type 0
IsInputOutcome held outcome = (outcome ≡ Err Input) ⊎ ((bytes : List ℕ) × IsContents held bytes × IsInputVerdict bytes outcome)

-- one of two files was not read or is no text, or this is the verdict over what they held
abbrev pub IsFilesOutcome : {A : Type 0} → List ℕ → List ℕ → Option (List ℕ) → Option (List ℕ) → Result A Fault → Type 0
IsFilesOutcome one two held_one held_two (Err (File name)) = (name.now ≡ one) ⊎ (name.now ≡ two)
IsFilesOutcome one two held_one held_two outcome =
    (app : List ℕ) × (cert : List ℕ) × IsContents held_one app × IsContents held_two cert × IsVerdict app cert outcome

-- the two texts are those of what was verified, or this is what the verdict says
abbrev pub IsVerified : List ℕ → List ℕ → Option (List ℕ) → Option (List ℕ) → Result Verified Fault → Type 0
IsVerified one two held_one held_two (Ok v) = (app : List ℕ) × (cert : List ℕ) × IsContents held_one app × IsContents held_two cert × verdicts.IsOfTexts app cert v
IsVerified one two held_one held_two (Err f) = IsFilesOutcome {A = Unit {0}} one two held_one held_two (Err f)

-- the same of two texts
abbrev pub IsVerifiedTexts : List ℕ → List ℕ → Result Verified Fault → Type 0
IsVerifiedTexts app cert (Ok v) = verdicts.IsOfTexts app cert v
IsVerifiedTexts app cert (Err f) = IsVerdict {A = Unit {0}} app cert (Err f)

-- the outcome over standard input is told, and nothing else
abbrev pub TellsInput : Option (List ℕ) → Option (List ℕ) → Option (List ℕ) → ℕ → Type 0
TellsInput held old new status = (outcome : Result (Unit {0}) Fault) × IsInputOutcome held outcome × Tells (outcome_said outcome) old new status

-- the outcome over two files is told, and nothing else
abbrev pub TellsFiles : List ℕ → List ℕ → Option (List ℕ) → Option (List ℕ) → Option (List ℕ) → Option (List ℕ) → ℕ → Type 0
TellsFiles one two held_one held_two old new status =
    (outcome : Result (Unit {0}) Fault) × IsFilesOutcome one two held_one held_two outcome × Tells (outcome_said outcome) old new status
