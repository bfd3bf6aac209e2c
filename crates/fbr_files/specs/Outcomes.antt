-- The line and the status of an outcome: this project's profile.
use Rattle.std.specs.Prelude.{◌≡◌, ◌≤◌, ℕ, true, ◌⊎◌, List, [], ◌∷◌, ◌++◌, length, Option, Some, None, Result, Ok, Err, codes, string_bytes}
use Rattle.std.specs.Io.KnownBytes.{Appends}
use Rattle.std.specs.Fmt.{decimal}
use Rattle.fb_faults.specs.Refusals as refusals
use Rattle.fb_faults.specs.NoBounds as finding
use Rattle.fbr_files.specs.declared.fault.Fault.{Fault}
use Rattle.fbr_files.specs.declared.fault.Fault.TheVariants.{Memory, Input, File, Line, Usage, Refused, Unbound, Device, LinkDown, Socket}
use Rattle.fbr_files.specs.Statuses.{status_of_code, status_of_no_bound}

pub record Outcome : Type 0 where
  pub line : List ℕ
  pub status : ℕ

abbrev pub accepted : Outcome
accepted = record { line = codes "accepted"; status = 0 }

-- the words of a fault
abbrev pub line_of : Fault → List ℕ
line_of Memory = codes "refused 9"
line_of Input = codes "refused 61 -"
line_of (File name) = codes "refused 61 " ++ name.now
line_of (Line number) = codes "refused 60 " ++ decimal number
line_of Usage = codes "refused 63"
line_of (Refused refusal) = codes "refused " ++ refusals.line_of refusal
line_of (Unbound fault) = codes "refused " ++ finding.line_of fault
line_of (Device name) = codes "refused 21 " ++ string_bytes name
line_of LinkDown = codes "refused 59"
line_of (Socket port) = codes "refused 62 " ++ decimal port

abbrev pub code_of : Fault → ℕ
code_of Memory = 9
code_of Input = 61
code_of (File name) = 61
code_of (Line number) = 60
code_of Usage = 63
code_of (Refused refusal) = refusals.code_of refusal
code_of (Unbound fault) = finding.code_of fault
code_of (Device name) = 21
code_of LinkDown = 59
code_of (Socket port) = 62

abbrev pub status_of : Fault → ℕ
status_of Memory = 4
status_of Input = 3
status_of (File name) = 3
status_of (Line number) = 2
status_of Usage = 2
status_of (Refused refusal) = status_of_code (refusals.code_of refusal)
status_of (Unbound fault) = status_of_no_bound (finding.code_of fault)
status_of (Device name) = 2
status_of LinkDown = 3
status_of (Socket port) = 3

-- a refusal's line and status
abbrev pub refusal : Fault → Outcome
refusal f = record { line = line_of f; status = status_of f }

abbrev pub outcome_said : {A : Type 0} → Result A Fault → Outcome
outcome_said (Ok a) = accepted
outcome_said (Err f) = refusal f

-- the writer took this line, and the program ends with its status
abbrev pub Tells : Outcome → Option (List ℕ) → Option (List ℕ) → ℕ → Type 0
Tells o old new status = (status ≡ o.status) × Appends old new (o.line ++ 10 ∷ [])

-- what is read, where that is known
abbrev pub IsContents : Option (List ℕ) → List ℕ → Type 0
IsContents (Some known) bytes = bytes ≡ known
IsContents None bytes = Unit {0}

-- a file that was not read or is no text, or want of memory
abbrev pub IsReadFault : List ℕ → Fault → Type 0
IsReadFault one Memory = Unit {0}
IsReadFault one (File name) = name.now ≡ one
IsReadFault one other = ⊥

-- words are refused, for what they are or for want of memory, and nothing else is told
abbrev pub TellsUsage : Option (List ℕ) → Option (List ℕ) → ℕ → Type 0
TellsUsage old new status = Tells (refusal Usage) old new status ⊎ Tells (refusal Memory) old new status
