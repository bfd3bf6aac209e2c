-- What becomes of files where one is written: this project's profile.
use Rattle.std.specs.Prelude.{◌≡◌, ℕ, List, [], ◌∷◌, Bool, true, false, Option, None, Some, IfSome}
use Rattle.fbr_files.specs.declared.fault.Fault.{Fault}
use Rattle.fbr_files.specs.Outcomes.{Tells, refusal, IsContents, IsReadFault}

-- whether two names are of one file, where that is known
abbrev pub Sameness : Type 0
Sameness = List ℕ → List ℕ → Option Bool

-- what files hold by their names, where that is known
abbrev pub Holdings : Type 0
Holdings = List ℕ → Option (List ℕ)

-- two names are not the same, and not known to be of one file
abbrev pub MayDiffer : Sameness → List ℕ → List ℕ → Type 0
MayDiffer same one other = (one ≡ other → ⊥) × (same one other ≡ Some true → ⊥)

-- the file that is written, where one is, is not one that is read, where one is
abbrev pub AreApart : Sameness → Option (List ℕ) → Option (List ℕ) → Type 0
AreApart same into read = IfSome into (λ name. IfSome read (λ other. MayDiffer same name other))

-- one is written and one is read, and they are not known to be two files
abbrev pub Meet : Sameness → Option (List ℕ) → Option (List ℕ) → Type 0
Meet same into read = (name : List ℕ) × (other : List ℕ) × (into ≡ Some name) × (read ≡ Some other) × (same name other ≡ Some false → ⊥)

-- files that are known to be others than this one hold what they held
abbrev pub LeavesOthers : Sameness → List ℕ → Holdings → Holdings → Type 0
LeavesOthers same name before after = (other : List ℕ) → same name other ≡ Some false → after other ≡ before other

-- so do all but the file that is written, where one is
abbrev pub LeavesAllBut : Sameness → Option (List ℕ) → Holdings → Holdings → Type 0
LeavesAllBut same None before after = after ≡ before
LeavesAllBut same (Some name) before after = LeavesOthers same name before after

-- and all but several, which are written one after another
abbrev pub LeavesAll : Sameness → List (List ℕ) → Holdings → Holdings → Type 0
LeavesAll same [] before after = after ≡ before
LeavesAll same (name ∷ names) before after = (between : Holdings) × LeavesOthers same name before between × LeavesAll same names between after

-- a file of this name gets a text and nothing is told, or it is told that it could not be written, and the file holds what it held
pub data Writes (name text : List ℕ) (before after old new : Option (List ℕ)) (status : ℕ) : Type 0 where
  written : status ≡ 0 → IsContents after text → new ≡ old → Writes name text before after old new status
  unwritten : (f : Fault) → IsReadFault name f → Tells (refusal f) old new status → after ≡ before → Writes name text before after old new status
