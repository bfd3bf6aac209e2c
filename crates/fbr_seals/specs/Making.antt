-- What `fbr key` tells: this project's profile.
use Rattle.std.specs.Prelude.{◌≡◌, ◌⊎◌, ℕ, ◌∷◌, [], ◌++◌, List, length, Option}
use Rattle.std.specs.Io.KnownBytes.{Appends}
use Rattle.hex.specs.Hex.{encode_lower}
use Rattle.fbr_files.specs.declared.fault.Fault.{Fault}
use Rattle.fbr_files.specs.Outcomes.{Tells, refusal}

-- a key as 64 digits, and nothing else; or a refusal. Which key it is the system's random source decides, of which nothing is said.
abbrev pub TellsKey : Option (List ℕ) → Option (List ℕ) → ℕ → Type 0
TellsKey old new status =
    ((status ≡ 0) × (key : List ℕ) × (length key ≡ 32) × Appends old new (encode_lower key ++ 10 ∷ [])) ⊎ ((f : Fault) × Tells (refusal f) old new status)
