-- What came of reading a file: this project's profile.
use Rattle.std.specs.Prelude.{◌≡◌, ℕ, List, Option, None, Some, string_bytes}
use Rattle.fbr_files.specs.declared.reading.Held.{Held}
use Rattle.fbr_files.specs.declared.reading.Held.TheVariants.{Text, NoText, Unread, Memory}
use Rattle.fbr_files.specs.declared.reading.FileText.{FileText}
use Rattle.fbr_files.specs.Outcomes.{IsContents}

-- its text is what the file holds, where that is known
abbrev pub IsRead : Option (List ℕ) → Held → Type 0
IsRead held (Text text) = IsContents held (string_bytes text)
IsRead held (NoText bytes) = Unit {0}
IsRead held Unread = Unit {0}
IsRead held Memory = Unit {0}

-- what counts as held by the file of an application: the text that is meant by it, where there is one
abbrev pub held_by : Option (List ℕ) → Option (List ℕ) → Option (List ℕ)
held_by None held = held
held_by (Some text) held = Some text

-- a file of this name was read, which held this
pub record IsFile (name : List ℕ) (held : Option (List ℕ)) (file : FileText) : Type 0 where
  pub named : file.name.now ≡ name
  pub read : IsRead held file.held
