-- What the refusals of rows say.
use Rattle.std.specs.Prelude.{◌≡◌, List, true, false, string_bytes}
use Rattle.fb_model.specs.Names.{Name, is_in}
use Rattle.fb_model.specs.System.{System}
use Rattle.fb_model.specs.Certificates.{Certificate, PlaceRows, required, given, AreDifferent}
use Rattle.fb_faults.specs.declared.row.RowFault.{RowFault}
use Rattle.fb_faults.specs.declared.row.RowFault.TheVariants.{OutOfMemory, Unknown, Missing, UnknownChannel, MissingChannel}
use Rattle.fb_model.specs.Misfits.{IsMissing, IsMissingChannel, IsUnknown, IsUnknownChannel}

-- what a refusal says is so
abbrev pub IsRowFault : System → Certificate → RowFault → Type 0
IsRowFault s cert OutOfMemory = Unit {0}
IsRowFault s cert (Unknown path) = IsUnknown s cert (string_bytes path)
IsRowFault s cert (Missing path) = IsMissing s cert (string_bytes path)
IsRowFault s cert (UnknownChannel c) = IsUnknownChannel s cert c
IsRowFault s cert (MissingChannel c) = IsMissingChannel s cert c

-- no two rows of the certificate that are of one kind have one place
pub record HasNoRowTwice (cert : Certificate) : Type 0 where
  pub once : (kind : PlaceRows) → AreDifferent (given kind cert)

-- ---- by texts alone

-- want of memory
abbrev pub IsMemory : RowFault → Type 0
IsMemory OutOfMemory = Unit {0}
IsMemory other = ⊥

-- a name is in one list and not in the other
abbrev pub IsDifference : List Name → List Name → RowFault → Type 0
IsDifference required rows OutOfMemory = Unit {0}
IsDifference required rows (Unknown path) = (is_in (string_bytes path) rows ≡ true) × (is_in (string_bytes path) required ≡ false)
IsDifference required rows (Missing path) = (is_in (string_bytes path) rows ≡ false) × (is_in (string_bytes path) required ≡ true)
IsDifference required rows (UnknownChannel c) = ⊥
IsDifference required rows (MissingChannel c) = ⊥
