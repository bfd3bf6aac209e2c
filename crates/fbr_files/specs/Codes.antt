-- The numbers of refusals: this project's profile.
use Rattle.std.specs.Prelude.{ℕ}
use Rattle.fbr_files.specs.declared.sources.ReadFault.{ReadFault}
use Rattle.fbr_files.specs.declared.sources.ReadFault.TheVariants.{Memory, Unreadable}

abbrev pub code_of : ReadFault → ℕ
code_of Memory = 9
code_of Unreadable = 61
