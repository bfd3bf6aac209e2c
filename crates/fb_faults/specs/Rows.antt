-- The numbers of refusals: this project's profile.
use Rattle.std.specs.Prelude.{ℕ}
use Rattle.fb_faults.specs.declared.row.RowFault.{RowFault}
use Rattle.fb_faults.specs.declared.row.RowFault.TheVariants.{OutOfMemory, Unknown, Missing, UnknownChannel, MissingChannel}

abbrev pub code_of : RowFault → ℕ
code_of OutOfMemory = 9
code_of (Unknown path) = 32
code_of (Missing path) = 33
code_of (UnknownChannel channel) = 32
code_of (MissingChannel channel) = 33
