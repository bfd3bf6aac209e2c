-- The numbers of refusals: this project's profile.
use Rattle.std.specs.Prelude.{ℕ}
use Rattle.fb_faults.specs.declared.shallow.Shallow.{Shallow}
use Rattle.fb_faults.specs.declared.shallow.Shallow.TheVariants.{OutOfMemory, Depth}

abbrev pub code_of : Shallow → ℕ
code_of OutOfMemory = 9
code_of (Depth path) = 40
