-- The numbers of refusals: this project's profile.
use Rattle.std.specs.Prelude.{ℕ}
use Rattle.fb_faults.specs.declared.shortfall.Shortfall.{Shortfall}
use Rattle.fb_faults.specs.declared.shortfall.Shortfall.TheVariants.{OutOfMemory, Charge, Weight, Channel}

abbrev pub code_of : Shortfall → ℕ
code_of OutOfMemory = 9
code_of (Charge path) = 38
code_of (Weight path) = 39
code_of (Channel number) = 42
