-- The numbers of refusals: this project's profile.
use Rattle.std.specs.Prelude.{ℕ}
use Rattle.fb_faults.specs.declared.unclear.Unclear.{Unclear}
use Rattle.fb_faults.specs.declared.unclear.Unclear.TheVariants.{OutOfMemory, Start, Link, Kept, IndexOrDivisor}

abbrev pub code_of : Unclear → ℕ
code_of OutOfMemory = 9
code_of (Start path) = 34
code_of (Link path) = 35
code_of (Kept path) = 36
code_of (IndexOrDivisor path) = 37
