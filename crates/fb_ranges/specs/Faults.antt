-- The numbers of refusals, and how they are printed: this project's profile.
use Rattle.std.specs.Prelude.{ℕ, List, codes}
use Rattle.fb_ranges.specs.declared.fault.RangeFault.{RangeFault}
use Rattle.fb_ranges.specs.declared.fault.RangeFault.TheVariants.{Leaves, Traps, OutOfMemory}

abbrev pub code_of : RangeFault → ℕ
code_of Leaves = 36
code_of Traps = 37
code_of OutOfMemory = 9

-- the code
abbrev pub line_of : RangeFault → List ℕ
line_of Leaves = codes "36"
line_of Traps = codes "37"
line_of OutOfMemory = codes "9"
