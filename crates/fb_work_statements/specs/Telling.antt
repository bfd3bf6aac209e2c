-- What is told of an examination.
use Rattle.std.specs.Prelude.{Bool, true, false}
use Rattle.fb_ranges.specs.declared.told.Told.{Told}
use Rattle.fb_ranges.specs.declared.told.Told.TheVariants as t

-- whether it found no fault
abbrev pub has_steps : Told → Bool
has_steps (t.Steps n) = true
has_steps t.Leaves = false
has_steps t.Traps = false
