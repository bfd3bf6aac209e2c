-- What the code tells of what is found.
use Rattle.std.specs.Prelude.{ℕ, ◌+◌, ◌*◌, max, Bool, true, false, if◌then◌else◌}
use Rattle.fb_model.specs.Clear.{Found, Clear, Leaves, Traps}
use Rattle.fb_ranges.specs.declared.told.Told.{Told}
use Rattle.fb_ranges.specs.declared.told.Told.TheVariants as t
use Rattle.fb_ranges.specs.Steps.{counted}

-- the steps as they are told apart, or the fault
abbrev pub tell : Found → Told
tell (Clear spans n) = t.Steps (counted n)
tell Leaves = t.Leaves
tell Traps = t.Traps

-- of one thing after another: the first fault, or the steps of both
abbrev pub in_sequence : Told → Told → Told
in_sequence (t.Steps n) (t.Steps m) = t.Steps (counted (n + m))
in_sequence (t.Steps n) next = next
in_sequence t.Leaves next = t.Leaves
in_sequence t.Traps next = t.Traps

-- of one way or another: the first fault, or the steps of the longer
abbrev pub longer : Told → Told → Told
longer (t.Steps n) (t.Steps m) = t.Steps (max n m)
longer (t.Steps n) other = other
longer t.Leaves other = t.Leaves
longer t.Traps other = t.Traps

-- behind an expression, which is clear or not
abbrev pub trapping : Bool → Told → Told
trapping true told = told
trapping false told = t.Traps

-- before a test whether variables keep their rows
abbrev pub keeping : Bool → Told → Told
keeping kept (t.Steps n) = if kept then t.Steps n else t.Leaves
keeping kept t.Leaves = t.Leaves
keeping kept t.Traps = t.Traps

-- of n iterations, by whether variables keep their rows before them, and by what is told of one iteration
abbrev pub iterated : ℕ → Bool → Told → Told
iterated n true (t.Steps m) = t.Steps (counted (1 + n * (1 + m)))
iterated n true t.Leaves = t.Leaves
iterated n true t.Traps = t.Traps
iterated n false told = t.Leaves
