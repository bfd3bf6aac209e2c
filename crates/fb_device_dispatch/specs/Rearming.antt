-- Armed timers after a dispatch.
use Rattle.std.specs.Prelude.{ℕ, ◌≡◌, ◌==◌, ◌<◌, Bool, true, Option, None, Some, if◌then◌else◌}
use Rattle.fb_chart.specs.declared.standing.Standing.TheVariants as s
use Rattle.fb_chart.specs.declared.memory.Condition.{Condition}
use Rattle.fb_chart.specs.declared.memory.Condition.TheVariants as c
use Rattle.fb_sched.specs.Order.{Timing, due_of}

-- the moment at which what is remembered is due
abbrev pub moment_in : Condition → Option ℕ
moment_in (c.State n) = None
moment_in (c.Service (s.Armed due)) = Some due
moment_in (c.Service (s.Closed stamps)) = None
moment_in (c.Service (s.Ready stamps)) = None
moment_in (c.Service s.Quiet) = None
moment_in (c.Service s.Fired) = None
moment_in (c.Service s.Plain) = None

-- the timer of a block is due when it remembers, and the others as before
abbrev pub IsRearmed : Timing → ℕ → Condition → Timing → Type 0
IsRearmed old block now new = (k : ℕ) → due_of new.armed k ≡ (if block == k then moment_in now else due_of old.armed k)

-- where the block is a timer, it is one of those for which there is room
abbrev pub CanRetime : Bool → Timing → ℕ → Type 0
CanRetime timer old block = timer ≡ true → block < old.room

-- the moment at which each block is due afterwards
abbrev pub HasRetimed : Bool → Timing → ℕ → Condition → Timing → Type 0
HasRetimed timer old block now new = (k : ℕ) → due_of new.armed k ≡ (if timer then (if block == k then moment_in now else due_of old.armed k) else due_of old.armed k)
