-- What the code's answers are in the words of the definitions.
use Rattle.std.specs.Prelude.{◌≡◌, ℕ, nat_le, if◌then◌else◌, Option, None, Some, IsSome, Result, Ok, Err}
use Rattle.fb_ranges.specs.declared.fault.RangeFault.{RangeFault}
use Rattle.fb_ranges.specs.declared.fault.RangeFault.TheVariants as f
use Rattle.fb_model.specs.Spans.{Span}
use Rattle.fb_model.specs.Clear.{Spans, Found, Clear, Leaves, Traps}

-- what was found is clear
abbrev pub IsClear : Found → Type 0
IsClear found = (end : Spans) × (n : ℕ) × (found ≡ Clear end n)

-- an algorithm is clear exactly where that is found
abbrev pub IsExamined : {X : Type 0} → Result X RangeFault → Found → Type 0
IsExamined (Ok x) found = IsClear found
IsExamined (Err f.Leaves) found = found ≡ Leaves
IsExamined (Err f.Traps) found = found ≡ Traps
IsExamined (Err f.OutOfMemory) found = Unit {0}

-- so it is, unless memory runs out
abbrev pub UnlessMemory : {X : Type 0} → Result X RangeFault → Type 0 → Type 0
UnlessMemory (Ok x) Holds = Holds
UnlessMemory (Err f.Leaves) Holds = Holds
UnlessMemory (Err f.Traps) Holds = Holds
UnlessMemory (Err f.OutOfMemory) Holds = Unit {0}

-- the most steps, where what was found is clear and they are no more than 1,000,000,000,000
abbrev pub most_steps : Found → Option ℕ
most_steps (Clear end n) = if nat_le n 1000000000000 then Some n else None
most_steps Leaves = None
most_steps Traps = None

-- a guard is clear exactly where it has a range
abbrev pub IsGuard : {X : Type 0} → Result X RangeFault → Option Span → Type 0
IsGuard (Ok x) range = IsSome range
IsGuard (Err f.Traps) range = range ≡ None
IsGuard (Err f.Leaves) range = ⊥
IsGuard (Err f.OutOfMemory) range = ⊥
