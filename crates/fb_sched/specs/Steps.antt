-- The steps so far of each cause: in its slot, and in rows by cause, as a session tells them.
use Rattle.std.specs.Prelude.{ℕ, ◌+◌, ◌==◌, List, [], ◌∷◌, Option, Some, None, if◌then◌else◌}
use Rattle.fb_sched.specs.declared.reaction.Reaction.{Reaction}
use Rattle.fb_sched.specs.Agenda.{Agenda}

-- the open reactions, by rising slot
abbrev pub rows : List (Option Reaction) → List Reaction
rows [] = []
rows (None ∷ slots) = rows slots
rows (Some r ∷ slots) = r ∷ rows slots

-- the steps so far of a cause: those of its first row, and 0 where it has none
abbrev pub steps_by_row : List Reaction → ℕ → ℕ
steps_by_row [] cause = 0
steps_by_row (r ∷ rest) cause = if r.cause == cause then r.steps else steps_by_row rest cause

-- the steps so far of each cause
abbrev pub spent : Agenda → ℕ → ℕ
spent a = steps_by_row (rows a.slots)

-- the steps that a cause has once these are added: those of a cause that ends are forgotten
abbrev pub steps_left : Reaction → ℕ → ℕ
steps_left r steps = if r.pending == 0 then 0 else r.steps + steps
