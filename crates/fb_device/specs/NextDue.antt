-- When a device has something to do by itself. This project's profile of IEC 61499-1 edition 2, annex A (E_DELAY and E_CYCLE).
use Rattle.std.specs.Prelude.{◌≡◌, ℕ, List, [], ◌∷◌, Option, None, Some}
use Rattle.fb_model.specs.Wires.{Leaf}
use Rattle.fb_model.specs.Store.{Store}
use Rattle.fb_model.specs.Devices.{due, due_timers}

-- the latest moment of a clock of 64 bits, at which all timers that are armed are due
abbrev pub last_moment : ℕ
last_moment = 18446744073709551615

-- of the timers that are armed, in the order in which they expire, the first one is due at this moment; or none is armed
abbrev pub IsNextDue : Store → List Leaf → Option ℕ → Type 0
IsNextDue store all None = due_timers store last_moment all ≡ []
IsNextDue store all (Some moment) = (first : Leaf) × (rest : List Leaf) × (due_timers store last_moment all ≡ first ∷ rest) × (due (store first.path).condition ≡ Some moment)
