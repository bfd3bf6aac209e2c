-- Armed timers in the order in which they expire: by due moment, then in the order of their blocks, which is that of resources first.
-- This project's profile of IEC 61499-1 edition 2, annex A (E_DELAY and E_CYCLE).
use Rattle.std.specs.Prelude.{ℕ, suc, ◌≡◌, ◌==◌, nat_lt, nat_le, Bool, true, ◌&&◌, ◌||◌, List, [], ◌∷◌, Option, None, Some, if◌then◌else◌, slice_index_or}
use Rattle.std.specs.List.{AllByRecursion}
use Rattle.fb_sched.specs.declared.armed.Armed.{Armed}

-- a timer comes before another
abbrev pub is_ahead : Armed → Armed → Bool
is_ahead a b = nat_lt a.due b.due || ((a.due == b.due) && nat_lt a.block b.block)

-- each comes before those behind it
abbrev pub IsOrdered : List Armed → Type 0
IsOrdered [] = Unit {0}
IsOrdered (a ∷ as') = AllByRecursion (λ (b : Armed). is_ahead a b ≡ true) as' × IsOrdered as'

-- the moment at which the timer of a block is due, where it is armed
abbrev pub due_of : List Armed → ℕ → Option ℕ
due_of [] block = None
due_of (a ∷ as') block = if a.block == block then Some a.due else due_of as' block

-- each block has one timer at most
abbrev pub AreApart : List Armed → Type 0
AreApart [] = Unit {0}
AreApart (a ∷ as') = (due_of as' a.block ≡ None) × AreApart as'

-- how many timers of an order stand before one
abbrev pub position : Armed → List Armed → ℕ
position x [] = 0
position x (a ∷ as') = if is_ahead a x then suc (position x as') else 0

-- a timer in its position among others
abbrev pub placed : Armed → List Armed → List Armed
placed x [] = x ∷ []
placed x (a ∷ as') = if is_ahead x a then x ∷ a ∷ as' else a ∷ placed x as'

-- without the timer of a block
abbrev pub without : List Armed → ℕ → List Armed
without [] block = []
without (a ∷ as') block = if a.block == block then as' else a ∷ without as' block

-- those that are due at a moment, which stand first
abbrev pub due_at : ℕ → List Armed → List Armed
due_at clock [] = []
due_at clock (a ∷ as') = if nat_le a.due clock then a ∷ due_at clock as' else []

-- a timer, where it is due at a moment
abbrev pub if_due : ℕ → Option Armed → Option Armed
if_due clock None = None
if_due clock (Some a) = if nat_le a.due clock then Some a else None

-- under the number of each block stands the moment at which its timer is due, and behind these no block has one
abbrev pub AreTold : List (Option ℕ) → List Armed → Type 0
AreTold moments armed = (k : ℕ) → slice_index_or moments k None ≡ due_of armed k

-- what contracts see of timers, with room for those of so many blocks
pub record Timing : Type 0 where
  pub armed : List Armed
  pub room : ℕ
