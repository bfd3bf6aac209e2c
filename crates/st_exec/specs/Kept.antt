-- How a store keeps its values: the numbers of its variables in a row, in the order of its layout.
use Rattle.std.specs.Prelude.{ℕ, ℤ, pos, List, [], ◌∷◌, map, drop}
use Rattle.fb_model.specs.Names.{Name}
use Rattle.st_exec.specs.Forms.{Form, slot_count, size_of, slot_in, bounds_in, plain_slot}
use Rattle.st_exec.specs.Cells.{Cell, forms_of, declared}
use Rattle.st_exec.specs.Slots.{formed}

-- the variables of a layout, whose numbers these are
abbrev pub cells_at : List Form → List ℤ → List Cell
cells_at [] numbers = []
cells_at (f ∷ fs) numbers = record { name = f.0; bounds = f.1; value = formed f.1 numbers } ∷ cells_at fs (drop (slot_count f.1) numbers)

-- all numbers are 0
abbrev pub zeros_in : List Form → List Cell
zeros_in fs = map (λ f. declared f.0 f.1 (pos 0)) fs

-- ---- slots of a store

-- the first slot of a variable; behind all slots where it is not declared
abbrev pub slot_of : List Cell → Name → ℕ
slot_of cells x = slot_in (forms_of cells) x

-- the slot of a variable that is one number; behind all slots where it is an array or not declared
abbrev pub plain_slot_of : List Cell → Name → ℕ
plain_slot_of cells x = plain_slot (forms_of cells) x

-- how many slots a variable has
abbrev pub count_of : List Cell → Name → ℕ
count_of cells x = slot_count (bounds_in (forms_of cells) x)

-- how many slots there are
abbrev pub room_of : List Cell → ℕ
room_of cells = size_of (forms_of cells)
