-- How variables are declared, and where their numbers lie: one after another, in the order of the declarations.
-- IEC 61131-3 edition 3, 6.4.4 (arrays): the elements of an array lie in a row, from the lowest index to the highest.
use Rattle.std.specs.Prelude.{ℕ, ℤ, ◌+◌, ◌≡◌, true, List, [], ◌∷◌, map, Option, None, Some, if◌then◌else◌}
use Rattle.std.specs.Str.{bytes_eq}
use Rattle.fb_model.specs.Names.{Name, is_in}
use Rattle.fb_model.specs.BlockTyping.{extent}

-- a name, and bounds where it is an array
abbrev pub Form : Type 0
Form = Name × Option (ℤ × ℤ)

-- how many slots a variable has
abbrev pub slot_count : Option (ℤ × ℤ) → ℕ
slot_count None = 1
slot_count (Some b) = extent b

-- how many slots all of them have
abbrev pub size_of : List Form → ℕ
size_of [] = 0
size_of (f ∷ fs) = slot_count f.1 + size_of fs

-- the first slot of a variable; behind all slots where it is not declared
abbrev pub slot_in : List Form → Name → ℕ
slot_in [] x = 0
slot_in (f ∷ fs) x = if bytes_eq x f.0 then 0 else slot_count f.1 + slot_in fs x

abbrev pub names_in : List Form → List Name
names_in fs = map (λ f. f.0) fs

-- the bounds of each variable that is an array
abbrev pub bounds_in : List Form → Name → Option (ℤ × ℤ)
bounds_in [] x = None
bounds_in (f ∷ fs) x = if bytes_eq x f.0 then f.1 else bounds_in fs x

-- the slot of a variable that is one number; behind all slots where it is an array or not declared
abbrev pub plain_slot : List Form → Name → ℕ
plain_slot fs x = elim (bounds_in fs x) [ None ↦ slot_in fs x | Some b ↦ size_of fs ]

abbrev pub IsDeclaredIn : List Form → Name → Type 0
IsDeclaredIn fs x = is_in x (names_in fs) ≡ true
