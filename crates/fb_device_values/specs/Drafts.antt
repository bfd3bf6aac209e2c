-- Variables that a store is to have, and the store that has them.
use Rattle.std.specs.Prelude.{ℤ, pos, ◌≡◌, List, [], ◌∷◌, map, string_bytes, if◌then◌else◌}
use Rattle.std.specs.Str.{bytes_eq}
use Rattle.fb_model.specs.Names.{Name, is_in}
use Rattle.st_exec.specs.Cells.{Cell, Form, values_of, names_of, names_in, shape_of, shape_in, filled, declared}
use Rattle.fb_device_values.specs.declared.draft.Draft.{Draft}

-- a store holds these variables, of each name the first
pub record Holds (store cells : List Cell) : Type 0 where
  pub names : (x : Name) → is_in x (names_of store) ≡ is_in x (names_of cells)
  pub shapes : (x : Name) → shape_of store x ≡ shape_of cells x
  pub values : (x : Name) → values_of store x ≡ values_of cells x

-- a layout is of these variables, of each name the first
pub record IsLaidOut (layout forms : List Form) : Type 0 where
  pub names : (x : Name) → is_in x (names_in layout) ≡ is_in x (names_in forms)
  pub shapes : (x : Name) → shape_in layout x ≡ shape_in forms x

abbrev pub form_in : Draft → Form
form_in d = (string_bytes d.name, d.bounds)

abbrev pub forms_in : List Draft → List Form
forms_in ds = map form_in ds

abbrev pub cell_in : Draft → Cell
cell_in d = declared (string_bytes d.name) d.bounds d.number

abbrev pub cells_in : List Draft → List Cell
cells_in ds = map cell_in ds

-- the number of the first of a name, 0 where there is none
abbrev pub number_at : List Draft → Name → ℤ
number_at [] x = pos 0
number_at (d ∷ ds) x = if bytes_eq x (string_bytes d.name) then d.number else number_at ds x

-- each variable has the number of the first of its name
abbrev pub IsSetFrom : List Cell → List Draft → Type 0
IsSetFrom store ds = (x : Name) → values_of store x ≡ filled (shape_of store x) (number_at ds x)
