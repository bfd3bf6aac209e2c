-- How a layout keeps where the numbers of variables are.
use Rattle.std.specs.Prelude.{ℕ, ◌+◌, ◌≡◌, List, [], ◌∷◌, map, string_bytes, Option, None, Some, if◌then◌else◌}
use Rattle.std.specs.declared.string.String.{String}
use Rattle.std.specs.declared.alloc.Global.{Global}
use Rattle.std.specs.Str.{bytes_eq}
use Rattle.fb_model.specs.Names.{Name}
use Rattle.st_exec.specs.declared.location.Location.{Location}
use Rattle.st_exec.specs.Forms.{Form, slot_count}

-- names with their locations, in the order in which they were declared
abbrev pub Table : Type 0
Table = List (String Global × Location)

-- the location of a name
abbrev pub found : Table → Name → Option Location
found [] x = None
found (e ∷ es) x = if bytes_eq x (string_bytes e.0) then Some e.1 else found es x

abbrev pub form_in : String Global × Location → Form
form_in e = (string_bytes e.0, e.1.bounds)

abbrev pub forms_in : Table → List Form
forms_in table = map form_in table

-- from a slot on, the slots of the variables lie one after another, up to the end
abbrev pub IsLaid : ℕ → Table → ℕ → Type 0
IsLaid from [] end = from ≡ end
IsLaid from (e ∷ es) end = (e.1.first ≡ from) × IsLaid (from + slot_count e.1.bounds) es end
