-- What contracts see of a store: its variables in the order in which they were declared, each with its bounds and its value.
use Rattle.std.specs.Prelude.{ℕ, ℤ, pos, true, ◌≡◌, List, [], ◌∷◌, map, replicate, Option, None, Some, if◌then◌else◌}
use Rattle.std.specs.Option.{option_map}
use Rattle.std.specs.Str.{bytes_eq}
use Rattle.fb_model.specs.Names.{Name, is_in}
use Rattle.fb_model.specs.Values.{Value, One, Many, Values}
use Rattle.fb_model.specs.BlockTyping.{extent}
use Rattle.fb_model.specs.Shapes.{Shape}

-- a variable, with its lowest and its highest index where it is an array
pub record Cell : Type 0 where
  pub name : Name
  pub bounds : Option (ℤ × ℤ)
  pub value : Value

-- the values of all names; a name that is not declared has 0
abbrev pub values_of : List Cell → Values
values_of [] x = One (pos 0)
values_of (c ∷ cs) x = if bytes_eq x c.name then c.value else values_of cs x

-- ---- how variables are declared

-- a name, and bounds where it is an array
abbrev pub Form : Type 0
Form = Name × Option (ℤ × ℤ)

abbrev pub forms_of : List Cell → List Form
forms_of cs = map (λ c. (c.name, c.bounds)) cs

abbrev pub names_in : List Form → List Name
names_in fs = map (λ f. f.0) fs

abbrev pub shape_in : List Form → Shape
shape_in [] x = None
shape_in (f ∷ fs) x = if bytes_eq x f.0 then f.1 else shape_in fs x

-- the bounds of each variable that is an array
abbrev pub shape_of : List Cell → Shape
shape_of cs = shape_in (forms_of cs)

-- the declared names
abbrev pub names_of : List Cell → List Name
names_of cs = names_in (forms_of cs)

abbrev pub IsDeclared : List Cell → Name → Type 0
IsDeclared cs x = is_in x (names_of cs) ≡ true

-- how many elements each variable that is an array has
abbrev pub length_of : List Cell → Name → Option ℕ
length_of cs x = option_map extent (shape_of cs x)

-- a number, or as many times that number as the bounds say
abbrev pub filled : Option (ℤ × ℤ) → ℤ → Value
filled None v = One v
filled (Some b) v = Many (replicate (extent b) v)

-- a variable as it is when it was just declared
abbrev pub declared : Name → Option (ℤ × ℤ) → ℤ → Cell
declared x bounds v = record { name = x; bounds = bounds; value = filled bounds v }
