-- Stores while they are filled: the variables of a leaf of the tables, with what each has at first.
use Rattle.std.specs.Prelude.{ℕ, ℤ, ◌≤◌, pos, List, [], ◌∷◌, ◌++◌, map, flat_map, length, string_bytes, Option, None, Some}
use Rattle.std.specs.Str.{bytes_eq}
use Rattle.std.specs.declared.string.String.{String}
use Rattle.std.specs.declared.alloc.Global.{Global}
use Rattle.std.specs.Map.{lookup}
use Rattle.indexmap.specs.IndexMap.{IndexMap}
use Rattle.fb_model.specs.Names.{Name}
use Rattle.fb_model.specs.Values.{Value, One, Many}
use Rattle.fb_model.specs.System as book
use Rattle.fb_model.specs.System.{start_of}
use Rattle.fb_model.specs.Services.{service_outputs}
use Rattle.fb_model.specs.BlockTyping.{Declared, variable_of}
use Rattle.fb_model.specs.Store.{variable_names, first_input}
use Rattle.st_exec.specs.Cells.{Cell, declared}
use Rattle.fb_types_blocks.specs.declared.typed.Variable.{Variable}
use Rattle.fb_types_blocks.specs.Views.{declared_of, declared_in}
use Rattle.fb_types_services.specs.Views as services
use Rattle.fb_types_services.specs.Views.{service_of}
use Rattle.fb_flat.specs.declared.flat.Body.{Body}
use Rattle.fb_flat.specs.declared.flat.Body.TheVariants as b
use Rattle.fb_flat.specs.declared.flat.Input.{Input}
use Rattle.fb_flat.specs.declared.flat.Leaf.{Leaf}
use Rattle.fb_flat.specs.declared.flat.FlatResource.{FlatResource}
use Rattle.fb_flat.specs.Tables.{book_source}
use Rattle.fb_device_values.specs.Drafts.{Holds}

-- ---- one variable

-- the first of some numbers, 0 where there is none
abbrev pub first_number : List ℤ → ℤ
first_number [] = pos 0
first_number (n ∷ ns) = n

-- the number of a value all of whose elements are the same
abbrev pub number_in : Value → ℤ
number_in (One n) = n
number_in (Many ns) = first_number ns

-- a variable with its start value
abbrev pub variable_cell : Declared → Cell
variable_cell d = declared d.name d.bounds (number_in (start_of (variable_of d)))

-- a port of a service, which has no start value
abbrev pub port_cell : Name → Cell
port_cell x = declared x None (pos 0)

-- the input of a name, where it is declared
abbrev pub input_declared : Body → Name → Option Variable
input_declared (b.Basic block) x = lookup (λ y. bytes_eq x (string_bytes y)) block.value.face.inputs.entries
input_declared (b.Served service) x = None

abbrev pub bounds_if : Option Variable → Option (ℤ × ℤ)
bounds_if None = None
bounds_if (Some v) = v.bounds

abbrev pub start_if : Option Variable → Value
start_if None = One (pos 0)
start_if (Some v) = start_of (variable_of (declared_of [] v))

-- an input with the constant of its source, else with its start value
abbrev pub input_cell : Body → Input → Cell
input_cell body i =
    let v = input_declared body (string_bytes i.name) in
    declared (string_bytes i.name) (bounds_if v) (number_in (first_input (book_source i.source) (start_if v)))

-- ---- one leaf

abbrev pub variable_cells : {S : Type 0} → IndexMap (String Global) Variable S → List Cell
variable_cells m = map variable_cell (declared_in m)

abbrev pub port_cells : List book.Variable → List Cell
port_cells vs = map port_cell (variable_names vs)

abbrev pub input_cells : Leaf → List Cell
input_cells l = map (input_cell l.body) l.inputs.items

abbrev pub output_cells : Body → List Cell
output_cells (b.Basic block) = variable_cells block.value.face.outputs
output_cells (b.Served service) = port_cells (service_outputs (service_of service))

abbrev pub internal_cells : Body → List Cell
internal_cells (b.Basic block) = variable_cells block.value.internals
internal_cells (b.Served service) = []

-- all variables of a leaf
abbrev pub own_cells : Leaf → List Cell
own_cells l = input_cells l ++ (output_cells l.body ++ internal_cells l.body)

-- ports are numbered with two digits
abbrev pub most_ports : ℕ
most_ports = 99

abbrev pub IsSmall : Body → Type 0
IsSmall (b.Basic block) = Unit {0}
IsSmall (b.Served service) = length (services.values_of (service_of service)) ≤ most_ports

-- the stores of a leaf, if its ports are few
pub record IsFilled (l : Leaf) (working given : List Cell) : Type 0 where
  pub own : IsSmall l.body → Holds working (own_cells l)
  pub issued : IsSmall l.body → Holds given (output_cells l.body)

-- ---- many leaves

-- the same of many, one by one
abbrev pub AreFilled : List Leaf → List (List Cell) → List (List Cell) → Type 0
AreFilled [] [] [] = Unit {0}
AreFilled (l ∷ ls) (own ∷ owns) (issued ∷ rest) = IsFilled l own issued × AreFilled ls owns rest
AreFilled ls owns rest = ⊥

-- all leaves of some resources, in order
abbrev pub leaves_in : List FlatResource → List Leaf
leaves_in rs = flat_map (λ (r : FlatResource). r.leaves.items) rs
