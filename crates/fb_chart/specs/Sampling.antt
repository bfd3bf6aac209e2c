-- Stores of leaves, and values that go from one to another.
-- IEC 61499-1 edition 2, 4.5.3 and 5.2.2 (sampling of inputs, issuing of outputs).
use Rattle.std.specs.Prelude.{ℕ, ◌≡◌, pos, true, List, [], ◌∷◌, string_bytes, Option, None, Some, slice_get}
use Rattle.std.specs.Option.{option_map}
use Rattle.std.specs.List.{AllByRecursion}
use Rattle.fb_model.specs.Names.{Name, is_in}
use Rattle.fb_model.specs.Values.{Value, One, Values}
use Rattle.fb_model.specs.BlockTyping.{extent}
use Rattle.fb_model.specs.Wires.{Kind}
use Rattle.fb_model.specs.Store.{variable_names, outputs}
use Rattle.fb_model.specs.Ranges.{variables, length_in}
use Rattle.fb_model.specs.Language.{setting}
use Rattle.st_exec.specs.Forms.{slot_in, slot_count, bounds_in}
use Rattle.st_exec.specs.Cells.{Cell, Form, values_of, forms_of, names_in, shape_in, filled}
use Rattle.fb_chart.specs.declared.table.Source.{Source}
use Rattle.fb_chart.specs.declared.table.Source.TheVariants as s
use Rattle.fb_chart.specs.declared.table.Take.{Take}
use Rattle.fb_chart.specs.declared.table.Give.{Give}
use Rattle.fb_chart.specs.declared.table.Output.{Output}

-- how many elements each variable has, if it is an array
abbrev pub length_among : List Form → Name → Option ℕ
length_among forms x = option_map extent (shape_in forms x)

-- how many slots each variable has
abbrev pub count_among : List Form → Name → ℕ
count_among forms x = slot_count (bounds_in forms x)

-- the working values are those of all variables of a leaf, and the issued ones those of its outputs
pub record AreStores (kind : Kind) (own issued : List Form) : Type 0 where
  pub own_names : (x : Name) → is_in x (names_in own) ≡ is_in x (variable_names (variables kind))
  pub own_lengths : (x : Name) → length_among own x ≡ length_in (variables kind) x
  pub issued_names : (x : Name) → is_in x (names_in issued) ≡ is_in x (variable_names (outputs kind))
  pub issued_lengths : (x : Name) → is_in x (variable_names (outputs kind)) ≡ true → length_among issued x ≡ length_in (variables kind) x

-- ---- sampling

-- a declared variable, with as many elements as the other
pub record IsLike (forms : List Form) (x : Name) (others : List Form) (y : Name) : Type 0 where
  pub declared : is_in y (names_in others) ≡ true
  pub length : length_among forms x ≡ length_among others y

-- an output of a block and its slot, of as many elements as an input; or a constant
abbrev pub IsSource : List (List Cell) → List Form → Name → Source → Type 0
IsSource issued forms x (s.Output block y slot) =
    (cells : List Cell) × (slice_get issued block ≡ Some cells) × IsLike forms x (forms_of cells) (string_bytes y) × (slot ≡ slot_in (forms_of cells) (string_bytes y))
IsSource issued forms x (s.Number n) = Unit {0}

-- the input is there with these slots, and its source
pub record CanTake (issued : List (List Cell)) (forms : List Form) (t : Take) : Type 0 where
  pub declared : is_in (string_bytes t.input) (names_in forms) ≡ true
  pub slot : t.slot ≡ slot_in forms (string_bytes t.input)
  pub count : t.count ≡ count_among forms (string_bytes t.input)
  pub source : IsSource issued forms (string_bytes t.input) t.source

abbrev pub output_in : Option (List Cell) → Name → Value
output_in None y = One (pos 0)
output_in (Some cells) y = values_of cells y

-- what a source gives to a variable
abbrev pub given_to : List (List Cell) → List Form → Name → Source → Value
given_to issued forms x (s.Output block y slot) = output_in (slice_get issued block) (string_bytes y)
given_to issued forms x (s.Number n) = filled (shape_in forms x) n

-- values after these inputs took theirs, one after another
abbrev pub sampled_by : List (List Cell) → List Form → List Take → Values → Values
sampled_by issued forms [] values = values
sampled_by issued forms (t ∷ ts) values = sampled_by issued forms ts (setting values (string_bytes t.input) (given_to issued forms (string_bytes t.input) t.source))

-- ---- issuing

-- the slots of an output in both stores
pub record IsPlacedGive (own issued : List Form) (g : Give) : Type 0 where
  pub own_slot : g.own ≡ slot_in own (string_bytes g.output)
  pub issued_slot : g.issued ≡ slot_in issued (string_bytes g.output)
  pub count : g.count ≡ count_among own (string_bytes g.output)

-- a variable of both stores, of as many elements, with these slots
pub record CanGive (own issued : List Form) (g : Give) : Type 0 where
  pub declared : is_in (string_bytes g.output) (names_in own) ≡ true
  pub like : IsLike own (string_bytes g.output) issued (string_bytes g.output)
  pub placed : IsPlacedGive own issued g

-- all that an event output is WITH
abbrev pub CanGiveAll : List Form → List Form → Output → Type 0
CanGiveAll own issued o = AllByRecursion (CanGive own issued) o.gives.items
