-- What is asked of an algorithm that runs over a store.
use Rattle.std.specs.Prelude.{ℕ, ◌≤◌, ◌≡◌, true, List}
use Rattle.std.specs.Option.{option_map}
use Rattle.fb_model.specs.Names.{Name, is_in}
use Rattle.fb_model.specs.TypedText.{Command}
use Rattle.fb_model.specs.Language.{Algorithm, Outcome, Done, Trap}
use Rattle.fb_model.specs.BlockTyping.{extent}
use Rattle.fb_model.specs.Shapes.{Shape, CommandFits, AlgorithmFits, written_one, written}
use Rattle.st_exec.specs.Cells.{Form, shape_in, names_in}

-- the run is done within n steps
abbrev pub EndsWithin : ℕ → Outcome → Type 0
EndsWithin n (Done after m) = m ≤ n
EndsWithin n Trap = ⊥

-- each of these names is among the others
abbrev pub AreAmong : List Name → List Name → Type 0
AreAmong names others = (x : Name) → is_in x names ≡ true → is_in x others ≡ true

-- a shape with as many elements for each variable as it is declared with
abbrev pub IsAlike : List Form → Shape → Type 0
IsAlike forms shape = (x : Name) → option_map extent (shape x) ≡ option_map extent (shape_in forms x)

-- an algorithm reads and writes variables by such a shape, and those that it writes are declared
abbrev pub Supports : List Form → Algorithm → Type 0
Supports forms a = (shape : Shape) × IsAlike forms shape × AlgorithmFits shape a × AreAmong (written a) (names_in forms)

-- the same of one statement
abbrev pub SupportsOne : List Form → Command → Type 0
SupportsOne forms c = (shape : Shape) × IsAlike forms shape × CommandFits shape c × AreAmong (written_one c) (names_in forms)
