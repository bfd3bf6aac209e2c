-- The rows of all devices in one list, in which look-ups go by the paths of leaves.
use Rattle.std.specs.Prelude.{◌≡◌, List}
use Rattle.std.specs.List.{AllByRecursion}
use Rattle.fb_model.specs.Names.{Name}
use Rattle.fb_model.specs.System.{Variable, Device}
use Rattle.fb_model.specs.Wires.{Leaf, leaves}
use Rattle.fb_model.specs.Ranges.{Range, row_of, rows}
use Rattle.fb_model.specs.FinderRanges.{IsLast}

-- a leaf finds the same row in two lists, for each of its variables and by each name
pub record FindsAlike (ranges own : List Range) (leaf : Leaf) : Type 0 where
  pub of_variables : (v : Variable) → row_of ranges leaf.path leaf.kind v ≡ row_of own leaf.path leaf.kind v
  pub of_names : (x : Name) → rows ranges leaf.path leaf.kind x ≡ rows own leaf.path leaf.kind x

-- the leaves of a device find in a list the rows that the device has after its last round
pub record FindsItsLast (ranges : List Range) (device : Device) : Type 0 where
  pub own : List Range
  pub last : IsLast (leaves device) own
  pub alike : AllByRecursion (FindsAlike ranges own) (leaves device)
