-- The values of all leaves of a device to which nothing has happened.
-- IEC 61499-1 edition 2, 5.2.2 (initialization), this project's profile.
use Rattle.std.specs.Prelude.{◌≡◌, List, [], ◌∷◌}
use Rattle.fb_model.specs.Wires.{Leaf}
use Rattle.fb_model.specs.Store.{first_cells}
use Rattle.st_exec.specs.Cells.{Cell, values_of, forms_of}
use Rattle.fb_chart.specs.Sampling.{AreStores}

-- the stores of a leaf, with its first values
pub record HasFirstCells (leaf : Leaf) (working given : List Cell) : Type 0 where
  pub stores : AreStores leaf.kind (forms_of working) (forms_of given)
  pub own : values_of working ≡ (first_cells leaf).own
  pub issued : values_of given ≡ (first_cells leaf).issued

-- the same of many, one by one
abbrev pub HaveFirstCells : List Leaf → List (List Cell) → List (List Cell) → Type 0
HaveFirstCells [] [] [] = Unit {0}
HaveFirstCells (leaf ∷ leaves) (own ∷ owns) (issued ∷ rest) = HasFirstCells leaf own issued × HaveFirstCells leaves owns rest
HaveFirstCells leaves owns rest = ⊥
