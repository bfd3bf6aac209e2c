-- What the ranges that are found are in the book's terms.
use Rattle.std.specs.Prelude.{List, [], ◌∷◌, ◌++◌}
use Rattle.std.specs.List.{AllZip}
use Rattle.fb_model.specs.Wires.{Leaf}
use Rattle.fb_model.specs.Clear.{Spans}
use Rattle.fb_model.specs.Ranges.{Range}
use Rattle.fb_model.specs.FinderRanges.{kind_rows, IsLast, IsTable}

-- the rows that tables spell, leaf by leaf
abbrev pub spelled : List Spans → List Leaf → List Range
spelled (spans ∷ rest) (leaf ∷ leaves) = kind_rows (λ v. spans v.name) leaf.path leaf.kind ++ spelled rest leaves
spelled [] leaves = []
spelled (spans ∷ rest) [] = []

-- these tables, one of each leaf, spell the rows of a device after its last round
pub record AreLastTables (bs : List Leaf) (tables : List Spans) : Type 0 where
  pub last : IsLast bs (spelled tables bs)
  pub each : AllZip (λ spans leaf. IsTable (spelled tables bs) spans leaf leaf.kind) tables bs
