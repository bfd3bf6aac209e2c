-- What the refusals of rows say in one column, in the book's terms.
use Rattle.std.specs.Prelude.{List}
use Rattle.std.specs.List.{AllByRecursion}
use Rattle.fb_model.specs.Names.{Path}
use Rattle.fb_model.specs.System.{Procedure, Device, System}
use Rattle.fb_model.specs.Wires as wires
use Rattle.fb_model.specs.Wires.{Kind, Charted, Serviced, leaves}
use Rattle.fb_model.specs.Ranges.{Range, rows, IsClearAlgorithm}
use Rattle.fb_model.specs.Certificates.{Column, ColumnFits}
use Rattle.fb_model_laws.specs.Words.{IsWordyLeaf}
use Rattle.fb_model_laws.specs.Leaves.{IsClosed}

-- ---- leaves

-- the algorithms of a leaf are clear under its rows
abbrev pub AlgorithmsClear : List Range → Path → Kind → Type 0
AlgorithmsClear ranges path (Charted block) = AllByRecursion (λ (p : Procedure). IsClearAlgorithm (rows ranges path (Charted block)) p.algorithm) block.procedures
AlgorithmsClear ranges path (Serviced service) = Unit {0}

-- what is known of a leaf before its charges and weights are read: its names are words, its chart names its own, and its algorithms are clear
pub record IsKnownLeaf (ranges : List Range) (leaf : wires.Leaf) : Type 0 where
  pub words : IsWordyLeaf leaf
  pub closed : IsClosed leaf.kind
  pub clear : AlgorithmsClear ranges leaf.path leaf.kind

-- ---- systems

-- the rows of all leaves pay in this column
abbrev pub AllPay : Column → List Range → System → Type 0
AllPay col ranges s = AllByRecursion (λ (d : Device). ColumnFits col ranges (leaves d)) s.devices

-- what is known of all leaves
abbrev pub AreKnown : List Range → System → Type 0
AreKnown ranges s = AllByRecursion (λ (d : Device). AllByRecursion (IsKnownLeaf ranges) (leaves d)) s.devices
