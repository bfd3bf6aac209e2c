-- What is known of leaves before, when their rows are clear, and what refusals say, in the book's terms.
use Rattle.std.specs.List.{AllByRecursion}
use Rattle.fb_model.specs.System.{Device, System}
use Rattle.fb_model.specs.Wires.{Leaf, leaves}
use Rattle.fb_model.specs.Ranges.{rows}
use Rattle.fb_model_laws.specs.Words.{IsWordyLeaf}
use Rattle.fb_model_laws.specs.Leaves.{IsClosed}

-- ---- what is known before

-- the names of a leaf are words, and its chart names its own states
pub record IsKnownLeaf (leaf : Leaf) : Type 0 where
  pub words : IsWordyLeaf leaf
  pub closed : IsClosed leaf.kind

abbrev pub AreKnown : System → Type 0
AreKnown s = AllByRecursion (λ (d : Device). AllByRecursion IsKnownLeaf (leaves d)) s.devices
