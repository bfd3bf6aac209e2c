-- What the tables of all leaves are in the book's terms.
use Rattle.std.specs.Prelude.{◌≡◌, List, [], ◌∷◌, ◌++◌}
use Rattle.std.specs.List.{AllByRecursion, AllZip}
use Rattle.fb_model.specs.Clear.{Spans}
use Rattle.fb_model.specs.System.{Device}
use Rattle.fb_model.specs.Wires.{Leaf}
use Rattle.fb_model.specs.Certificates.{all_leaves}
use Rattle.fb_model_laws.specs.Leaves.{AreApart, IsFed}
use Rattle.fb_model.specs.FinderRanges.{AreFound, IsTable}
use Rattle.fb_flat.specs.declared.flat.FlatDevice.{FlatDevice}
use Rattle.fb_flat.specs.Tables.{AreLeaves}
use Rattle.fb_check_ranges.specs.Places.{leaves_in}
use Rattle.fb_find_ranges.specs.Found.{spelled, AreLastTables}

-- these tables, one of each leaf, spell the rows that are found
pub record AreFoundTables (ds : List Device) (tables : List Spans) : Type 0 where
  pub found : AreFound ds (spelled tables (all_leaves ds))
  pub each : AllZip (λ spans (leaf : Leaf). IsTable (spelled tables (all_leaves ds)) spans leaf leaf.kind) tables (all_leaves ds)

-- ---- device by device

-- these are the tables of a device after its last round, where its leaves are well typed
abbrev pub GivesLast : FlatDevice → List Spans → Type 0
GivesLast f tables = (bs : List Leaf) → AreLeaves (leaves_in f.resources.items) bs → AreApart bs → AllByRecursion (IsFed bs) bs → AreLastTables bs tables

-- behind the old tables stand some of which this holds
pub record IsLonger (P : List Spans → Type 0) (old new : List Spans) : Type 0 where
  pub more : List Spans
  pub given : P more
  pub joined : new ≡ old ++ more

-- the tables of devices, one device after another
pub data AreGiven : List FlatDevice → List Spans → Type 0 where
  none_given : AreGiven [] []
  one_given : {f : FlatDevice} {fs : List FlatDevice} {xs ys : List Spans} → GivesLast f xs → AreGiven fs ys → AreGiven (f ∷ fs) (xs ++ ys)
