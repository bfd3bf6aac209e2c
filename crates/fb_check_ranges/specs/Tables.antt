-- Leaves and devices of the tables, in the book's terms.
use Rattle.std.specs.List.{AllByRecursion}
use Rattle.std.specs.Prelude.{List}
use Rattle.fb_model.specs.System as book
use Rattle.fb_model.specs.Wires as wires
use Rattle.fb_model.specs.Wires.{leaves}
use Rattle.fb_model.specs.Ranges.{Range, LeafClears}
use Rattle.fb_flat.specs.declared.flat.Leaf.{Leaf}
use Rattle.fb_flat.specs.declared.flat.FlatDevice.{FlatDevice}
use Rattle.fb_flat.specs.Tables.{AreLeaves, IsLeaf, IsDevice}
use Rattle.fb_faults.specs.declared.unclear.Unclear.{Unclear}
use Rattle.fb_model.specs.Misfits.{Refuses}
use Rattle.fb_check_ranges.specs.Fitting.{IsKnownLeaf}
use Rattle.fb_model.specs.Misfits.{LeafFails, OneLeafFails}

abbrev pub AreKnownLeaves : List wires.Leaf → Type 0
AreKnownLeaves bs = AllByRecursion IsKnownLeaf bs

-- the rows of a leaf of the tables are clear among these, whichever leaf of the book it is
abbrev pub LeafPasses : List Range → List wires.Leaf → Leaf → Type 0
LeafPasses ranges bs l = (b : wires.Leaf) → IsLeaf l b → IsKnownLeaf b → LeafClears ranges bs b

-- a refusal is true of it
abbrev pub LeafRefused : List Range → List wires.Leaf → Unclear → Leaf → Type 0
LeafRefused ranges bs f l = (b : wires.Leaf) → IsLeaf l b → IsKnownLeaf b → Refuses (LeafFails ranges bs b) f

abbrev pub DevicePasses : List Range → FlatDevice → Type 0
DevicePasses ranges f = (d : book.Device) → IsDevice f d → AreKnownLeaves (leaves d) → AllByRecursion (LeafClears ranges (leaves d)) (leaves d)

abbrev pub DeviceRefused : List Range → Unclear → FlatDevice → Type 0
DeviceRefused ranges e f = (d : book.Device) → IsDevice f d → AreKnownLeaves (leaves d) → OneLeafFails ranges (leaves d) e
