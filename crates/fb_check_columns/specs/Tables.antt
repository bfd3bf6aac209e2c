-- Columns of the tables, in the book's terms.
use Rattle.std.specs.List.{Any, AllByRecursion}
use Rattle.fb_model.specs.Wires as wires
use Rattle.fb_model.specs.Ranges.{rows}
use Rattle.fb_model.specs.Certificates.{KindWeighs}
use Rattle.fb_cert.specs.declared.certificate.Certificate.{Certificate}
use Rattle.fb_cert.specs.Views.{certificate_of}
use Rattle.fb_flat.specs.declared.flat.Leaf.{Leaf}
use Rattle.fb_flat.specs.declared.flat.FlatResource.{FlatResource}
use Rattle.fb_flat.specs.declared.flat.FlatDevice.{FlatDevice}
use Rattle.fb_flat.specs.Tables.{IsLeaf}
use Rattle.fb_check_columns.specs.declared.column.Column.{Column}
use Rattle.fb_faults.specs.declared.shortfall.Shortfall.{Shortfall}
use Rattle.fb_check_columns.specs.Columns.{column_of}
use Rattle.fb_model_texts.specs.Small.{AreSmall}
use Rattle.fb_check_columns.specs.Fitting.{IsKnownLeaf}
use Rattle.fb_model.specs.Misfits.{IsLeafFault}

-- the rows of a leaf of the tables pay in a column, whichever leaf of the book it is
abbrev pub LeafPays : Column → Certificate → Leaf → Type 0
LeafPays column cert l =
    (leaf : wires.Leaf) → AreSmall (certificate_of cert) → IsLeaf l leaf → IsKnownLeaf (certificate_of cert).ranges leaf
    → KindWeighs (column_of column (certificate_of cert)) (rows (certificate_of cert).ranges leaf.path leaf.kind) leaf.targets leaf.path leaf.kind

-- one of them does not
abbrev pub LeafFails : Column → Certificate → Shortfall → Leaf → Type 0
LeafFails column cert f l =
    (leaf : wires.Leaf) → AreSmall (certificate_of cert) → IsLeaf l leaf → IsKnownLeaf (certificate_of cert).ranges leaf → IsLeafFault (column_of column (certificate_of cert)) (certificate_of cert).ranges leaf f

abbrev pub ResourcePays : Column → Certificate → FlatResource → Type 0
ResourcePays column cert r = AllByRecursion (LeafPays column cert) r.leaves.items

abbrev pub DevicePays : Column → Certificate → FlatDevice → Type 0
DevicePays column cert d = AllByRecursion (ResourcePays column cert) d.resources.items

abbrev pub ResourceFails : Column → Certificate → Shortfall → FlatResource → Type 0
ResourceFails column cert f r = Any (LeafFails column cert f) r.leaves.items

abbrev pub DeviceFails : Column → Certificate → Shortfall → FlatDevice → Type 0
DeviceFails column cert f d = Any (ResourceFails column cert f) d.resources.items
