-- The rows of leaf tables and of certificates by their paths, each in one text: names joined by dots.
use Rattle.std.specs.Prelude.{ℕ, List, [], ◌∷◌, ◌++◌, map, Option, ◌⊎◌, string_bytes, if◌then◌else◌}
use Rattle.std.specs.List.{flat_map}
use Rattle.fb_model.specs.Names.{Name}
use Rattle.fb_model.specs.System as book
use Rattle.fb_model.specs.Wires.{Kind, Charted, Serviced}
use Rattle.fb_model.specs.Certificates.{state_names, events_of, is_boolean, with_repeats}
use Rattle.fb_flat.specs.declared.flat.Leaf.{Leaf}
use Rattle.fb_flat.specs.declared.flat.FlatResource.{FlatResource}
use Rattle.fb_flat.specs.declared.flat.FlatDevice.{FlatDevice}
use Rattle.fb_flat.specs.Sites.{dotted}
use Rattle.fb_flat.specs.Leaves.{kind_of}
use Rattle.fb_cert.specs.Views.{Rows, Table}
use Rattle.fb_check_rows.specs.declared.kind.RowKind.{RowKind}
use Rattle.fb_check_rows.specs.declared.kind.RowKind.TheVariants.{Charge, Weight, Range, Depth}
use Rattle.fb_check_rows.specs.declared.kind.PathRows.{PathRows}
use Rattle.fb_check_rows.specs.declared.kind.PathRows.TheVariants.{Charges, Weights, Ranges, Depths, Fars, FarStates}
use Rattle.fb_faults.specs.declared.row.RowFault.{RowFault}
use Rattle.fb_check_rows.specs.Members.{HasSame}
use Rattle.fb_check_rows.specs.Faults.{IsDifference}
use Rattle.fb_check_rows.specs.Channels.{HaveSameChannels, IsOtherChannel}

-- ---- certificates

-- the paths of a table
abbrev pub paths : {V : Type 0} → Table V → List Name
paths rows = map (λ r. r.0) rows

-- the paths of the rows of a kind
abbrev pub paths_of : PathRows → Rows → List Name
paths_of Charges rows = paths rows.charges
paths_of Weights rows = paths rows.weights
paths_of Ranges rows = paths rows.ranges
paths_of Depths rows = paths rows.depths
paths_of Fars rows = paths rows.fars
paths_of FarStates rows = paths rows.far_states

-- ---- leaf tables

-- these names behind a path
abbrev pub texts_in : Name → List Name → List Name
texts_in path names = map (λ n. dotted path n) names

-- the names of integer and TIME variables
abbrev pub ranged_names : List book.Variable → List Name
ranged_names [] = []
ranged_names (v ∷ vs) = if is_boolean v.type then ranged_names vs else v.name ∷ ranged_names vs

-- those of a leaf's rows RANGE
abbrev pub range_names : Kind → List Name
range_names (Charted block) = ranged_names block.inputs ++ ranged_names block.outputs ++ ranged_names block.internals
range_names (Serviced service) = []

-- the names of a leaf's rows
abbrev pub row_names : RowKind → Kind → List Name
row_names Charge kind = state_names kind
row_names Weight kind = events_of kind
row_names Range kind = range_names kind
row_names Depth kind = []

abbrev pub leaf_texts : RowKind → Leaf → List Name
leaf_texts kind leaf = texts_in (string_bytes leaf.path) (row_names kind (kind_of leaf.body))

-- rows of leaves, and DEPTH of the resource itself
abbrev pub resource_texts : RowKind → FlatResource → List Name
resource_texts Charge resource = flat_map (leaf_texts Charge) resource.leaves.items
resource_texts Weight resource = flat_map (leaf_texts Weight) resource.leaves.items
resource_texts Range resource = flat_map (leaf_texts Range) resource.leaves.items
resource_texts Depth resource = string_bytes resource.path ∷ []

abbrev pub device_texts : RowKind → FlatDevice → List Name
device_texts kind device = flat_map (resource_texts kind) device.resources.items

abbrev pub texts_of : RowKind → List FlatDevice → List Name
texts_of kind devices = flat_map (device_texts kind) devices

-- ---- the two together

-- the rows of a kind that must be there: FAR where WEIGHT, and FARSTATE where CHARGE, both with a row REPEATS alone
abbrev pub texts_due : Option ℕ → PathRows → List FlatDevice → List Name
texts_due repeats Charges devices = texts_of Charge devices
texts_due repeats Weights devices = texts_of Weight devices
texts_due repeats Ranges devices = texts_of Range devices
texts_due repeats Depths devices = texts_of Depth devices
texts_due repeats Fars devices = with_repeats repeats (texts_of Weight devices)
texts_due repeats FarStates devices = with_repeats repeats (texts_of Charge devices)

-- a certificate has the rows of a kind that must be there
abbrev pub HasSameRows : List FlatDevice → Rows → PathRows → Type 0
HasSameRows devices rows kind = HasSame (paths_of kind rows) (texts_due rows.repeats kind devices)

-- those that go by a path, kind by kind, and those of channels
pub record HaveSameRows (devices : List FlatDevice) (rows : Rows) : Type 0 where
  pub paths : (kind : PathRows) → HasSameRows devices rows kind
  pub channels : HaveSameChannels devices rows

-- the fault is a difference in the rows of a kind
abbrev pub HaveOtherRows : List FlatDevice → Rows → RowFault → Type 0
HaveOtherRows devices rows fault = ((kind : PathRows) × IsDifference (texts_due rows.repeats kind devices) (paths_of kind rows) fault) ⊎ IsOtherChannel devices rows fault

-- the rows without the network are the same
pub record HaveSameOwn (devices : List FlatDevice) (rows : Rows) : Type 0 where
  pub charges : HasSameRows devices rows Charges
  pub weights : HasSameRows devices rows Weights
  pub ranges : HasSameRows devices rows Ranges
  pub depths : HasSameRows devices rows Depths

-- those of the network are the same
pub record HaveSameFar (devices : List FlatDevice) (rows : Rows) : Type 0 where
  pub fars : HasSameRows devices rows Fars
  pub far_states : HasSameRows devices rows FarStates
  pub channels : HaveSameChannels devices rows
