-- When tables are those of a device of the book.
-- IEC 61499-1 edition 2, 5.2 (charts), 5.3 (instances and their connections), 6.1 (service interfaces) and 7 (devices and resources).
use Rattle.std.specs.Prelude.{ℕ, ℤ, ◌≡◌, ◌<◌, ◌≤◌, ◌+◌, nat_eq, List, [], ◌∷◌, map, length, replicate, string_bytes, Option, None, Some, Bool, slice_get, if◌then◌else◌}
use Rattle.std.specs.List.{AllByRecursion}
use Rattle.std.specs.Option.{option_map}
use Rattle.indexmap.specs.IndexMap.{IndexMap, get}
use Rattle.fb_model.specs.Names.{Path, Place, at_place}
use Rattle.fb_model.specs.Values.{Value, One, Many}
use Rattle.fb_model.specs.System as book
use Rattle.fb_model.specs.Wires as wires
use Rattle.fb_model.specs.Wires.{Kind, Leaf, leaves}
use Rattle.fb_model.specs.CertificateText.{names_in}
use Rattle.fb_model.specs.Certificates.{Certificate, events_of, depth_of, far_of}
use Rattle.fb_model.specs.Devices.{steps_row, places_row, is_input_numbered, is_subscriber}
use Rattle.fb_model_laws.specs.Leaves.{AreApart}
use Rattle.st_exec.specs.Forms.{Form, slot_in}
use Rattle.fb_chart.specs.declared.table.Point.{Point}
use Rattle.fb_chart.specs.declared.table.Source.{Source}
use Rattle.fb_chart.specs.declared.table.Source.TheVariants as s
use Rattle.fb_chart.specs.declared.table.Take.{Take}
use Rattle.fb_chart.specs.declared.table.Event.{Event}
use Rattle.fb_chart.specs.declared.table.Output.{Output}
use Rattle.fb_chart.specs.declared.table.Block.{Block}
use Rattle.fb_chart.specs.Views.{kind_of}
use Rattle.fb_chart.specs.Tables.{IsTable}
use Rattle.fb_chart.specs.Sampling.{count_among}
use Rattle.fb_chart.specs.declared.standing.Ports.{Ports}
use Rattle.fb_chart.specs.Ports.{ServesPorts}
use Rattle.fb_device_tables.specs.declared.table.Resource.{Resource}
use Rattle.fb_device_tables.specs.declared.table.Tables.{Tables}
use Rattle.fb_device_tables.specs.Views.{place_at}

-- ---- events and where outputs lead

-- the point is an event of a leaf
pub record IsPoint (all : List Leaf) (p : Point) : Type 0 where
  pub leaf : Leaf
  pub block : slice_get all p.block ≡ Some leaf
  pub event : p.event < length (events_of leaf.kind)

-- the steps on all devices that a certificate with REPEATS tells of a point
abbrev pub far_at : Certificate → Place → Option ℕ
far_at cert place = option_map (λ r. (far_of cert).weight place) cert.repeats

-- an event has the numbers of its WEIGHT row, and that of its FAR row
pub record IsWeighed (cert : Certificate) (path : Path) (e : Event) : Type 0 where
  pub steps : e.steps ≡ steps_row cert (at_place path (string_bytes e.name))
  pub places : e.places ≡ places_row cert (at_place path (string_bytes e.name))
  pub far : e.far ≡ far_at cert (at_place path (string_bytes e.name))

-- an output leads where the leaf's does
pub record LeadsTo (all : List Leaf) (leaf : Leaf) (o : Output) : Type 0 where
  pub points : AllByRecursion (IsPoint all) o.targets.items
  pub targets : map (place_at all) o.targets.items ≡ leaf.targets (string_bytes o.name)

-- ---- where values come from

-- one number, or this number in each element
abbrev pub IsFilled : ℤ → Value → Type 0
IsFilled n (One k) = k ≡ n
IsFilled n (Many ks) = ks ≡ replicate (length ks) n

-- an output of the leaf of this number with its slot among that leaf's issued values, whose forms are those of all leaves; or a constant
abbrev pub IsOrigin : List Leaf → List (List Form) → Source → wires.Source → Type 0
IsOrigin all issues (s.Output block y slot) (wires.Output_of path name) =
    (leaf : Leaf) × (slice_get all block ≡ Some leaf) × (leaf.path ≡ path) × (string_bytes y ≡ name) × ((forms : List Form) → slice_get issues block ≡ Some forms → slot ≡ slot_in forms name)
IsOrigin all issues (s.Number n) (wires.Constant value) = IsFilled n value
IsOrigin all issues (s.Output block y slot) (wires.Constant value) = ⊥
IsOrigin all issues (s.Number n) (wires.Output_of path name) = ⊥

-- an input takes its value where the leaf's does, and has its slots among the leaf's working values
pub record IsTaken (all : List Leaf) (issues : List (List Form)) (own : List Form) (leaf : Leaf) (t : Take) : Type 0 where
  pub origin : IsOrigin all issues t.source (leaf.source (string_bytes t.input))
  pub slot : t.slot ≡ slot_in own (string_bytes t.input)
  pub count : t.count ≡ count_among own (string_bytes t.input)

-- ---- blocks

-- a block of the tables with its ports is this one of the leaves of a device; its working and its issued values have these forms
pub record IsBlock (cert : Certificate) (all : List Leaf) (issues : List (List Form)) (own issued : List Form) (x : Block) (p : Ports) (leaf : Leaf) : Type 0 where
  pub path : names_in (string_bytes x.path) ≡ leaf.path
  pub home : x.resource ≡ leaf.home
  pub kind : kind_of x ≡ leaf.kind
  pub table : IsTable own issued x
  pub ports : ServesPorts leaf.kind own p
  pub weights : AllByRecursion (IsWeighed cert leaf.path) x.events.items
  pub takes : AllByRecursion (λ (e : Event). AllByRecursion (IsTaken all issues own leaf) e.takes.items) x.events.items
  pub leads : AllByRecursion (LeadsTo all leaf) x.outputs.items

-- the same of many, one by one: the forms of working and of issued values, blocks, ports and leaves
abbrev pub AreBlocks : Certificate → List Leaf → List (List Form) → List (List Form) → List (List Form) → List Block → List Ports → List Leaf → Type 0
AreBlocks cert all issues [] [] [] [] [] = Unit {0}
AreBlocks cert all issues (own ∷ owns) (issued ∷ rest) (x ∷ xs) (p ∷ ps) (leaf ∷ leaves) = IsBlock cert all issues own issued x p leaf × AreBlocks cert all issues owns rest xs ps leaves
AreBlocks cert all issues owns rest xs ps leaves = ⊥

-- ---- resources

-- the resources of a device, the first of this number
abbrev pub AreResources : Certificate → book.Device → ℕ → List Resource → List book.Resource → Type 0
AreResources cert device n [] [] = Unit {0}
AreResources cert device n (x ∷ xs) (r ∷ rs) = (string_bytes x.name ≡ r.name) × (x.depth ≡ depth_of cert device n) × AreResources cert device (n + 1) xs rs
AreResources cert device n [] (r ∷ rs) = ⊥
AreResources cert device n (x ∷ xs) [] = ⊥

-- ---- devices

abbrev pub later : Option ℕ → Option ℕ
later None = None
later (Some k) = Some (k + 1)

-- the number of the first block of a kind
abbrev pub first_at : (Kind → Bool) → List Block → Option ℕ
first_at is [] = None
first_at is (x ∷ xs) = if is (kind_of x) then Some 0 else later (first_at is xs)

-- the blocks of a kind, such as INPUTs or SUBSCRIBEs, by their numbers; of each number the first
abbrev pub AreNumbered : {S : Type 0} → (ℕ → Kind → Bool) → IndexMap ℕ ℕ S → List Block → Type 0
AreNumbered is m blocks = (n : ℕ) → get nat_eq m n ≡ first_at (is n) blocks

-- the tables are those of a device, with the numbers of a certificate; the working and the issued values of its leaves have these forms
pub record AreTables (cert : Certificate) (device : book.Device) (owns issues : List (List Form)) (t : Tables) : Type 0 where
  pub blocks : AreBlocks cert (leaves device) issues owns issues t.blocks.items t.ports.items (leaves device)
  pub resources : AreResources cert device 0 t.resources.items device.resources
  pub few : length (leaves device) ≤ 65535
  pub apart : AreApart (leaves device)
  pub inputs : AreNumbered is_input_numbered t.inputs t.blocks.items
  pub subscribers : AreNumbered is_subscriber t.subscribers t.blocks.items
