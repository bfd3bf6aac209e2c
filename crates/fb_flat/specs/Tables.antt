-- When leaf tables, target lists and sources are exactly the book's leaves.
-- IEC 61499-1 edition 2, 5.3 (instances and their connections) and 7 (devices and resources).
use Rattle.std.specs.Prelude.{◌≡◌, ℕ, ◌+◌, pos, true, List, [], ◌∷◌, ◌++◌, map, replicate, string_bytes, if◌then◌else◌}
use Rattle.std.specs.Str.{bytes_eq}
use Rattle.fb_model.specs.Names.{Name, Path, Place, at_place, is_in}
use Rattle.fb_model.specs.Values.{One, Many}
use Rattle.fb_model.specs.System as book
use Rattle.fb_model.specs.BlockTyping.{extent}
use Rattle.fb_model.specs.Wires as wires
use Rattle.fb_model.specs.Wires.{Output_of, Constant, resource_leaves}
use Rattle.fb_model.specs.CertificateText.{names_in}
use Rattle.fb_flat.specs.declared.flat.Target.{Target}
use Rattle.fb_flat.specs.declared.flat.Output.{Output}
use Rattle.fb_flat.specs.declared.flat.Source.{Source}
use Rattle.fb_flat.specs.declared.flat.Source.TheVariants as s
use Rattle.fb_flat.specs.declared.flat.Input.{Input}
use Rattle.fb_flat.specs.declared.flat.Leaf.{Leaf}
use Rattle.fb_flat.specs.declared.flat.FlatResource.{FlatResource}
use Rattle.fb_flat.specs.declared.flat.FlatDevice.{FlatDevice}
use Rattle.fb_flat.specs.Sources.{written_inputs}
use Rattle.fb_flat.specs.Leaves.{kind_of, outputs_of}

-- ---- outputs and their targets

-- the place that a target is
abbrev pub target_place : Target → Place
target_place t = at_place (names_in (string_bytes t.path)) (string_bytes t.event)

-- the names of outputs, in order
abbrev pub output_names : List Output → List Name
output_names xs = map (λ o. string_bytes o.name) xs

-- where the first output of a name leads
abbrev pub targets_of : List Output → Name → List Place
targets_of [] o = []
targets_of (x ∷ xs) o = if bytes_eq o (string_bytes x.name) then map target_place x.targets.items else targets_of xs o

-- ---- inputs and their sources

-- where the book has it that a value comes from
abbrev pub book_source : Source → wires.Source
book_source (s.Output path name) = Output_of (names_in (string_bytes path)) (string_bytes name)
book_source (s.Number number) = Constant (One number)
book_source (s.Zeros low high) = Constant (Many (replicate (extent (low, high)) (pos 0)))

-- the names of inputs, in order
abbrev pub input_names : List Input → List Name
input_names xs = map (λ i. string_bytes i.name) xs

-- where the value of the first input of a name comes from
abbrev pub source_at : List Input → Name → wires.Source
source_at [] x = Constant (One (pos 0))
source_at (i ∷ is) x = if bytes_eq x (string_bytes i.name) then book_source i.source else source_at is x

-- ---- leaves

-- a leaf of the tables is this leaf of the book
pub record IsLeaf (l : Leaf) (leaf : wires.Leaf) : Type 0 where
  pub path : names_in (string_bytes l.path) ≡ leaf.path
  pub kind : kind_of l.body ≡ leaf.kind
  pub outputs : output_names l.outputs.items ≡ outputs_of leaf.kind
  pub targets : (o : Name) → is_in o (outputs_of leaf.kind) ≡ true → targets_of l.outputs.items o ≡ leaf.targets o
  pub inputs : input_names l.inputs.items ≡ written_inputs leaf.kind
  pub sources : (x : Name) → is_in x (written_inputs leaf.kind) ≡ true → source_at l.inputs.items x ≡ leaf.source x

-- the same of many, one by one
abbrev pub AreLeaves : List Leaf → List wires.Leaf → Type 0
AreLeaves [] [] = Unit {0}
AreLeaves (l ∷ ls) (leaf ∷ leaves) = IsLeaf l leaf × AreLeaves ls leaves
AreLeaves [] (leaf ∷ leaves) = ⊥
AreLeaves (l ∷ ls) [] = ⊥

-- ---- resources and devices

-- the tables of a resource are this one of the book, of this number, on the path of its device
pub record IsResource (n : ℕ) (path : Path) (f : FlatResource) (r : book.Resource) : Type 0 where
  pub path_is : names_in (string_bytes f.path) ≡ path ++ r.name ∷ []
  pub leaves : AreLeaves f.leaves.items (resource_leaves n path r)

-- the same of many, numbered from n on
abbrev pub AreResources : ℕ → Path → List FlatResource → List book.Resource → Type 0
AreResources n path [] [] = Unit {0}
AreResources n path (f ∷ fs) (r ∷ rs) = IsResource n path f r × AreResources (n + 1) path fs rs
AreResources n path [] (r ∷ rs) = ⊥
AreResources n path (f ∷ fs) [] = ⊥

-- the tables of a device are this one of the book
pub record IsDevice (f : FlatDevice) (d : book.Device) : Type 0 where
  pub name : string_bytes f.name ≡ d.name
  pub resources : AreResources 0 (d.name ∷ []) f.resources.items d.resources

-- the same of many, one by one
abbrev pub AreDevices : List FlatDevice → List book.Device → Type 0
AreDevices [] [] = Unit {0}
AreDevices (f ∷ fs) (d ∷ ds) = IsDevice f d × AreDevices fs ds
AreDevices [] (d ∷ ds) = ⊥
AreDevices (f ∷ fs) [] = ⊥
