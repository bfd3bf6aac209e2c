-- What the code knows of declared types while it makes them.
use Rattle.std.specs.Prelude.{ℕ, ◌<◌, ◌≡◌, ◌⊎◌, List, [], map, string_bytes, Some}
use Rattle.std.specs.List.{AllByRecursion, Contains}
use Rattle.std.specs.Option.{option_map}
use Rattle.std.specs.Map.{lookup}
use Rattle.std.specs.Str.{bytes_eq}
use Rattle.std.specs.declared.string.String.{String}
use Rattle.std.specs.declared.alloc.Global.{Global}
use denote.Ref.{Bor}
use Rattle.indexmap.specs.IndexMap.{IndexMap}
use Rattle.fb_model.specs.Names.{Name}
use Rattle.fb_model.specs.Declarations.{InstanceTree, NetworkTree, Network, BlockTree}
use Rattle.fb_model.specs.BlockTyping.{Declared, IsFace, face_names}
use Rattle.fb_model.specs.Typing.{AreDistinct}
use Rattle.fb_model.specs.System as book
use Rattle.fb_model.specs.NetworkTyping.{type_named, most_deep, IsMade, IsInstance, AreInstances}
use Rattle.fb_tree.specs.declared.tree.BlockTree.{BlockTree as Tree}
use Rattle.fb_tree.specs.Files as trees_of
use Rattle.fb_types_blocks.specs.Views.{block_of, face_of}
use Rattle.fb_faults.specs.declared.typing.TypeFault.{TypeFault}
use Rattle.fb_faults.specs.declared.typing.TypeFault.TheVariants.{RecursiveComposite}
use Rattle.fb_types_networks.specs.declared.typed.Instance.{Instance, out-Instance}
use Rattle.fb_types_networks.specs.declared.typed.Network.{out-Network}
use Rattle.fb_types_networks.specs.Views.{placed_of, instances_of, wired_of, body_of}
use Rattle.fb_model.specs.NetworkFaults.{placed_in}
use Rattle.fb_types.specs.declared.made.Made.{Made}
use Rattle.fb_types.specs.declared.made.Shape.{Shape}
use Rattle.fb_types.specs.declared.made.Shape.TheVariants as s
use Rattle.fb_types.specs.declared.made.Unmade.{Unmade}
use Rattle.fb_types.specs.declared.made.Unmade.TheVariants as u
use Rattle.fb_types_networks.specs.declared.typed.Body.{Body, fold-Body}
use Rattle.fb_types.specs.Uses.{body_step, instance_step, network_step, uses_of, uses_in}
use Rattle.fb_model.specs.Nesting.{Used}
use Rattle.fb_model.specs.Nesting.{deep, deepest, IsOf, Leads, Nests, Provides, InstanceProvides, AllProvide}
use Rattle.fb_model.specs.SourceFaults.{IsTypeFault, IsInstanceFault, IsTooDeep}

-- ---- the table of types

abbrev pub tree_of : Bor Tree → BlockTree
tree_of b = trees_of.block_of b.now

-- a table has the first type of each name
abbrev pub IsTable : {S : Type 0} → List BlockTree → IndexMap (String Global) (Bor Tree) S → Type 0
IsTable bs t = (x : Name) → option_map tree_of (lookup (λ k. bytes_eq x (string_bytes k)) t.entries) ≡ type_named bs x

-- ---- made types

-- what a made type is, and the services in it
abbrev pub shape_of : Shape → book.Body
shape_of (s.Basic k) = book.Basic (block_of k.value)
shape_of (s.Composite f n) = book.Composite (face_of f.value) (placed_in ((wired_of n.value).0)) ((wired_of n.value).1) ((wired_of n.value).2)

abbrev pub shape_uses : Shape → List Used
shape_uses (s.Basic k) = []
shape_uses (s.Composite f n) = uses_in (out-Network n.value).instances.items

-- the services in a body, of an instance whose name stands at this offset
abbrev pub body_uses : Body → ℕ → List Used
body_uses = fold-Body (ℕ → List Used) (List Used) (List Used) body_step instance_step network_step

-- By these types:
module _ (bs : List BlockTree) where
  -- a type is made, with composites nested at most so deep
  pub record IsTyped (d : ℕ) (b : BlockTree) (m : Made) : Type 0 where
    pub made : IsMade bs d b (shape_of m.shape)
    pub deep_is : m.deep ≡ deep (shape_of m.shape)
    pub uses : Provides bs b (shape_uses m.shape)

  -- its body, with how deep composites nest in it
  pub record IsTypedBody (d : ℕ) (b : BlockTree) (x : Body) (n : ℕ) : Type 0 where
    pub made : IsMade bs d b (body_of x)
    pub deep_is : n ≡ deep (body_of x)
    pub uses : (at : ℕ) → Provides bs b (body_uses x at)

  -- and so is the type of a name
  pub record IsDone (x : Name) (m : Made) : Type 0 where
    pub tree : BlockTree
    pub named : type_named bs x ≡ Some tree
    pub d : ℕ
    pub typed : IsTyped d tree m

  -- what is remembered are made types
  abbrev pub IsMemo : {S : Type 0} → IndexMap (String Global) Made S → Type 0
  IsMemo t = (x : Name) (m : Made) → lookup (λ k. bytes_eq x (string_bytes k)) t.entries ≡ Some m → IsDone x m

  -- each type on a path is the one of its name, and leads to this one
  abbrev pub IsPath : List BlockTree → BlockTree → Type 0
  IsPath path b = AllByRecursion (λ p. (type_named bs p.name.text ≡ Some p) × Leads bs p b) path

  -- a type is the one of its name
  abbrev pub IsNamed : BlockTree → Type 0
  IsNamed b = type_named bs b.name.text ≡ Some b

  -- and the types on a path lead to it
  pub record IsOpen (path : List BlockTree) (b : BlockTree) : Type 0 where
    pub named : IsNamed b
    pub leads : IsPath path b

  -- an instance, with how deep composites nest in it
  pub record IsPart (d : ℕ) (i : InstanceTree) (x : Instance) (n : ℕ) : Type 0 where
    pub name : (placed_of x).0 ≡ i.name.text
    pub typed : IsInstance bs d i ((placed_of x).1) ((placed_of x).2)
    pub deep_is : n ≡ deep ((placed_of x).2)
    pub uses : InstanceProvides bs i (uses_of x)
    pub offset : (out-Instance x).at ≡ i.name.at

  -- instances, with how deep composites nest in them
  pub record AreParts (d : ℕ) (is : List InstanceTree) (xs : List Instance) (n : ℕ) : Type 0 where
    pub typed : AreInstances bs d is (instances_of xs)
    pub deepest_is : n ≡ deepest (instances_of xs)
    pub uses : AllProvide bs is (uses_in xs)
    pub offsets : map (λ x. (out-Instance x).at) xs ≡ map (λ i. i.name.at) is

  -- these instances are made, with composites nested as deep as they may
  pub record AreMade (is : List InstanceTree) (xs : List Instance) : Type 0 where
    pub n : ℕ
    pub parts : AreParts most_deep is xs n

  -- a composite with this interface and these instances, in which composites nest so deep
  pub record IsComposite (b : BlockTree) (ins outs : List Declared) (f : book.Face) (n : NetworkTree) (d : ℕ) (xs : List Instance) (m : ℕ) : Type 0 where
    pub composite : b.body ≡ Network n
    pub face : IsFace b ins outs f
    pub distinct : AreDistinct (face_names b ins outs)
    pub parts : AreParts d n.instances xs m

  -- more composites nest in a type than as many
  pub record IsDeeper (d : ℕ) (b : BlockTree) : Type 0 where
    pub count : ℕ
    pub more : d < count
    pub nests : Nests bs b count

  -- why a type is not made with composites nested at most so deep
  abbrev pub IsUnmade : ℕ → BlockTree → Unmade → Type 0
  IsUnmade d b (u.Fault f) = IsTypeFault bs b f
  IsUnmade d b (u.TooDeep x) = (tree_of x ≡ b) × IsNamed b × IsDeeper d b

  -- why a type is refused, and an instance: where composites may nest as deep as they may at most
  abbrev pub IsRefusedType : BlockTree → TypeFault → Type 0
  IsRefusedType b f = IsTypeFault bs b f ⊎ IsTooDeep bs b f

  abbrev pub IsRefusedInstance : InstanceTree → TypeFault → Type 0
  IsRefusedInstance i f = IsInstanceFault bs i f ⊎ ((c : BlockTree) × IsOf bs i c × IsTooDeep bs c f)

  -- the type of an instance is on a path, at the type's name
  pub record IsRing (path : List BlockTree) (i : InstanceTree) (f : TypeFault) : Type 0 where
    pub tree : BlockTree
    pub of_type : IsOf bs i tree
    pub among : Contains path tree
    pub fault_is : f ≡ RecursiveComposite i.type.at

  -- why an instance is not made
  abbrev pub IsHalted : List BlockTree → ℕ → InstanceTree → Unmade → Type 0
  IsHalted path d i (u.Fault f) = IsInstanceFault bs i f ⊎ IsRing path i f
  IsHalted path d i (u.TooDeep x) = IsOf bs i (tree_of x) × IsDeeper d (tree_of x)

  -- one of these instances is not made
  pub record HaltsAt (path : List BlockTree) (d : ℕ) (is : List InstanceTree) (u : Unmade) : Type 0 where
    pub part : InstanceTree
    pub among : Contains is part
    pub halted : IsHalted path d part u

  -- the path leads to the types of these instances
  abbrev pub LeadsTo : List BlockTree → List InstanceTree → Type 0
  LeadsTo path is = (i : InstanceTree) (c : BlockTree) → Contains is i → IsOf bs i c → IsPath path c
