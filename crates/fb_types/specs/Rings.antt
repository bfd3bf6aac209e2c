-- The search for a ring of composites: along uses from a type, with a path of the types above and a table of those not yet met.
use Rattle.std.specs.Prelude.{ℕ, ◌≡◌, ◌⊎◌, true, false, cond, List, [], ◌∷◌, string_bytes, Option, None, Some}
use Rattle.std.specs.List.{AllByRecursion, Any, Contains}
use Rattle.std.specs.Option.{option_map}
use Rattle.std.specs.Map.{lookup}
use Rattle.std.specs.Str.{bytes_eq}
use Rattle.std.specs.declared.string.String.{String}
use Rattle.std.specs.declared.alloc.Global.{Global}
use denote.Ref.{Bor}
use Rattle.indexmap.specs.IndexMap.{IndexMap}
use Rattle.fb_model.specs.Names.{Name, is_in}
use Rattle.fb_model.specs.Declarations.{InstanceTree, Chart, Network, BlockTree, BodyTree}
use Rattle.fb_model.specs.Typing.{service_names}
use Rattle.fb_model.specs.NetworkTyping.{type_named}
use Rattle.fb_tree.specs.declared.tree.BlockTree.{BlockTree as Tree}
use Rattle.fb_types.specs.declared.rings.Step.{Step}
use Rattle.fb_types.specs.declared.rings.Step.TheVariants as s
use Rattle.fb_model.specs.Nesting.{Uses, Leads}
use Rattle.fb_types.specs.Made.{tree_of}

-- what a table has for a name
abbrev pub found_in : {S : Type 0} → IndexMap (String Global) (Bor Tree) S → Name → Option BlockTree
found_in t x = option_map tree_of (lookup (λ k. bytes_eq x (string_bytes k)) t.entries)

-- the instances in a body: none in a basic block
abbrev pub parts_of : BodyTree → List InstanceTree
parts_of (Chart chart) = []
parts_of (Network network) = network.instances

-- the name of an instance's type is that of a type on the path
abbrev pub IsOnPath : List BlockTree → InstanceTree → Type 0
IsOnPath path i = Any (λ b. b.name.text ≡ i.type.text) path

-- there is nothing to search in an instance: it is of a service, or its type is neither on the path nor still to be met
abbrev pub IsPassed : (Name → Option BlockTree) → List BlockTree → InstanceTree → Type 0
IsPassed left path i = (is_in i.type.text service_names ≡ true) ⊎ ((IsOnPath path i → ⊥) × (left i.type.text ≡ None))

-- its type is on the path, and this is the offset of the type's name
pub record IsClosing (path : List BlockTree) (i : InstanceTree) (at : ℕ) : Type 0 where
  pub declared : is_in i.type.text service_names ≡ false
  pub on : IsOnPath path i
  pub offset : at ≡ i.type.at

-- its type is this one, met for the first time
pub record IsMet (left later : Name → Option BlockTree) (i : InstanceTree) (c : BlockTree) : Type 0 where
  pub declared : is_in i.type.text service_names ≡ false
  pub found : left i.type.text ≡ Some c
  pub met : (x : Name) → later x ≡ cond (bytes_eq i.type.text x) None (left x)

-- where the search goes on from instances
abbrev pub IsStep : (Name → Option BlockTree) → (Name → Option BlockTree) → List BlockTree → List InstanceTree → Step → Type 0
IsStep left later path is s.Passed = AllByRecursion (IsPassed left path) is × ((x : Name) → later x ≡ left x)
IsStep left later path is (s.Closing at) = (i : InstanceTree) × Contains is i × IsClosing path i at
IsStep left later path is (s.Inside x) = (i : InstanceTree) × Contains is i × IsMet left later i (tree_of x)

-- how many types are met
abbrev pub met_by : Step → ℕ
met_by s.Passed = 0
met_by (s.Closing at) = 0
met_by (s.Inside x) = 1

-- By these types:
module _ (bs : List BlockTree) where
  -- every chain of uses from a type ends
  pub data Ends : BlockTree → Type 0 where
    all_end : {b : BlockTree} → ((i : InstanceTree) (c : BlockTree) → Uses bs b i c → Ends c) → Ends b

  -- a ring to which a type leads closes at this offset: that of the type's name of an instance
  pub record IsRingBelow (b : BlockTree) (at : ℕ) : Type 0 where
    pub outer : BlockTree
    pub inner : BlockTree
    pub part : InstanceTree
    pub leads : Leads bs b outer
    pub uses : Uses bs outer part inner
    pub back : Leads bs inner outer
    pub offset : at ≡ part.type.at

  -- each type on a path is the one of its name, and leads to those behind it
  abbrev pub IsLine : List BlockTree → Type 0
  IsLine [] = Unit {0}
  IsLine (p ∷ rest) = (type_named bs p.name.text ≡ Some p) × AllByRecursion (Leads bs p) rest × IsLine rest

  -- what is so at each step of the search from a type
  pub record IsSearching (b : BlockTree) (left : Name → Option BlockTree) (path : List BlockTree) : Type 0 where
    pub line : IsLine path
    pub led : AllByRecursion (Leads bs b) path
    pub named : (x : Name) (c : BlockTree) → left x ≡ Some c → type_named bs x ≡ Some c
    pub begun : left b.name.text ≡ None
    -- a type that is met is on the path, or all chains from it end
    pub met : (c : BlockTree) → type_named bs c.name.text ≡ Some c → left c.name.text ≡ None → Contains path c ⊎ Ends c

  -- what it finds: the offset of a ring, or that there is none
  abbrev pub IsSearched : BlockTree → Option ℕ → Type 0
  IsSearched b None = Ends b
  IsSearched b (Some at) = IsRingBelow b at
