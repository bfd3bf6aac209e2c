-- What the code's answers are in the words of the definitions.
use Rattle.std.specs.Prelude.{ℕ, ◌≡◌, ◌<◌, ◌≤◌, List, [], ◌∷◌, map, length, Option, None, Some, Result, Ok, Err}
use Rattle.fb_model.specs.Names.{Name}
use Rattle.fb_model.specs.System as book
use Rattle.fb_words.specs.declared.elem_type.ElemType.{ElemType}
use Rattle.fb_model.specs.Trees.{ParameterTree}
use Rattle.fb_model.specs.Declarations.{InstanceTree}
use Rattle.fb_model.specs.Typing.{IsId}
use Rattle.fb_model.specs.NetworkTyping.{IsFormat, having, id, format, value_types, most_types}
use Rattle.fb_tree.specs.declared.tree.ParameterTree.{ParameterTree as Source}
use Rattle.fb_tree.specs.Files.{parameter_of}
use Rattle.fb_faults.specs.declared.typing.TypeFault.{TypeFault}
use Rattle.fb_faults.specs.declared.typing.TypeFault.TheVariants.{OutOfMemory}
use Rattle.fb_types_services.specs.declared.service.Service.{Service}
use Rattle.fb_types_services.specs.declared.declared.Named.{Named}
use Rattle.fb_types_services.specs.declared.declared.Named.TheVariants.{Absent, Once, Often}
use Rattle.fb_types_services.specs.Views.{service_of}

-- none, one or more
abbrev pub IsSo : List ParameterTree → Named → Type 0
IsSo ps Absent = ps ≡ []
IsSo ps (Once p) = ps ≡ parameter_of p.now ∷ []
IsSo ps Often = 1 < length ps

-- the parameters of a name
abbrev pub IsNamed : Name → List Source → Named → Type 0
IsNamed x ps found = IsSo (having x (map parameter_of ps)) found

-- the service is found, unless memory runs out
abbrev pub FindsService : Result (Option Service) TypeFault → book.Service → Type 0
FindsService (Ok (Some s)) k = service_of s ≡ k
FindsService (Ok None) k = ⊥
FindsService (Err OutOfMemory) k = Unit {0}
FindsService (Err other) k = ⊥

-- the number and the value types of an instance
abbrev pub IsNumbered : InstanceTree → ℕ → List ElemType → Type 0
IsNumbered i n types = IsId (having id i.parameters) n × (types ≡ value_types i.types) × (length types ≤ most_types)

-- the channel and the value types of an instance
abbrev pub IsChannelled : InstanceTree → book.Channel → List ElemType → Type 0
IsChannelled i c types = IsFormat (having format i.parameters) c.format × IsNumbered i c.number types
