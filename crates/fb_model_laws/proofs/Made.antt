-- What is known of the bodies of well typed systems, without the trees that they come from.
use Rattle.std.specs.Prelude.{◌≡◌, Bool, true, false, List, Option, None, Some, map}
use Rattle.std.specs.List.{AllByRecursion}
use Rattle.fb_model.specs.Names.{Name, is_in}
use Rattle.fb_model.specs.System.{Variable, Connection, Parameter, Face, Body, Basic, Served, Composite, Instances, nothing, instance, Resource, Device, instance_names}
use Rattle.fb_model.specs.Typing.{names_of, event_inputs_of, body_named}
use Rattle.fb_model.specs.NetworkTyping.{variable_named, outputs_of, no_face}
use Rattle.fb_model.specs.Wires.{Charted, inputs_of}
use Rattle.fb_model_laws.specs.Leaves.{HasType, IsWider, StartsFit, IsGoodKind}
use Rattle.fb_model.proofs.Placed.{Apart}

-- the variable at an end of a data connection
abbrev pub in_body : (Body → List Variable) → Option Body → Name → Option Variable
in_body ports None x = None
in_body ports (Some body) x = variable_named (ports body) x

abbrev pub end_variable : List Variable → (Body → List Variable) → Instances → Option Name → Name → Option Variable
end_variable own ports inner None x = variable_named own x
end_variable own ports inner (Some j) x = in_body ports (body_named inner j) x

-- whether there is a port at an end of an event connection
abbrev pub body_has : (Body → List Name) → Option Body → Name → Bool
body_has ports None x = false
body_has ports (Some body) x = is_in x (ports body)

abbrev pub end_known : List Name → (Body → List Name) → Instances → Option Name → Name → Bool
end_known own ports inner None x = is_in x own
end_known own ports inner (Some j) x = body_has ports (body_named inner j) x

-- an event connection leads to an own output or to an input of an instance
abbrev pub IsEventLink : Face → Instances → Connection → Type 0
IsEventLink f inner d = end_known (names_of f.event_outputs) event_inputs_of inner d.target.instance d.target.port ≡ true

-- a data connection leads from a variable to one of a wider type
pub record IsValueLink (f : Face) (inner : Instances) (d : Connection) : Type 0 where
  pub given : Variable
  pub taken : Variable
  pub source : end_variable f.inputs outputs_of inner d.source.instance d.source.port ≡ Some given
  pub target : end_variable f.outputs inputs_of inner d.target.instance d.target.port ≡ Some taken
  pub wider : IsWider given.type taken.type

-- a parameter gives a value of the type of its variable
pub record IsParameter (vs : List Variable) (p : Parameter) : Type 0 where
  pub variable : Variable
  pub found : variable_named vs p.name ≡ Some variable
  pub lies : HasType variable.type p.value

-- a composite, but for what its instances are
pub record IsNet (face : Face) (inner : Instances) (events values : List Connection) : Type 0 where
  pub apart : Apart (instance_names inner)
  pub event_links : AllByRecursion (IsEventLink face inner) events
  pub value_links : AllByRecursion (IsValueLink face inner) values
  pub inputs_start : StartsFit face.inputs
  pub outputs_start : StartsFit face.outputs

abbrev mutual
  pub IsWellMade : Body → Type 0
  IsWellMade (Basic block) = IsGoodKind (Charted block)
  IsWellMade (Served service) = Unit {0}
  IsWellMade (Composite face inner events values) = AreWellMade inner × IsNet face inner events values

  pub AreWellMade : Instances → Type 0
  AreWellMade nothing = Unit {0}
  AreWellMade (instance name parameters body rest) = IsWellMade body × AllByRecursion (IsParameter (inputs_of body)) parameters × AreWellMade rest

abbrev pub IsWellResource : Resource → Type 0
IsWellResource r = IsWellMade (Composite no_face r.inner r.events r.values)

pub record IsWellDevice (d : Device) : Type 0 where
  pub apart : Apart (map (λ (r : Resource). r.name) d.resources)
  pub resources : AllByRecursion IsWellResource d.resources
