-- What the code's answers are in the words of the definitions.
use Rattle.std.specs.Prelude.{ℤ, ◌≡◌, List, [], map, false, Option, None, Some, Result, Ok, Err}
use Rattle.std.specs.Option.{option_map}
use Rattle.fb_model.specs.Names.{Name, is_in}
use Rattle.fb_model.specs.Declarations.{InstanceTree, NetworkTree}
use Rattle.fb_model.specs.System as book
use Rattle.fb_model.specs.Typing.{AreNew}
use Rattle.fb_model.specs.Trees.{ParameterTree}
use Rattle.fb_model.specs.Values.{One}
use Rattle.fb_model.specs.Services.{service_inputs}
use Rattle.fb_model.specs.Wires.{inputs_of}
use Rattle.fb_model.specs.BlockTyping.{IsGiven}
use Rattle.fb_model.specs.NetworkTyping.{variable_named, reserved, AreParameters, IsServed, AreEventConnections, AreValueConnections, given_in, instance_texts}
use Rattle.fb_faults.specs.declared.typing.TypeFault.{TypeFault}
use Rattle.fb_faults.specs.declared.typing.TypeFault.TheVariants.{OutOfMemory}
use Rattle.fb_types_services.specs.Views.{service_of}
use Rattle.fb_types_networks.specs.declared.instance.Owner.{Owner}
use Rattle.fb_types_networks.specs.declared.instance.Owner.TheVariants as o
use Rattle.fb_types_networks.specs.declared.typed.Instance.{Instance}
use Rattle.fb_types_networks.specs.declared.typed.Network.{Network}
use Rattle.fb_types_networks.specs.Views.{Wired, body_of, placed_of, wired_of}
use Rattle.fb_model.specs.NetworkFaults.{Placed, placed_in, own_names}

-- it is found, unless memory ran out
abbrev pub Finds : {X Y : Type 0} → (X → Y) → Result X TypeFault → Y → Type 0
Finds view (Ok x) y = view x ≡ y
Finds view (Err OutOfMemory) y = Unit {0}
Finds view (Err other) y = ⊥

-- ---- parameters

-- the data inputs that parameters give values to
abbrev pub inputs_in : Owner → List book.Variable
inputs_in (o.Declared body) = inputs_of (body_of body.now)
inputs_in (o.Service service) = service_inputs (service_of service.now)

-- the parameters beside them
abbrev pub reserved_in : Owner → List Name
reserved_in (o.Declared body) = []
reserved_in (o.Service service) = reserved (service_of service.now)

-- a parameter gives a value to a data input that has none before
pub record IsParameter (vs : List book.Variable) (before : List Name) (p : ParameterTree) (q : book.Parameter) : Type 0 where
  pub variable : book.Variable
  pub found : variable_named vs p.name.text ≡ Some variable
  pub new : is_in p.name.text before ≡ false
  pub number : ℤ
  pub given : IsGiven variable.type p.value number
  pub parameter_is : q ≡ record { name = p.name.text; value = One number }

-- ---- instances

-- an instance of a declared type: its name, the values of its parameters, and the type's body
pub record IsPlaced (i : InstanceTree) (body : book.Body) (p : Placed) : Type 0 where
  pub bare : i.types ≡ None
  pub name : p.0 ≡ i.name.text
  pub parameters : AreParameters (inputs_of body) [] i.parameters p.1
  pub body_is : p.2 ≡ body

-- an instance of a service
pub record IsServedAs (i : InstanceTree) (p : Placed) : Type 0 where
  pub service : book.Service
  pub name : p.0 ≡ i.name.text
  pub served : IsServed i service p.1
  pub body_is : p.2 ≡ book.Served service

-- what is found is seen so, unless memory runs out
abbrev pub FindsPlaced : Result Instance TypeFault → Placed → Type 0
FindsPlaced r p = Finds placed_of r p

abbrev pub FindsServed : Result (Option Instance) TypeFault → Placed → Type 0
FindsServed r p = Finds (λ o. option_map placed_of o) r (Some p)

-- ---- networks

-- the instances have the names of the tree, in order
pub record AreNamed (n : NetworkTree) (ps : List Placed) : Type 0 where
  pub names_are : map (λ p. p.0) ps ≡ instance_texts n.instances

-- a network of these instances: their names are new in the interface, and its connections are well typed
pub record IsWired (f : book.Face) (n : NetworkTree) (ps : List Placed) (w : Wired) : Type 0 where
  pub names : AreNew (own_names f) (instance_texts n.instances)
  pub instances : w.0 ≡ ps
  pub events : AreEventConnections f (placed_in ps) n.events w.1
  pub values : AreValueConnections f (placed_in ps) (given_in (placed_in ps)) n.values w.2

abbrev pub FindsWired : Result Network TypeFault → Wired → Type 0
FindsWired r w = Finds wired_of r w

-- the data inputs of an instance that have a parameter
abbrev pub given_by : Placed → List book.End
given_by i = map (λ (p : book.Parameter). record { instance = Some i.0; port = p.name }) i.1
