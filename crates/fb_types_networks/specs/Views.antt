-- What typed networks are in the book, without where they lie in memory.
use Rattle.std.specs.Prelude.{List, map, string_bytes}
use Rattle.std.specs.Option.{option_map}
use Rattle.std.specs.declared.string.String.{String}
use Rattle.std.specs.declared.alloc.Global.{Global}
use Rattle.indexmap.specs.IndexSet.{IndexSet}
use Rattle.fb_types_blocks.specs.Views.{block_of, face_of}
use Rattle.fb_types_services.specs.Views.{service_of}
use Rattle.fb_types_networks.specs.declared.typed.Parameter.{Parameter}
use Rattle.fb_types_networks.specs.declared.typed.End.{End}
use Rattle.fb_types_networks.specs.declared.typed.Connection.{Connection}
use Rattle.fb_types_networks.specs.declared.typed.Body.{Body, fold-Body}
use Rattle.fb_types_networks.specs.declared.typed.Body.TheOpen.{Body-F, Instance-F, Network-F}
use Rattle.fb_types_networks.specs.declared.typed.Instance.{Instance, fold-Instance}
use Rattle.fb_types_networks.specs.declared.typed.Network.{Network, fold-Network}
use Rattle.fb_model.specs.Names.{Name}
use Rattle.fb_model.specs.Values.{One}
use Rattle.fb_model.specs.System as book
use Rattle.fb_model.specs.NetworkFaults.{Placed, placed_in}

-- the names of a set, in order
abbrev pub names_of : {S : Type 0} → IndexSet (String Global) S → List Name
names_of s = map string_bytes s.keys

abbrev pub parameter_of : Parameter → book.Parameter
parameter_of p = record { name = string_bytes p.name; value = One p.value }

abbrev pub end_of : End → book.End
end_of e = record { instance = option_map string_bytes e.instance; port = string_bytes e.port }

abbrev pub connection_of : Connection → book.Connection
connection_of c = record { source = end_of c.source; target = end_of c.target }

-- a network: its instances, and its connections of events and of data
abbrev pub Wired : Type 0
Wired = List Placed × List book.Connection × List book.Connection

-- one level, with what is inside seen already
abbrev pub body_step : Body-F book.Body Placed Wired → book.Body
body_step (Body-F.Basic k) = book.Basic (block_of k.value)
body_step (Body-F.Served s) = book.Served (service_of s)
body_step (Body-F.Composite f n) = book.Composite (face_of f.value) (placed_in n.value.0) n.value.1 n.value.2

abbrev pub instance_step : Instance-F book.Body Placed Wired → Placed
instance_step i = (string_bytes i.name, map parameter_of i.parameters.items, i.body)

abbrev pub network_step : Network-F book.Body Placed Wired → Wired
network_step n = (n.instances.items, map connection_of n.events.items, map connection_of n.values.items)

abbrev pub body_of : Body → book.Body
body_of = fold-Body book.Body Placed Wired body_step instance_step network_step

abbrev pub placed_of : Instance → Placed
placed_of = fold-Instance book.Body Placed Wired body_step instance_step network_step

abbrev pub wired_of : Network → Wired
wired_of = fold-Network book.Body Placed Wired body_step instance_step network_step

abbrev pub instances_of : List Instance → book.Instances
instances_of is = placed_in (map placed_of is)
