-- Leaves with their wires, as they are written: paths are one text.
-- IEC 61499-1 edition 2, 5.3 (instances and their event connections) and 7 (devices and resources).
use Rattle.std.specs.Prelude.{ℕ, ◌≡◌, ◌<◌, pos, List, [], ◌∷◌, Some, map, string_bytes}
use Rattle.fb_model.specs.Names.{Name, Place}
use Rattle.fb_model.specs.Values.{One}
use Rattle.fb_model.specs.System as book
use Rattle.fb_model.specs.System.{constant}
use Rattle.fb_model.specs.Services.{service_event_outputs}
use Rattle.fb_model.specs.Typing.{names_of}
use Rattle.fb_model.specs.NetworkTyping.{no_face}
use Rattle.fb_model.specs.Wires as wires
use Rattle.fb_model.specs.Wires.{Kind, Charted, Serviced, Source, Constant, fed, given_in, inputs_of, leaves_of, resource_leaves, resource_count, most_followed}
use Rattle.fb_types_blocks.specs.Views.{block_of}
use Rattle.fb_types_services.specs.Views.{service_of}
use Rattle.fb_types_networks.specs.declared.typed.Network.{Network}
use Rattle.fb_types_networks.specs.Views.{wired_of, parameter_of, body_of}
use Rattle.fb_types.specs.declared.typed.Resource.{Resource}
use Rattle.fb_types.specs.Views.{resource_of}
use Rattle.fb_faults.specs.declared.typing.TypeFault.{TypeFault}
use Rattle.fb_faults.specs.declared.typing.TypeFault.TheVariants.{OutOfMemory, Limit}
use Rattle.fb_flat.specs.declared.flat.Body.{Body}
use Rattle.fb_flat.specs.declared.flat.Body.TheVariants as b
use Rattle.fb_flat.specs.declared.flat.Output.{Output}
use Rattle.fb_flat.specs.declared.flat.Leaf.{Leaf}
use Rattle.fb_flat.specs.declared.flat.FlatResource.{FlatResource}
use Rattle.fb_flat.specs.declared.flat.FlatDevice.{FlatDevice}
use Rattle.fb_flat.specs.declared.site.Trail.{Trail}
use Rattle.fb_flat.specs.declared.site.Around.{Around, Nothing, Level'}
use Rattle.fb_flat.specs.Sites.{text_of, path_of, inner_of, events_in, left_by}
use Rattle.fb_flat.specs.Walks.{Spot, spots_of, target_spot}
use Rattle.fb_flat.specs.Sources.{Fed, fed_by, written_inputs, input_of}

-- ---- what is written of leaves

-- an event output, and the leaf event inputs that it leads to, in the order of the connections
abbrev pub Led : Type 0
Led = Name × List Spot

-- a leaf: its path in one text, what it is, and its event outputs and data inputs in the order of its type
pub record Written : Type 0 where
  pub path : Name
  pub kind : Kind
  pub outputs : List Led
  pub inputs : List Fed

-- the event outputs of a leaf, in the order of its type
abbrev pub outputs_of : Kind → List Name
outputs_of (Charted block) = names_of block.event_outputs
outputs_of (Serviced service) = service_event_outputs service

abbrev pub led : (Name → List Place) → List Name → List Led
led targets os = map (λ o. (o, spots_of (targets o))) os

-- a leaf of the book, written
abbrev pub written : wires.Leaf → Written
written leaf = record { path = text_of leaf.path; kind = leaf.kind; outputs = led leaf.targets (outputs_of leaf.kind); inputs = fed_by leaf.source (written_inputs leaf.kind) }

-- ---- what the tables hold

abbrev pub kind_of : Body → Kind
kind_of (b.Basic block) = Charted (block_of block.value)
kind_of (b.Served service) = Serviced (service_of service)

abbrev pub output_of : Output → Led
output_of o = (string_bytes o.name, map target_spot o.targets.items)

abbrev pub leaf_of : Leaf → Written
leaf_of l = record { path = string_bytes l.path; kind = kind_of l.body; outputs = map output_of l.outputs.items; inputs = map input_of l.inputs.items }

-- ---- resources and devices

-- a resource: its path in one text, and its leaves depth first in text order
abbrev pub WrittenResource : Type 0
WrittenResource = Name × List Written

abbrev pub flat_resource : FlatResource → WrittenResource
flat_resource f = (string_bytes f.path, map leaf_of f.leaves.items)

abbrev pub flat_device : FlatDevice → Name × List WrittenResource
flat_device f = (string_bytes f.name, map flat_resource f.resources.items)

-- the number of the resource is not written: it is the resource's place
abbrev pub written_resource : Name → book.Resource → WrittenResource
written_resource device r = (text_of (device ∷ r.name ∷ []), map written (resource_leaves 0 (device ∷ []) r))

abbrev pub written_device : book.Device → Name × List WrittenResource
written_device d = (d.name, map (written_resource d.name) d.resources)

-- ---- limits

-- more connections are followed in a resource, and this is its place
abbrev pub IsFull : Resource → ℕ → Type 0
IsFull r at = (most_followed < resource_count (resource_of r)) × (at ≡ r.at)

-- want of memory, or a limit at such a place
abbrev pub IsLimitAt : (ℕ → Type 0) → TypeFault → Type 0
IsLimitAt P OutOfMemory = Unit {0}
IsLimitAt P (Limit at) = P at
IsLimitAt P other = ⊥

-- ---- the middle layer: leaves of bodies where they stand

abbrev pub values_in : Network → List book.Connection
values_in n = (wired_of n).2

-- what holds a data input of a body
abbrev pub held_by : Around → Name → Source
held_by Nothing port = Constant (One (pos 0))
held_by (Level' network instance trail p outer) port =
    fed (values_in network.now) (Some (string_bytes instance.now.name)) port (given_in (inner_of network.now) (path_of trail.now)) (held_by outer)
    (Constant (constant (map parameter_of instance.now.parameters.items) (inputs_of (body_of instance.now.body)) port))

-- the leaves of a body on a trail
abbrev pub leaves_at : book.Body → Trail → Around → List Written
leaves_at body trail around = map written (leaves_of body 0 (path_of trail) (left_by around) (held_by around))

-- a network as the body of a composite
abbrev pub composed : Network → book.Body
composed n = book.Composite no_face (inner_of n) (events_in n) (values_in n)
