-- What source trees are, without where they lie in memory.
use Rattle.std.specs.Prelude.{map}
use Rattle.fb_tree.specs.Words.{word_of, optional}
use Rattle.fb_tree.specs.Algorithms.{constant_of, expr_of, body_of}
use Rattle.fb_tree.specs.declared.tree.EventTree.{EventTree}
use Rattle.fb_tree.specs.declared.tree.BoundsTree.{BoundsTree}
use Rattle.fb_tree.specs.declared.tree.StartTree.{StartTree}
use Rattle.fb_tree.specs.declared.tree.VariableTree.{VariableTree}
use Rattle.fb_tree.specs.declared.tree.ActionTree.{ActionTree}
use Rattle.fb_tree.specs.declared.tree.StateTree.{StateTree}
use Rattle.fb_tree.specs.declared.tree.GuardTree.{GuardTree}
use Rattle.fb_tree.specs.declared.tree.TransitionTree.{TransitionTree}
use Rattle.fb_tree.specs.declared.tree.AlgorithmTree.{AlgorithmTree}
use Rattle.fb_tree.specs.declared.tree.ChartTree.{ChartTree}
use Rattle.fb_tree.specs.declared.tree.ParameterTree.{ParameterTree}
use Rattle.fb_tree.specs.declared.tree.InstanceTree.{InstanceTree}
use Rattle.fb_tree.specs.declared.tree.PortTree.{PortTree}
use Rattle.fb_tree.specs.declared.tree.ConnectionTree.{ConnectionTree}
use Rattle.fb_tree.specs.declared.tree.NetworkTree.{NetworkTree}
use Rattle.fb_tree.specs.declared.tree.BodyTree.{BodyTree}
use Rattle.fb_tree.specs.declared.tree.BlockTree.{BlockTree}
use Rattle.fb_tree.specs.declared.tree.ResourceTree.{ResourceTree}
use Rattle.fb_tree.specs.declared.tree.DeviceTree.{DeviceTree}
use Rattle.fb_tree.specs.declared.tree.SystemTree.{SystemTree}
use Rattle.fb_tree.specs.declared.tree.FileTree.{FileTree}
use Rattle.fb_tree.specs.declared.tree.BodyTree.TheVariants as b
use Rattle.fb_model.specs.Trees as book
use Rattle.fb_model.specs.Declarations as decl

abbrev pub event_of : EventTree → decl.EventTree
event_of x = record { name = word_of x.name; carries = map word_of x.carries.items }

abbrev pub bounds_of : BoundsTree → decl.BoundsTree
bounds_of x = record { low = constant_of x.low; high = constant_of x.high }

abbrev pub start_of : StartTree → decl.StartTree
start_of x = record { at = x.at; value = constant_of x.value }

abbrev pub variable_of : VariableTree → decl.VariableTree
variable_of x = record { names = map word_of x.names.items; bounds = optional bounds_of x.bounds; type = x.of_type; start = optional start_of x.start }

abbrev pub action_of : ActionTree → book.ActionTree
action_of x = record { algorithm = optional word_of x.algorithm; output = optional word_of x.output }

abbrev pub state_of : StateTree → book.StateTree
state_of x = record { name = word_of x.name; actions = map action_of x.actions.items }

abbrev pub guard_of : GuardTree → decl.GuardTree
guard_of x = record { at = x.at; condition = expr_of x.condition }

abbrev pub transition_of : TransitionTree → decl.TransitionTree
transition_of x = record { source = word_of x.source; target = word_of x.target; event = optional word_of x.event; guard = optional guard_of x.guard }

abbrev pub algorithm_of : AlgorithmTree → decl.AlgorithmTree
algorithm_of x = record { name = word_of x.name; body = body_of x.body.items }

abbrev pub chart_of : ChartTree → decl.ChartTree
chart_of x =
    record {
      internals = map variable_of x.internals.items;
      states = map state_of x.states.items;
      transitions = map transition_of x.transitions.items;
      algorithms = map algorithm_of x.algorithms.items;
    }

abbrev pub parameter_of : ParameterTree → book.ParameterTree
parameter_of x = record { name = word_of x.name; at = x.at; value = constant_of x.value }

abbrev pub instance_of : InstanceTree → decl.InstanceTree
instance_of x = record { name = word_of x.name; type = word_of x.of_type; types = optional (λ v. v.items) x.types; parameters = map parameter_of x.parameters.items }

abbrev pub port_of : PortTree → book.PortTree
port_of x = record { first = word_of x.first; second = optional word_of x.second }

abbrev pub connection_of : ConnectionTree → book.ConnectionTree
connection_of x = record { source = port_of x.source; at = x.at; target = port_of x.target }

abbrev pub network_of : NetworkTree → decl.NetworkTree
network_of x = record { instances = map instance_of x.instances.items; events = map connection_of x.events.items; values = map connection_of x.values.items }

abbrev pub block_body_of : BodyTree → decl.BodyTree
block_body_of (b.Chart chart) = decl.Chart (chart_of chart)
block_body_of (b.Network network) = decl.Network (network_of network)

abbrev pub block_of : BlockTree → decl.BlockTree
block_of x =
    record {
      name = word_of x.name;
      event_inputs = map event_of x.event_inputs.items;
      event_outputs = map event_of x.event_outputs.items;
      inputs = map variable_of x.inputs.items;
      outputs = map variable_of x.outputs.items;
      body = block_body_of x.body;
    }

abbrev pub resource_of : ResourceTree → decl.ResourceTree
resource_of x = record { name = word_of x.name; network = network_of x.network }

abbrev pub device_of : DeviceTree → decl.DeviceTree
device_of x = record { name = word_of x.name; resources = map resource_of x.resources.items }

abbrev pub system_of : SystemTree → decl.SystemTree
system_of x = record { name = word_of x.name; devices = map device_of x.devices.items }

abbrev pub source_of : FileTree → decl.SourceTree
source_of x = record { blocks = map block_of x.blocks.items; system = system_of x.system }
