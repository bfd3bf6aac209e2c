use Rattle.std.proofs.Common.{◌∙◌}
use Rattle.fb_model.specs.NetworkTyping.{variable_named, outputs_of}
use Rattle.fb_model.specs.Wires.{inputs_of}
use Rattle.fb_types_networks.specs.Views.{body_of}
use Rattle.fb_types_networks.proofs.Ends.{carries}
use Rattle.fb_types_networks.proofs.end.inner_port.Goals as goal

pub returns-in-ValueSource : goal.returns-in-ValueSource
returns-in-ValueSource c = rw c.in-ValueSource.is (c.values_of.ensures ∙ carries c.output.result (variable_named (outputs_of (body_of c.args.body.now)) c.args.name.now) c.output.ensures)

pub returns-in-ValueTarget : goal.returns-in-ValueTarget
returns-in-ValueTarget c = rw c.in-ValueTarget.is (c.values_of-in-ValueTarget.ensures ∙ carries c.input.result (variable_named (inputs_of (body_of c.args.body.now)) c.args.name.now) c.input.ensures)
