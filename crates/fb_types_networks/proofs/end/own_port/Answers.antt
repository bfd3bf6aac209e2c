use Rattle.std.proofs.Common.{◌∙◌}
use Rattle.fb_model.specs.NetworkTyping.{variable_named}
use Rattle.fb_types_blocks.specs.Views.{face_of}
use Rattle.fb_types_networks.proofs.Ends.{carries}
use Rattle.fb_types_networks.proofs.end.own_port.Goals as goal

pub returns-in-ValueSource : goal.returns-in-ValueSource
returns-in-ValueSource c = rw c.in-ValueSource.is (c.values_of.ensures ∙ carries c.type_in.result (variable_named (face_of c.args.face.now).inputs c.args.name.now) c.type_in.ensures)

pub returns-in-ValueTarget : goal.returns-in-ValueTarget
returns-in-ValueTarget c = rw c.in-ValueTarget.is (c.values_of-in-ValueTarget.ensures ∙ carries c.type_in-in-ValueTarget.result (variable_named (face_of c.args.face.now).outputs c.args.name.now) c.type_in-in-ValueTarget.ensures)
