use Rattle.fb_types_blocks.proofs.Single.{one_declared, one_interface}
use Rattle.fb_types_blocks.proofs.laws.one_face.Goals as goal

pub returns-clause-inputs : goal.returns-clause-inputs
returns-clause-inputs c = λ b ins outs jns kuts f g x y. one_declared b.inputs ins jns x.inputs y.inputs

pub returns-clause-outputs : goal.returns-clause-outputs
returns-clause-outputs c = λ b ins outs jns kuts f g x y. one_declared b.outputs outs kuts x.outputs y.outputs

pub returns-clause-face : goal.returns-clause-face
returns-clause-face c = one_interface
