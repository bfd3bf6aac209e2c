use Rattle.fb_types_blocks.proofs.Faultless.{not_misgiven, no_face_fault}
use Rattle.fb_types_blocks.proofs.FaultlessBlocks.{no_block_fault}
use Rattle.fb_types_blocks.proofs.laws.refusals_are_true.Goals as goal

pub returns-clause-constants : goal.returns-clause-constants
returns-clause-constants c = not_misgiven

pub returns-clause-faces : goal.returns-clause-faces
returns-clause-faces c = λ b ins outs g f x d h other. other (no_face_fault b ins outs g f x d h)

pub returns-clause-blocks : goal.returns-clause-blocks
returns-clause-blocks c = λ b e k f x h other. other (no_block_fault b e k f x h)
