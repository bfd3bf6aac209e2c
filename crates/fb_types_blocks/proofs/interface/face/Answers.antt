use Rattle.std.proofs.Common.{subst}
use Rattle.std.proofs.lemmas.Result.{err_from_is_err_and, IfOk-weaker}
use Rattle.fb_model.specs.Typing.{AreDistinct}
use Rattle.fb_tree.specs.Files as tree
use Rattle.fb_types_blocks.specs.Views.{declared_in, face_of}
use Rattle.fb_model.specs.BlockFaults.{repeated_name}
use Rattle.fb_types_blocks.proofs.Faultless.{own_names_are, no_face_fault}
use Rattle.fb_types_blocks.proofs.Interfaces.{out_of_memory, face_only}
use Rattle.fb_types_blocks.proofs.interface.face.Goals as goal

pub returns-in_err-own_names-clause-only : goal.returns-in_err-own_names-clause-only
returns-in_err-own_names-clause-only c =
    let f = c.in_err-own_names.field-0.0 in
    let b = tree.block_of c.args.source.now in
    let p = err_from_is_err_and c.from_residual.result c.from_residual.ensures.1 in
    rw (p.1, p.2) (λ ins outs g h d. out_of_memory face_of g f (no_face_fault b ins outs g f h d (repeated_name c.in_err-own_names.ensures.refused)))

pub returns-clause-distinct : goal.returns-clause-distinct
returns-clause-distinct c =
    let b = tree.block_of c.args.source.now in
    IfOk-weaker c.ports.result _ _ (λ x h. subst AreDistinct (own_names_are b (declared_in x.inputs) (declared_in x.outputs) h.inputs h.outputs) c.in_ok-own_names.ensures.distinct) c.ports.ensures.found

pub returns-clause-only : goal.returns-clause-only
returns-clause-only c = face_only (tree.block_of c.args.source.now) c.ports.result c.ports.ensures.found c.ports.ensures.refused
