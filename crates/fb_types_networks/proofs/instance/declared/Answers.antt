use Rattle.std.proofs.Common.{[], subst}
use Rattle.std.proofs.lemmas.Result.{err_from_is_err_and}
use Rattle.fb_tree.specs.Files as trees_of
use Rattle.fb_types_blocks.proofs.Refused.{either_of}
use Rattle.fb_model.specs.Wires.{inputs_of}
use Rattle.fb_types_networks.specs.Views.{body_of}
use Rattle.fb_model.specs.NetworkFaults.{IsParametersFault, no_memory_for_plain, faulty_parameters}
use Rattle.fb_types_networks.proofs.Parameters.{lacking_none}
use Rattle.fb_types_networks.proofs.Networks.{plain_of}
use Rattle.fb_types_networks.proofs.instance.declared.Goals as goal

pub returns-in_err-parameters-clause-refused : goal.returns-in_err-parameters-clause-refused
returns-in_err-parameters-clause-refused c =
    let p = err_from_is_err_and c.from_residual-in_err-parameters.result c.from_residual-in_err-parameters.ensures.1 in
    let i = trees_of.instance_of c.args.source.now in
    let b = body_of c.args.body in
    rw (p.1, p.2)
    (either_of no_memory_for_plain (λ f. faulty_parameters (subst (λ ps. IsParametersFault (inputs_of b) [] ps c.in_err-parameters.field-0.0) (lacking_none i.parameters) f)) (rw c.deref.ensures.value at c.in_err-parameters.ensures.refused))

pub returns-clause-typed : goal.returns-clause-typed
returns-clause-typed c = plain_of (trees_of.instance_of c.args.source.now) (body_of c.args.body) _ _ c.in_ok-bare.ensures.none (rw c.deref.ensures.value at c.in_ok-parameters.ensures.typed) c.in_ok-instance.ensures.parts
