use Rattle.std.proofs.Common.{sym, subst, ◌∙◌, string_bytes, w64}
use Rattle.std.proofs.Math.Facts.{to_z-of_z}
use Rattle.std.proofs.lemmas.Result.{err_from_is_err_and}
use Rattle.fb_tree.specs.Algorithms.{constant_of}
use Rattle.fb_model.specs.NetworkTyping.{variable_named}
use Rattle.fb_model.specs.BlockFaults.{IsMisgiven}
use Rattle.fb_types_networks.specs.Answers.{inputs_in}
use Rattle.fb_model.specs.NetworkFaults.{misgiven}
use Rattle.fb_tree.specs.Files as trees_of
use Rattle.fb_types_networks.specs.Views.{names_of}
use Rattle.fb_types_networks.proofs.Taken.{newly}
use Rattle.fb_types_networks.proofs.Parameters.{with_type, parameter_of_parts}
use Rattle.fb_types_networks.proofs.instance.parameter.Goals as goal

pub returns-in_err-value-clause-refused : goal.returns-in_err-value-clause-refused
returns-in_err-value-clause-refused c =
    let p = err_from_is_err_and c.from_residual-in_err-value.result c.from_residual-in_err-value.ensures.1 in
    let k = with_type (variable_named (inputs_in c.args.owner.now) (string_bytes c.args.source.now.name.text)) c.in-Some.of_type (sym c.in-Some.is ∙ rw c.as_str.ensures.value at c.input.ensures) in
    rw (p.1, p.2) (misgiven k.found (subst (λ t. IsMisgiven t c.args.source.now.at (constant_of c.args.source.now.value) c.in_err-value.field-0.0) k.type_is c.in_err-value.ensures.refused))

pub returns-clause-typed : goal.returns-clause-typed
returns-clause-typed c =
    let k = with_type (variable_named (inputs_in c.args.owner.now) (string_bytes c.args.source.now.name.text)) c.in-Some.of_type (sym c.in-Some.is ∙ rw c.as_str.ensures.value at c.input.ensures) in
    let inv = rw c.in_ok-value.was at c.constant.type_inv in
    rw (c.named.ensures, to_z-of_z {w = w64} (record { sfits = inv.1.1.1.1.0.1 })) (parameter_of_parts (inputs_in c.args.owner.now) (names_of c.args.given.now) (trees_of.parameter_of c.args.source.now) (string_bytes c.in_ok-name.name) c.in_ok-value.value c.in-Some.of_type k c.in_ok-name.ensures.cases
    (newly _ c.in_ok-insert.field-0 c.in_ok-insert.ensures.0 c.if-not-branch.false) c.in_ok-value.ensures.found)
