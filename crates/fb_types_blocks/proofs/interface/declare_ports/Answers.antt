use Rattle.std.proofs.Common.{map, refl}
use Rattle.std.proofs.lemmas.Result.{err_from_is_err_and, IfErr-weaker}
use Rattle.fb_model.specs.BlockTyping.{words_in}
use Rattle.fb_model.specs.Typing.{texts}
use Rattle.fb_tree.specs.Files as tree
use Rattle.fb_types_blocks.specs.Views.{names_of}
use Rattle.fb_types_blocks.proofs.Lists.{on_ok}
use Rattle.fb_types_blocks.proofs.Repeated.{in_front, both_new, second_again}
use Rattle.fb_types_blocks.proofs.interface.declare_ports.Goals as goal

pub returns-in_err-declare_variables-clause-refused : goal.returns-in_err-declare_variables-clause-refused
returns-in_err-declare_variables-clause-refused c =
    let f = c.in_err-declare_variables.field-0.0 in
    let ws = words_in (map tree.variable_of c.args.inputs.now) in
    let vs = words_in (map tree.variable_of c.args.outputs.now) in
    let p = err_from_is_err_and c.from_residual.result c.from_residual.ensures.1 in
    rw (p.1, p.2) (in_front (names_of c.args.names.now) ws vs f c.in_err-declare_variables.ensures.refused)

pub returns-clause-new : goal.returns-clause-new
returns-clause-new c =
    let old = names_of c.args.names.now in
    let mid = names_of c.declare_variables.new.names in
    let ws = words_in (map tree.variable_of c.args.inputs.now) in
    let vs = words_in (map tree.variable_of c.args.outputs.now) in
    on_ok (λ h. both_new old mid ws vs (texts ws) (texts vs) refl refl c.in_ok-declare_variables.ensures.new c.in_ok-declare_variables.ensures.added h) c.declare_variables-2.result c.declare_variables-2.ensures.new

pub returns-clause-refused : goal.returns-clause-refused
returns-clause-refused c =
    let old = names_of c.args.names.now in
    let mid = names_of c.declare_variables.new.names in
    let ws = words_in (map tree.variable_of c.args.inputs.now) in
    let vs = words_in (map tree.variable_of c.args.outputs.now) in
    IfErr-weaker c.declare_variables-2.result _ _ (λ f h. second_again old mid ws vs vs (texts ws) f refl refl c.in_ok-declare_variables.ensures.new c.in_ok-declare_variables.ensures.added h) c.declare_variables-2.ensures.refused
