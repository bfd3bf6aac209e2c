use Rattle.std.proofs.Common.{◌≡◌, ◌++◌, ◌∷◌, [], map, drop, ◌+◌, inr, sym, subst, ◌∙◌}
use Rattle.std.proofs.lemmas.List.{map_push}
use Rattle.std.proofs.lemmas.Result.{err_from_is_err_and}
use Rattle.fb_tree.specs.Files as trees_of
use Rattle.fb_types_networks.specs.Views.{names_of, parameter_of}
use Rattle.fb_types_networks.specs.Answers.{inputs_in, reserved_in}
use Rattle.fb_types_networks.proofs.Loops.{next_left, none_left}
use Rattle.fb_types_networks.proofs.Parameters.{ParametersSo, parameters_more, parameters_past, parameters_done, parameters_wrong}
use Rattle.fb_types_networks.proofs.instance.parameters.Goals.{then-not-reserves+in_ok-parameter+in_ok-push, else-not-reserves}
use Rattle.fb_types_networks.proofs.instance.parameters.Goals as goal

pub returns-in_err-parameter-clause-refused : goal.returns-in_err-parameter-clause-refused
returns-in_err-parameter-clause-refused c =
    let p = err_from_is_err_and c.from_residual.result c.from_residual.ensures.1 in
    let vs = inputs_in c.args.owner.now in
    let xs = reserved_in c.args.owner.now in
    let all = map trees_of.parameter_of c.args.sources.now in
    let i = c.loop-source.source-index in
    let x = c.source-item.result in
    let so = subst (λ l. ParametersSo vs xs all (map parameter_of c.loop-source.parameters.items) (names_of c.loop-source.given) l) (next_left trees_of.parameter_of c.args.sources.now i x c.loop-source-test.true c.source-item.is) c.loop-source.invariant in
    rw (p.1, p.2)
    (inr (parameters_wrong vs xs all (map parameter_of c.loop-source.parameters.items) (names_of c.loop-source.given) (trees_of.parameter_of x) (map trees_of.parameter_of (drop (i + 1) c.args.sources.now)) c.in_err-parameter.field-0.0 so (rw c.as_str.ensures.value at (sym c.reserves.ensures ∙ c.if-not-reserves.true)) c.in_err-parameter.ensures.refused))

pub loop-source-preserved : goal.loop-source-preserved
loop-source-preserved c =
    let vs = inputs_in c.args.owner.now in
    let xs = reserved_in c.args.owner.now in
    let all = map trees_of.parameter_of c.args.sources.now in
    let i = c.loop-source.source-index in
    let x = c.source-item.result in
    let made = map parameter_of c.loop-source.parameters.items in
    let given = names_of c.loop-source.given in
    let left = map trees_of.parameter_of (drop (i + 1) c.args.sources.now) in
    let so = subst (λ l. ParametersSo vs xs all made given l) (next_left trees_of.parameter_of c.args.sources.now i x c.loop-source-test.true c.source-item.is) c.loop-source.invariant in
    elim c.if-not-reserves.branch [
      | then-not-reserves+in_ok-parameter+in_ok-push w ↦
          let e : map parameter_of w.push.new.self.items ≡ made ++ parameter_of w.in_ok-parameter.field-0 ∷ [] = rw w.in_ok-push.ensures.items (map_push parameter_of c.loop-source.parameters.items w.in_ok-parameter.field-0) in
          rw (w.given-is, w.parameters-is, e, w.in_ok-parameter.ensures.given)
          (parameters_more vs xs all made given (trees_of.parameter_of x) left (parameter_of w.in_ok-parameter.field-0) so (rw c.as_str.ensures.value at (sym c.reserves.ensures ∙ w.if-not-reserves.true)) w.in_ok-parameter.ensures.typed)
      | else-not-reserves w ↦ rw (w.given-is, w.parameters-is) (parameters_past vs xs all made given (trees_of.parameter_of x) left so (rw c.as_str.ensures.value at (sym c.reserves.ensures ∙ w.if-not-reserves.false)))
    ]

pub returns-clause-typed : goal.returns-clause-typed
returns-clause-typed c =
    let vs = inputs_in c.args.owner.now in
    let xs = reserved_in c.args.owner.now in
    let all = map trees_of.parameter_of c.args.sources.now in
    let made = map parameter_of c.loop-source.parameters.items in
    let given = names_of c.loop-source.given in
    parameters_done vs xs all made given (subst (λ l. ParametersSo vs xs all made given l) (none_left trees_of.parameter_of c.args.sources.now c.loop-source.source-index c.loop-source-test.false) c.loop-source.invariant)
