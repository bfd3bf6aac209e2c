use Rattle.std.proofs.Common.{[], Err, sym, ◌∙◌}
use Rattle.std.proofs.lemmas.Result.{err_from_is_err_and}
use Rattle.fb_model.specs.TextFaults.{SomeMisdone}
use Rattle.fb_tree.specs.Algorithms.{body_of}
use Rattle.st_types.specs.declared.whole.Algo.{Algo}
use Rattle.st_types.specs.Commanding.{all_commanded}
use Rattle.st_types.specs.Views.{entries}
use Rattle.st_types.specs.CommandViews.{commands_of}
use Rattle.st_types.proofs.Rules.{ok_same}
use Rattle.st_types.proofs.Commands.{commands_sound, commands_complete}
use Rattle.st_types.proofs.Misdoings.{commands_refused}
use Rattle.st_types.proofs.Resolved.{finds, refuses}
use Rattle.st_types.proofs.whole.resolve_algorithm.Goals as goal

pub returns-in_err-statements-clause-only : goal.returns-in_err-statements-clause-only
returns-in_err-statements-clause-only c =
    let env = entries c.args.scope.now in
    let xs = body_of c.args.list.now in
    let p = err_from_is_err_and c.from_residual.result c.from_residual.ensures.1 in
    rw (p.1, p.2) (λ x h. finds (λ (a : Algo). commands_of a.statements.items) (Err c.in_err-statements.field-0.0) (all_commanded env [] xs) x c.in_err-statements.ensures (commands_complete env [] xs x h))

pub returns-in_err-statements-clause-refused : goal.returns-in_err-statements-clause-refused
returns-in_err-statements-clause-refused c =
    let env = entries c.args.scope.now in
    let xs = body_of c.args.list.now in
    let p = err_from_is_err_and c.from_residual.result c.from_residual.ensures.1 in
    rw (p.1, p.2) (refuses (λ (a : Algo). commands_of a.statements.items) (Err c.in_err-statements.field-0.0) (all_commanded env [] xs) (SomeMisdone env [] xs) c.in_err-statements.ensures (commands_refused env [] xs))

pub returns-clause-found : goal.returns-clause-found
returns-clause-found c = commands_sound (entries c.args.scope.now) [] (body_of c.args.list.now) (commands_of c.in_ok-statements.statements.items) c.in_ok-statements.ensures

pub returns-clause-only : goal.returns-clause-only
returns-clause-only c x h =
    let env = entries c.args.scope.now in
    let xs = body_of c.args.list.now in
    ok_same (commands_of c.in_ok-statements.statements.items) x (sym c.in_ok-statements.ensures ∙ commands_complete env [] xs x h)
