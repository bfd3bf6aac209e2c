use Rattle.fb_tree.specs.Algorithms.{expr_of}
use Rattle.fb_model.specs.TextTyping.{IsCondition}
use Rattle.fb_model.specs.TextFaults.{IsNoCondition}
use Rattle.st_types.specs.Elaborating.{condition}
use Rattle.st_types.specs.Views.{term_of, entries}
use Rattle.st_types.proofs.Commands.{condition_sound, condition_complete}
use Rattle.st_types.proofs.Misdoings.{condition_refused}
use Rattle.st_types.proofs.Resolved.{found, finds, refuses}
use Rattle.st_types.proofs.whole.resolve_condition.Goals as goal

pub returns-clause-found : goal.returns-clause-found
returns-clause-found c =
    let env = entries c.args.scope.now in
    let e = expr_of c.args.expr.now in
    found term_of c.condition.result (condition env c.args.at e) (IsCondition env e) c.condition.ensures (condition_sound env c.args.at e)

pub returns-clause-only : goal.returns-clause-only
returns-clause-only c x h =
    let env = entries c.args.scope.now in
    let e = expr_of c.args.expr.now in
    finds term_of c.condition.result (condition env c.args.at e) x c.condition.ensures (condition_complete env c.args.at e x h)

pub returns-clause-refused : goal.returns-clause-refused
returns-clause-refused c =
    let env = entries c.args.scope.now in
    let e = expr_of c.args.expr.now in
    refuses term_of c.condition.result (condition env c.args.at e) (IsNoCondition env c.args.at e) c.condition.ensures (condition_refused env c.args.at e)
