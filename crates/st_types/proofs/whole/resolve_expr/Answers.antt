use Rattle.fb_tree.specs.Algorithms.{expr_of}
use Rattle.fb_model.specs.TextTyping.{IsAsked}
use Rattle.fb_model.specs.TextFaults.{IsNotAsked}
use Rattle.st_types.specs.Elaborating.{asked}
use Rattle.st_types.specs.Views.{term_of, entries}
use Rattle.st_types.proofs.Commands.{asked_sound, asked_complete}
use Rattle.st_types.proofs.Misdoings.{asked_refused}
use Rattle.st_types.proofs.Resolved.{found, finds, refuses}
use Rattle.st_types.proofs.whole.resolve_expr.Goals as goal

pub returns-clause-found : goal.returns-clause-found
returns-clause-found c =
    let env = entries c.args.scope.now in
    let e = expr_of c.args.expr.now in
    found term_of c.asked.result (asked env c.args.of c.args.at e) (IsAsked env c.args.of e) c.asked.ensures (asked_sound env c.args.of c.args.at e)

pub returns-clause-only : goal.returns-clause-only
returns-clause-only c x h =
    let env = entries c.args.scope.now in
    let e = expr_of c.args.expr.now in
    finds term_of c.asked.result (asked env c.args.of c.args.at e) x c.asked.ensures (asked_complete env c.args.of c.args.at e x h)

pub returns-clause-refused : goal.returns-clause-refused
returns-clause-refused c =
    let env = entries c.args.scope.now in
    let e = expr_of c.args.expr.now in
    refuses term_of c.asked.result (asked env c.args.of c.args.at e) (IsNotAsked env c.args.of c.args.at e) c.asked.ensures (asked_refused env c.args.of c.args.at e)
