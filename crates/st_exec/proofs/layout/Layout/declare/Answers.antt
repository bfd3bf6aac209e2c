use Rattle.std.proofs.Common.{not, sym, ap, ◌∙◌}
use Rattle.st_exec.proofs.Laying.{is_declared}
use Rattle.st_exec.proofs.layout.Layout.declare.Goals as goal

pub returns-then-is_some-clause-is_new : goal.returns-then-is_some-clause-is_new
returns-then-is_some-clause-is_new c =
    let d = is_declared c.args.self.now c.self.inside.locations.entries c.self.inside.size c.self.view_is c.self.invariant c.args.name.now c.find.result (sym c.find.ensures) in
    ap not (sym (d ∙ sym c.is_some.ensures ∙ c.if-is_some.true))

pub returns-in-Ok-clause-is_new : goal.returns-in-Ok-clause-is_new
returns-in-Ok-clause-is_new c =
    let d = is_declared c.args.self.now c.self.inside.locations.entries c.self.inside.size c.self.view_is c.self.invariant c.args.name.now c.find.result (sym c.find.ensures) in
    ap not (sym (d ∙ sym c.is_some.ensures ∙ c.if-is_some.false))
