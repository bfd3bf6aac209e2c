use Rattle.std.proofs.Common.{None, Some, sym, ap, ◌∙◌}
use Rattle.st_exec.proofs.Laying.{one_slot, plain_is}
use Rattle.st_exec.proofs.layout.Layout.plain_slot.Goals as goal

pub returns-in-None-bounds : goal.returns-in-None-bounds
returns-in-None-bounds c =
    ap (λ b. one_slot b c.in-Some.location.first c.self.inside.size) (sym c.in-None-bounds.is)
    ∙ plain_is c.args.self.now c.self.inside.locations.entries c.self.inside.size c.self.view_is c.self.invariant c.args.name.now (Some c.in-Some.location) (sym c.find.ensures ∙ c.in-Some.is)

pub returns-in-Some-bounds : goal.returns-in-Some-bounds
returns-in-Some-bounds c =
    ap (λ b. one_slot b c.in-Some.location.first c.self.inside.size) (sym c.in-Some-bounds.is)
    ∙ plain_is c.args.self.now c.self.inside.locations.entries c.self.inside.size c.self.view_is c.self.invariant c.args.name.now (Some c.in-Some.location) (sym c.find.ensures ∙ c.in-Some.is)

pub returns-in-None : goal.returns-in-None
returns-in-None c =
    plain_is c.args.self.now c.self.inside.locations.entries c.self.inside.size c.self.view_is c.self.invariant c.args.name.now None (sym c.find.ensures ∙ c.in-None.is)
