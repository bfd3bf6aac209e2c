use Rattle.std.proofs.Common.{None, Some, sym, ◌∙◌}
use Rattle.st_exec.proofs.Laying.{slot_is}
use Rattle.st_exec.proofs.layout.Layout.slot.Goals as goal

pub returns-in-Some : goal.returns-in-Some
returns-in-Some c = slot_is c.args.self.now c.self.inside.locations.entries c.self.inside.size c.self.view_is c.self.invariant c.args.name.now (Some c.in-Some.location) (sym c.find.ensures ∙ c.in-Some.is)

pub returns-in-None : goal.returns-in-None
returns-in-None c = slot_is c.args.self.now c.self.inside.locations.entries c.self.inside.size c.self.view_is c.self.invariant c.args.name.now None (sym c.find.ensures ∙ c.in-None.is)
