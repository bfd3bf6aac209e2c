use Rattle.std.proofs.Common.{sym}
use Rattle.st_exec.proofs.Laying.{place_is}
use Rattle.st_exec.proofs.layout.Layout.location.Goals as goal

pub returns : goal.returns
returns c = place_is c.args.self.now c.self.inside.locations.entries c.self.inside.size c.self.view_is c.self.invariant c.args.name.now c.find.result (sym c.find.ensures)
