use Rattle.st_exec.proofs.Laying.{size_is}
use Rattle.st_exec.proofs.layout.Layout.size.Goals as goal

pub returns : goal.returns
returns c = size_is c.args.self.now c.self.inside.locations.entries c.self.inside.size c.self.view_is c.self.invariant
