use Rattle.std.proofs.Common.{subst, ◌<◌, length}
use Rattle.fb_find_graph.specs.Views.{system_of, IsSolved}
use Rattle.fb_find_rows.proofs.Limits.{of_place}
use Rattle.fb_find_rows.proofs.solving.solved.Goals as goal

pub returns-in_ok-resource_at-in-Above-clause-refused : goal.returns-in_ok-resource_at-in-Above-clause-refused
returns-in_ok-resource_at-in-Above-clause-refused c =
    let system = system_of c.args.system.now in
    let above = subst (IsSolved system c.args.limit) c.in-Above.is c.in_ok-numbers.ensures in
    (c.in-Above.place, above.0, above.1, above.2, of_place system above.0 c.in-Above.place c.args.limit above.1 above.2, c.in_ok-resource_at-in-Above.ensures)
