use Rattle.fb_find_graph.proofs.Solving.{place_read}
use Rattle.fb_find_graph.proofs.walk.demand.Goals as goal

pub returns-then-p-system : goal.returns-then-p-system
returns-then-p-system c = rw (place_read c.args.system.now c.args.p c.index-system-p.result c.if-p-system.true c.index-system-p.is) (rw c.deref.ensures.value at c.demand_among.ensures)
