use Rattle.std.proofs.Common.{subst, sym, ap, arith, length}
use Rattle.fb_find_graph.specs.Views.{system_of}
use Rattle.fb_find_demands.proofs.Grouped.{HasNone, none_yet, none_grouped}
use Rattle.fb_find_demands.proofs.grouping.empty.Goals as goal

pub loop-init : goal.loop-init
loop-init c = (subst (λ xs. HasNone (system_of xs)) (sym c.new-places.ensures.items) none_yet, ap length c.new-places.ensures.items)

pub returns-clause-grouped : goal.returns-clause-grouped
returns-clause-grouped c = none_grouped c.args.count (system_of c.loop.places.items) c.loop.invariant.0

pub returns-clause-sized : goal.returns-clause-sized
returns-clause-sized c = omega (arith, c.loop.invariant.1, c.loop-test.false)
