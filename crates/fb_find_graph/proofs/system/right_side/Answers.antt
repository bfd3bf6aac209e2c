use Rattle.std.proofs.Common.{slice_index, arith}
use Rattle.fb_find_graph.specs.Views.{inequality_of}
use Rattle.fb_find_graph.proofs.Solving.{past_limit}
use Rattle.fb_find_graph.proofs.system.right_side.Goals as goal

pub returns-then-number-limit : goal.returns-then-number-limit
returns-then-number-limit c =
    past_limit (slice_index c.args.numbers.now) (inequality_of c.args.alternative.now) c.loop-term.term-index c.args.limit c.loop-term.total (rw c.deref-term-items.ensures.value at c.loop-term-test.true) (rw c.deref-term-items.ensures.value at c.loop-term.invariant.total) (rw (← c.deref-term-items.ensures.value) (omega (arith, c.if-number-limit.true)))
