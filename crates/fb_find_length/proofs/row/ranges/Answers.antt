use Rattle.std.proofs.Common.{ap, sym, arith}
use Rattle.fb_find_length.specs.Counting.{range_length}
use Rattle.fb_find_length.proofs.Counting.{ranges_next}
use Rattle.fb_find_length.proofs.row.ranges.Goals as goal

pub returns-in-None : goal.returns-in-None
returns-in-None c =
    let next = ranges_next c.args.beside c.args.variables.now.entries c.loop-index.index _ (sym c.in-Some.ensures.entry) in
    let named = ap (λ n. range_length c.args.beside n c.in-Some.variable.now.of_type) c.as_str.ensures.value in
    omega (arith, c.loop-index.invariant, next, named, c.in-None.ensures)

pub loop-index-preserved : goal.loop-index-preserved
loop-index-preserved c =
    let next = ranges_next c.args.beside c.args.variables.now.entries c.loop-index.index _ (sym c.in-Some.ensures.entry) in
    let named = ap (λ n. range_length c.args.beside n c.in-Some.variable.now.of_type) c.as_str.ensures.value in
    omega (arith, c.loop-index.invariant, next, named, c.in-Some-range.ensures)
