use Rattle.std.proofs.Common.{length, ap, sym, arith}
use Rattle.fb_find_length.proofs.Counting.{table_next}
use Rattle.fb_find_length.proofs.row.table.Goals as goal

pub returns-in-None : goal.returns-in-None
returns-in-None g c =
    let next = table_next c.args.beside c.args.table.now.entries c.loop-index.index _ (sym c.in-Some.ensures.entry) in
    omega (arith, c.loop-index.invariant, next, ap length c.as_str.ensures.value, c.in-None.ensures)

pub loop-index-preserved : goal.loop-index-preserved
loop-index-preserved g c =
    let next = table_next c.args.beside c.args.table.now.entries c.loop-index.index _ (sym c.in-Some.ensures.entry) in
    omega (arith, c.loop-index.invariant, next, ap length c.as_str.ensures.value, c.in-Some-row.ensures)
