use Rattle.fb_model_laws.proofs.Alike.{alike_whole}
use Rattle.fb_ranges_intervals.specs.Views.{span_of}
use Rattle.fb_ranges.proofs.table.are_same.Goals as goal

pub returns : goal.returns
returns c t = alike_whole span_of c.args.rows.now c.args.others.now c.loop-at.at c.loop-at-test.false c.if-rows-others.false c.loop-at.invariant
