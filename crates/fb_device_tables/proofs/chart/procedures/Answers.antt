use Rattle.fb_device_tables.specs.Filling.{Routine, IsProcedureMade}
use Rattle.fb_model.proofs.Lists.{got}
use Rattle.fb_device_tables.proofs.Lists.{each_more}
use Rattle.fb_device_tables.proofs.chart.procedures.Goals as goal

pub loop-index-preserved : goal.loop-index-preserved
loop-index-preserved c =
    let es = c.args.block.now.procedures.entries in
    let r : Routine = (c.in-Some.field-0-0.now, c.in-Some.algorithm.now) in
    let g = got es c.loop-index.index r c.in-Some.ensures.entry in
    each_more (IsProcedureMade c.args.own.now) es c.loop-index.index r c.loop-index.procedures.items c.push.new.self.items c.in_ok-coded_algorithm.field-0
    g.0 g.1 c.in_ok-push.ensures.items c.loop-index.invariant (c.in_ok-coded_algorithm.ensures.same, c.in_ok-coded_algorithm.ensures.slots)
