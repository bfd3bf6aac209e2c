use Rattle.std.proofs.Common.{◌+◌, ◌≤◌, not, ap, ◌∙◌, arith}
use Rattle.fb_device_state.specs.Machines.{machine_of}
use Rattle.fb_world_course.proofs.First.{begun_one, begun_here, begun_above, begun_within}
use Rattle.fb_world_course.proofs.beginning.begun.Goals as goal

pub loop-count-init : goal.loop-count-init
loop-count-init c = begun_one c.args.device.now c.requires

pub returns-then-is_none : goal.returns-then-is_none
returns-then-is_none c = begun_here c.args.device.now c.requires c.loop-count.count c.opening.result c.opening.ensures c.loop-count.invariant (c.is_none.ensures ∙ ap not c.if-is_none.true)

pub loop-count-preserved : goal.loop-count-preserved
loop-count-preserved c =
    let above = begun_above c.args.device.now c.requires c.loop-count.count c.opening.result c.opening.ensures (c.is_none.ensures ∙ ap not c.if-is_none.false) in
    let more : c.loop-count.count + 1 + 1 ≤ (machine_of c.args.device.now).next = omega (arith, above) in
    more

pub returns : goal.returns
returns c = omega (arith, begun_within c.args.device.now c.requires, c.loop-count.invariant, c.loop-count-test.false, c.blocks-count-end.ensures, c.blocks-2.ensures)
