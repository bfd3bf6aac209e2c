use Rattle.std.proofs.Common.{◌+◌, ◌<◌, ◌≤◌, take, drop, refl, arith}
use Rattle.fb_types.specs.Counts.{one_count, crowded}
use Rattle.fb_types.proofs.Counted.{total, parts, total_more}
use Rattle.fb_types.proofs.count.few.Goals as goal

pub returns-in-None-clause-refused : goal.returns-in-None-clause-refused
returns-in-None-clause-refused c =
    let xs = c.args.instances.now in
    let i = c.loop-instance.instance-index in
    let x = c.instance-item.result in
    let more : 1024 < total (take i xs) + one_count x = omega (arith, c.loop-instance.invariant, c.in-None.ensures) in
    let fits : total (take i xs) ≤ 1024 = omega (arith, c.loop-instance.invariant) in
    crowded (take i xs) (drop (i + 1) xs) x (parts xs i x c.loop-instance-test.true c.instance-item.is) fits more refl

pub loop-instance-preserved : goal.loop-instance-preserved
loop-instance-preserved c =
    let xs = c.args.instances.now in
    let i = c.loop-instance.instance-index in
    let x = c.instance-item.result in
    omega (arith, c.loop-instance.invariant, c.in-Some.ensures, total_more xs i x c.loop-instance-test.true c.instance-item.is)
