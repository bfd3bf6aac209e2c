use Rattle.std.proofs.Common.{◌<◌, length, refl, arith}
use Rattle.fb_lists.proofs.Lists.{stands_at}
use Rattle.fb_device.proofs.Looking.{as_many_queues, fill_is}
use Rattle.fb_device.proofs.look.fill_of.Goals as goal

pub returns-then-at-len : goal.returns-then-at-len
returns-then-at-len c = omega (arith, c.if-at-len.true, c.len.ensures, as_many_queues c.args.program.now c.args.running.now c.requires, c.args.running.now.queues.ok)

pub returns : goal.returns
returns c =
    let queues = c.args.running.now.queues in
    let homes = c.args.program.now.tables.resources in
    let in_queues : c.args.resource < length queues.items = omega (arith, c.if-at-len.false, c.len.ensures, queues.ok) in
    let in_homes : c.args.resource < length homes.items = omega (arith, in_queues, c.requires.count) in
    fill_is c.args.program.now c.args.running.now c.requires c.args.resource c.index-queue.result.now c.index-home.result.now _
    (stands_at queues.items c.args.resource c.index-queue.result.now c.index-queue.result.now in_queues c.index-queue.ensures)
    (stands_at homes.items c.args.resource c.index-home.result.now c.index-home.result.now in_homes c.index-home.ensures)
    c.as_str.ensures.value c.len-2.ensures.len refl c.free.ensures.free
