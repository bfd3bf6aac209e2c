use Rattle.std.proofs.Common.{◌<◌, length, arith}
use Rattle.fb_lists.proofs.Lists.{stands_at}
use Rattle.fb_device_dispatch.proofs.Taking.{taken}
use Rattle.fb_device_dispatch.proofs.queue.take.Goals as goal

pub returns : goal.returns
returns c =
    let within : c.args.resource < length c.args.queues.now.items = omega (arith, c.if-resource-len.false, c.len.ensures, c.args.queues.now.ok) in
    taken c.args.queues.now.items c.args.resource c.index_mut.result.now c.take.new.self
    (stands_at c.args.queues.now.items c.args.resource c.index_mut.result.now c.index_mut.result.now within c.index_mut.ensures.value) c.take.result c.take.ensures.none c.take.ensures.first c.take.ensures.sound
