use Rattle.std.proofs.Common.{length, take, sym, subst, ◌∙◌}
use Rattle.fb_link.specs.Socket.{Took}
use Rattle.fb_link.proofs.Taking.{none_dropped, one_dropped}
use Rattle.fb_link.proofs.udp.take_from.Goals as goal

pub loop-init : goal.loop-init
loop-init g c = none_dropped g.S.Socket.does c.args.senders.now (length c.args.buffer.now) c.args.counted.now c.args.socket.now c.type_inv._before.fits

pub loop-preserved : goal.loop-preserved
loop-preserved g c =
    let at = c.loop in
    let bytes = take c.in-Ok.count c.receive.new.buffer in
    one_dropped g.S.Socket.does c.args.senders.now (length c.args.buffer.now) c.args.counted.now c.args.socket.now at.counter at.counted at.socket c.in-Ok.from bytes c.receive.new.self c.saturating_add.result
    at.invariant (sym c.may_send.ensures ∙ c.if-may_send.false)
    (subst (λ room. g.S.Socket.does at.socket (Took c.in-Ok.from room bytes) c.receive.new.self) at.auto.buffer c.in-Ok.ensures.told) c.saturating_add.ensures
