use Rattle.std.proofs.Common.{is_ok}
use Rattle.fb_link.proofs.Sending.{sends_next, with_failure, without_failure}
use Rattle.fb_link.proofs.udp.send_to_each.Goals as goal
use Rattle.fb_link.proofs.udp.send_to_each.Goals.{then-is_err, else-is_err}

pub loop-peer-preserved : goal.loop-peer-preserved
loop-peer-preserved g c =
    let at = c.loop-peer in
    let one = is_ok c.send_to.result in
    let told = c.send_to.ensures.told in
    sends_next g.S.Socket.does c.args.bytes.now c.args.peers.now at.peer-index _ c.args.socket.now at.done at.socket one c.send_to.new.self c.if-is_err.done c.loop-peer-test.true at.invariant told
    (elim c.if-is_err.branch [
      | then-is_err w ↦ with_failure at.done one c.is_err.result c.if-is_err.done c.is_err.ensures.negation w.if-is_err.true w.done-is
      | else-is_err w ↦ without_failure at.done one c.is_err.result c.if-is_err.done c.is_err.ensures.negation w.if-is_err.false w.done-is
    ])
