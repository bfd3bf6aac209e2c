use Rattle.std.proofs.Common.{◌∙◌, ◌+◌, [], ◌∷◌, length, take, sym, ap, subst, length-append}
use Rattle.fb_link.specs.Socket.{AreHere}
use Rattle.fb_link.proofs.Ports.{here_next}
use Rattle.fb_link.proofs.addresses.Peers.here.Goals as goal

pub loop-port-preserved : goal.loop-port-preserved
loop-port-preserved c =
    let at = c.loop-port in
    let address = c.here-in-loop-port.result in
    record {
      here = subst (λ all. AreHere all (take (at.port-index + 1) c.args.ports.now)) (sym c.push.ensures)
          (here_next at.peers c.args.ports.now at.port-index address c.loop-port-test.true at.invariant.here c.here-in-loop-port.ensures);
      as_many = ap length c.push.ensures ∙ length-append at.peers (address ∷ []) ∙ ap (λ k. k + 1) at.invariant.as_many;
    }
