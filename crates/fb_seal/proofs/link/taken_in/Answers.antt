use Rattle.fb_seal.proofs.Dropping.{refused_is_lost}
use Rattle.fb_seal.proofs.link.taken_in.Goals as goal

pub returns-in-Err-clause-err : goal.returns-in-Err-clause-err
returns-in-Err-clause-err g c = (
  c.admit.new.peers.items,
  c.in-Err.ensures.err.0,
  refused_is_lost g.G.Gate.lets c.in-Err.reason c.admit.new.peers.items c.args.gate.now c.args.bytes.now c.in-Err.ensures.err.1,
)
