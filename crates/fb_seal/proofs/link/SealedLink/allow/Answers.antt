use Rattle.fb_seal.proofs.Admitting.{allows_at}
use Rattle.fb_seal.proofs.link.SealedLink.allow.Goals as goal

pub returns-clause-allowed : goal.returns-clause-allowed
returns-clause-allowed g c = allows_at c.args.self.now.peers.items c.args.place c.args.upto c.index-peer.result.now c.max.result c.index-peer.ensures c.max.ensures
