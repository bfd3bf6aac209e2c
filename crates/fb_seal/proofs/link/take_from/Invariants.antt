use Rattle.fb_seal.proofs.Dropping.{Dropping}
use Rattle.fb_seal.proofs.link.take_from.Given as goal

-- so many were dropped so far
abbrev pub invariant-loop : goal.invariant-loop
invariant-loop g l =
    Dropping g.L.Link.steps g.K.Ledger.writes g.G.Gate.lets l.fn.peers.items l.fn.ledger l.fn.gate l.fn.dropped l.fn.link l.counter l.peers.items l.ledger l.gate l.dropped l.link
