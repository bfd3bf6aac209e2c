use Rattle.std.proofs.Common.{length}
use Rattle.fb_link.proofs.Taking.{Dropped}
use Rattle.fb_link.proofs.udp.take_from.Given as goal

-- strangers were dropped so far
abbrev pub invariant-loop : goal.invariant-loop
invariant-loop g l = Dropped g.S.Socket.does l.fn.senders (length l.fn.buffer) l.fn.counted l.fn.socket l.counter l.counted l.socket
