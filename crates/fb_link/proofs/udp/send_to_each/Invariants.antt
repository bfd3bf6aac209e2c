use Rattle.std.proofs.Common.{take}
use Rattle.fb_link.specs.Socket.{SendsToEach}
use Rattle.fb_link.proofs.udp.send_to_each.Given as goal

-- the bytes were sent to the addresses so far
abbrev pub invariant-loop-peer : goal.invariant-loop-peer
invariant-loop-peer g l = SendsToEach g.S.Socket.does l.fn.bytes (take l.peer-index l.fn.peers) l.fn.socket l.done l.socket
