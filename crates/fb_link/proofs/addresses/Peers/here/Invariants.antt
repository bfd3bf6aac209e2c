use Rattle.std.proofs.Common.{◌≡◌, length, take}
use Rattle.fb_link.specs.Socket.{AreHere}
use Rattle.fb_link.proofs.addresses.Peers.here.Given as goal

-- the ports so far
abbrev pub invariant-loop-port : goal.invariant-loop-port
invariant-loop-port l = record { here : AreHere l.peers (take l.port-index l.ports); as_many : length l.peers ≡ l.port-index }
