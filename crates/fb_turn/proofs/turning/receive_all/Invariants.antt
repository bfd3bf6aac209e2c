use Rattle.std.proofs.Common.{◌≡◌, ◌≤◌, List, length}
use Rattle.std.specs.List.{sum_by}
use Rattle.fb_device_state.specs.Machines.{device_in, cert_in, machine_of}
use Rattle.fb_model.specs.Turning.{Receipt, denials}
use Rattle.fb_turn.proofs.Turned.{ReceivesSoFar}
use Rattle.fb_turn.proofs.turning.receive_all.Given as goal

-- each receive so far gave a datagram, which was delivered, seen and counted
abbrev pub invariant-loop : goal.invariant-loop
invariant-loop g l =
    (all : List Receipt)
    × ReceivesSoFar (cert_in l.fn.device) (device_in l.fn.device) g.L.Link.steps g.L.Link.count g.W.Watch.sees (machine_of l.fn.device) l.fn.link l.fn.watch all (machine_of l.device) l.link l.watch
    × (length all ≡ l.counter)
    × (l.received ≡ length all)
    × (l.denied ≡ sum_by denials all)
    × (length l.buffer ≡ 160)
    × (l.denied ≤ length all)
    × (l.device.verified ≡ l.fn.device.verified)
    × (l.device.number ≡ l.fn.device.number)
