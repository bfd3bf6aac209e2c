use Rattle.std.proofs.Common.{◌≡◌, ◌≤◌, List, length}
use Rattle.std.specs.List.{sum_by}
use Rattle.fb_device_state.specs.Machines.{device_in, cert_in, machine_of}
use Rattle.fb_turn.specs.Turns.{Serves}
use Rattle.fb_model.specs.Turning.{Service, runs, takings, losses}
use Rattle.fb_turn.proofs.turning.serve_all.Given as goal

-- the resources so far were dispatched and counted
abbrev pub invariant-loop-resource : goal.invariant-loop-resource
invariant-loop-resource g l =
    (all : List Service)
    × Serves (cert_in l.fn.device) (device_in l.fn.device) g.L.Link.steps g.L.Link.count g.W.Watch.sees (machine_of l.fn.device) l.fn.link l.fn.watch all (machine_of l.device) l.link l.watch
    × (length all ≡ l.resource)
    × (l.ran ≡ sum_by runs all)
    × (l.sent ≡ sum_by takings all)
    × (l.lost ≡ sum_by losses all)
    × ((l.ran ≤ l.resource) × (l.sent ≤ l.resource) × (l.lost ≤ l.resource))
    × (l.device.verified ≡ l.fn.device.verified)
    × (l.device.number ≡ l.fn.device.number)
