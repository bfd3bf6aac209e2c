use Rattle.std.proofs.Common.{◌≡◌, ◌||◌, map, drop}
use Rattle.fb_model.specs.System.{End}
use Rattle.fb_model.specs.NetworkTyping.{is_taken, given_in}
use Rattle.fb_types_networks.specs.Views.{placed_of}
use Rattle.fb_model.specs.NetworkFaults.{placed_in}
use Rattle.fb_types_networks.specs.Ends.{ends_of}
use Rattle.fb_types_networks.proofs.wiring.given.Given as goal

-- the ends of the instances so far, with those that are left, are those of all
abbrev pub invariant-loop-instance : goal.invariant-loop-instance
invariant-loop-instance l = (e : End) → is_taken (ends_of l.taken) e || is_taken (given_in (placed_in (map placed_of (drop l.instance-index l.initial.instances)))) e ≡ is_taken (given_in (placed_in (map placed_of l.initial.instances))) e
