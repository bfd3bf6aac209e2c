use Rattle.std.proofs.Common.{◌≡◌, length}
use Rattle.fb_sched.proofs.Delivering.{Delivers}
use Rattle.fb_sched.proofs.outbox.Outbox.deliver.Given as goal

abbrev pub invariant-loop-point : goal.invariant-loop-point
invariant-loop-point l = Delivers l.initial.queue l.slot l.initial.self-inside.points.items l.self-inside.points.items l.queue × (l.self-inside.points.capacity ≡ l.initial.self-inside.points.capacity)

abbrev pub decreases-loop-point : goal.decreases-loop-point
decreases-loop-point l = length l.self-inside.points.items
