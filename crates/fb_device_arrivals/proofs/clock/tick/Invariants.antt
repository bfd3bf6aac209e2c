use Rattle.std.proofs.Common.{length, drop}
use Rattle.fb_sched.specs.Order.{due_at}
use Rattle.fb_device_arrivals.proofs.Ticks.{Ticks}
use Rattle.fb_device_arrivals.proofs.clock.tick.Given as goal

-- the timers that are left come to what all come to
abbrev pub invariant-loop-due : goal.invariant-loop-due
invariant-loop-due l = Ticks l.program l.fn.running l.running l.now l.fired l.waiting

abbrev pub decreases-loop-due : goal.decreases-loop-due
decreases-loop-due l = length (drop l.waiting (due_at l.running.clock l.running.timers.armed))
