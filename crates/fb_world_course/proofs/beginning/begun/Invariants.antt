use Rattle.std.proofs.Common.{◌+◌, ◌≤◌}
use Rattle.fb_device_state.specs.Machines.{machine_of}
use Rattle.fb_world_course.proofs.beginning.begun.Given as goal

-- so many causes have been opened
abbrev pub invariant-loop-count : goal.invariant-loop-count
invariant-loop-count l = l.count + 1 ≤ (machine_of l.device).next
