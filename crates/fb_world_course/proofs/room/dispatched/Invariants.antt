use Rattle.std.proofs.Common.{◌≡◌, ◌+◌, ◌≤◌, drop}
use Rattle.std.specs.List.{sum_by}
use Rattle.fb_world_course.specs.Room.{dispatches_in}
use Rattle.fb_world_course.proofs.room.dispatched.Given as goal

-- those so far, and those to come, are all
abbrev pub invariant-loop-event : goal.invariant-loop-event
invariant-loop-event l = record {
  counted : l.count + sum_by dispatches_in (drop l.event-index l.events) ≡ sum_by dispatches_in l.events;
  few : l.count ≤ l.event-index;
}
