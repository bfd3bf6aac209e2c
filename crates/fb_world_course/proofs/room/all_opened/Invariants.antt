use Rattle.std.proofs.Common.{◌≡◌, ◌+◌, drop}
use Rattle.std.specs.List.{sum_by}
use Rattle.fb_world_course.specs.Room.{opens_at_most}
use Rattle.fb_world_course.proofs.room.all_opened.Given as goal

-- those so far, and those to come, are all
abbrev pub invariant-loop-event : goal.invariant-loop-event
invariant-loop-event l = l.sum + sum_by (opens_at_most l.stations) (drop l.event-index l.events) ≡ sum_by (opens_at_most l.stations) l.events
