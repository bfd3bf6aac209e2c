use Rattle.std.proofs.Common.{◌≡◌, ◌+◌, drop}
use Rattle.std.specs.List.{sum_by}
use Rattle.fb_world_course.specs.Room.{opens_there}
use Rattle.fb_world_course.proofs.room.all_there.Given as goal

-- those so far, and those to come, are all
abbrev pub invariant-loop-event : goal.invariant-loop-event
invariant-loop-event l = l.sum + sum_by (opens_there l.stations l.at) (drop l.event-index l.events) ≡ sum_by (opens_there l.stations l.at) l.events
