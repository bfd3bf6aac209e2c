use Rattle.std.proofs.Common.{◌≡◌, ◌+◌, ◌≤◌, ◌++◌, List, map, take, drop, length}
use Rattle.std.specs.Vec.{vec_len, vec_capacity}
use Rattle.fb_model.specs.World.{WorldRun}
use Rattle.fb_verified.specs.declared.verified.Verified.{Verified}
use Rattle.fb_verified.specs.Checked.{system_in, certificate_in}
use Rattle.fb_world_course.specs.declared.answer.WorldAnswer.{WorldAnswer}
use Rattle.fb_world_course.specs.Answers.{event_of, answers_of, HaveWorldPlaces}
use Rattle.fb_world_course.specs.Scenes.{world_in}
use Rattle.fb_world_course.specs.Keeping.{IsKept}
use Rattle.fb_world_course.specs.Room.{HasRoom}
use Rattle.fb_world_course.proofs.course.Course.happen_all.Given as goal

-- the events so far are a run, and there is room for the others
abbrev pub invariant-loop-event : goal.invariant-loop-event
invariant-loop-event l = record {
  run : (v : Verified) → IsKept v l.fn.self → (more : List WorldAnswer) × (l.answers.items ≡ l.fn.answers.items ++ more) × HaveWorldPlaces (system_in v) (take l.event-index l.events) more
      × WorldRun (system_in v) (certificate_in v) (world_in v l.fn.self) (map event_of (take l.event-index l.events)) (answers_of (system_in v) (take l.event-index l.events) more) (world_in v l.self);
  kept : (v : Verified) → IsKept v l.fn.self → IsKept v l.self;
  room : HasRoom l.self (drop l.event-index l.events);
  places : vec_len l.answers + length (drop l.event-index l.events) ≤ vec_capacity l.answers;
}
