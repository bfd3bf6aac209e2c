use Rattle.fb_world_course.specs.Scenes.{world_in}
use Rattle.fb_world.proofs.Bounds.{reached_kept}
use Rattle.fb_world_course.proofs.Kept.{reached_sound}
use Rattle.fb_world.proofs.world.World.holds.Goals as goal

pub returns-clause-sound : goal.returns-clause-sound
returns-clause-sound c = rw (← c.self.view_is) (reached_sound c.self.inside.verified.value (world_in c.self.inside.verified.value c.self.inside.course) c.self.invariant.checked c.self.invariant.reached)

pub returns-clause-kept : goal.returns-clause-kept
returns-clause-kept c = rw (← c.self.view_is) (reached_kept c.self.inside.verified.value (world_in c.self.inside.verified.value c.self.inside.course) c.self.invariant.checked c.self.invariant.reached)
