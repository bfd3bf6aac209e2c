use Rattle.std.proofs.Common.{refl, ap}
use Rattle.fb_model.specs.World.{Answered}
use Rattle.fb_device_dispatch.specs.Answers.{dispatched_of}
use Rattle.fb_world_course.specs.Scenes.{system_of}
use Rattle.fb_world_course.specs.Answers.{leaves_at}
use Rattle.fb_drain.proofs.draining.tell.Goals as goal

pub returns-in-Idle : goal.returns-in-Idle
returns-in-Idle g c = (c.args.sent, ap (λ a. Answered (dispatched_of (leaves_at (system_of c.args.world.now) c.args.device) a) c.args.sent) c.in-Idle.is, refl)
