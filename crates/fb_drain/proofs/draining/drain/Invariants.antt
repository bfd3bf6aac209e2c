use Rattle.std.proofs.Common.{◌≡◌, List}
use Rattle.fb_model.specs.World.{WorldAnswer}
use Rattle.fb_world_course.specs.Scenes.{system_of, cert_of, world_of}
use Rattle.fb_drain.specs.Draining.{IsServed, AreTold}
use Rattle.fb_drain.proofs.draining.drain.Given as goal

-- a block ran at each dispatch so far, and the witness was told
abbrev pub invariant-loop-count : goal.invariant-loop-count
invariant-loop-count g l =
    (answers : List WorldAnswer)
    × IsServed (system_of l.fn.world) (cert_of l.fn.world) l.device l.resource l.count (world_of l.fn.world) answers (world_of l.world)
    × AreTold g.W.Witness.sees l.fn.witness answers l.witness
    × (l.world.verified ≡ l.fn.world.verified)
