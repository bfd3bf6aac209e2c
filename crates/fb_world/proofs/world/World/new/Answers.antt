use Rattle.std.proofs.Common.{ap}
use Rattle.fb_device.specs.declared.refusal.Refusal.TheVariants.{Checked}
use Rattle.fb_world.proofs.world.World.new.Goals as goal

pub returns-in-Err-clause-accepts : goal.returns-in-Err-clause-accepts
returns-in-Err-clause-accepts c = λ source system rows short few is written spelled fits. ap Checked (c.in-Err.ensures.accepts source system rows short few is written spelled fits)
