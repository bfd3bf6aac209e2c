use Rattle.fb_model_replay.proofs.Running.{run_once, alike_writes, alike_sends}
use Rattle.fb_model_replay.proofs.effects_replay.Goals as goal

pub returns-clause-writes : goal.returns-clause-writes
returns-clause-writes c = λ cert device old new other events answers replies r s. alike_writes answers replies (run_once cert device events answers replies old new other r s).0

pub returns-clause-sends : goal.returns-clause-sends
returns-clause-sends c = λ cert device old new other events answers replies r s. alike_sends answers replies (run_once cert device events answers replies old new other r s).0
