use Rattle.fb_model.specs.Wires.{leaves}
use Rattle.fb_device_state.specs.Machines.{device_in}
use Rattle.fb_script.proofs.Names.{run_told, never_unnamed}
use Rattle.fb_script.proofs.playing.tell_run.Goals as goal

pub returns-in-Some : goal.returns-in-Some
returns-in-Some c = λ point. run_told (leaves (device_in c.args.device.now)) c.args.ran.now c.in-Some.path c.in-Some.event c.as_ref.result c.args.sent c.in-Some.ensures c.as_ref.ensures.value

pub returns-in-None : goal.returns-in-None
returns-in-None c = λ point. absurd (never_unnamed (leaves (device_in c.args.device.now)) c.args.ran.now.block c.args.ran.now.event point c.in-None.ensures)
