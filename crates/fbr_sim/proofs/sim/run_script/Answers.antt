use Rattle.std.specs.Io.Buffered.{reader_remaining}
use Rattle.fbr_sim.proofs.Running.{run_told}
use Rattle.fbr_sim.proofs.sim.run_script.Goals as goal

pub returns-in-Ok-clause-told : goal.returns-in-Ok-clause-told
returns-in-Ok-clause-told g c = run_told c.args.verified c.in-Ok.world (reader_remaining g.I.Read.remaining c.args.script.now) (g.W.Write.contents c.args.output.now) (g.W.Write.contents c.run_world-ran.new.output) c.run_world-ran.result c.in-Ok.ensures.world c.run_world-ran.ensures.told
