use Rattle.std.specs.Io.Buffered.{reader_remaining}
use Rattle.fbr_sim.proofs.Running.{ends_told}
use Rattle.fbr_sim.proofs.sim.run_world.Goals as goal

pub returns-in-Ok-clause-told : goal.returns-in-Ok-clause-told
returns-in-Ok-clause-told g c =
    ends_told c.args.world.now c.simulate.new.world (reader_remaining g.I.Read.remaining c.args.script.now) (g.W.Write.contents c.args.output.now) (g.W.Write.contents c.simulate.new.output) (g.W.Write.contents c.print_end.new.output) c.in-Ok.end c.print_end.result c.in-Ok.ensures.runs c.print_end.ensures.told
