use Rattle.fbr_static.proofs.Tellings.{tells_input}
use Rattle.fbr_static.proofs.checking.check_input.Goals as goal

pub returns-clause-told : goal.returns-clause-told
returns-clause-told g c = tells_input (g.I.Read.remaining c.args.input.now) c.input_outcome-outcome.result (g.W.Write.contents c.args.output.now) (g.W.Write.contents c.print_outcome.new.output) c.print_outcome.result c.input_outcome-outcome.ensures c.print_outcome.ensures.told
