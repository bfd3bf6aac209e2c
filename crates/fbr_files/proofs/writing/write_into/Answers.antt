use Rattle.fbr_files.proofs.Written.{unwritten_told}
use Rattle.fbr_files.proofs.writing.write_into.Goals as goal

pub returns-in-Err-clause-written : goal.returns-in-Err-clause-written
returns-in-Err-clause-written g c =
    unwritten_told c.args.name.now c.args.text.now c.in-Err.fault (g.S.Sources.contents c.args.files.now c.args.name.now) (g.S.Sources.contents c.put_text.new.files c.args.name.now) (g.W.Write.contents c.args.output.now) (g.W.Write.contents c.print_outcome.new.output)
    c.print_outcome.result c.in-Err.ensures.put.0 c.in-Err.ensures.put.1 c.print_outcome.ensures.told
