use Rattle.std.proofs.Common.{subst}
use Rattle.std.specs.Io.KnownBytes.{Appends}
use Rattle.fbr_files.specs.declared.fault.Fault.TheVariants.{Memory}
use Rattle.fbr_runs.proofs.Running.{told_fault, told_page}
use Rattle.fbr_runs.proofs.playing.finish.Goals as goal

pub returns-in_ok-write_all-in-Ok-clause-told : goal.returns-in_ok-write_all-in-Ok-clause-told
returns-in_ok-write_all-in-Ok-clause-told g c =
    told_page c.outcome_of-outcome.result c.args.page.now.items c.print_end.new.output.items (g.W.Write.contents c.args.output.now) (g.W.Write.contents c.write_all.new.self) c.in-Ok.status c.in-Ok.ensures.told
    (subst (Appends (g.W.Write.contents c.args.output.now) (g.W.Write.contents c.write_all.new.self)) c.deref.ensures.value c.in_ok-write_all-in-Ok.ensures.bytes)

pub returns-in-Err-clause-told : goal.returns-in-Err-clause-told
returns-in-Err-clause-told g c = told_fault Memory (g.W.Write.contents c.args.output.now) (g.W.Write.contents c.spent.new.output) c.spent.result c.spent.ensures.told
