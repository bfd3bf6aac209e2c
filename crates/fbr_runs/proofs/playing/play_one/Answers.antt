use Rattle.std.proofs.Common.{refl}
use Rattle.fbr_files.specs.declared.fault.Fault.TheVariants.{Memory}
use Rattle.fbr_static.proofs.Tellings.{all_kept}
use Rattle.fbr_runs.proofs.Running.{found_refused}
use Rattle.fbr_runs.proofs.playing.play_one.Goals as goal

pub returns-in-Ok-verified-clause-told : goal.returns-in-Ok-verified-clause-told
returns-in-Ok-verified-clause-told g c = found_refused Memory (g.W.Write.contents c.args.output.now) (g.W.Write.contents c.spent.new.output) c.spent.result c.spent.ensures.told

pub returns-in-Ok-verified-clause-others : goal.returns-in-Ok-verified-clause-others
returns-in-Ok-verified-clause-others g c = all_kept (g.S.Sources.same c.args.files.now) _ (g.S.Sources.contents c.args.files.now) (g.S.Sources.contents c.args.files.now) refl

pub returns-clause-others : goal.returns-clause-others
returns-clause-others g c = all_kept (g.S.Sources.same c.args.files.now) _ (g.S.Sources.contents c.args.files.now) (g.S.Sources.contents c.args.files.now) refl
