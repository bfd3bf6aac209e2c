use Rattle.std.proofs.Common.{refl}
use Rattle.fbr_static.proofs.Tellings.{all_kept}
use Rattle.fbr_runs.proofs.simulating.finish.Goals as goal

pub returns-in-Ok-Err-clause-others : goal.returns-in-Ok-Err-clause-others
returns-in-Ok-Err-clause-others g c = all_kept (g.S.Sources.same c.args.files.now) _ (g.S.Sources.contents c.args.files.now) (g.S.Sources.contents c.args.files.now) refl

pub returns-clause-others : goal.returns-clause-others
returns-clause-others g c = all_kept (g.S.Sources.same c.args.files.now) _ (g.S.Sources.contents c.args.files.now) (g.S.Sources.contents c.args.files.now) refl
