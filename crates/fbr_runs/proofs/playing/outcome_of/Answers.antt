use Rattle.std.proofs.Common.{refl}
use Rattle.fbr_static.proofs.Tellings.{all_kept}
use Rattle.fbr_runs.proofs.playing.outcome_of.Goals as goal

pub returns : goal.returns
returns g c = all_kept (g.S.Sources.same c.args.files.now) _ (g.S.Sources.contents c.args.files.now) (g.S.Sources.contents c.args.files.now) refl
