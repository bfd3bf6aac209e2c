use Rattle.std.proofs.Common.{refl}
use Rattle.fbr_static.proofs.Tellings.{all_kept}
use Rattle.fbr_runs.proofs.reporting.sim_json.Goals as goal

pub returns-then-overwrites-clause-others : goal.returns-then-overwrites-clause-others
returns-then-overwrites-clause-others g c = all_kept (g.S.Sources.same c.args.files.now) _ (g.S.Sources.contents c.args.files.now) (g.S.Sources.contents c.args.files.now) refl

pub returns-in_err-simulated-in-Ok-clause-others : goal.returns-in_err-simulated-in-Ok-clause-others
returns-in_err-simulated-in-Ok-clause-others g c = all_kept (g.S.Sources.same c.args.files.now) _ (g.S.Sources.contents c.args.files.now) (g.S.Sources.contents c.args.files.now) refl

pub returns-in-Ok-clause-others : goal.returns-in-Ok-clause-others
returns-in-Ok-clause-others g c = all_kept (g.S.Sources.same c.args.files.now) _ (g.S.Sources.contents c.args.files.now) (g.S.Sources.contents c.args.files.now) refl

pub returns-clause-others : goal.returns-clause-others
returns-clause-others g c = all_kept (g.S.Sources.same c.args.files.now) _ (g.S.Sources.contents c.args.files.now) (g.S.Sources.contents c.args.files.now) refl
