use Rattle.fb_check_rows.proofs.Loops.{on_ok, err_weaker}
use Rattle.fb_check_rows.proofs.DepthSystems.{devices_deep, shallow}
use Rattle.fb_check_rows.proofs.depth.depths_fit.Goals as goal

pub returns-clause-fits : goal.returns-clause-fits
returns-clause-fits c = λ s a. on_ok c.tables_fit.result (λ h. devices_deep c.args.certificate.now c.args.flat.now.devices.items s.devices h a) c.tables_fit.ensures.fits

pub returns-clause-refused : goal.returns-clause-refused
returns-clause-refused c = λ s a. err_weaker _ _ (λ f h. shallow c.args.certificate.now s f c.args.flat.now.devices.items a h) c.tables_fit.result c.tables_fit.ensures.refused
