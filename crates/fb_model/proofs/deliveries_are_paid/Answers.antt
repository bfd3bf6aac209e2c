use Rattle.fb_model.proofs.Networks.{fits_pays}
use Rattle.fb_model.proofs.deliveries_are_paid.Goals as goal

pub returns : goal.returns
returns c = fits_pays
