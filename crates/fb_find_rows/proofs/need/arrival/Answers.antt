use Rattle.fb_find_rows.proofs.Needing.{arrival_is}
use Rattle.fb_find_rows.proofs.need.arrival.Goals as goal

pub returns : goal.returns
returns c = λ l is. arrival_is c.args.certificate.now c.args.leaf.now c.in-Ok.places (c.in-Ok.ensures.value) l is
