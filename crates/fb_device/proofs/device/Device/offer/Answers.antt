use Rattle.fb_device.proofs.Promised.{bounded_of}
use Rattle.fb_device.proofs.device.Device.offer.Goals as goal

pub returns-clause-bounded : goal.returns-clause-bounded
returns-clause-bounded c = rw (← c.self.view_is) (bounded_of c.self.inside.program c.offer.new.running c.offer.ensures.good)
