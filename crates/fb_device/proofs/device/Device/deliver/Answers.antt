use Rattle.fb_device.proofs.Promised.{bounded_of}
use Rattle.fb_device.proofs.device.Device.deliver.Goals as goal

pub returns-clause-bounded : goal.returns-clause-bounded
returns-clause-bounded c = rw (← c.self.view_is) (bounded_of c.self.inside.program c.deliver.new.running c.deliver.ensures.good)
