use Rattle.fb_device.proofs.device.Device.name.Goals as goal

pub returns : goal.returns
returns c = rw (← c.self.view_is) c.name.ensures
