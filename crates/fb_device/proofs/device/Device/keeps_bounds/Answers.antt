use Rattle.fb_device.proofs.device.Device.keeps_bounds.Goals as goal

pub returns-clause-holds : goal.returns-clause-holds
returns-clause-holds c = rw (← c.self.view_is) c.self.invariant.program.holds

pub returns-clause-sound : goal.returns-clause-sound
returns-clause-sound c = rw (← c.self.view_is) c.self.invariant.sound
