use Rattle.fb_flat.proofs.leaves.flatten.Goals as goal

pub returns-clause-refused : goal.returns-clause-refused
returns-clause-refused c = rw c.configuration.ensures at c.flat_devices.ensures.refused
