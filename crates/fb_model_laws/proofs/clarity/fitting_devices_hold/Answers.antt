use Rattle.fb_model_laws.proofs.Holding as laws
use Rattle.fb_model_laws.proofs.clarity.fitting_devices_hold.Goals as goal

pub returns : goal.returns
returns c = laws.fitting_devices_hold
