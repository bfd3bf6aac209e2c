use Rattle.fb_find_length.proofs.Places.{spent_device}
use Rattle.fb_find_length.proofs.system.device.Goals as goal

pub returns : goal.returns
returns c = spent_device c.args.left c.longer.result c.as_str.result.now c.args.repeats c.args.device.now c.deref.result.now c.resources.result c.requires c.longer.ensures.alike c.as_str.ensures.value c.deref.ensures.value c.resources.ensures
