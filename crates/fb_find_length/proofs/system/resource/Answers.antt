use Rattle.fb_find_length.proofs.Places.{spent_resource}
use Rattle.fb_find_length.proofs.system.resource.Goals as goal

pub returns : goal.returns
returns c =
    spent_resource c.args.left c.args.path c.longer-path.result c.as_str.result.now c.args.repeats c.args.resource.now c.deref.result.now c.instances.result c.requires.left c.longer-path.ensures.alike c.as_str.ensures.value c.deref.ensures.value c.instances.ensures
