use Rattle.std.proofs.Common.{◌∙◌}
use Rattle.fb_types.proofs.Shaped.{first_is}
use Rattle.fb_types.proofs.shapes.first.Goals as goal

pub returns : goal.returns
returns c = first_is c.args.number c.args.shapes.now.entries c.copied.result (c.copied.ensures ∙ c.get.ensures.value)
