use Rattle.std.proofs.Common.{◌∙◌}
use Rattle.st_exec.proofs.Laying.{found_by}
use Rattle.st_exec.proofs.location.find.Goals as goal

pub returns : goal.returns
returns c = c.copied.ensures ∙ c.get.ensures.value ∙ found_by c.args.locations.now.entries c.args.name.now
