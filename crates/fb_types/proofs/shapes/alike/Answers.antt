use Rattle.std.proofs.Common.{map}
use Rattle.fb_types.specs.Uses.{use_of}
use Rattle.fb_types.proofs.Shaped.{only_memory}
use Rattle.fb_types.proofs.shapes.alike.Goals as goal

pub returns-clause-only : goal.returns-clause-only
returns-clause-only c = λ a. only_memory (map use_of c.args.uses.now) c.each_alike.result a c.each_alike.ensures.refused
