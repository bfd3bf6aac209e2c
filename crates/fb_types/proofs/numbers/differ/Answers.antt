use Rattle.std.proofs.Common.{map}
use Rattle.fb_types.specs.Uses.{use_of}
use Rattle.fb_types.proofs.Numbered.{only_memory}
use Rattle.fb_types.proofs.numbers.differ.Goals as goal

pub returns-clause-only : goal.returns-clause-only
returns-clause-only c = λ new. only_memory c.args.kind (map use_of c.args.uses.now) c.each_differs.result new c.each_differs.ensures.refused
