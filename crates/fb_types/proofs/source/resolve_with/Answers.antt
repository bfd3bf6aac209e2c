use Rattle.std.proofs.Common.{map}
use Rattle.fb_tree.specs.Files as trees_of
use Rattle.fb_types.proofs.Whole.{only_whole}
use Rattle.fb_types.proofs.source.resolve_with.Goals as goal

pub returns-clause-only : goal.returns-clause-only
returns-clause-only c = only_whole (map trees_of.block_of c.args.library.now) (trees_of.source_of c.args.source.now) c.resolved.result c.resolved.ensures.typed c.resolved.ensures.refused
