use Rattle.fb_tree.specs.Files as tree
use Rattle.fb_types_blocks.proofs.Blocks.{basic_only}
use Rattle.fb_types_blocks.proofs.block.basic.Goals as goal

pub returns-clause-only : goal.returns-clause-only
returns-clause-only c = basic_only (tree.block_of c.args.source.now) (tree.chart_of c.args.chart.now) c.block.result c.block.ensures.found c.block.ensures.refused
