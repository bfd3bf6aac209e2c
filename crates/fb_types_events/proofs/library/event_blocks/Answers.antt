use Rattle.std.proofs.Common.{◌≤◌, length, sym, subst, arith}
use Rattle.fb_model.specs.Declarations.{SourceTree}
use Rattle.fb_model.specs.EventBlocks.{AreEventBlocks}
use Rattle.fb_types_events.specs.declared.library.TheConstants.{EVENT_BLOCKS}
use Rattle.fb_types_events.proofs.EventTrees.{event_source}
use Rattle.fb_types_events.proofs.Declared.{trees_declare}
use Rattle.fb_types_events.proofs.Spelled.{event_source_spelled}
use Rattle.fb_types_events.proofs.library.event_blocks.Goals as goal

short : length EVENT_BLOCKS.now ≤ 1048576
short = omega arith

pub returns-in-Ok-clause-found : goal.returns-in-Ok-clause-found
returns-in-Ok-clause-found c = subst (λ (s : SourceTree). AreEventBlocks s.blocks) (sym (c.in-Ok.ensures.only event_source event_source_spelled short)) trees_declare
