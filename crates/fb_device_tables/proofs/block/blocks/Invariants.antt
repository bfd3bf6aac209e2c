use Rattle.std.proofs.Common.{take}
use Rattle.std.specs.List.{AllByRecursion}
use Rattle.fb_types_blocks.specs.Views.{names_of}
use Rattle.fb_chart.specs.Tables.{Each}
use Rattle.fb_device_tables.specs.Filling.{IsShared, IsBlockMade, seats_of}
use Rattle.fb_device_tables.proofs.block.blocks.Given as goal

abbrev pub invariant-loop-seat : goal.invariant-loop-seat
invariant-loop-seat l = record {
  made : Each (IsBlockMade l.certificate (names_of l.paths) (seats_of l.seats)) (take l.seat-index (seats_of l.seats)) l.blocks.items;
  known : AllByRecursion IsShared l.known.items;
}
