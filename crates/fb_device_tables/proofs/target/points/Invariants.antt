use Rattle.std.proofs.Common.{take}
use Rattle.fb_types_blocks.specs.Views.{names_of}
use Rattle.fb_chart.specs.Tables.{Each}
use Rattle.fb_device_tables.specs.Filling.{IsPointMade, seats_of}
use Rattle.fb_device_tables.proofs.target.points.Given as goal

abbrev pub invariant-loop-target : goal.invariant-loop-target
invariant-loop-target l = Each (IsPointMade (names_of l.paths) (seats_of l.seats)) (take l.target-index l.targets) l.points.items
