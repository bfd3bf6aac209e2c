use Rattle.std.proofs.Common.{map, take}
use Rattle.fb_types.specs.Uses.{use_of}
use Rattle.fb_types.specs.Shapes.{shapes_of}
use Rattle.fb_types.proofs.Shaped.{ShapesSo}
use Rattle.fb_types.proofs.shapes.each_alike.Given as goal

-- the table has the channels of the services so far
abbrev pub invariant-loop-used : goal.invariant-loop-used
invariant-loop-used l = ShapesSo (shapes_of l.shapes) (map use_of (take l.used-index l.initial.uses))
