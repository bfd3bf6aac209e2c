use Rattle.std.proofs.Common.{◌≡◌, ◌++◌, drop}
use Rattle.fb_types_blocks.specs.Views.{names_of}
use Rattle.fb_model.specs.Typing.{AreNew, AreDistinct}
use Rattle.fb_device_tables.specs.Filling.{seats_of, paths_of}
use Rattle.fb_device_tables.proofs.seat.paths.Given as goal

abbrev pub invariant-loop-seat : goal.invariant-loop-seat
invariant-loop-seat l = record { new : AreDistinct (paths_of (seats_of l.seats)) → AreNew (names_of l.names) (paths_of (seats_of (drop l.seat-index l.seats))); all : AreDistinct (paths_of (seats_of l.seats)) → names_of l.names ++ paths_of (seats_of (drop l.seat-index l.seats)) ≡ paths_of (seats_of l.seats) }
