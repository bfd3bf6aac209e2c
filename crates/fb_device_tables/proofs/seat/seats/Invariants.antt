use Rattle.std.proofs.Common.{map, take}
use Rattle.st_exec.specs.Cells.{forms_of}
use Rattle.fb_device_tables.specs.Filling.{homes_of, seats_of, AreSeats}
use Rattle.fb_device_tables.proofs.seat.seats.Given as goal

abbrev pub invariant-loop-index : goal.invariant-loop-index
invariant-loop-index l = AreSeats (homes_of (take l.index l.homes)) (map forms_of (take l.index l.own)) (map forms_of (take l.index l.issued)) (seats_of l.seats.items)
