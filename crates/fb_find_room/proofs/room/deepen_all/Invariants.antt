use Rattle.std.proofs.Common.{◌≡◌, List}
use Rattle.fb_model.specs.System as book
use Rattle.fb_cert.specs.Views.{rows_of}
use Rattle.fb_flat.specs.Tables.{AreDevices}
use Rattle.fb_find_room.proofs.Roomy.{part}
use Rattle.fb_find_room.proofs.room.deepen_all.Given as goal

abbrev pub invariant-loop-index : goal.invariant-loop-index
invariant-loop-index l = (ds : List book.Device) → AreDevices l.flat.devices.items ds → rows_of l.certificate ≡ part l.times ds l.index (rows_of l.initial.certificate)
