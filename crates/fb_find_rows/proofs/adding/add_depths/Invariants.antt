use Rattle.std.proofs.Common.{drop, List, flat_map}
use Rattle.fb_model.specs.System as book
use Rattle.fb_cert.specs.Views.{certificate_of, rows_of}
use Rattle.fb_flat.specs.Tables.{AreDevices}
use Rattle.fb_find_rows.specs.Needs.{all_rows, AreFresh, paths, resource_texts}
use Rattle.fb_model.specs.Finding.{IsPastAmong}
use Rattle.fb_find_rows.proofs.QueueRows.{IsOver}
use Rattle.fb_find_rows.proofs.adding.add_depths.Given as goal

abbrev pub invariant-loop-device : goal.invariant-loop-device
invariant-loop-device l =
    (ds : List book.Device) → AreDevices l.flat.devices.items ds → AreFresh (paths (rows_of l.initial.certificate).depths) (flat_map resource_texts l.flat.devices.items)
    → IsOver (rows_of l.initial.certificate) (rows_of l.certificate) (λ t. IsPastAmong (certificate_of l.initial.certificate) t ds) (drop l.device-index l.flat.devices.items) (drop l.device-index ds)
    (all_rows (certificate_of l.initial.certificate) l.flat.devices.items ds)
