use Rattle.std.proofs.Common.{drop, ◌∷◌, []}
use Rattle.fb_model.specs.System as book
use Rattle.fb_cert.specs.Views.{certificate_of, rows_of}
use Rattle.fb_flat.specs.Tables.{IsDevice}
use Rattle.fb_find_rows.specs.Needs.{AreFresh, device_rows, paths, resource_texts}
use Rattle.fb_model.specs.Finding.{IsPastIn}
use Rattle.fb_find_rows.proofs.QueueRows.{IsOn}
use Rattle.fb_find_rows.proofs.adding.add_device.Given as goal

abbrev pub invariant-loop-resource : goal.invariant-loop-resource
invariant-loop-resource l =
    (d : book.Device) → IsDevice l.device d → AreFresh (paths (rows_of l.initial.certificate).depths) (resource_texts l.device)
    → IsOn (rows_of l.initial.certificate) (rows_of l.certificate) (λ t. IsPastIn (certificate_of l.initial.certificate) t 0 (d.name ∷ []) d.resources) l.resource-index (d.name ∷ []) (drop l.resource-index l.device.resources.items) (drop l.resource-index d.resources)
    (device_rows (certificate_of l.initial.certificate) l.device d)
