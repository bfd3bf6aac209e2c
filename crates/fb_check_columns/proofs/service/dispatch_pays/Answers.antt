use Rattle.std.proofs.Common.{◌+◌, refl}
use Rattle.std.specs.List.{sum_by}
use Rattle.fb_model.specs.Services.{can_emit}
use Rattle.fb_types_services.specs.Views.{service_of}
use Rattle.fb_check_columns.specs.Sums.{IsSum}
use Rattle.fb_check_columns.specs.Columns.{unit_of}
use Rattle.fb_check_columns.specs.Reckoning.{load_at}
use Rattle.fb_check_columns.proofs.service.dispatch_pays.Goals as goal

pub returns : goal.returns
returns c =
    let total = sum_by (load_at c.args.column c.args.certificate.now c.args.leaf.now.outputs.now) (can_emit (service_of c.args.leaf.now.service.now) c.args.event.now) in
    let unit = unit_of c.args.column in
    let load : IsSum c.in_ok-load.load total = rw c.emitted.ensures at c.in_ok-load.ensures.value in
    let paid = c.weighed.ensures (unit + total + c.sent-sent.result) (c.plus.ensures (unit + total) c.sent-sent.result (c.plus-emitted.ensures unit total c.unit.ensures.value load) refl) in
    rw c.in_ok-row.ensures.value at (rw c.sent-sent.ensures at paid)
