use Rattle.std.proofs.Common.{◌≤◌, string_bytes}
use Rattle.std.proofs.lemmas.Result.{err_from_is_err_and}
use Rattle.fb_model.specs.Wires.{most_followed, resource_count}
use Rattle.fb_types.specs.Views.{resource_of}
use Rattle.fb_check_rows.proofs.Loops.{all_in}
use Rattle.fb_find.proofs.Crowding.{past_one}
use Rattle.fb_find.proofs.crowded.device_follows_few.Goals as goal

pub returns-in_err-resource_follows_few-clause-refused : goal.returns-in_err-resource_follows_few-clause-refused
returns-in_err-resource_follows_few-clause-refused c =
    let p = err_from_is_err_and c.from_residual.result c.from_residual.ensures.1 in
    rw (p.1, p.2)
    (past_one (string_bytes c.args.device.now.name) c.as_str.result.now c.args.device.now.resources.items c.deref-resource-items.result.now c.loop-resource.resource-index c.resource-item.result c.deref-resource-items.ensures.value c.loop-resource-test.true c.resource-item.is
    c.as_str.ensures.value c.in_err-resource_follows_few.field-0.0 c.in_err-resource_follows_few.ensures.refused)

pub loop-resource-preserved : goal.loop-resource-preserved
loop-resource-preserved c =
    all_in (λ r. resource_count (resource_of r) ≤ most_followed) c.args.device.now.resources.items c.deref-resource-items.result.now c.loop-resource.resource-index c.resource-item.result c.deref-resource-items.ensures.value c.loop-resource-test.true c.resource-item.is
    c.in_ok-resource_follows_few.ensures.few c.loop-resource.invariant
