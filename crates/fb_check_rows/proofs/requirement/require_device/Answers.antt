use Rattle.fb_types_blocks.specs.Views.{names_of}
use Rattle.fb_check_rows.specs.Texts.{resource_texts}
use Rattle.fb_check_rows.proofs.Members.{next_items, rest_of}
use Rattle.fb_check_rows.proofs.requirement.require_device.Goals as goal

pub loop-resource-preserved : goal.loop-resource-preserved
loop-resource-preserved c =
    let xs = c.args.device.now.resources.items in
    let k = c.loop-resource.resource-index in
    next_items (resource_texts c.args.kind) xs k c.resource-item.result (names_of c.loop-resource.rows) (names_of c.require_resource.new.rows) _
    (rest_of xs k c.resource-item.result (rw c.deref-resource-items.ensures.value at c.loop-resource-test.true) (rw c.deref-resource-items.ensures.value at c.resource-item.is)) c.in_ok-require_resource.ensures.rows c.loop-resource.invariant
