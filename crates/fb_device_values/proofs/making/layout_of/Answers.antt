use Rattle.fb_device_values.proofs.Drafting.{laid_next}
use Rattle.fb_device_values.proofs.making.layout_of.Goals as goal

pub loop-draft-preserved : goal.loop-draft-preserved
loop-draft-preserved c =
    laid_next c.args.drafts.now c.loop-draft.draft-index c.draft-item.result c.loop-draft.layout c.declare.new.self c.as_str.result.now c.in_ok-declare.field-0 c.loop-draft-test.true c.draft-item.is c.as_str.ensures.value c.loop-draft.invariant
    c.in_ok-declare.ensures.is_new c.in_ok-declare.ensures.added
