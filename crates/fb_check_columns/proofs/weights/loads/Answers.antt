use Rattle.std.proofs.Common.{◌≡◌, ◌∙◌}
use Rattle.fb_types_blocks.proofs.Lists.{mapped_more}
use Rattle.fb_check_columns.specs.Reckoning.{load_of}
use Rattle.fb_check_columns.proofs.Values.{more_sums}
use Rattle.fb_check_columns.proofs.weights.loads.Goals as goal

pub loop-output-preserved : goal.loop-output-preserved
loop-output-preserved c =
    let f : Rattle.fb_flat.specs.declared.flat.Output.Output → Rattle.std.proofs.Common.ℕ = λ o. load_of c.args.column c.args.certificate.now o.targets.items in
    let e = mapped_more f c.args.outputs.now c.loop-output.output-index c.output-item.result c.loop-output-test.true c.output-item.is in
    rw (e, c.in_ok-push.ensures.items) (more_sums _ _ _ _ c.loop-output.invariant (rw c.deref.ensures.value at c.in_ok-load.ensures.value))
