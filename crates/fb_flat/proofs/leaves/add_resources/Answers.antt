use Rattle.std.proofs.Common.{arith}
use Rattle.std.proofs.lemmas.Result.{err_from_is_err_and}
use Rattle.fb_flat.specs.Leaves.{IsFull}
use Rattle.fb_flat.proofs.Systems.{any_here, limit_weaker}
use Rattle.fb_flat.proofs.leaves.add_resources.Goals as goal

pub returns-in_err-resource-clause-refused : goal.returns-in_err-resource-clause-refused
returns-in_err-resource-clause-refused c =
    let rs = c.args.source.now.resources.items in
    let k = c.loop-resource_source.resource_source-index in
    let r = c.resource_source-item.result in
    let p = err_from_is_err_and c.from_residual.result c.from_residual.ensures.1 in
    rw (p.1, p.2) (limit_weaker (IsFull r) _ c.in_err-resource.field-0.0 (λ at h. any_here (λ q. IsFull q at) rs k r (omega arith) (cc) h) c.in_err-resource.ensures.refused)
