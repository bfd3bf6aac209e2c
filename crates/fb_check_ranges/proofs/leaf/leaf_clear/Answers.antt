use Rattle.std.proofs.Common.{sym, ap, ◌∙◌}
use Rattle.fb_flat.specs.declared.flat.Body.{Body}
use Rattle.fb_flat.specs.Leaves.{kind_of}
use Rattle.fb_check_ranges.proofs.Blaming.{accepted, refused}
use Rattle.fb_check_ranges.proofs.Composed.{clears, says}
use Rattle.fb_check_ranges.proofs.leaf.leaf_clear.Goals as goal

pub returns-in-Basic-clause-clears : goal.returns-in-Basic-clause-clears
returns-in-Basic-clause-clears c =
    λ ls bs b places are known is k.
    let kind = ap kind_of (sym {A = Body} c.in-Basic.is) ∙ is.kind in
    accepted _ _ _ c.chart_clear.result (c.chart_clear.ensures.clears ls places) (clears c.args.certificate.now c.args.leaf.now c.in-Basic.block.value ls bs b kind are known is k)

pub returns-in-Basic-clause-refused : goal.returns-in-Basic-clause-refused
returns-in-Basic-clause-refused c =
    λ ls bs b places are known is k.
    let kind = ap kind_of (sym {A = Body} c.in-Basic.is) ∙ is.kind in
    refused _ _ _ c.chart_clear.result (c.chart_clear.ensures.clears ls places) (says c.args.certificate.now c.args.leaf.now c.in-Basic.block.value ls bs b kind are known is k)
