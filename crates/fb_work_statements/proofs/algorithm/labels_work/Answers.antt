use Rattle.std.proofs.Common.{◌≡◌, length, sym, ap, ◌∙◌, arith}
use Rattle.st_types.specs.CommandViews.{case_of, Cased}
use Rattle.fb_prices.specs.Words.{prices_of}
use Rattle.fb_prices.specs.declared.primitive.Primitive.TheVariants as p
use Rattle.fb_work_statements.proofs.Capping.{labelled}
use Rattle.fb_work_statements.proofs.Going.{case_is}
use Rattle.fb_work_statements.proofs.algorithm.labels_work.Goals as goal

pub returns : goal.returns
returns c =
    let ps = prices_of c.args.prices.now in
    let count : c.len.result ≡ length c.args.arm.now.labels.items = omega (arith, c.len.ensures, c.args.arm.now.labels.ok.0) in
    let labels = sym (ap (λ (q : Cased). length q.0) (case_is c.args.arm.now)) in
    labelled (ps p.Arm) (ps p.Label) (length (case_of c.args.arm.now).0)
    c.times-labels.result c.len.result c.price.result c.price-2.result c.added.result
    c.price.ensures c.price-2.ensures (count ∙ labels) c.times-labels.ensures c.added.ensures
