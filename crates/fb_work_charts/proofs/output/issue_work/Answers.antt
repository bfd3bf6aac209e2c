use Rattle.std.proofs.Common.{◌*◌, refl}
use Rattle.fb_prices.specs.declared.primitive.Primitive.TheVariants as p
use Rattle.fb_prices.specs.Words.{prices_of}
use Rattle.fb_work_charts.proofs.Capping.{both, behind, turned}
use Rattle.fb_work_charts.proofs.output.issue_work.Goals as goal

pub returns : goal.returns
returns c =
    let prices = prices_of c.args.prices.now in
    let given = turned c.times-given.ensures refl c.price.ensures in
    let put = turned c.times-put.ensures refl c.price-2.ensures in
    let sent = both (prices p.Give * c.args.gives) (prices p.Put * c.args.targets) c.added.ensures given put in
    behind _ c.added-2.ensures c.price-3.ensures sent
