use Rattle.std.proofs.Common.{◌*◌, refl}
use Rattle.fb_prices.specs.declared.primitive.Primitive.TheVariants as p
use Rattle.fb_prices.specs.Words.{prices_of}
use Rattle.fb_work_charts.proofs.Capping.{behind, turned}
use Rattle.fb_work_charts.proofs.service.with_values.Goals as goal

pub returns : goal.returns
returns c = behind (prices_of c.args.prices.now p.Value * c.args.values) c.added.ensures c.price-2.ensures (turned c.times-all.ensures refl c.price.ensures)
