use Rattle.std.proofs.Common.{◌+◌, ◌*◌, length}
use Rattle.fb_model.specs.Store.{carried}
use Rattle.fb_prices.specs.declared.primitive.Primitive.TheVariants as p
use Rattle.fb_prices.specs.Words.{prices_of}
use Rattle.fb_types_blocks.specs.Views.{events_of}
use Rattle.fb_work_charts.proofs.Capping.{before, behind, turned}
use Rattle.fb_work_charts.proofs.input.event_work.Goals as goal

pub returns : goal.returns
returns c =
    let prices = prices_of c.args.scene.now.prices.now in
    let samples = prices p.Sample * length (carried (events_of c.args.block.now.face.event_inputs) c.args.event.now) in
    let sampled = turned c.times-sampled.ensures c.carried_count-takes.ensures c.price.ensures in
    let taken = behind samples c.added-taken.ensures c.price-2.ensures sampled in
    before (prices p.Dispatch + samples) c.added.ensures taken c.price-3.ensures
