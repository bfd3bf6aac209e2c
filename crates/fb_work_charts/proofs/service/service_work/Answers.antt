use Rattle.std.proofs.Common.{◌+◌, ◌*◌, length, ap, ◌∙◌}
use Rattle.fb_find_laws.specs.Nodes.{capped}
use Rattle.fb_model.specs.Services.{can_emit, service_takes}
use Rattle.fb_model.specs.Wires.{Serviced}
use Rattle.fb_model_work.specs.Spending.{in_outputs, in_service}
use Rattle.fb_flat.specs.Tables.{targets_of}
use Rattle.fb_prices.specs.declared.primitive.Primitive.TheVariants as p
use Rattle.fb_prices.specs.Words.{prices_of}
use Rattle.fb_types_services.specs.Views.{service_of}
use Rattle.fb_work_charts.proofs.Capping.{both, turned}
use Rattle.fb_work_charts.proofs.service.service_work.Goals as goal

pub returns : goal.returns
returns c =
    let prices = prices_of c.args.scene.now.prices.now in
    let service = service_of c.args.service.now in
    let event = c.args.event.now in
    let issued = in_outputs prices (Serviced service) (targets_of c.args.scene.now.outputs.now) in
    let begun = in_service prices service event in
    let samples = prices p.Sample * length (service_takes service event) in
    let sampled = turned c.times-sampled.ensures c.takes.ensures c.price.ensures in
    let taken = both begun samples c.added-taken.ensures c.dispatch_work.ensures sampled in
    let outputs = c.outputs_work.ensures ∙ ap (λ os. capped (issued os)) c.emitted.ensures in
    both (begun + samples) (issued (can_emit service event)) c.added.ensures taken outputs
