use Rattle.std.proofs.Common.{sym, ◌∙◌}
use Rattle.fb_chart.specs.Views.{body_kind}
use Rattle.fb_device_arrivals.proofs.Deliveries.{formats_same, received_as}
use Rattle.fb_device_arrivals.proofs.delivery.received.Goals as goal

pub returns : goal.returns
returns c =
    received_as (body_kind c.args.body.now) c.args.message.now c.stamp.result c.values.result.now c.arriving.result.now c.format_of.result c.shaped.result c.stamp.ensures.stamp c.values.ensures.values c.arriving.ensures c.format_of.ensures
    (sym c.format_in.ensures ∙ formats_same c.format_in.result c.format_of.result c.if-ne.ensures) c.values.ensures.fitting c.shaped.ensures
