use Rattle.std.proofs.Common.{refl, sym, ap, ◌∙◌}
use Rattle.fb_types_blocks.specs.Views.{block_of}
use Rattle.fb_device_tables.proofs.Charts.{shares}
use Rattle.fb_device_tables.proofs.chart.serves.Goals as goal

pub returns : goal.returns
returns c t =
    shares c.args.shared.now c.args.own.now c.args.block.now.value (c.if-not-is_like.ensures refl) (ap block_of (sym c.deref.ensures) ∙ c.is_alike.ensures t ∙ ap block_of c.deref-2.ensures)
