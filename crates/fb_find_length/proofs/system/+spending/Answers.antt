use Rattle.std.proofs.Common.{ap, sym, ◌∙◌}
use Rattle.fb_model.specs.Wires.{Charted}
use Rattle.fb_types_blocks.specs.Views.{block_of}
use Rattle.fb_types_networks.specs.declared.typed.Network.{Network, out-Network}
use Rattle.fb_find_length.specs.Counting.{body_length, kind_length}
use Rattle.fb_find_length.proofs.Places.{view_basic, view_served, composite_length, spent_placed}
use Rattle.fb_find_length.proofs.system.+spending.Goals as goal

pub instance-returns-in-Basic : goal.instance-returns-in-Basic
instance-returns-in-Basic t c =
    let n = c.longer-path.result in
    let counted = ap (body_length c.args.repeats n) (view_basic c.in-Basic.of) ∙ ap (λ b. kind_length c.args.repeats n (Charted (block_of b))) (sym c.deref.ensures) in
    spent_placed c.args.left c.args.path n c.as_str.result.now c.args.repeats c.args.instance.now _ _ c.block.result c.requires.left c.longer-path.ensures.alike c.as_str.ensures.value c.in-Basic.is counted c.block.ensures

pub instance-returns-in-Composite : goal.instance-returns-in-Composite
instance-returns-in-Composite t c =
    let n = c.longer-path.result in
    let inside = c.deref-in-Composite-2.ensures.value ∙ ap (λ (network : Network). (out-Network network).instances.items) c.deref-in-Composite.ensures in
    let counted = composite_length c.args.repeats n c.in-Composite.field-0 c.in-Composite.network c.deref-in-Composite-2.result.now inside in
    spent_placed c.args.left c.args.path n c.as_str.result.now c.args.repeats c.args.instance.now _ _ c.instances.result c.requires.left c.longer-path.ensures.alike c.as_str.ensures.value c.in-Composite.is counted c.instances.ensures

pub instance-returns-in-Served : goal.instance-returns-in-Served
instance-returns-in-Served t c =
    let counted = ap (body_length c.args.repeats c.longer-path.result) (view_served c.in-Served.of) in
    spent_placed c.args.left c.args.path c.longer-path.result c.as_str.result.now c.args.repeats c.args.instance.now _ _ c.service.result c.requires.left c.longer-path.ensures.alike c.as_str.ensures.value c.in-Served.is counted c.service.ensures
