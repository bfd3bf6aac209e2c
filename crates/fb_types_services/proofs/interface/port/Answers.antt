use Rattle.std.proofs.Common.{sym, ap, ◌∙◌}
use Rattle.std.specs.Option.{option_map}
use Rattle.fb_words.specs.declared.elem_type.ElemType.TheVariants as t
use Rattle.fb_types_services.proofs.Ports.{port_here, port_past, not_prefixed}
use Rattle.fb_types_services.proofs.interface.port.Goals as goal

pub returns-in_err-number : goal.returns-in_err-number
returns-in_err-number c =
    c.from_residual.ensures ∙ sym (ap (option_map (λ v. v.type)) (not_prefixed c.args.types.now c.args.prefix.now c.args.name.now 1 c.in_err-number.ensures.cases))

pub returns-then-is_number : goal.returns-then-is_number
returns-then-is_number c =
    let i = c.loop-index.invariant in
    port_here c.args.types.now c.args.prefix.now c.args.name.now c.in_ok-number.number.now i.0 c.loop-index.index t.Bool c.loop-index-test.true (sym c.is_number.ensures ∙ c.if-is_number.true) i.1

pub loop-index-preserved : goal.loop-index-preserved
loop-index-preserved c =
    let i = c.loop-index.invariant in
    (i.0, port_past c.args.types.now c.args.prefix.now c.args.name.now c.in_ok-number.number.now i.0 c.loop-index.index t.Bool c.loop-index-test.true (sym c.is_number.ensures ∙ c.if-is_number.false) i.1)
