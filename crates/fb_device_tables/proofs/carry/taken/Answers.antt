use Rattle.std.proofs.Common.{◌≡◌, List, map, string_bytes, IfOk, sym, ap, subst, ◌∙◌, arith}
use Rattle.fb_model.specs.Names.{Name}
use Rattle.fb_types_services.specs.Views.{service_of, channel_of}
use Rattle.fb_device_tables.proofs.Ports.{output_takes, publish_takes}
use Rattle.fb_device_tables.proofs.carry.taken.Goals as goal

pub returns-in-Output : goal.returns-in-Output
returns-in-Output c =
    λ small.
    let s = service_of c.args.service.now in
    subst (λ (ns : List Name). IfOk c.inputs.result (λ v. map string_bytes v.items ≡ ns)) (output_takes s c.in-Output.field-0 c.in-Output.field-1.items c.args.event.now (ap service_of c.in-Output.is)) (c.inputs.ensures (omega (arith, small)))

pub returns-then-eq : goal.returns-then-eq
returns-then-eq c =
    λ small.
    let s = service_of c.args.service.now in
    subst (λ (ns : List Name). IfOk c.inputs-then-eq.result (λ v. map string_bytes v.items ≡ ns))
    (publish_takes s (channel_of c.in-Publish.field-0) c.in-Publish.field-1.items c.args.event.now (ap service_of c.in-Publish.is) (sym c.eq.ensures ∙ c.if-eq.true)) (c.inputs-then-eq.ensures (omega (arith, small)))
