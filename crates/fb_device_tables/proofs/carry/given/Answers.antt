use Rattle.std.proofs.Common.{◌≡◌, List, map, string_bytes, IfOk, sym, ap, subst, ◌∙◌, arith}
use Rattle.fb_model.specs.Names.{Name}
use Rattle.fb_types_services.specs.Views.{service_of, channel_of}
use Rattle.fb_device_tables.proofs.Ports.{input_gives, subscribe_gives}
use Rattle.fb_device_tables.proofs.carry.given.Goals as goal

pub returns-in-Input : goal.returns-in-Input
returns-in-Input c =
    λ small.
    let s = service_of c.args.service.now in
    subst (λ (ns : List Name). IfOk c.outputs.result (λ v. map string_bytes v.items ≡ ns)) (input_gives s c.in-Input.field-0 c.in-Input.field-1.items c.args.event.now (ap service_of c.in-Input.is)) (c.outputs.ensures (omega (arith, small)))

pub returns-then-eq : goal.returns-then-eq
returns-then-eq c =
    λ small.
    let s = service_of c.args.service.now in
    subst (λ (ns : List Name). IfOk c.outputs-then-eq.result (λ v. map string_bytes v.items ≡ ns))
    (subscribe_gives s (channel_of c.in-Subscribe.field-0) c.in-Subscribe.field-1.items c.args.event.now (ap service_of c.in-Subscribe.is) (sym c.eq.ensures ∙ c.if-eq.true)) (c.outputs-then-eq.ensures (omega (arith, small)))
