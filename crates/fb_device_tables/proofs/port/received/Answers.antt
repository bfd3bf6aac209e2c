use Rattle.std.proofs.Common.{◌≡◌, List, map, drop, string_bytes, IfOk, ap, subst, ◌∙◌, arith}
use Rattle.fb_model.specs.Names.{Name}
use Rattle.fb_types_services.specs.Views.{service_of, channel_of}
use Rattle.fb_chart.specs.Ports.{slots_of}
use Rattle.fb_device_tables.proofs.Ports.{behind_names, input_receives, subscribe_receives}
use Rattle.fb_device_tables.proofs.port.received.Goals as goal

pub returns-in_ok-names-in-Input : goal.returns-in_ok-names-in-Input
returns-in_ok-names-in-Input c =
    λ small.
    let names = ap (map string_bytes) c.deref.ensures.value ∙ c.in_ok-names-in-Input.ensures (omega (arith, small)) ∙ input_receives (service_of c.args.service.now) c.in-Input.field-0 c.in-Input.field-1.items (ap service_of c.in-Input.is) in
    subst (λ (ns : List Name). IfOk c.slots.result (λ v. v.items ≡ slots_of c.args.own.now ns)) names c.slots.ensures

pub returns-in_ok-names-in-Subscribe : goal.returns-in_ok-names-in-Subscribe
returns-in_ok-names-in-Subscribe c =
    λ small.
    let names =
    ap (map string_bytes) (c.behind.ensures ∙ ap (drop 1) c.deref-in-Subscribe.ensures.value) ∙ behind_names c.in_ok-names-in-Subscribe.names.items ∙ ap (drop 1) (c.in_ok-names-in-Subscribe.ensures (omega (arith, small)))
    ∙ subscribe_receives (service_of c.args.service.now) (channel_of c.in-Subscribe.field-0) c.in-Subscribe.field-1.items (ap service_of c.in-Subscribe.is) in
    subst (λ (ns : List Name). IfOk c.slots-in-Subscribe.result (λ v. v.items ≡ slots_of c.args.own.now ns)) names c.slots-in-Subscribe.ensures
