use Rattle.std.proofs.Common.{◌≡◌, List, map, drop, string_bytes, IfOk, ap, subst, ◌∙◌, arith}
use Rattle.fb_model.specs.Names.{Name}
use Rattle.fb_types_services.specs.Views.{service_of, channel_of}
use Rattle.fb_chart.specs.Ports.{slots_of}
use Rattle.fb_device_tables.proofs.Ports.{behind_names, output_sends, publish_sends}
use Rattle.fb_device_tables.proofs.port.sent.Goals as goal

pub returns-in_ok-names-in-Output : goal.returns-in_ok-names-in-Output
returns-in_ok-names-in-Output c =
    λ small.
    let names = ap (map string_bytes) c.deref.ensures.value ∙ c.in_ok-names-in-Output.ensures (omega (arith, small)) ∙ output_sends (service_of c.args.service.now) c.in-Output.field-0 c.in-Output.field-1.items (ap service_of c.in-Output.is) in
    subst (λ (ns : List Name). IfOk c.slots.result (λ v. v.items ≡ slots_of c.args.own.now ns)) names c.slots.ensures

pub returns-in_ok-names-in-Publish : goal.returns-in_ok-names-in-Publish
returns-in_ok-names-in-Publish c =
    λ small.
    let names =
    ap (map string_bytes) (c.behind.ensures ∙ ap (drop 1) c.deref-in-Publish.ensures.value) ∙ behind_names c.in_ok-names-in-Publish.names.items ∙ ap (drop 1) (c.in_ok-names-in-Publish.ensures (omega (arith, small)))
    ∙ publish_sends (service_of c.args.service.now) (channel_of c.in-Publish.field-0) c.in-Publish.field-1.items (ap service_of c.in-Publish.is) in
    subst (λ (ns : List Name). IfOk c.slots-in-Publish.result (λ v. v.items ≡ slots_of c.args.own.now ns)) names c.slots-in-Publish.ensures
