use Rattle.std.proofs.Common.{◌≡◌, ◌≤◌, ◌<◌, ℕ, List, length, sym, ap, subst, ◌∙◌}
use Rattle.std.specs.Prelude.{IfSome}
use Rattle.fb_model.specs.Services.{sent, received, numbered, service_event_outputs}
use Rattle.fb_words.specs.declared.elem_type.ElemType.{ElemType}
use Rattle.fb_model.specs.System as system
use Rattle.fb_types_services.specs.Views.{service_of, channel_of, values_of as types_of}
use Rattle.st_exec.specs.Cells.{values_of, forms_of}
use Rattle.fb_chart.specs.Ports.{slots_of, sends, receives}
use Rattle.fb_chart.specs.Responses.{Replies}
use Rattle.fb_chart.specs.Serving.{SendsFit}
use Rattle.fb_chart.proofs.Placing.{message_fits, sent_few}
use Rattle.fb_chart.proofs.response.reply.Goals as goal

pub arrive-requires-clause-few : goal.arrive-requires-clause-few
arrive-requires-clause-few c =
    subst (λ (l : List ℕ). length c.args.occurrence.now.values.now ≤ length l) (sym c.deref.ensures.value) (message_fits (service_of c.args.service.now) c.args.ports.now (forms_of c.args.own.now) c.args.occurrence.now.values.now c.requires.ready)

pub write-requires : goal.write-requires
write-requires c =
    subst (λ (l : List ℕ). length l ≤ 16) (sym c.deref-in-Output.ensures.value) (sent_few (service_of c.args.service.now) c.args.ports.now (forms_of c.args.own.now) c.args.occurrence.now.values.now c.requires.ready)

pub published-requires-clause-few : goal.published-requires-clause-few
published-requires-clause-few c =
    let few = subst (λ s. length (types_of s) ≤ 16) (ap service_of c.in-Publish.is) c.requires.ready.few in
    subst (λ (ts : List ElemType). length ts ≤ 16) (sym c.deref-in-Publish.ensures.value) few

pub published-requires-clause-slots : goal.published-requires-clause-slots
published-requires-clause-slots c =
    let ports = subst (λ s. c.args.ports.now.sent.items ≡ slots_of (forms_of c.args.own.now) (numbered sent 1 (sends s))) (ap service_of c.in-Publish.is) c.requires.ready.ports.sent in
    subst (λ (ts : List ElemType). c.args.ports.now.sent.items ≡ slots_of (forms_of c.args.own.now) (numbered sent 1 ts)) (sym c.deref-in-Publish.ensures.value) ports

pub published-requires-clause-sends : goal.published-requires-clause-sends
published-requires-clause-sends c =
    let fit = subst (λ s. SendsFit s (values_of c.args.own.now)) (ap service_of c.in-Publish.is) c.requires.sends in
    subst (λ (ts : List ElemType). SendsFit (system.Publish (channel_of c.in-Publish.channel) ts) (values_of c.args.own.now)) (sym c.deref-in-Publish.ensures.value) fit

pub subscribed-requires-clause-few : goal.subscribed-requires-clause-few
subscribed-requires-clause-few c = message_fits (service_of c.args.service.now) c.args.ports.now (forms_of c.args.own.now) c.args.occurrence.now.values.now c.requires.ready

pub returns-in-Input-clause-reply : goal.returns-in-Input-clause-reply
returns-in-Input-clause-reply c = λ issued.
    let kind = ap service_of c.in-Input.is in
    let few = subst (λ s. length c.args.occurrence.now.values.now ≤ length (receives s)) kind c.requires.ready.message in
    let ports = subst (λ s. c.args.ports.now.received.items ≡ slots_of (forms_of c.args.own.now) (numbered received 1 (receives s))) kind c.requires.ready.ports.received in
    subst (λ s. Replies s c.args.occurrence.now.clock c.args.occurrence.now.point.event c.args.occurrence.now.values.now (values_of c.args.own.now) (values_of c.arrive.new.own) issued c.args.standing c.arrive.result) (sym kind)
    (c.arrive.ensures.reply c.in-Input.field-0 c.args.occurrence.now.clock c.args.occurrence.now.point.event c.in-Input.field-1.items issued few (c.deref.ensures.value ∙ ports))

pub returns-in-Output-clause-reply : goal.returns-in-Output-clause-reply
returns-in-Output-clause-reply c = λ issued.
    let kind = ap service_of c.in-Output.is in
    let ports = subst (λ s. c.args.ports.now.sent.items ≡ slots_of (forms_of c.args.own.now) (numbered sent 1 (sends s))) kind c.requires.ready.ports.sent in
    subst (λ s. Replies s c.args.occurrence.now.clock c.args.occurrence.now.point.event c.args.occurrence.now.values.now (values_of c.args.own.now) (values_of c.args.own.now) issued c.args.standing c.write.result) (sym kind)
    (c.write.ensures.reply c.args.occurrence.now.clock c.args.occurrence.now.point.event c.in-Output.field-1.items c.args.occurrence.now.values.now issued (c.deref-in-Output.ensures.value ∙ ports))

pub returns-in-Publish-clause-reply : goal.returns-in-Publish-clause-reply
returns-in-Publish-clause-reply c = λ issued.
    subst (λ s. Replies s c.args.occurrence.now.clock c.args.occurrence.now.point.event c.args.occurrence.now.values.now (values_of c.args.own.now) (values_of c.published.new.own) issued c.args.standing c.published.result) (sym (ap service_of c.in-Publish.is))
    (subst (λ (ts : List ElemType). Replies (system.Publish (channel_of c.in-Publish.channel) ts) c.args.occurrence.now.clock c.args.occurrence.now.point.event c.args.occurrence.now.values.now (values_of c.args.own.now) (values_of c.published.new.own) issued c.args.standing c.published.result) c.deref-in-Publish.ensures.value
    (c.published.ensures.reply c.args.occurrence.now.clock c.args.occurrence.now.values.now issued))

pub returns-in-Subscribe-clause-reply : goal.returns-in-Subscribe-clause-reply
returns-in-Subscribe-clause-reply c = λ issued.
    let kind = ap service_of c.in-Subscribe.is in
    let few = subst (λ s. length c.args.occurrence.now.values.now ≤ length (receives s)) kind c.requires.ready.message in
    let ports = subst (λ s. c.args.ports.now.received.items ≡ slots_of (forms_of c.args.own.now) (numbered received 1 (receives s))) kind c.requires.ready.ports.received in
    subst (λ s. Replies s c.args.occurrence.now.clock c.args.occurrence.now.point.event c.args.occurrence.now.values.now (values_of c.args.own.now) (values_of c.subscribed.new.own) issued c.args.standing c.subscribed.result) (sym kind)
    (c.subscribed.ensures.reply c.args.occurrence.now.clock (channel_of c.in-Subscribe.field-0) c.in-Subscribe.field-1.items issued few ports)

pub returns-in-Delay-clause-output : goal.returns-in-Delay-clause-output
returns-in-Delay-clause-output c = subst (λ s. IfSome c.delay.result.output (λ k. k < length (service_event_outputs s))) (sym (ap service_of c.in-Delay.is)) c.delay.ensures.output

pub returns-in-Delay-clause-reply : goal.returns-in-Delay-clause-reply
returns-in-Delay-clause-reply c = λ issued.
    subst (λ s. Replies s c.args.occurrence.now.clock c.args.occurrence.now.point.event c.args.occurrence.now.values.now (values_of c.args.own.now) (values_of c.args.own.now) issued c.args.standing c.delay.result) (sym (ap service_of c.in-Delay.is)) (c.delay.ensures.reply c.args.occurrence.now.values.now issued)

pub returns-in-Cycle-clause-output : goal.returns-in-Cycle-clause-output
returns-in-Cycle-clause-output c = subst (λ s. IfSome c.cycle.result.output (λ k. k < length (service_event_outputs s))) (sym (ap service_of c.in-Cycle.is)) c.cycle.ensures.output

pub returns-in-Cycle-clause-reply : goal.returns-in-Cycle-clause-reply
returns-in-Cycle-clause-reply c = λ issued.
    subst (λ s. Replies s c.args.occurrence.now.clock c.args.occurrence.now.point.event c.args.occurrence.now.values.now (values_of c.args.own.now) (values_of c.args.own.now) issued c.args.standing c.cycle.result) (sym (ap service_of c.in-Cycle.is)) (c.cycle.ensures.reply c.args.occurrence.now.values.now issued)
