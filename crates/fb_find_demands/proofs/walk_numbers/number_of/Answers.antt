use Rattle.std.proofs.Common.{sym, ap, ◌∙◌}
use Rattle.fb_model.specs.Spelling.{upper}
use Rattle.fb_model.specs.CertificateText.{place_of}
use Rattle.fb_model.specs.Demands.{event, state}
use Rattle.fb_find_demands.proofs.Ranks.{if_ok}
use Rattle.fb_find_demands.specs.Shown.{shown_node, sought}
use Rattle.fb_find_demands.proofs.walk_numbers.number_of.Goals as goal

pub returns-in_ok-upper-in-State : goal.returns-in_ok-upper-in-State
returns-in_ok-upper-in-State c =
    let n = c.args.numbering.now in
    if_ok (λ k e. e ∙ (ap (λ t. sought n (state (place_of t))) (c.as_str.ensures.value ∙ (c.in_ok-upper-in-State.ensures.ok ∙ ap upper c.deref.ensures)) ∙ sym (ap (λ p. sought n (shown_node p)) c.in-State.is))) c.state_number.result c.state_number.ensures

pub returns-in_ok-upper-in-Event : goal.returns-in_ok-upper-in-Event
returns-in_ok-upper-in-Event c =
    let n = c.args.numbering.now in
    if_ok (λ k e. e ∙ (ap (λ t. sought n (event (place_of t))) (c.as_str-in-Event.ensures.value ∙ (c.in_ok-upper-in-Event.ensures.ok ∙ ap upper c.deref-in-Event.ensures)) ∙ sym (ap (λ p. sought n (shown_node p)) c.in-Event.is))) c.event_number.result c.event_number.ensures

pub returns-in-Channel : goal.returns-in-Channel
returns-in-Channel c = if_ok (λ k e. e ∙ sym (ap (λ p. sought c.args.numbering.now (shown_node p)) c.in-Channel.is)) c.channel.result c.channel.ensures
