use Rattle.std.proofs.Common.{sym, ◌∙◌}
use Rattle.fb_types_services.proofs.Services.{is_input, is_output, is_publisher, is_subscriber, named}
use Rattle.fb_types_services.proofs.declared.valued.Goals as goal

pub returns-then-eq-clause-is : goal.returns-then-eq-clause-is
returns-then-eq-clause-is c = is_input _ (sym c.as_str-name.ensures.value ∙ named c.eq.ensures c.if-eq.true) c.in_ok-number.ensures.is

pub returns-then-eq-2-clause-is : goal.returns-then-eq-2-clause-is
returns-then-eq-2-clause-is c = is_output _ (sym c.as_str-name.ensures.value ∙ named c.eq-2.ensures c.if-eq-2.true) c.in_ok-number-2.ensures.is

pub returns-then-eq-3-clause-is : goal.returns-then-eq-3-clause-is
returns-then-eq-3-clause-is c = is_publisher _ (sym c.as_str-name.ensures.value ∙ named c.eq-3.ensures c.if-eq-3.true) c.in_ok-channel.ensures.is

pub returns-then-eq-4-clause-is : goal.returns-then-eq-4-clause-is
returns-then-eq-4-clause-is c = is_subscriber _ (sym c.as_str-name.ensures.value ∙ named c.eq-4.ensures c.if-eq-4.true) c.in_ok-channel-2.ensures.is
