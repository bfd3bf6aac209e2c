use Rattle.std.proofs.Common.{◌≡◌, [], map, IfErr, sym, subst}
use Rattle.fb_model.specs.Typing.{AreNewNumbers}
use Rattle.fb_model.specs.NetworkTyping.{device_services}
use Rattle.fb_types_blocks.proofs.Lists.{on_ok}
use Rattle.fb_types.specs.Uses.{use_of, service_in}
use Rattle.fb_types.specs.Views.{resource_of, device_uses}
use Rattle.fb_model.specs.NumberFaults.{IsNumberFault}
use Rattle.fb_types.proofs.Ended.{inputs_same, outputs_same, channels_same, only_number_memory}
use Rattle.fb_types.proofs.ends.numbers_differ.Goals as goal

pub returns-clause-inputs : goal.returns-clause-inputs
returns-clause-inputs c =
    let us = c.of_resources.new.uses.items in
    let ss = device_services (map resource_of c.args.resources.now) in
    let are : map service_in us ≡ ss = rw c.new-uses.ensures.items at c.in_ok-of_resources.ensures.services in
    on_ok (λ h. subst (AreNewNumbers []) (inputs_same us ss are) h) c.all_differ.result (rw c.deref.ensures.value at c.all_differ.ensures.inputs)

pub returns-clause-outputs : goal.returns-clause-outputs
returns-clause-outputs c =
    let us = c.of_resources.new.uses.items in
    let ss = device_services (map resource_of c.args.resources.now) in
    let are : map service_in us ≡ ss = rw c.new-uses.ensures.items at c.in_ok-of_resources.ensures.services in
    on_ok (λ h. subst (AreNewNumbers []) (outputs_same us ss are) h) c.all_differ.result (rw c.deref.ensures.value at c.all_differ.ensures.outputs)

pub returns-clause-channels : goal.returns-clause-channels
returns-clause-channels c =
    let us = c.of_resources.new.uses.items in
    let ss = device_services (map resource_of c.args.resources.now) in
    let are : map service_in us ≡ ss = rw c.new-uses.ensures.items at c.in_ok-of_resources.ensures.services in
    on_ok (λ h. subst (AreNewNumbers []) (channels_same us ss are) h) c.all_differ.result (rw c.deref.ensures.value at c.all_differ.ensures.channels)

pub returns-clause-refused : goal.returns-clause-refused
returns-clause-refused c =
    let us = c.of_resources.new.uses.items in
    let are : map use_of us ≡ device_uses c.args.resources.now = rw c.new-uses.ensures.items at c.in_ok-of_resources.ensures.added in
    subst (λ l. IfErr c.all_differ.result (IsNumberFault l)) are (rw c.deref.ensures.value at c.all_differ.ensures.refused)

pub returns-clause-only : goal.returns-clause-only
returns-clause-only c =
    let us = c.of_resources.new.uses.items in
    let ss = device_services (map resource_of c.args.resources.now) in
    let are : map service_in us ≡ ss = rw c.new-uses.ensures.items at c.in_ok-of_resources.ensures.services in
    λ x y z.
    only_number_memory (map use_of us) c.all_differ.result (rw c.deref.ensures.value at c.all_differ.ensures.refused) (subst (AreNewNumbers []) (sym (inputs_same us ss are)) x) (subst (AreNewNumbers []) (sym (outputs_same us ss are)) y)
    (subst (AreNewNumbers []) (sym (channels_same us ss are)) z)
