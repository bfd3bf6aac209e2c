use Rattle.std.proofs.Common.{◌≡◌, [], map, IfErr, sym, subst}
use Rattle.fb_model.specs.Typing.{AreNewNumbers}
use Rattle.fb_model.specs.NetworkTyping.{all_services, AreAlike}
use Rattle.fb_types_blocks.proofs.Lists.{on_ok}
use Rattle.fb_types.specs.Uses.{use_of, service_in}
use Rattle.fb_types.specs.Views.{device_of, system_uses}
use Rattle.fb_model.specs.NumberFaults.{IsChannelFault}
use Rattle.fb_types.proofs.Ended.{services_same, senders_same, only_channel_memory}
use Rattle.fb_types.proofs.ends.channels_alike.Goals as goal

pub returns-clause-alike : goal.returns-clause-alike
returns-clause-alike c =
    let us = c.of_devices.new.uses.items in
    let ss = all_services (map device_of c.args.devices.now) in
    let are : map service_in us ≡ ss = rw c.new-uses.ensures.items at c.in_ok-of_devices.ensures.services in
    on_ok (λ h. subst AreAlike (services_same us ss are) h) c.all_alike.result (rw c.deref.ensures.value at c.all_alike.ensures.alike)

pub returns-clause-senders : goal.returns-clause-senders
returns-clause-senders c =
    let us = c.of_devices.new.uses.items in
    let ss = all_services (map device_of c.args.devices.now) in
    let are : map service_in us ≡ ss = rw c.new-uses.ensures.items at c.in_ok-of_devices.ensures.services in
    on_ok (λ h. subst (AreNewNumbers []) (senders_same us ss are) h) c.all_alike.result (rw c.deref.ensures.value at c.all_alike.ensures.senders)

pub returns-clause-refused : goal.returns-clause-refused
returns-clause-refused c =
    let us = c.of_devices.new.uses.items in
    let are : map use_of us ≡ system_uses c.args.devices.now = rw c.new-uses.ensures.items at c.in_ok-of_devices.ensures.added in
    subst (λ l. IfErr c.all_alike.result (IsChannelFault l)) are (rw c.deref.ensures.value at c.all_alike.ensures.refused)

pub returns-clause-only : goal.returns-clause-only
returns-clause-only c =
    let us = c.of_devices.new.uses.items in
    let ss = all_services (map device_of c.args.devices.now) in
    let are : map service_in us ≡ ss = rw c.new-uses.ensures.items at c.in_ok-of_devices.ensures.services in
    λ a n.
    only_channel_memory (map use_of us) c.all_alike.result (rw c.deref.ensures.value at c.all_alike.ensures.refused) (subst AreAlike (sym (services_same us ss are)) a) (subst (AreNewNumbers []) (sym (senders_same us ss are)) n)
