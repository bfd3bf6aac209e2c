use Rattle.std.proofs.Common.{map, refl}
use Rattle.fb_model.specs.NetworkTyping.{device_services, all_services}
use Rattle.fb_types.specs.Views.{resource_of, device_of, device_uses, system_uses}
use Rattle.fb_types.proofs.Gathered.{gathered_more, gathered_all}
use Rattle.fb_types.proofs.ends.of_devices.Goals as goal

pub loop-device-preserved : goal.loop-device-preserved
loop-device-preserved c =
    let xs = c.args.devices.now in
    let i = c.loop-device.device-index in
    let x = c.device-item.result in
    record {
      added = gathered_more system_uses (λ y. device_uses y.resources.items) (λ y ys. refl) xs i x c.loop-device-test.true c.device-item.is _ _ _ c.loop-device.invariant.added (rw c.deref.ensures.value at c.in_ok-of_resources.ensures.added);
      services = gathered_more (λ ds. all_services (map device_of ds)) (λ y. device_services (map resource_of y.resources.items)) (λ y ys. refl) xs i x c.loop-device-test.true c.device-item.is _ _ _ c.loop-device.invariant.services (rw c.deref.ensures.value at c.in_ok-of_resources.ensures.services);
    }

pub returns-clause-added : goal.returns-clause-added
returns-clause-added c = gathered_all system_uses refl c.args.devices.now c.loop-device.device-index c.loop-device-test.false _ _ c.loop-device.invariant.added

pub returns-clause-services : goal.returns-clause-services
returns-clause-services c = gathered_all (λ ds. all_services (map device_of ds)) refl c.args.devices.now c.loop-device.device-index c.loop-device-test.false _ _ c.loop-device.invariant.services
