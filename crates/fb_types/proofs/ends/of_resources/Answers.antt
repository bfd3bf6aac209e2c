use Rattle.std.proofs.Common.{map, refl}
use Rattle.fb_model.specs.NetworkTyping.{services_in, device_services}
use Rattle.fb_types_networks.specs.Views.{instances_of}
use Rattle.fb_types_networks.specs.declared.typed.Network.{out-Network}
use Rattle.fb_types.specs.Views.{resource_of, resource_uses, device_uses}
use Rattle.fb_types.proofs.Ended.{resource_services}
use Rattle.fb_types.proofs.Gathered.{gathered_more, gathered_all}
use Rattle.fb_types.proofs.ends.of_resources.Goals as goal

pub loop-resource-preserved : goal.loop-resource-preserved
loop-resource-preserved c =
    let xs = c.args.resources.now in
    let i = c.loop-resource.resource-index in
    let x = c.resource-item.result in
    record {
      added = gathered_more device_uses resource_uses (λ y ys. refl) xs i x c.loop-resource-test.true c.resource-item.is _ _ _ c.loop-resource.invariant.added (rw c.deref.ensures.value at c.in_ok-gather_all.ensures.added);
      services = gathered_more (λ rs. device_services (map resource_of rs)) (λ y. services_in (instances_of (out-Network y.network).instances.items)) resource_services xs i x c.loop-resource-test.true c.resource-item.is _ _ _ c.loop-resource.invariant.services (rw c.deref.ensures.value at c.in_ok-gather_all.ensures.services);
    }

pub returns-clause-added : goal.returns-clause-added
returns-clause-added c = gathered_all device_uses refl c.args.resources.now c.loop-resource.resource-index c.loop-resource-test.false _ _ c.loop-resource.invariant.added

pub returns-clause-services : goal.returns-clause-services
returns-clause-services c = gathered_all (λ rs. device_services (map resource_of rs)) refl c.args.resources.now c.loop-resource.resource-index c.loop-resource-test.false _ _ c.loop-resource.invariant.services
