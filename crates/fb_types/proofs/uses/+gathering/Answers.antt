use Rattle.std.proofs.Common.{refl}
use Rattle.fb_model.specs.NetworkTyping.{services_of, services_in}
use Rattle.fb_types_networks.specs.Views.{placed_of, instances_of}
use Rattle.fb_types.specs.Uses.{uses_of, uses_in}
use Rattle.fb_types.proofs.Gathered.{gathered_more, gathered_all}
use Rattle.fb_types.proofs.uses.+gathering.Goals as goal

pub gather_all-loop-instance-preserved : goal.gather_all-loop-instance-preserved
gather_all-loop-instance-preserved t c =
    let xs = c.args.instances.now in
    let i = c.loop-instance.instance-index in
    let x = c.instance-item.result in
    record {
      added = gathered_more uses_in uses_of (λ y ys. refl) xs i x c.loop-instance-test.true c.instance-item.is _ _ _ c.loop-instance.invariant.added c.in_ok-gather.ensures.added;
      services = gathered_more (λ is. services_in (instances_of is)) (λ y. services_of ((placed_of y).2)) (λ y ys. refl) xs i x c.loop-instance-test.true c.instance-item.is _ _ _ c.loop-instance.invariant.services c.in_ok-gather.ensures.services;
    }

pub gather_all-returns-clause-added : goal.gather_all-returns-clause-added
gather_all-returns-clause-added t c = gathered_all uses_in refl c.args.instances.now c.loop-instance.instance-index c.loop-instance-test.false _ _ c.loop-instance.invariant.added

pub gather_all-returns-clause-services : goal.gather_all-returns-clause-services
gather_all-returns-clause-services t c = gathered_all (λ is. services_in (instances_of is)) refl c.args.instances.now c.loop-instance.instance-index c.loop-instance-test.false _ _ c.loop-instance.invariant.services
