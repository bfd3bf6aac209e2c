use Rattle.std.proofs.Common.{◌+◌, subst, sym, ◌∙◌}
use Rattle.std.specs.Prelude.{if◌then◌else◌}
use Rattle.fb_device_state.specs.Machines.{device_in, cert_in, machine_of}
use Rattle.fb_world_course.specs.Roots.{OpensRoots, IsPending, with_device}
use Rattle.fb_world_course.proofs.Stations.{offer_pending, opened_none}
use Rattle.fb_world_course.proofs.station.Station.offer.Goals as goal

pub open_all-requires-clause-pending : goal.open_all-requires-clause-pending
open_all-requires-clause-pending c = λ k l.
    subst (λ n. IsPending c.offer-admitted.new.self (n + k)) (sym c.requires.counted)
    (offer_pending (cert_in c.args.self.now.device) (device_in c.args.self.now.device) (machine_of c.args.self.now.device) (machine_of c.offer-admitted.new.self) c.args.input c.args.values.now c.offer-admitted.result
    (sym c.is_ok.ensures.value ∙ c.if-is_ok.true) c.offer-admitted.ensures.step k l)

pub returns-else-is_ok-clause-opens : goal.returns-else-is_ok-clause-opens
returns-else-is_ok-clause-opens c =
    subst (λ b. OpensRoots (with_device c.args.self.now c.offer-admitted.new.self) c.args.number (if b then 1 else 0) c.args.roots.now.items (with_device c.args.self.now c.offer-admitted.new.self) c.args.roots.now.items) (sym (sym c.is_ok.ensures.value ∙ c.if-is_ok.false))
    (opened_none (with_device c.args.self.now c.offer-admitted.new.self) c.args.number c.args.roots.now.items)
