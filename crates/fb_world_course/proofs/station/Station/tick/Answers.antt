use Rattle.std.proofs.Common.{◌+◌, subst, sym, arith}
use Rattle.fb_device_state.specs.Machines.{device_in, cert_in, machine_of}
use Rattle.fb_world_course.specs.Roots.{IsPending}
use Rattle.fb_world_course.proofs.Stations.{tick_pending, tick_counts}
use Rattle.fb_world_course.proofs.station.Station.tick.Goals as goal

pub open_all-requires-clause-pending : goal.open_all-requires-clause-pending
open_all-requires-clause-pending c = λ k l.
    subst (λ n. IsPending c.tick-count.new.self (n + k)) (sym c.requires.counted)
    (tick_pending (cert_in c.args.self.now.device) (device_in c.args.self.now.device) (machine_of c.args.self.now.device) (machine_of c.tick-count.new.self) c.args.now c.tick-count.result c.tick-count.ensures.step k l)

pub open_all-requires-clause-spare : goal.open_all-requires-clause-spare
open_all-requires-clause-spare c = (let h = tick_counts (cert_in c.args.self.now.device) (device_in c.args.self.now.device) (machine_of c.args.self.now.device) (machine_of c.tick-count.new.self) c.args.now c.tick-count.result c.tick-count.ensures.step in omega (arith, h.few, c.requires.spare))

pub open_all-requires-clause-numbers : goal.open_all-requires-clause-numbers
open_all-requires-clause-numbers c =
    let h = tick_counts (cert_in c.args.self.now.device) (device_in c.args.self.now.device) (machine_of c.args.self.now.device) (machine_of c.tick-count.new.self) c.args.now c.tick-count.result c.tick-count.ensures.step in
    λ l. omega (arith, h.numbers l, c.requires.counted)

pub open_all-requires-clause-room : goal.open_all-requires-clause-room
open_all-requires-clause-room c = (let h = tick_counts (cert_in c.args.self.now.device) (device_in c.args.self.now.device) (machine_of c.args.self.now.device) (machine_of c.tick-count.new.self) c.args.now c.tick-count.result c.tick-count.ensures.step in omega (arith, h.few, c.requires.room))

pub returns-clause-few : goal.returns-clause-few
returns-clause-few c = (let h = tick_counts (cert_in c.args.self.now.device) (device_in c.args.self.now.device) (machine_of c.args.self.now.device) (machine_of c.tick-count.new.self) c.args.now c.tick-count.result c.tick-count.ensures.step in h.few)

pub returns-clause-spare : goal.returns-clause-spare
returns-clause-spare c = (let h = tick_counts (cert_in c.args.self.now.device) (device_in c.args.self.now.device) (machine_of c.args.self.now.device) (machine_of c.tick-count.new.self) c.args.now c.tick-count.result c.tick-count.ensures.step in omega (arith, h.few, c.open_all.ensures.spare))
