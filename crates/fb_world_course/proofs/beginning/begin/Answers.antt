use Rattle.std.proofs.Common.{refl, ◌∙◌}
use Rattle.fb_world_course.specs.declared.station.Station.{Station}
use Rattle.fb_world_course.proofs.First.{begins_pending, begins_so, started_first}
use Rattle.fb_world_course.proofs.beginning.begin.Goals as goal

pub open_all-requires-clause-pending : goal.open_all-requires-clause-pending
open_all-requires-clause-pending c =
    begins_pending c.start-device.result (started_first c.in_ok-ready.ready c.start-device.result c.in_ok-ready.ensures.ready.2 c.start-device.ensures.same c.start-device.ensures.first) c.begun-count.result c.begun-count.ensures

pub returns-clause-begins : goal.returns-clause-begins
returns-clause-begins c =
    let none : Station = record { device = c.start-device.result; causes = 0; roots = c.in_ok-table.table } in
    begins_so c.args.verified.now.value c.args.number c.begun-count.result c.args.roots.now.items c.table.new.roots.items c.open_all.new.roots.items none c.open_all.new.self c.table.ensures.same c.in_ok-table.ensures.room.2 refl
    (c.start-device.ensures.same.0 ∙ c.in_ok-ready.ensures.ready.0 ∙ c.in_ok-clone.ensures.cases) (c.start-device.ensures.same.1 ∙ c.in_ok-ready.ensures.ready.1)
    (started_first c.in_ok-ready.ready c.start-device.result c.in_ok-ready.ensures.ready.2 c.start-device.ensures.same c.start-device.ensures.first) c.begun-count.ensures c.open_all.ensures.opens
