use Rattle.std.proofs.Common.{◌≡◌, refl, length, ap, arith}
use Rattle.std.specs.Vec.{with_item}
use Rattle.std.proofs.lemmas.Option.{slice_get_read}
use Rattle.fb_model.specs.Wires.{leaves}
use Rattle.fb_device_state.specs.Machines.{device_in}
use Rattle.fb_world_course.specs.declared.course.Course.{Course}
use Rattle.fb_world_course.specs.Room.{blocks_of}
use Rattle.std.specs.Prelude.{slice_get}
use Rattle.fb_world_course.proofs.Arrivals.{tick_goes}
use Rattle.fb_world_course.proofs.Rooms.{device_kept, longer, uses_set}
use Rattle.fb_world_course.specs.Roots.{with_device}
use Rattle.fb_world_course.proofs.course.Course.tick.Goals as goal

pub returns-clause-goes : goal.returns-clause-goes
returns-clause-goes c = λ v k.
    let new : Course = record { stations = with_item c.args.self.now.stations c.args.device c.tick-fired.new.self; datagrams = c.args.self.now.datagrams; roots = c.tick-fired.new.roots; dispatches = c.args.self.now.dispatches } in
    let stands = slice_get_read c.args.self.now.stations.items (length c.args.self.now.stations.items) c.args.device c.index_mut.result.now refl c.requires.there c.index_mut.ensures.value in
    tick_goes v c.args.self.now new k c.args.device c.index_mut.result.now c.tick-fired.new.self stands refl c.tick-fired.ensures.same refl refl c.args.now c.tick-fired.result c.tick-fired.ensures.step c.tick-fired.ensures.opens

pub returns-clause-uses : goal.returns-clause-uses
returns-clause-uses c =
    let new : Course = record { stations = with_item c.args.self.now.stations c.args.device c.tick-fired.new.self; datagrams = c.args.self.now.datagrams; roots = c.tick-fired.new.roots; dispatches = c.args.self.now.dispatches } in
    let stands = slice_get_read c.args.self.now.stations.items (length c.args.self.now.stations.items) c.args.device c.index_mut.result.now refl c.requires.there c.index_mut.ensures.value in
    let many = longer (with_device c.index_mut.result.now c.tick-fired.new.self.device) c.tick-fired.new.self c.args.device c.tick-fired.result c.args.self.now.roots.items c.tick-fired.new.roots.items c.tick-fired.ensures.opens in
    let blocks : blocks_of (slice_get c.args.self.now.stations.items c.args.device) ≡ length (leaves (device_in c.index_mut.result.now.device)) = ap blocks_of stands in
    uses_set c.args.self.now new c.args.device (blocks_of (slice_get c.args.self.now.stations.items c.args.device)) 0 c.index_mut.result.now c.tick-fired.new.self stands refl
    (record { same = device_kept c.index_mut.result.now.device c.tick-fired.new.self.device c.tick-fired.ensures.same.0 c.tick-fired.ensures.same.1; spare_is = omega (arith, c.tick-fired.ensures.spare, blocks) })
    (omega (arith, many, c.tick-fired.ensures.few, blocks)) c.tick-fired.ensures.room (omega arith) refl (omega arith)
