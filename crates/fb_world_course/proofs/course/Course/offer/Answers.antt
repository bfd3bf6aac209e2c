use Rattle.std.proofs.Common.{◌≤◌, refl, length, arith, Bool, true, false, cond}
use Rattle.std.specs.Prelude.{is_ok}
use Rattle.std.specs.Vec.{with_item}
use Rattle.std.proofs.lemmas.Option.{slice_get_read}
use Rattle.fb_world_course.specs.declared.course.Course.{Course}
use Rattle.fb_world_course.proofs.Arrivals.{offer_goes}
use Rattle.fb_world_course.proofs.Rooms.{device_kept, longer, uses_set}
use Rattle.fb_world_course.specs.Roots.{with_device}
use Rattle.fb_world_course.proofs.course.Course.offer.Goals as goal

at_most_one : (b : Bool) → cond b 1 0 ≤ 1
at_most_one true = omega arith
at_most_one false = omega arith

pub returns-clause-goes : goal.returns-clause-goes
returns-clause-goes c = λ v k.
    let new : Course = record { stations = with_item c.args.self.now.stations c.args.device c.offer-admitted.new.self; datagrams = c.args.self.now.datagrams; roots = c.offer-admitted.new.roots; dispatches = c.args.self.now.dispatches } in
    let stands = slice_get_read c.args.self.now.stations.items (length c.args.self.now.stations.items) c.args.device c.index_mut.result.now refl c.requires.there c.index_mut.ensures.value in
    offer_goes v c.args.self.now new k c.args.device c.index_mut.result.now c.offer-admitted.new.self stands refl c.offer-admitted.ensures.same refl refl c.args.input c.args.values.now c.offer-admitted.result c.offer-admitted.ensures.step c.offer-admitted.ensures.opens

pub returns-clause-uses : goal.returns-clause-uses
returns-clause-uses c =
    let new : Course = record { stations = with_item c.args.self.now.stations c.args.device c.offer-admitted.new.self; datagrams = c.args.self.now.datagrams; roots = c.offer-admitted.new.roots; dispatches = c.args.self.now.dispatches } in
    let stands = slice_get_read c.args.self.now.stations.items (length c.args.self.now.stations.items) c.args.device c.index_mut.result.now refl c.requires.there c.index_mut.ensures.value in
    let many = longer (with_device c.index_mut.result.now c.offer-admitted.new.self.device) c.offer-admitted.new.self c.args.device (cond (is_ok c.offer-admitted.result) 1 0) c.args.self.now.roots.items c.offer-admitted.new.roots.items c.offer-admitted.ensures.opens in
    uses_set c.args.self.now new c.args.device 1 0 c.index_mut.result.now c.offer-admitted.new.self stands refl
    (record { same = device_kept c.index_mut.result.now.device c.offer-admitted.new.self.device c.offer-admitted.ensures.same.0 c.offer-admitted.ensures.same.1; spare_is = c.offer-admitted.ensures.spare })
    (omega (arith, many, at_most_one (is_ok c.offer-admitted.result))) c.offer-admitted.ensures.room (omega arith) refl (omega arith)
