use Rattle.std.proofs.Common.{◌≡◌, map, length, slice_get, sym, ◌∙◌, ap, arith}
use Rattle.std.specs.List.{sum_by}
use Rattle.std.specs.Vec.{with_items}
use Rattle.std.proofs.lemmas.List.{length-map, with_items_is}
use Rattle.std.proofs.lemmas.Result.{on_ok_weaker}
use Rattle.fb_world_course.specs.Room.{face_of, opens_at_most, opens_there}
use Rattle.fb_world_course.proofs.Rooms.{all_opened_same}
use Rattle.fb_world_course.proofs.course.Course.reserve.Goals as goal

pub returns-clause-room : goal.returns-clause-room
returns-clause-room c =
    let faces : map face_of c.reserve_tables.new.stations ≡ map face_of c.args.self.now.stations.items = c.reserve_tables.ensures.same ∙ ap (map face_of) c.deref_mut.ensures.value in
    let long : length c.reserve_tables.new.stations ≡ length c.args.self.now.stations.items = sym (length-map c.reserve_tables.new.stations face_of) ∙ ap length faces ∙ length-map c.args.self.now.stations.items face_of in
    let is : (with_items c.args.self.now.stations c.reserve_tables.new.stations).items ≡ c.reserve_tables.new.stations = with_items_is c.args.self.now.stations c.reserve_tables.new.stations (omega (arith, long, c.args.self.now.stations.ok.0)) in
    on_ok_weaker c.reserve_tables.result
    (λ h.
    record {
      roots = omega (
        arith,
        c.in_ok-reserve.ensures.ok,
        c.in-Some.ensures,
        ap (λ xs. sum_by (opens_at_most xs) c.args.events.now) c.deref.ensures.value,
        ap (λ xs. sum_by (opens_at_most xs) c.args.events.now) is,
        all_opened_same c.reserve_tables.new.stations c.args.self.now.stations.items faces c.args.events.now,
        c.reserve.new.self.ok.0,
      );
      datagrams = omega (arith, c.in_ok-reserve-2.ensures.ok, c.dispatched-sent.ensures, c.reserve-2.new.self.ok.0);
      causes = λ k s at.
          omega (arith, h k s (ap (λ xs. slice_get xs k) (sym is) ∙ at), ap (λ xs. sum_by (opens_there xs k) c.args.events.now) is);
      numbers = omega (arith, c.if-self-sent.false, c.dispatched-sent.ensures);
    })
    c.reserve_tables.ensures.room
