use Rattle.std.proofs.Common.{◌≡◌, ◌<◌, cond, length, Some, slice_get, sym, ◌∙◌, ap, subst, arith, inl, inr}
use Rattle.std.specs.Prelude.{slice_index_or, set}
use Rattle.std.specs.List.{sum_by}
use Rattle.std.proofs.lemmas.Option.{slice_get-get_or}
use Rattle.std.proofs.lemmas.Bool.{cases_eq, ne_eqb}
use Rattle.indexmap.specs.IndexMap.{spare}
use Rattle.fb_world_course.specs.declared.station.Station.{Station}
use Rattle.fb_world_course.specs.Room.{face_of, opens_there}
use Rattle.fb_lists.proofs.Lists.{within_got, set_stands, same_at, map_set}
use Rattle.fb_world_course.proofs.Lists.{set_got}
use Rattle.fb_world_course.proofs.Rooms.{all_there_same}
use Rattle.fb_world_course.proofs.room.reserve_tables.Goals as goal

pub returns-in_err-reserve-clause-same : goal.returns-in_err-reserve-clause-same
returns-in_err-reserve-clause-same c =
    let old : Station = slice_index_or c.loop-at.stations c.loop-at.at c.index-stations-at.result in
    let new : Station = record { device = (slice_index_or c.loop-at.stations c.loop-at.at c.index-stations-at.result).device; causes = (slice_index_or c.loop-at.stations c.loop-at.at c.index-stations-at.result).causes; roots = c.reserve.new.self } in
    map_set face_of c.loop-at.stations c.loop-at.at old new (slice_get-get_or c.loop-at.stations c.loop-at.at c.index-stations-at.result (omega (arith, c.loop-at-test.true, c.loop-at.auto.stations)))
    (ap (λ es. record { session = old.device; causes = old.causes; rooted = es }) c.reserve.ensures.entries) ∙ c.loop-at.invariant.same

pub loop-at-preserved : goal.loop-at-preserved
loop-at-preserved c =
    let old : Station = slice_index_or c.loop-at.stations c.loop-at.at c.index-stations-at.result in
    let new : Station = record { device = (slice_index_or c.loop-at.stations c.loop-at.at c.index-stations-at.result).device; causes = (slice_index_or c.loop-at.stations c.loop-at.at c.index-stations-at.result).causes; roots = c.reserve.new.self } in
    let within : c.loop-at.at < length c.loop-at.stations = omega (arith, c.loop-at-test.true, c.loop-at.auto.stations) in
    let stands = slice_get-get_or c.loop-at.stations c.loop-at.at c.index-stations-at.result within in
    record {
      same = map_set face_of c.loop-at.stations c.loop-at.at old new stands (ap (λ es. record { session = old.device; causes = old.causes; rooted = es }) c.reserve.ensures.entries) ∙ c.loop-at.invariant.same;
      room = λ k s l at. elim (cases_eq c.loop-at.at k) [
        | inl e ↦ (
            let here = set_stands c.loop-at.stations c.loop-at.at old new stands in
            let is : new ≡ s = same_at (set c.loop-at.stations c.loop-at.at new) c.loop-at.at new s here (subst (λ n. slice_get (set c.loop-at.stations c.loop-at.at new) n ≡ Some s) (sym e) at) in
            omega (arith, ap (λ (x : Station). spare x.roots) is, ap (λ n. sum_by (opens_there c.args.stations.now n) c.args.events.now) e, all_there_same c.loop-at.stations c.args.stations.now c.loop-at.invariant.same c.loop-at.at c.args.events.now, c.in-Some.ensures, c.in_ok-reserve.ensures.ok)
            )
        | inr n ↦ c.loop-at.invariant.room k s (omega (arith, l, n)) (sym (set_got c.loop-at.stations c.loop-at.at k new within ∙ ap (λ b. cond b (Some new) (slice_get c.loop-at.stations k)) (ne_eqb c.loop-at.at k n)) ∙ at)
      ];
    }

pub returns-clause-room : goal.returns-clause-room
returns-clause-room c = λ k s at. omega (
  arith,
  c.loop-at.invariant.room k s (omega (arith, within_got c.loop-at.stations k s at, c.loop-at-test.false, c.loop-at.auto.stations)) at,
  all_there_same c.loop-at.stations c.args.stations.now c.loop-at.invariant.same k c.args.events.now,
)
