use Rattle.std.proofs.Common.{◌+◌, ◌++◌, ◌∷◌, [], List, map, take, drop, length, refl, sym, ◌∙◌, ap, subst, arith}
use Rattle.std.proofs.lemmas.Option.{slice_get_read}
use Rattle.std.proofs.lemmas.List.{append_assoc}
use Rattle.fb_model.specs.World.{WorldRun}
use Rattle.fb_verified.specs.Checked.{system_in, certificate_in}
use Rattle.fb_world_course.specs.declared.answer.WorldEvent.{WorldEvent}
use Rattle.fb_world_course.specs.Answers.{event_of, answer_of, answers_of, leaves_at, device_of, HaveWorldPlaces}
use Rattle.fb_world_course.specs.Scenes.{world_in}
use Rattle.fb_world_course.specs.Room.{HasRoom}
use Rattle.fb_lists.proofs.Lists.{drop_at, take_at}
use Rattle.fb_world_course.proofs.Kept.{answers_more, places_more, kept_more}
use Rattle.fb_world_course.proofs.Rooms.{room_first, room_left}
use Rattle.fb_world_course.proofs.course.Course.happen_all.Goals as goal

pub happen-answer-requires-clause-kept : goal.happen-answer-requires-clause-kept
happen-answer-requires-clause-kept c = (c.requires.kept.0, c.loop-event.invariant.kept c.requires.kept.0 c.requires.kept.1)

pub happen-answer-requires-clause-room : goal.happen-answer-requires-clause-room
happen-answer-requires-clause-room c =
    let at = slice_get_read c.args.events.now (length c.args.events.now) c.loop-event.event-index c.event-item.result refl c.loop-event-test.true c.event-item.is in
    room_first c.loop-event.self c.event-item.result (drop (c.loop-event.event-index + 1) c.args.events.now) (subst (HasRoom c.loop-event.self) (drop_at c.args.events.now c.loop-event.event-index c.event-item.result at) c.loop-event.invariant.room)

pub loop-event-preserved : goal.loop-event-preserved
loop-event-preserved c =
    let at = slice_get_read c.args.events.now (length c.args.events.now) c.loop-event.event-index c.event-item.result refl c.loop-event-test.true c.event-item.is in
    let behind = drop_at c.args.events.now c.loop-event.event-index c.event-item.result at in
    record {
      run = λ v k.
          let r = c.loop-event.invariant.run v k in
          let g = c.happen-answer.ensures.goes v (c.loop-event.invariant.kept v k) in (
            r.0 ++ c.happen-answer.result ∷ [],
            c.push_reserved.ensures.items ∙ ap (λ xs. xs ++ c.happen-answer.result ∷ []) r.1 ∙ append_assoc c.args.answers.now.items r.0 (c.happen-answer.result ∷ []),
            subst (λ (es : List WorldEvent). HaveWorldPlaces (system_in v) es (r.0 ++ c.happen-answer.result ∷ [])) (sym (take_at c.args.events.now c.loop-event.event-index c.event-item.result at))
                (places_more (system_in v) (take c.loop-event.event-index c.args.events.now) r.0 c.event-item.result c.happen-answer.result r.2 (c.happen-answer.ensures.point v (c.loop-event.invariant.kept v k))),
            subst (λ (es : List WorldEvent). WorldRun (system_in v) (certificate_in v) (world_in v c.args.self.now) (map event_of es) (answers_of (system_in v) es (r.0 ++ c.happen-answer.result ∷ [])) (world_in v c.happen-answer.new.self)) (sym (take_at c.args.events.now c.loop-event.event-index c.event-item.result at))
                (answers_more (system_in v) (certificate_in v) (world_in v c.args.self.now) (world_in v c.loop-event.self) (world_in v c.happen-answer.new.self) (take c.loop-event.event-index c.args.events.now) r.0 c.event-item.result c.happen-answer.result r.3 g.happens),
          );
      kept = λ v k. kept_more v c.loop-event.self c.happen-answer.new.self (event_of c.event-item.result) (answer_of (leaves_at (system_in v) (device_of c.event-item.result)) c.happen-answer.result) (c.loop-event.invariant.kept v k) (c.happen-answer.ensures.goes v (c.loop-event.invariant.kept v k));
      room = room_left c.loop-event.self c.happen-answer.new.self c.event-item.result (drop (c.loop-event.event-index + 1) c.args.events.now) (subst (HasRoom c.loop-event.self) behind c.loop-event.invariant.room) c.happen-answer.ensures.uses;
      places = omega (arith, c.loop-event.invariant.places, ap length behind, c.push_reserved.ensures.len, c.push_reserved.ensures.capacity);
    }
