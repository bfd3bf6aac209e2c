use Rattle.std.proofs.Common.{◌+◌, ℕ, Result, IfOk, arith, sym, subst}
use Rattle.fb_device_state.specs.Machines.{device_in}
use Rattle.fbr_words.specs.Requests.{life_of, telling_of}
use Rattle.fbr_notices.specs.Sums.{TurnAt}
use Rattle.fbr_serve.specs.Serving.{EndsTurn}
use Rattle.fbr_notices.specs.declared.stop.Stop.{Stop}
use Rattle.fbr_serve.proofs.Looped.{Served, one_more, output_lost, last_turn}
use Rattle.fbr_serve.proofs.turns.serve_on.Goals as goal

pub loop-turn-preserved : goal.loop-turn-preserved
loop-turn-preserved g c =
    let at = c.loop-turn in
    let e = c.take_turn-taken.ensures.taken in
    let x : TurnAt = record { now = c.in-Ok.now; turn = e.0 } in
    one_more g.L.Link.steps g.L.Link.count g.T.Timer.tells (life_of c.args.serve.now.life) (telling_of c.args.serve.now.telling) c.args.device.now c.args.link.now c.args.timer.now (record { printed = g.W.Write.contents c.args.output.now; recorded = record { bytes = g.F.Write.contents c.args.notes.now.recorder.stream; lost = c.args.notes.now.recorder.is_lost } }) at.turn at.sums at.is_lost at.device at.link at.timer (record { printed = g.W.Write.contents at.output; recorded = record { bytes = g.F.Write.contents at.notes.recorder.stream; lost = at.notes.recorder.is_lost } }) x
    c.take_turn-taken.new.device c.take_turn-taken.new.link c.since.new.self (record { printed = g.W.Write.contents c.take_turn-taken.new.output; recorded = record { bytes = g.F.Write.contents c.take_turn-taken.new.notes.recorder.stream; lost = c.take_turn-taken.new.notes.recorder.is_lost } }) c.in-Ok-end.report c.take_turn-taken.result.is_lost c.with-sums.result c.either-is_lost.result at.invariant (subst (λ (r : Result ℕ Stop). IfOk r (λ now. g.T.Timer.tells at.timer now c.since.new.self)) c.in-Ok.is c.since.ensures.told)
    (record { taken = e.1; ends = subst (EndsTurn (device_in at.device) e.0) c.in-Ok-end.is e.2; printed = e.3; recorded = e.4; verified = c.take_turn-taken.ensures.same.0; number = c.take_turn-taken.ensures.same.1 }) c.with-sums.ensures c.either-is_lost.ensures

pub returns-then-is_lost-clause-served : goal.returns-then-is_lost-clause-served
returns-then-is_lost-clause-served g c =
    let at = c.loop-turn in
    let e = c.take_turn-taken.ensures.taken in
    let x : TurnAt = record { now = c.in-Ok.now; turn = e.0 } in
    let more = one_more g.L.Link.steps g.L.Link.count g.T.Timer.tells (life_of c.args.serve.now.life) (telling_of c.args.serve.now.telling) c.args.device.now c.args.link.now c.args.timer.now (record { printed = g.W.Write.contents c.args.output.now; recorded = record { bytes = g.F.Write.contents c.args.notes.now.recorder.stream; lost = c.args.notes.now.recorder.is_lost } }) at.turn at.sums at.is_lost at.device at.link at.timer (record { printed = g.W.Write.contents at.output; recorded = record { bytes = g.F.Write.contents at.notes.recorder.stream; lost = at.notes.recorder.is_lost } }) x
    c.take_turn-taken.new.device c.take_turn-taken.new.link c.since.new.self (record { printed = g.W.Write.contents c.take_turn-taken.new.output; recorded = record { bytes = g.F.Write.contents c.take_turn-taken.new.notes.recorder.stream; lost = c.take_turn-taken.new.notes.recorder.is_lost } }) c.in-Ok-end.report c.take_turn-taken.result.is_lost c.with-sums.result c.either-is_lost.result at.invariant (subst (λ (r : Result ℕ Stop). IfOk r (λ now. g.T.Timer.tells at.timer now c.since.new.self)) c.in-Ok.is c.since.ensures.told)
    (record { taken = e.1; ends = subst (EndsTurn (device_in at.device) e.0) c.in-Ok-end.is e.2; printed = e.3; recorded = e.4; verified = c.take_turn-taken.ensures.same.0; number = c.take_turn-taken.ensures.same.1 }) c.with-sums.ensures c.either-is_lost.ensures in
    subst (λ r. Served g.L.Link.steps g.L.Link.count g.T.Timer.tells (life_of c.args.serve.now.life) (telling_of c.args.serve.now.telling) c.args.device.now c.args.link.now c.args.timer.now (record { printed = g.W.Write.contents c.args.output.now; recorded = record { bytes = g.F.Write.contents c.args.notes.now.recorder.stream; lost = c.args.notes.now.recorder.is_lost } }) c.take_turn-taken.new.device c.take_turn-taken.new.link (record { printed = g.W.Write.contents c.take_turn-taken.new.output; recorded = record { bytes = g.F.Write.contents r.stream; lost = r.is_lost } }) c.ended-then-is_lost.result) (sym c.ended-then-is_lost.ensures.kept)
    (output_lost g.L.Link.steps g.L.Link.count g.T.Timer.tells (life_of c.args.serve.now.life) (telling_of c.args.serve.now.telling) c.args.device.now c.args.link.now c.args.timer.now (record { printed = g.W.Write.contents c.args.output.now; recorded = record { bytes = g.F.Write.contents c.args.notes.now.recorder.stream; lost = c.args.notes.now.recorder.is_lost } }) (at.turn + 1) c.with-sums.result c.either-is_lost.result
    c.take_turn-taken.new.device c.take_turn-taken.new.link c.since.new.self (record { printed = g.W.Write.contents c.take_turn-taken.new.output; recorded = record { bytes = g.F.Write.contents c.take_turn-taken.new.notes.recorder.stream; lost = c.take_turn-taken.new.notes.recorder.is_lost } }) _ c.ended-then-is_lost.ensures.ran (omega (arith, c.loop-turn-test.true)) c.if-telling.true c.if-is_lost.true more)

pub returns-in-Err-end-clause-served : goal.returns-in-Err-end-clause-served
returns-in-Err-end-clause-served g c =
    let at = c.loop-turn in
    let e = c.take_turn-taken.ensures.taken in
    let x : TurnAt = record { now = c.in-Ok.now; turn = e.0 } in
    subst (λ r. Served g.L.Link.steps g.L.Link.count g.T.Timer.tells (life_of c.args.serve.now.life) (telling_of c.args.serve.now.telling) c.args.device.now c.args.link.now c.args.timer.now (record { printed = g.W.Write.contents c.args.output.now; recorded = record { bytes = g.F.Write.contents c.args.notes.now.recorder.stream; lost = c.args.notes.now.recorder.is_lost } }) c.take_turn-taken.new.device c.take_turn-taken.new.link (record { printed = g.W.Write.contents c.take_turn-taken.new.output; recorded = record { bytes = g.F.Write.contents r.stream; lost = r.is_lost } }) c.ended-in-Err-end.result) (sym c.ended-in-Err-end.ensures.kept)
    (last_turn g.L.Link.steps g.L.Link.count g.T.Timer.tells (life_of c.args.serve.now.life) (telling_of c.args.serve.now.telling) c.args.device.now c.args.link.now c.args.timer.now (record { printed = g.W.Write.contents c.args.output.now; recorded = record { bytes = g.F.Write.contents c.args.notes.now.recorder.stream; lost = c.args.notes.now.recorder.is_lost } }) at.turn at.sums at.is_lost at.device at.link at.timer (record { printed = g.W.Write.contents at.output; recorded = record { bytes = g.F.Write.contents at.notes.recorder.stream; lost = at.notes.recorder.is_lost } }) x
    c.take_turn-taken.new.device c.take_turn-taken.new.link c.since.new.self (record { printed = g.W.Write.contents c.take_turn-taken.new.output; recorded = record { bytes = g.F.Write.contents c.take_turn-taken.new.notes.recorder.stream; lost = c.take_turn-taken.new.notes.recorder.is_lost } }) c.in-Err-end.stop c.take_turn-taken.result.is_lost c.either-is_lost.result _ c.ended-in-Err-end.ensures.ran at.invariant (subst (λ (r : Result ℕ Stop). IfOk r (λ now. g.T.Timer.tells at.timer now c.since.new.self)) c.in-Ok.is c.since.ensures.told) (omega (arith, c.loop-turn-test.true))
    (record { taken = e.1; ends = subst (EndsTurn (device_in at.device) e.0) c.in-Err-end.is e.2; printed = e.3; recorded = e.4; verified = c.take_turn-taken.ensures.same.0; number = c.take_turn-taken.ensures.same.1 }) c.either-is_lost.ensures)
