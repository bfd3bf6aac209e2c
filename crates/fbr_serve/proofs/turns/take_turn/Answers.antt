use Rattle.std.proofs.KnownBytes.{Appends-kept}
use Rattle.std.proofs.Common.{◌∙◌, length, subst, refl, sym, ap, rules}
use Rattle.std.specs.Prelude.{is_err}
use Rattle.std.specs.Io.KnownBytes.{Appends}
use Rattle.fb_device_state.specs.Machines.{device_in}
use Rattle.fb_turn.specs.Turns.{IsTold}
use Rattle.fb_model.specs.Turning.{is_cut, sights_of}
use Rattle.fbr_notices.specs.Sums.{TurnAt}
use Rattle.fbr_serve.specs.Serving.{PrintsTurn, sight_lines, turn_lines}
use Rattle.fbr_serve.specs.Recording.{RecordsTurn, sight_word}
use Rattle.fbr_serve.proofs.Served.{Puts, any_watch, puts_all, puts_name, turn_prints}
use Rattle.fbr_serve.proofs.Recorded.{Grows, at_last, firsts, seconds, grows_all, turn_recorded}
use Rattle.fbr_serve.proofs.turns.take_turn.Goals as goal

pub returns-in-Ok-clause-taken : goal.returns-in-Ok-clause-taken
returns-in-Ok-clause-taken g c =
    let e = c.turn-turned.ensures.turn in
    let watch = c.turn-turned.new.watch in
    let x : TurnAt = record { now = c.args.when.now; turn = e.0 } in
    let told = subst (IsTold e.0 (length (device_in c.args.device.now).resources)) c.in-Ok.is e.2 in
    let prints = firsts (λ a s b. Puts (λ p. p.output.ghost_name) (λ p. p.when.now) (λ p. p.when.is_told) (λ p. p.is_lost) (λ p. g.W.Write.contents p.output.now) a (sight_lines a.when.is_told a.when.now s) b)
    (λ a s b. Grows (λ p. p.notes.ghost_name) (λ p. p.notes.now.recorder.stream) (λ p. p.notes.now.recorder.is_lost) (λ p. p.notes.now.recorder.line.items) a (sight_word s) b) (sights_of e.0) _ watch e.1.seen in
    let notes = seconds (λ a s b. Puts (λ p. p.output.ghost_name) (λ p. p.when.now) (λ p. p.when.is_told) (λ p. p.is_lost) (λ p. g.W.Write.contents p.output.now) a (sight_lines a.when.is_told a.when.now s) b)
    (λ a s b. Grows (λ p. p.notes.ghost_name) (λ p. p.notes.now.recorder.stream) (λ p. p.notes.now.recorder.is_lost) (λ p. p.notes.now.recorder.line.items) a (sight_word s) b) (sights_of e.0) _ watch e.1.seen in
    let name = puts_name (λ p. p.output.ghost_name) (λ p. p.when.now) (λ p. p.when.is_told) (λ p. p.is_lost) (λ p. g.W.Write.contents p.output.now) (sights_of e.0) _ watch prints in
    let printed : PrintsTurn c.args.when.is_told (g.W.Write.contents c.args.output.now) (g.W.Write.contents c.flushed.new.output) x c.either-is_lost.result = λ none.
    let puts = puts_all (λ p. p.output.ghost_name) (λ p. p.when.now) (λ p. p.when.is_told) (λ p. p.is_lost) (λ p. g.W.Write.contents p.output.now) c.args.when.is_told c.args.when.now (sights_of e.0) _ watch refl refl prints (c.either-is_lost.ensures none).1 in
    Appends-kept (g.W.Write.contents c.args.output.now) (g.W.Write.contents watch.output.now) (g.W.Write.contents c.flushed.new.output) (turn_lines c.args.when.is_told x)
    (subst (Appends (g.W.Write.contents c.args.output.now) (g.W.Write.contents watch.output.now)) (turn_prints c.args.when.is_told c.args.when.now e.0) puts.1) c.flushed.ensures in
    let grown = grows_all (λ p. p.notes.ghost_name) (λ p. p.notes.now.recorder.stream) (λ p. p.notes.now.recorder.is_lost) (λ p. p.notes.now.recorder.line.items) (sights_of e.0) _ watch notes in
    let same = grown.0 in
    let line : RecordsTurn (record { bytes = g.F.Write.contents c.args.notes.now.recorder.stream; lost = c.args.notes.now.recorder.is_lost }) (record { bytes = g.F.Write.contents c.end.new.self.stream; lost = c.end.new.self.is_lost }) x =
    turn_recorded g.F.Write.contents c.args.notes.now.recorder.stream c.begin.new.self.stream watch.notes.now.recorder.stream c.end.new.self.stream c.args.notes.now.recorder.is_lost c.begin.new.self.is_lost watch.notes.now.recorder.is_lost c.end.new.self.is_lost
    c.begin.new.self.line.items watch.notes.now.recorder.line.items x c.is_err.result c.begin.ensures.stream c.begin.ensures.line grown.1 grown.2 c.end.ensures (c.is_err.ensures.value ∙ ap is_err c.in-Ok.is ∙ sym told.0) in (
      e.0,
      any_watch _ _ _ _ _ _ _ _ _ e.0 _ _ _ e.1,
      (record { uncut = told.0; each = told.1 }, told.2),
      λ none. (let bytes : Appends (g.W.Write.contents c.args.output.now) (g.W.Write.contents c.flushed.new.output) (turn_lines c.args.when.is_told x) = printed none in search rules),
      at_last g.F.Write.contents (record { bytes = g.F.Write.contents c.args.notes.now.recorder.stream; lost = c.args.notes.now.recorder.is_lost }) c.end.new.self.stream _ c.end.new.self.is_lost _ x (search rules) (search rules) line,
    )

pub returns-in-Err-clause-taken : goal.returns-in-Err-clause-taken
returns-in-Err-clause-taken g c =
    let e = c.turn-turned.ensures.turn in
    let watch = c.turn-turned.new.watch in
    let x : TurnAt = record { now = c.args.when.now; turn = e.0 } in
    let told = subst (IsTold e.0 (length (device_in c.args.device.now).resources)) c.in-Err.is e.2 in
    let prints = firsts (λ a s b. Puts (λ p. p.output.ghost_name) (λ p. p.when.now) (λ p. p.when.is_told) (λ p. p.is_lost) (λ p. g.W.Write.contents p.output.now) a (sight_lines a.when.is_told a.when.now s) b)
    (λ a s b. Grows (λ p. p.notes.ghost_name) (λ p. p.notes.now.recorder.stream) (λ p. p.notes.now.recorder.is_lost) (λ p. p.notes.now.recorder.line.items) a (sight_word s) b) (sights_of e.0) _ watch e.1.seen in
    let notes = seconds (λ a s b. Puts (λ p. p.output.ghost_name) (λ p. p.when.now) (λ p. p.when.is_told) (λ p. p.is_lost) (λ p. g.W.Write.contents p.output.now) a (sight_lines a.when.is_told a.when.now s) b)
    (λ a s b. Grows (λ p. p.notes.ghost_name) (λ p. p.notes.now.recorder.stream) (λ p. p.notes.now.recorder.is_lost) (λ p. p.notes.now.recorder.line.items) a (sight_word s) b) (sights_of e.0) _ watch e.1.seen in
    let name = puts_name (λ p. p.output.ghost_name) (λ p. p.when.now) (λ p. p.when.is_told) (λ p. p.is_lost) (λ p. g.W.Write.contents p.output.now) (sights_of e.0) _ watch prints in
    let printed : PrintsTurn c.args.when.is_told (g.W.Write.contents c.args.output.now) (g.W.Write.contents c.flushed.new.output) x c.either-is_lost.result = λ none.
    let puts = puts_all (λ p. p.output.ghost_name) (λ p. p.when.now) (λ p. p.when.is_told) (λ p. p.is_lost) (λ p. g.W.Write.contents p.output.now) c.args.when.is_told c.args.when.now (sights_of e.0) _ watch refl refl prints (c.either-is_lost.ensures none).1 in
    Appends-kept (g.W.Write.contents c.args.output.now) (g.W.Write.contents watch.output.now) (g.W.Write.contents c.flushed.new.output) (turn_lines c.args.when.is_told x)
    (subst (Appends (g.W.Write.contents c.args.output.now) (g.W.Write.contents watch.output.now)) (turn_prints c.args.when.is_told c.args.when.now e.0) puts.1) c.flushed.ensures in
    let grown = grows_all (λ p. p.notes.ghost_name) (λ p. p.notes.now.recorder.stream) (λ p. p.notes.now.recorder.is_lost) (λ p. p.notes.now.recorder.line.items) (sights_of e.0) _ watch notes in
    let same = grown.0 in
    let line : RecordsTurn (record { bytes = g.F.Write.contents c.args.notes.now.recorder.stream; lost = c.args.notes.now.recorder.is_lost }) (record { bytes = g.F.Write.contents c.end.new.self.stream; lost = c.end.new.self.is_lost }) x =
    turn_recorded g.F.Write.contents c.args.notes.now.recorder.stream c.begin.new.self.stream watch.notes.now.recorder.stream c.end.new.self.stream c.args.notes.now.recorder.is_lost c.begin.new.self.is_lost watch.notes.now.recorder.is_lost c.end.new.self.is_lost
    c.begin.new.self.line.items watch.notes.now.recorder.line.items x c.is_err.result c.begin.ensures.stream c.begin.ensures.line grown.1 grown.2 c.end.ensures (c.is_err.ensures.value ∙ ap is_err c.in-Err.is ∙ sym (ap is_cut told.0)) in (
      e.0,
      any_watch _ _ _ _ _ _ _ _ _ e.0 _ _ _ e.1,
      record { cut = told.0; none = told.1 },
      λ none. (let bytes : Appends (g.W.Write.contents c.args.output.now) (g.W.Write.contents c.flushed.new.output) (turn_lines c.args.when.is_told x) = printed none in search rules),
      at_last g.F.Write.contents (record { bytes = g.F.Write.contents c.args.notes.now.recorder.stream; lost = c.args.notes.now.recorder.is_lost }) c.end.new.self.stream _ c.end.new.self.is_lost _ x (search rules) (search rules) line,
    )
