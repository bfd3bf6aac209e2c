use Rattle.fbr_words.specs.Requests.{plays_of}
use Rattle.fbr_runs.specs.Running.{TellsPlays}
use Rattle.fbr_static.proofs.Tellings.{json_told, text_told}
use Rattle.fbr_runs.proofs.playing.play.Goals as goal

pub returns-then-request-clause-told : goal.returns-then-request-clause-told
returns-then-request-clause-told g c =
    json_told c.args.request.is_json (TellsPlays (plays_of c.args.request) (g.S.Sources.same c.args.files.now) (g.S.Sources.contents c.args.files.now) (g.W.Write.contents c.args.output.now) (g.W.Write.contents c.play_json.new.output)) c.play_json.result c.if-request.true

pub returns-clause-told : goal.returns-clause-told
returns-clause-told g c =
    text_told c.args.request.is_json (TellsPlays (plays_of c.args.request) (g.S.Sources.same c.args.files.now) (g.S.Sources.contents c.args.files.now) (g.W.Write.contents c.args.output.now) (g.W.Write.contents c.play_text.new.output)) c.play_text.result c.play_text.ensures.told
