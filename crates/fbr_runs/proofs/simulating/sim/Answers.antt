use Rattle.fbr_words.specs.Requests.{simulating_of}
use Rattle.fbr_runs.specs.Running.{TellsSim}
use Rattle.fbr_static.proofs.Tellings.{json_told, text_told}
use Rattle.fbr_runs.proofs.simulating.sim.Goals as goal

pub returns-then-request-clause-told : goal.returns-then-request-clause-told
returns-then-request-clause-told g c =
    json_told c.args.request.is_json (TellsSim (simulating_of c.args.request) (g.S.Sources.same c.args.files.now) (g.S.Sources.contents c.args.files.now) (g.I.Read.remaining c.args.input.now) (g.W.Write.contents c.args.output.now) (g.W.Write.contents c.sim_json.new.output)) c.sim_json.result c.if-request.true

pub returns-clause-told : goal.returns-clause-told
returns-clause-told g c =
    text_told c.args.request.is_json (TellsSim (simulating_of c.args.request) (g.S.Sources.same c.args.files.now) (g.S.Sources.contents c.args.files.now) (g.I.Read.remaining c.args.input.now) (g.W.Write.contents c.args.output.now) (g.W.Write.contents c.sim_text.new.output)) c.sim_text.result c.sim_text.ensures.told
