use Rattle.fbr_words.specs.Requests.{question_of}
use Rattle.fbr_static.specs.Tellings.{TellsExplain}
use Rattle.fbr_static.proofs.Tellings.{json_told, text_told}
use Rattle.fbr_static.proofs.explaining.explain.Goals as goal

pub returns-then-request-clause-told : goal.returns-then-request-clause-told
returns-then-request-clause-told g c =
    json_told c.args.request.is_json (TellsExplain (question_of c.args.request) (g.S.Sources.contents c.args.files.now) (g.W.Write.contents c.args.output.now) (g.W.Write.contents c.explain_json.new.output)) c.explain_json.result c.if-request.true

pub returns-clause-told : goal.returns-clause-told
returns-clause-told g c =
    text_told c.args.request.is_json (TellsExplain (question_of c.args.request) (g.S.Sources.contents c.args.files.now) (g.W.Write.contents c.args.output.now) (g.W.Write.contents c.explain_text.new.output)) c.explain_text.result c.explain_text.ensures.told
