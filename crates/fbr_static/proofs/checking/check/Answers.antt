use Rattle.std.proofs.Common.{inr}
use Rattle.fbr_files.specs.Reading.{held_by}
use Rattle.fbr_words.specs.Requests.{meant_of}
use Rattle.fbr_check.specs.Verdicts.{TellsFiles}
use Rattle.fbr_static.specs.Tellings.{OrNoted}
use Rattle.fbr_static.proofs.Tellings.{json_told, noted_told}
use Rattle.fbr_static.proofs.checking.check.Goals as goal

pub returns-then-request-clause-told : goal.returns-then-request-clause-told
returns-then-request-clause-told g c =
    let app = c.args.request.app.now in
    let cert = c.args.request.cert.now in
    let files = g.S.Sources.contents c.args.files.now in
    json_told c.args.request.is_json (OrNoted c.args.request.is_strict (TellsFiles app cert (held_by (meant_of c.args.request.meant) (files app)) (files cert) (g.W.Write.contents c.args.output.now) (g.W.Write.contents c.check_json.new.output))) c.check_json.result c.if-request.true

pub returns-clause-told : goal.returns-clause-told
returns-clause-told g c =
    let app = c.args.request.app.now in
    let cert = c.args.request.cert.now in
    let files = g.S.Sources.contents c.args.files.now in
    inr (noted_told c.args.request.is_strict (TellsFiles app cert (held_by (meant_of c.args.request.meant) (files app)) (files cert) (g.W.Write.contents c.args.output.now) (g.W.Write.contents c.check_text.new.output)) _ c.counted.result c.in_ok-status.ensures.told c.counted.ensures.value)
