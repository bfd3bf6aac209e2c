use Rattle.std.proofs.Common.{ap}
use Rattle.std.specs.Prelude.{option_map}
use Rattle.fbr_files.specs.Reading.{held_by}
use Rattle.fbr_words.specs.Requests.{question_of}
use Rattle.fbr_static.proofs.Tellings.{alone_told, beside_told, verdict_of}
use Rattle.fbr_static.proofs.explaining.explain_text.Goals as goal

pub returns-in-Some-cert-clause-told : goal.returns-in-Some-cert-clause-told
returns-in-Some-cert-clause-told g c =
    let before = g.S.Sources.contents c.args.files.now in
    let q = question_of c.args.request in
    let what = c.args.request.what.now in
    let name = c.in-Some-cert.name.now in
    beside_told (question_of c.args.request) name before (g.W.Write.contents c.args.output.now) (g.W.Write.contents c.explain_two.new.output) c.explain_two.result (ap (option_map (λ x. x.now)) c.in-Some-cert.is)
    (verdict_of what name c.read_app-app.result.name.now c.read_file-cert.result.name.now (held_by q.meant (before what)) (before name) (g.W.Write.contents c.args.output.now) (g.W.Write.contents c.explain_two.new.output) c.explain_two.result
    c.read_app-app.ensures.named c.read_file-cert.ensures.named (c.explain_two.ensures.told (held_by q.meant (before what)) (before name) c.read_app-app.ensures.held c.read_file-cert.ensures.held))

pub returns-in-None-clause-told : goal.returns-in-None-clause-told
returns-in-None-clause-told g c =
    alone_told (question_of c.args.request) (g.S.Sources.contents c.args.files.now) (g.W.Write.contents c.args.output.now) (g.W.Write.contents c.explain_one.new.output) c.explain_one.result (ap (option_map (λ x. x.now)) c.in-None.is) c.explain_one.ensures.told
