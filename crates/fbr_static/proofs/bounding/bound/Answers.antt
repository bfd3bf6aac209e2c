use Rattle.std.proofs.Common.{inr}
use Rattle.fbr_words.specs.Requests.{sought_of}
use Rattle.fbr_static.specs.Tellings.{OrNoted, TellsBound}
use Rattle.fbr_static.proofs.Tellings.{json_told, noted_told}
use Rattle.fbr_static.proofs.bounding.bound.Goals as goal

pub returns-then-request-clause-told : goal.returns-then-request-clause-told
returns-then-request-clause-told g c =
    let before = g.S.Sources.contents c.args.files.now in
    let after = g.S.Sources.contents c.bound_json.new.files in
    json_told c.args.request.is_json (OrNoted c.args.request.is_strict (TellsBound (sought_of c.args.request) (g.S.Sources.same c.args.files.now) before after (g.W.Write.contents c.args.output.now) (g.W.Write.contents c.bound_json.new.output))) c.bound_json.result c.if-request.true

pub returns-clause-told : goal.returns-clause-told
returns-clause-told g c =
    let before = g.S.Sources.contents c.args.files.now in
    let after = g.S.Sources.contents c.bound_text.new.files in
    inr (noted_told c.args.request.is_strict (TellsBound (sought_of c.args.request) (g.S.Sources.same c.args.files.now) before after (g.W.Write.contents c.args.output.now) (g.W.Write.contents c.bound_text.new.output)) _ c.counted.result c.in_ok-status.ensures.told c.counted.ensures.value)
