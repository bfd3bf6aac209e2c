use Rattle.std.proofs.Common.{map, refl, string_bytes, subst}
use Rattle.fbr_texts.specs.Parts.{start_of}
use Rattle.fbr_words.specs.Requests.{asked_of}
use Rattle.fbr.specs.Together.{IsJoined, IsJoinFault}
use Rattle.fbr_static.proofs.Tellings.{all_kept}
use Rattle.fbr.proofs.Told.{together_unjoined}
use Rattle.fbr.proofs.order.answer_together.Goals as goal

pub returns-in-Ok-clause-answers : goal.returns-in-Ok-clause-answers
returns-in-Ok-clause-answers g c =
    let names = map (λ name. name.now) c.args.names.now in
    c.answer_owned.ensures.answers names
    (subst (λ a. IsJoined (g.S.Sources.contents c.args.files.now) names a (string_bytes c.in-Ok.joined.text) (map start_of c.in-Ok.joined.parts.items)) c.app.ensures c.in-Ok.ensures)

pub returns-in-Err-clause-answers : goal.returns-in-Err-clause-answers
returns-in-Err-clause-answers g c =
    let names = map (λ name. name.now) c.args.names.now in
    let files = g.S.Sources.contents c.args.files.now in
    let stopped = c.in-Err.stopped in
    together_unjoined names (asked_of c.args.request) (g.S.Sources.same c.args.files.now) files (g.I.Read.remaining c.args.input.now) (g.W.Write.contents c.args.output.now) (g.W.Write.contents c.refuse_stopped.new.output) c.refuse_stopped.result
    stopped.fault stopped.file.name.now (subst (λ a. IsJoinFault files names a stopped.fault stopped.file.name.now) c.app.ensures c.in-Err.ensures) c.refuse_stopped.ensures.told

pub returns-in-Err-clause-others : goal.returns-in-Err-clause-others
returns-in-Err-clause-others g c = all_kept (g.S.Sources.same c.args.files.now) _ (g.S.Sources.contents c.args.files.now) (g.S.Sources.contents c.args.files.now) refl
