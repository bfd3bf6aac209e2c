use Rattle.std.proofs.Common.{◌≡◌, ◌≤◌, ◌∙◌, ap, IfOk, map, refl, string_bytes, subst, sym}
use Rattle.std.specs.Prelude.{IfSome}
use Rattle.fbr_files.specs.Placed.{outcome_at}
use Rattle.fbr_files.specs.Writing.{LeavesAll}
use Rattle.fbr_find.specs.Bounding.{IsTypedFault}
use Rattle.fbr_texts.specs.Parts.{start_of}
use Rattle.fbr_words.specs.Program.{app_of, often_of, over, written_by}
use Rattle.fbr_words.specs.Requests.{asked_of}
use Rattle.fbr.specs.Answers.{TellsOutcome}
use Rattle.fbr_static.proofs.Tellings.{all_kept}
use Rattle.fbr.proofs.Told.{often_over, together_answered, together_untyped, written_over}
use Rattle.fbr.proofs.order.answer_joined.Goals as goal

pub answer-requires : goal.answer-requires
answer-requires g c = subst (λ often. IfSome often (λ n. 1 ≤ n)) (sym (ap often_of c.over.ensures ∙ often_over _ (asked_of c.args.request))) c.requires

pub returns-in-Ok-clause-answers : goal.returns-in-Ok-clause-answers
returns-in-Ok-clause-answers g c = λ names joined.
    together_answered names (asked_of c.args.request) (asked_of c.over.result) (g.S.Sources.same c.args.files.now) (g.S.Sources.contents c.args.files.now) (g.S.Sources.contents c.answer.new.files)
    (g.I.Read.remaining c.args.input.now) (g.W.Write.contents c.args.output.now) (g.W.Write.contents c.answer.new.output) c.answer.result (string_bytes c.args.joined.now.text) (map start_of c.args.joined.now.parts.items)
    joined (c.over.ensures ∙ ap (λ t. over t (asked_of c.args.request)) c.as_str.ensures.value) c.answer.ensures.answers

pub returns-in-Ok-clause-others : goal.returns-in-Ok-clause-others
returns-in-Ok-clause-others g c =
    subst (λ names. LeavesAll (g.S.Sources.same c.args.files.now) names (g.S.Sources.contents c.args.files.now) (g.S.Sources.contents c.answer.new.files))
    (ap written_by c.over.ensures ∙ written_over _ (asked_of c.args.request)) c.answer.ensures.others

pub returns-in-Err-clause-answers : goal.returns-in-Err-clause-answers
returns-in-Err-clause-answers g c = λ names joined.
    let q = asked_of c.args.request in
    let f = c.in-Err.fault in
    let told =
    subst (λ a. IfOk c.refuse.result (λ status. TellsOutcome q (outcome_at a (map start_of c.as_slice.result.now) f) (g.W.Write.contents c.args.output.now) (g.W.Write.contents c.refuse.new.output) status)) c.app.ensures c.refuse.ensures.told in
    together_untyped names q (g.S.Sources.same c.args.files.now) (g.S.Sources.contents c.args.files.now) (g.I.Read.remaining c.args.input.now) (g.W.Write.contents c.args.output.now) (g.W.Write.contents c.refuse.new.output) c.refuse.result
    (string_bytes c.args.joined.now.text) (map start_of c.args.joined.now.parts.items) f joined (subst (λ t. IsTypedFault t f) c.as_str.ensures.value c.in-Err.ensures)
    (subst (λ parts. IfOk c.refuse.result (λ status. TellsOutcome q (outcome_at (app_of q) (map start_of parts) f) (g.W.Write.contents c.args.output.now) (g.W.Write.contents c.refuse.new.output) status)) c.as_slice.ensures.value told)

pub returns-in-Err-clause-others : goal.returns-in-Err-clause-others
returns-in-Err-clause-others g c = all_kept (g.S.Sources.same c.args.files.now) _ (g.S.Sources.contents c.args.files.now) (g.S.Sources.contents c.args.files.now) refl
