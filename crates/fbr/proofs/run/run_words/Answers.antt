use Rattle.std.proofs.Common.{◌≡◌, List, map, refl, sym, subst, inl, inr}
use Rattle.std.proofs.lemmas.Result.{IfOk-weaker}
use Rattle.clap.specs.Words.{Text}
use Rattle.fbr_files.specs.Writing.{LeavesAll}
use Rattle.fbr_words.specs.Program.{request_of, written_for}
use Rattle.fbr_words.specs.Requests.{order_of}
use Rattle.fbr.specs.Answers.{AnswersOrder}
use Rattle.fbr_static.proofs.Tellings.{all_kept}
use Rattle.fbr.proofs.Told.{misread_asked, misuse_asked, same_asked}
use Rattle.fbr.proofs.run.run_words.Goals as goal

pub returns-in-Ok-clause-answers : goal.returns-in-Ok-clause-answers
returns-in-Ok-clause-answers g c = λ q is.
    let words : List Text = map (λ word. word.now) c.args.words.now in
    let same : order_of c.in-Ok.order ≡ q = same_asked (request_of words) (order_of c.in-Ok.order) q c.in-Ok.ensures.asked is in
    IfOk-weaker c.follow.result _ _
    (λ status h. inl (subst (λ a. AnswersOrder a (g.S.Sources.same c.args.files.now) (g.S.Sources.contents c.args.files.now) (g.S.Sources.contents c.follow.new.files) (g.I.Read.remaining c.args.input.now) (g.W.Write.contents c.args.output.now) (g.W.Write.contents c.follow.new.output) status) same h))
    c.follow.ensures.answers

pub returns-in-Ok-clause-usage : goal.returns-in-Ok-clause-usage
returns-in-Ok-clause-usage g c = λ is.
    let words : List Text = map (λ word. word.now) c.args.words.now in
    absurd (misuse_asked words (order_of c.in-Ok.order) is c.in-Ok.ensures.asked)

pub returns-in-Ok-clause-others : goal.returns-in-Ok-clause-others
returns-in-Ok-clause-others g c =
    subst (λ o. LeavesAll (g.S.Sources.same c.args.files.now) (written_for o) (g.S.Sources.contents c.args.files.now) (g.S.Sources.contents c.follow.new.files)) (sym c.in-Ok.ensures.asked) c.follow.ensures.others

pub returns-in-Err-clause-answers : goal.returns-in-Err-clause-answers
returns-in-Err-clause-answers g c = λ q is.
    let words : List Text = map (λ word. word.now) c.args.words.now in
    IfOk-weaker c.tell_misread.result _ _ (λ status h. inr h) (c.tell_misread.ensures.memory (misread_asked words q c.in-Err.misread c.in-Err.ensures.misread is))

pub returns-in-Err-clause-usage : goal.returns-in-Err-clause-usage
returns-in-Err-clause-usage g c = λ is.
    let words : List Text = map (λ word. word.now) c.args.words.now in
    c.tell_misread.ensures.usage words c.in-Err.ensures.misread is

pub returns-in-Err-clause-others : goal.returns-in-Err-clause-others
returns-in-Err-clause-others g c =
    let words : List Text = map (λ word. word.now) c.args.words.now in
    all_kept (g.S.Sources.same c.args.files.now) (written_for (request_of words)) (g.S.Sources.contents c.args.files.now) (g.S.Sources.contents c.args.files.now) refl
