use Rattle.std.proofs.Common.{[], ◌∷◌, IfOk, subst}
use Rattle.fbr_files.specs.Placed.{outcome_at}
use Rattle.fbr_words.specs.Requests.{asked_of}
use Rattle.fbr.specs.Answers.{TellsOutcome}
use Rattle.fbr.proofs.order.refuse_stopped.Goals as goal

pub returns-clause-told : goal.returns-clause-told
returns-clause-told g c =
    subst (λ a. IfOk c.refuse_alone.result (λ status. TellsOutcome (asked_of c.args.request.now) (outcome_at a ((c.args.stopped.file.name.now, 0) ∷ []) c.args.stopped.fault) (g.W.Write.contents c.args.output.now) (g.W.Write.contents c.refuse_alone.new.output) status))
    c.app-app.ensures c.refuse_alone.ensures.told
