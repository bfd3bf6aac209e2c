use Rattle.std.proofs.Common.{IfOk, map, subst}
use Rattle.fbr_files.specs.Placed.{outcome_at}
use Rattle.fbr_texts.specs.Parts.{start_of}
use Rattle.fbr_words.specs.Requests.{asked_of}
use Rattle.fbr.specs.Answers.{TellsOutcome}
use Rattle.fbr.proofs.order.refuse_alone.Goals as goal

pub returns-clause-told : goal.returns-clause-told
returns-clause-told g c =
    subst (λ parts. IfOk c.refuse.result (λ status. TellsOutcome (asked_of c.args.request.now) (outcome_at c.args.app.now (map start_of parts) c.args.fault) (g.W.Write.contents c.args.output.now) (g.W.Write.contents c.refuse.new.output) status))
    c.from_ref.ensures.value c.refuse.ensures.told
