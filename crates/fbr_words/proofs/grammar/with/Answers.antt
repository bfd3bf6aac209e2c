use Rattle.std.proofs.Common.{◌≡◌, ◌∙◌, ap₂, subst, IfOk}
use Rattle.std.proofs.lemmas.Result.{IfOk-weaker}
use Rattle.clap.specs.Words.{app_of, with_rule}
use Rattle.fbr_words.proofs.grammar.with.Goals as goal

pub returns-in-Ok : goal.returns-in-Ok
returns-in-Ok c = λ app rule is own local.
    let same : app_of c.in-Ok.command ≡ app = subst (λ r. IfOk r (λ k. app_of k ≡ app)) c.in-Ok.is is in
    IfOk-weaker c.arg.result _ _ (λ r h. h.shape local ∙ ap₂ with_rule same own) c.arg.ensures
