use Rattle.std.proofs.Common.{◌≡◌, subst, IfOk}
use Rattle.std.proofs.lemmas.Result.{IfOk-weaker}
use Rattle.clap.specs.Words.{app_of}
use Rattle.fbr_words.proofs.Taken.{adds}
use Rattle.fbr_words.proofs.grammar.with_command.Goals as goal

pub returns-in-Ok-sub : goal.returns-in-Ok-sub
returns-in-Ok-sub c = λ app own is sub_is plain.
    let same : app_of c.in-Ok.command ≡ app = subst (λ r. IfOk r (λ k. app_of k ≡ app)) c.in-Ok.is is in
    let sub_same : app_of c.in-Ok-sub.sub ≡ own = subst (λ r. IfOk r (λ k. app_of k ≡ own)) c.in-Ok-sub.is sub_is in
    IfOk-weaker c.subcommand.result _ _ (λ r h. adds _ _ _ app own h same sub_same plain) c.subcommand.ensures
