use Rattle.std.proofs.Common.{◌≡◌, ◌∙◌, ap₂, codes, rules}
use Rattle.std.proofs.lemmas.Result.{IfOk-weaker}
use Rattle.clap.specs.Words.{App, app_of, new_app, with_rule}
use Rattle.fbr_words.specs.Program.{file, repeated}
use Rattle.fbr_words.proofs.grammar.over_named.Goals as goal

pub returns : goal.returns
returns c =
    let name = c.args.name.now in
    let alone : App = with_rule (new_app name) (file (codes "APP")) in
    let top_is : app_of c.about.result ≡ new_app name = search rules in
    let start = IfOk-weaker c.arg-alone.result _ (λ k. app_of k ≡ alone) (λ r h. h.shape c.file.ensures.local ∙ ap₂ with_rule top_is c.file.ensures.rule) c.arg-alone.ensures in
    c.with.ensures alone (repeated (codes "with")) start c.repeated.ensures.rule c.repeated.ensures.local
