use Rattle.std.proofs.Common.{◌≡◌, ◌∙◌}
use Rattle.std.proofs.lemmas.Result.{IfOk-weaker}
use Rattle.fb_device.proofs.loading.alone_ready.Goals as goal

pub returns-in-Ok-clause-ready : goal.returns-in-Ok-clause-ready
returns-in-Ok-clause-ready c = IfOk-weaker c.numbered_ready.result _ _ (λ r e. (e.0 ∙ c.in-Ok.ensures.shared, e.1, e.2)) c.numbered_ready.ensures.ready
