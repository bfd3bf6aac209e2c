use Rattle.std.proofs.Common.{sym, ◌∙◌}
use Rattle.fb_model.specs.Services.{sent, qi}
use Rattle.fb_work_charts.proofs.Named.{length_numbered, with_one}
use Rattle.fb_work_charts.proofs.service.takes.Goals as goal

pub returns-in-Output : goal.returns-in-Output
returns-in-Output c = rw c.in-Output.is (c.len.ensures ∙ c.in-Output.types.ok.0 ∙ sym (length_numbered sent 1 c.in-Output.types.items))

pub returns-then-eq : goal.returns-then-eq
returns-then-eq c =
    let a = with_one c.len-then-eq.result sent c.in-Publish.types.items qi (c.len-then-eq.ensures ∙ c.in-Publish.types.ok.0) in
    let t = sym c.eq.ensures ∙ c.if-eq.true in
    rw (c.in-Publish.is, t) a
