use Rattle.std.proofs.Common.{sym, ◌∙◌}
use Rattle.fb_model.specs.Services.{received, qo}
use Rattle.fb_work_charts.proofs.Named.{length_numbered, with_one}
use Rattle.fb_work_charts.proofs.service.gives.Goals as goal

pub returns-in-Input : goal.returns-in-Input
returns-in-Input c = rw c.in-Input.is (c.len.ensures ∙ c.in-Input.types.ok.0 ∙ sym (length_numbered received 1 c.in-Input.types.items))

pub returns-then-eq : goal.returns-then-eq
returns-then-eq c =
    let a = with_one c.len-then-eq.result received c.in-Subscribe.types.items qo (c.len-then-eq.ensures ∙ c.in-Subscribe.types.ok.0) in
    let t = sym c.eq.ensures ∙ c.if-eq.true in
    rw (c.in-Subscribe.is, t) a
