use Rattle.std.proofs.Common.{sym, ap, ◌∙◌}
use Rattle.fb_flat.specs.Sources.{Fixed}
use Rattle.fb_flat.proofs.Sources.{start_at, start_found}
use Rattle.fb_flat.proofs.constant.start.Goals as goal

pub returns-in-None : goal.returns-in-None
returns-in-None c = ap (λ o. Fixed (start_at o)) (sym c.in-None.is ∙ (c.copied.ensures ∙ c.get.ensures.value)) ∙ ap Fixed (sym (start_found c.args.name.now c.args.variables.now.entries))

pub returns-in-Some : goal.returns-in-Some
returns-in-Some c = c.first.ensures ∙ ap (λ o. Fixed (start_at o)) (sym c.in-Some.is ∙ (c.copied.ensures ∙ c.get.ensures.value)) ∙ ap Fixed (sym (start_found c.args.name.now c.args.variables.now.entries))
