use Rattle.std.proofs.Common.{◌≡◌, true, refl, sym, subst, ◌∙◌}
use Rattle.fb_model.specs.Names.{is_in}
use Rattle.fb_model.specs.Typing.{service_names}
use Rattle.fb_model.specs.SourceFaults.{named_as_service}
use Rattle.fb_types.proofs.source.declared.Goals as goal

pub returns-then-is_service-clause-refused : goal.returns-then-is_service-clause-refused
returns-then-is_service-clause-refused c = λ bs table memo named. named_as_service (subst (λ n. is_in n service_names ≡ true) c.as_str.ensures.value (sym c.is_service.ensures ∙ c.if-is_service.true)) refl
