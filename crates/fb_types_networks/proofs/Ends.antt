-- What ports carry.
use Rattle.std.proofs.Common.{◌≡◌, Option, Some, None, option_map, refl, ap, ◌∙◌}
use Rattle.fb_words.specs.declared.elem_type.ElemType.{ElemType}
use Rattle.fb_model.specs.System.{Variable}
use Rattle.fb_types_services.specs.Views.{typed_as}
use Rattle.fb_words.specs.declared.end.Carried.TheVariants.{Values}

twice : (o : Option Variable) → option_map Values (option_map (λ v. v.type) o) ≡ option_map (λ v. Values v.type) o
twice None = refl
twice (Some v) = refl

pub carries : (of : Option ElemType) (o : Option Variable) → typed_as of o → option_map Values of ≡ option_map (λ v. Values v.type) o
carries of o e = ap (option_map Values) e ∙ twice o
