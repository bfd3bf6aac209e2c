-- The services of instances with the offsets of the instances' names, depth first in text order.
use Rattle.std.specs.Prelude.{ℕ, List, [], ◌∷◌, ◌++◌, map}
use Rattle.fb_model.specs.System.{Service}
use Rattle.fb_types_networks.specs.declared.typed.Body.TheOpen.{Body-F, Instance-F, Network-F}
use Rattle.fb_types_networks.specs.declared.typed.Instance.{Instance, fold-Instance}
use Rattle.fb_types_services.specs.Views.{service_of}
use Rattle.fb_types.specs.declared.uses.Use.{Use}
use Rattle.fb_model.specs.Nesting.{Used}

abbrev pub use_of : Use → Used
use_of u = (u.at, service_of u.service.now)

abbrev pub service_in : Use → Service
service_in u = service_of u.service.now

abbrev pub services_at : List Used → List Service
services_at us = map (λ u. u.1) us

abbrev pub joined : List (List Used) → List Used
joined [] = []
joined (xs ∷ rest) = xs ++ joined rest

-- one level, with what is inside seen already: at the offset of the name of its instance
abbrev pub body_step : Body-F (ℕ → List Used) (List Used) (List Used) → ℕ → List Used
body_step (Body-F.Basic k) at = []
body_step (Body-F.Served s) at = (at, service_of s) ∷ []
body_step (Body-F.Composite f n) at = n.value

abbrev pub instance_step : Instance-F (ℕ → List Used) (List Used) (List Used) → List Used
instance_step i = i.body i.at

abbrev pub network_step : Network-F (ℕ → List Used) (List Used) (List Used) → List Used
network_step n = joined n.instances.items

abbrev pub uses_of : Instance → List Used
uses_of = fold-Instance (ℕ → List Used) (List Used) (List Used) body_step instance_step network_step

abbrev pub uses_in : List Instance → List Used
uses_in is = joined (map uses_of is)
