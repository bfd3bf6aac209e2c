-- When a refusal over a typed system and a certificate is true.
use Rattle.std.specs.List.{Any}
use Rattle.std.specs.Prelude.{ℕ}
use Rattle.fb_model.specs.Certificates.{Certificate}
use Rattle.fb_model.specs.Misfits.{IsMisfit}
use Rattle.fb_types.specs.declared.typed.Configuration.{Configuration}
use Rattle.fb_types.specs.Views.{system_of}
use Rattle.fb_flat.specs.Leaves.{IsFull}
use Rattle.fb_faults.specs.declared.refusal.Refusal.{Refusal}

-- in a resource more connections are followed than may be, and this is its place
abbrev pub Crowds : Configuration → ℕ → Type 0
Crowds typed at = Any (λ d. Any (λ r. IsFull r at) d.resources.items) typed.devices.items

-- what the refusal says is so
abbrev pub IsFitFault : Configuration → Certificate → Refusal → Type 0
IsFitFault typed cert f = IsMisfit (Crowds typed) (system_of typed) cert f
