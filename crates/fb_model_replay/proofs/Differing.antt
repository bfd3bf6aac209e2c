-- Offers that are denied for two reasons, or for either of two values.
use Rattle.std.proofs.Common.{ℕ, pos, [], ◌∷◌, length, slice_get, Some, refl, sym, ap, subst, arith}
use Rattle.fb_model.specs.System.{Device}
use Rattle.fb_model.specs.Certificates.{Certificate}
use Rattle.fb_model.specs.Devices.{Machine, Offer, BadCount, BadValue, IsBad}
use Rattle.fb_model_replay.specs.Denials.{TakesTwoBools, MayDeny}

module _ (cert : Certificate) (device : Device) (m : Machine) (input : ℕ) (two : TakesTwoBools device input) where
  pub two_reasons : MayDeny cert device m (Offer input (pos 2 ∷ [])) BadCount × MayDeny cert device m (Offer input (pos 2 ∷ [])) (BadValue 1)
  two_reasons = (
    (m, ((two.0, two.1, λ h. absurd (omega (arith, h, ap length two.2))), refl), refl),
    (m, ((two.0, 0, two.1, refl, subst (λ ts. IsBad (slice_get ts 0) (Some (pos 2))) (sym two.2) refl), refl), refl),
  )

  pub two_values : MayDeny cert device m (Offer input (pos 2 ∷ pos 2 ∷ [])) (BadValue 1) × MayDeny cert device m (Offer input (pos 2 ∷ pos 2 ∷ [])) (BadValue 2)
  two_values = (
    (m, ((two.0, 0, two.1, refl, subst (λ ts. IsBad (slice_get ts 0) (Some (pos 2))) (sym two.2) refl), refl), refl),
    (m, ((two.0, 1, two.1, refl, subst (λ ts. IsBad (slice_get ts 1) (Some (pos 2))) (sym two.2) refl), refl), refl),
  )
