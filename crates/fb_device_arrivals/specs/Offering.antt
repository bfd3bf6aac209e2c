-- Offers by numbers.
use Rattle.std.specs.Prelude.{ℕ, ℤ, ◌≡◌, ◌+◌, List, length, slice_get}
use Rattle.fb_words.specs.declared.elem_type.ElemType.{ElemType}
use Rattle.fb_model.specs.Devices.{IsBad}
use Rattle.fb_device_arrivals.specs.declared.denied.Denied.{Denied}
use Rattle.fb_device_arrivals.specs.declared.denied.Denied.TheVariants as denied

-- why values are not of these types
abbrev pub IsOutside : List ElemType → List ℤ → Denied → Type 0
IsOutside types values denied.BadCount = length values ≡ length types → ⊥
IsOutside types values (denied.BadValue number) = (k : ℕ) × (number ≡ k + 1) × IsBad (slice_get types k) (slice_get values k)
IsOutside types values denied.UnknownInput = ⊥
IsOutside types values (denied.NoCredit needs free) = ⊥
IsOutside types values denied.Spent = ⊥
IsOutside types values (denied.Wire fault) = ⊥
IsOutside types values denied.NoSubscriber = ⊥
IsOutside types values denied.Shape = ⊥
IsOutside types values denied.Closed = ⊥
IsOutside types values (denied.Stale boot sequence) = ⊥
