-- Denials of one offer that differ.
use Rattle.std.specs.Prelude.{◌≡◌, ℕ, [], ◌∷◌, Some}
use Rattle.fb_words.specs.declared.elem_type.ElemType.TheVariants as types
use Rattle.fb_model.specs.System.{Device}
use Rattle.fb_model.specs.Wires.{Leaf}
use Rattle.fb_model.specs.Ranges.{types_of}
use Rattle.fb_model.specs.Certificates.{Certificate}
use Rattle.fb_model.specs.Devices.{Machine, Event, Denial, Denied, input_of, Run}

-- there is an INPUT of this number, which takes two BOOLs
abbrev pub TakesTwoBools : Device → ℕ → Type 0
TakesTwoBools device input = (leaf : Leaf) × (input_of device input ≡ Some leaf) × (types_of leaf.kind ≡ types.Bool ∷ types.Bool ∷ [])

-- the event may be denied for this reason
abbrev pub MayDeny : Certificate → Device → Machine → Event → Denial → Type 0
MayDeny cert device m event why = Run cert device m (event ∷ []) (Denied why ∷ []) m
