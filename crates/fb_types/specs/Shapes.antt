-- The formats and types of channels and what is at fault in them: this project's profile of IEC 61499-1 edition 2, 6.1.
use Rattle.std.specs.Prelude.{ℕ, nat_eq, ◌≡◌, List, [], ◌∷◌, ◌++◌, map, Option, None, Some, ◌⊎◌}
use Rattle.indexmap.specs.IndexMap.{IndexMap}
use Rattle.std.specs.Map.{lookup}
use Rattle.fb_faults.specs.declared.typing.TypeFault.{TypeFault}
use Rattle.fb_faults.specs.declared.typing.TypeFault.TheVariants.{OutOfMemory, ChannelShape}
use Rattle.fb_types.specs.declared.shapes.Seen.{Seen}
use Rattle.fb_model.specs.Nesting.{Used}
use Rattle.fb_model.specs.NumberFaults.{Shape, Shaped, end_of}

-- ---- the middle layer: channels met so far

-- the shape of a channel among these
abbrev pub shape_in : List Shaped → ℕ → Option Shape
shape_in shapes n = lookup (nat_eq n) shapes

-- a channel is among these, with its shape, or is added at the end
abbrev pub Noted : List Shaped → Option Shaped → List Shaped → Type 0
Noted old None new = new ≡ old
Noted old (Some s) new = ((shape_in old (s.0) ≡ Some (s.1)) × (new ≡ old)) ⊎ ((shape_in old (s.0) ≡ None) × (new ≡ old ++ s ∷ []))

-- a service is an end of a channel that has another shape there
pub data IsOtherwise (shapes : List Shaped) (u : Used) (f : TypeFault) : Type 0 where
  no_memory_for_shape : f ≡ OutOfMemory → IsOtherwise shapes u f
  other_shape : {n : ℕ} {shape first : Shape} → end_of (u.1) ≡ Some (n, shape) → shape_in shapes n ≡ Some first → (first ≡ shape → ⊥) → f ≡ ChannelShape (u.0) → IsOtherwise shapes u f

abbrev pub shape_of : Seen → Shape
shape_of s = (s.format, s.types.now.items)

-- the channels of a table with their shapes, in order
abbrev pub shapes_of : {S : Type 0} → IndexMap ℕ Seen S → List Shaped
shapes_of m = map (λ e. (e.0, shape_of e.1)) m.entries
