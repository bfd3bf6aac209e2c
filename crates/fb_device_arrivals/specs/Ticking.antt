-- Timers that expire.
use Rattle.std.specs.Prelude.{ℕ, ◌≡◌, true, List, Some, slice_get}
use Rattle.fb_model.specs.Wires.{Leaf}
use Rattle.fb_model.specs.Devices.{is_timer}

-- the leaf of a number is a timer
pub record IsTimer (all : List Leaf) (block : ℕ) : Type 0 where
  pub leaf : Leaf
  pub stands : slice_get all block ≡ Some leaf
  pub timer : is_timer leaf.kind ≡ true
