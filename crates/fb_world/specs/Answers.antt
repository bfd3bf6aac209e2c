-- What a world tells of a root, and of a dispatch that did not happen.
use Rattle.std.specs.Prelude.{ℕ, ◌≡◌, ◌<◌, length, None, slice_get}
use Rattle.fb_model.specs.System.{System}
use Rattle.fb_model.specs.World as book
use Rattle.fb_world.specs.declared.answer.RootSteps.{RootSteps}
use Rattle.fb_world.specs.declared.answer.Missed.{Missed}
use Rattle.fb_world.specs.declared.answer.Missed.TheVariants as missed

abbrev pub steps_of : RootSteps → book.RootSteps
steps_of r = record { steps = r.steps; far = r.far }

-- a device is unknown where there is none of its number, and memory runs out where there is one
abbrev pub HasMissed : System → ℕ → Missed → Type 0
HasMissed system d missed.Unknown = slice_get system.devices d ≡ None
HasMissed system d missed.OutOfMemory = d < length system.devices
