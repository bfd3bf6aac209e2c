-- The device of a session.
use Rattle.std.proofs.Common.{◌≡◌, ℕ, zero, suc, ◌<◌, List, [], ◌∷◌, length, slice_get, Some, refl, arith}
use Rattle.std.proofs.lemmas.List.{length-map}
use Rattle.fb_model.specs.System.{Device}
use Rattle.fb_verified.specs.Checked.{system_in}
use Rattle.fb_types.specs.Views.{device_of}
use Rattle.fb_device_state.specs.declared.program.Program.{Program}
use Rattle.fb_device_state.specs.declared.program.Running.{Running}
use Rattle.fb_device_state.specs.Sessions.{session_of}
use Rattle.fb_device_state.specs.Machines.{device_at, device_in}
use Rattle.fb_device_state.specs.Keeping.{IsProgram}

pub device_stands : (ds : List Device) (k : ℕ) → k < length ds → slice_get ds k ≡ Some (device_at ds k)
device_stands [] k h = absurd (omega (arith, h))
device_stands (d ∷ ds) zero h = refl
device_stands (d ∷ ds) (suc k) h = device_stands ds k (omega (arith, h))

pub device_here : (p : Program) (r : Running) → IsProgram p r → slice_get (system_in p.verified.value).devices p.number ≡ Some (device_in (session_of p r))
device_here p r g = device_stands (system_in p.verified.value).devices p.number (omega (arith, g.device, length-map p.verified.value.typed.devices.items device_of))
