-- What a device begins with.
use Rattle.std.proofs.Common.{◌≡◌, ℕ, ◌+◌, ◌<◌, ◌≤◌, ◌^◌, length, sym, ◌∙◌, ap, arith}
use Rattle.std.proofs.lemmas.List.{length-map}
use Rattle.fb_model.specs.System.{Device}
use Rattle.fb_model.specs.Messages.{Stamp, IsStamp}
use Rattle.fb_model.specs.Wires.{leaves}
use Rattle.fb_model.specs.Devices.{Machine, silent}
use Rattle.fb_model_laws.proofs.Few.{devices_few}
use Rattle.fb_verified.specs.declared.verified.Verified.{Verified}
use Rattle.fb_verified.specs.Checked.{system_in, IsChecked}
use Rattle.fb_types.specs.Views.{device_of}
use Rattle.fb_lists.proofs.Lists.{all_got}
use Rattle.fb_device_state.specs.declared.program.Program.{Program}
use Rattle.fb_device_state.specs.declared.program.Running.{Running}
use Rattle.fb_device_state.specs.Sessions.{session_of, next_of}
use Rattle.fb_device_state.specs.Machines.{device_at, device_in, machine_of}
use Rattle.fb_device_state.specs.Keeping.{IsGood}
use Rattle.fb_device_state.proofs.Devices.{device_stands}
use Rattle.fb_device.specs.Silence.{IsSilent}

-- a device of what was checked has few leaves
pub few_leaves : (v : Verified) (k : ℕ) → IsChecked v → k < length (system_in v).devices → length (leaves (device_at (system_in v).devices k)) ≤ 16384
few_leaves v k checked within =
    (all_got (λ (d : Device). (length (leaves d) ≤ 16384) × (length d.resources ≤ 16)) (system_in v).devices k (device_at (system_in v).devices k)
    (devices_few checked.written.1.typed.library checked.written.1.source (system_in v) checked.written.1.typed.typed) (device_stands (system_in v).devices k within)).0

module _ (p : Program) (r : Running) (h : IsSilent (session_of p r)) where
  next_is : next_of r.next ≡ h.first
  next_is = ap (λ (m : Machine). m.next) h.silent

  -- nothing has happened before the next cause
  pub silent_next : (stamp : Stamp) × IsStamp stamp × (machine_of (session_of p r) ≡ silent (device_in (session_of p r)) (next_of r.next) stamp)
  silent_next = (h.stamp, h.is_stamp, h.silent ∙ ap (λ n. silent (device_in (session_of p r)) n h.stamp) (sym next_is))

  -- there are numbers for all that begin
  pub numbers_left : IsGood p r → next_of r.next + length (leaves (device_in (session_of p r))) ≤ 2 ^ 64
  numbers_left g = omega (arith, next_is, h.early, few_leaves p.verified.value p.number g.program.checked (omega (arith, g.program.device, length-map p.verified.value.typed.devices.items device_of)))
