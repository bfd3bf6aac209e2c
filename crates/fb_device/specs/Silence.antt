-- A device to which nothing has happened, and how it may begin.
use Rattle.std.specs.Prelude.{ℕ, ◌≡◌, ◌<◌, ◌≤◌}
use Rattle.fb_model.specs.Messages.{Stamp, IsStamp}
use Rattle.fb_model.specs.Devices.{silent}
use Rattle.fb_device_state.specs.Sessions.{Session}
use Rattle.fb_device_state.specs.Machines.{device_in, machine_of}

-- no device begins with a later cause, so that there are numbers for all that begin
abbrev pub last_first : ℕ
last_first = 18446744073709535000

-- a device may begin with this cause and this sequence number
pub record CanBegin (first next : ℕ) : Type 0 where
  pub cause : first ≤ last_first
  pub sequence : 0 < next

-- nothing has happened, and the device begins within the limits
pub record IsSilent (s : Session) : Type 0 where
  pub first : ℕ
  pub stamp : Stamp
  pub early : first ≤ last_first
  pub is_stamp : IsStamp stamp
  pub silent : machine_of s ≡ silent (device_in s) first stamp
