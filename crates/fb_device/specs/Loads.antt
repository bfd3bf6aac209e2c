-- What a loaded device is of its texts.
use Rattle.std.specs.Prelude.{ℕ, ◌≡◌, true, false, List, Some, slice_get, string_bytes}
use Rattle.std.specs.List.{AllByRecursion}
use Rattle.fb_model.specs.System.{Device, System}
use Rattle.fb_model.specs.Spelling.{upper}
use Rattle.fb_model.specs.Messages.{Stamp}
use Rattle.fb_model.specs.Devices.{silent}
use Rattle.fb_verified.specs.Checked.{system_in}
use Rattle.fb_model.specs.Written.{IsSystemOf}
use Rattle.fb_verdict.specs.Verdicts.{IsOfTexts}
use Rattle.fb_model.specs.Verdicts.{IsFaultOf}
use Rattle.fb_verified.specs.Lookups.{is_same_path}
use Rattle.fb_device.specs.declared.refusal.Refusal.{Refusal}
use Rattle.fb_device.specs.declared.refusal.Refusal.TheVariants.{Checked, NoDevice, Limit}
use Rattle.fb_verified.specs.declared.verified.Verified.{Verified}
use Rattle.fb_faults.specs.declared.refusal.Refusal.TheVariants as checks
use Rattle.fb_device_state.specs.Sessions.{Session}
use Rattle.fb_device_state.specs.Machines.{machine_of}
use Rattle.fb_device.specs.Silence.{CanBegin}

-- the texts are spelled, well typed and fit, the device is one of this name in them, and nothing has happened yet; it begins with this cause and this stamp
pub record IsLoaded (text certificate name : List ℕ) (first : ℕ) (stamp : Stamp) (s : Session) : Type 0 where
  pub texts : IsOfTexts text certificate s.verified
  pub device : Device
  pub stands : slice_get (system_in s.verified).devices s.number ≡ Some device
  pub named : is_same_path device.name name ≡ true
  pub silent : machine_of s ≡ silent device first stamp

-- the text is of a system that has no device of this name
pub record IsUnknown (text name : List ℕ) : Type 0 where
  pub system : System
  pub system_is : IsSystemOf text system
  pub unknown : AllByRecursion (λ (d : Device). is_same_path d.name name ≡ false) system.devices

-- what the refusal says of the texts and the name is so; no limit is told
abbrev pub IsLoadFault : List ℕ → List ℕ → List ℕ → Refusal → Type 0
IsLoadFault text certificate name (Checked refusal) = IsFaultOf text certificate refusal
IsLoadFault text certificate name (NoDevice shown) = IsUnknown text name × (string_bytes shown ≡ upper name)
IsLoadFault text certificate name Limit = ⊥

-- what the refusal says is so, of the first cause and the first sequence number too
abbrev pub IsBeginFault : List ℕ → List ℕ → List ℕ → ℕ → ℕ → Refusal → Type 0
IsBeginFault text certificate name first next (Checked refusal) = IsLoadFault text certificate name (Checked refusal)
IsBeginFault text certificate name first next (NoDevice shown) = IsLoadFault text certificate name (NoDevice shown)
IsBeginFault text certificate name first next Limit = CanBegin first next → ⊥

-- the system has a device of this name
abbrev pub IsThere : System → List ℕ → Type 0
IsThere system name = (k : ℕ) × (d : Device) × (slice_get system.devices k ≡ Some d) × (is_same_path d.name name ≡ true)

-- the device of a name in what was checked, to which nothing has happened
pub record IsReadyOf (v : Verified) (name : List ℕ) (first : ℕ) (stamp : Stamp) (r : Session) : Type 0 where
  pub same : r.verified ≡ v
  pub device : Device
  pub stands : slice_get (system_in v).devices r.number ≡ Some device
  pub named : is_same_path device.name name ≡ true
  pub silent : machine_of r ≡ silent device first stamp

-- want of memory, or a name that is not there, as it is printed
abbrev pub IsUnnamed : List ℕ → Refusal → Type 0
IsUnnamed name (Checked checks.OutOfMemory) = Unit {0}
IsUnnamed name (Checked other) = ⊥
IsUnnamed name (NoDevice shown) = string_bytes shown ≡ upper name
IsUnnamed name Limit = ⊥

-- want of memory, or a name that no device has
abbrev pub IsMissing : Verified → List ℕ → Refusal → Type 0
IsMissing v name (Checked checks.OutOfMemory) = Unit {0}
IsMissing v name (Checked other) = ⊥
IsMissing v name (NoDevice shown) = AllByRecursion (λ (d : Device). is_same_path d.name name ≡ false) (system_in v).devices × (string_bytes shown ≡ upper name)
IsMissing v name Limit = ⊥
