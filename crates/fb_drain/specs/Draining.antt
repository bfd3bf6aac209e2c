-- What it is to serve a resource of a world until nothing is pending there.
use Rattle.std.specs.Prelude.{ℕ, ◌≡◌, ◌≤◌, Bool, true, false, List, [], ◌∷◌, Option, None, Some, slice_get, replicate}
use Rattle.std.specs.List.{sum_by, AllByRecursion}
use Rattle.fb_model.specs.System.{System, Device}
use Rattle.fb_model.specs.Certificates.{Certificate, DeviceHolds}
use Rattle.fb_model.specs.Devices.{Admitted, Denied, Expired, Idle, Ran, steps_row}
use Rattle.fb_model.specs.Headline.{IsSound}
use Rattle.fb_model.specs.World.{World, WorldAnswer, Answered, Unknown, At_device, A_dispatch, WorldRun}

-- a block ran
abbrev pub HasRun : WorldAnswer → Type 0
HasRun (Answered (Ran cause place steps effect ended) sent) = Unit {0}
HasRun (Answered (Admitted cause) sent) = ⊥
HasRun (Answered (Denied why) sent) = ⊥
HasRun (Answered (Expired count) sent) = ⊥
HasRun (Answered Idle sent) = ⊥
HasRun Unknown = ⊥

-- what the pending entries of resource q at device d weigh
abbrev pub weight_at : Certificate → World → ℕ → ℕ → ℕ
weight_at cert w d q = sum_by (λ e. steps_row cert e.place) ((w.machines d).queues q)

-- n dispatches of resource q at device d lead from the old world to the new one, with these answers, and a block ran at each
pub record IsServed (system : System) (cert : Certificate) (d q n : ℕ) (old : World) (answers : List WorldAnswer) (new : World) : Type 0 where
  pub run : WorldRun system cert old (replicate n (At_device d (A_dispatch q))) answers new
  pub ran : AllByRecursion HasRun answers

-- nothing is pending there, if there is such a device
abbrev pub IsIdle : System → ℕ → ℕ → World → Type 0
IsIdle system d q w = (device : Device) → slice_get system.devices d ≡ Some device → (w.machines d).queues q ≡ []

-- a witness is told of these answers, one after another
abbrev pub AreTold : {W : Type 0} → (W → WorldAnswer → W → Type 0) → W → List WorldAnswer → W → Type 0
AreTold sees v [] v' = v' ≡ v
AreTold {W} sees v (a ∷ as') v' = (m : W) × sees v a m × AreTold sees m as' v'

-- resource q at device d is served to its end by n dispatches
pub record IsDrained {W : Type 0} (sees : W → WorldAnswer → W → Type 0) (system : System) (cert : Certificate) (d q n : ℕ) (old : World) (v : W) (new : World) (v' : W) : Type 0 where
  pub answers : List WorldAnswer
  pub served : IsServed system cert d q n old answers new
  -- the witness is told of each, in order
  pub told : AreTold sees v answers v'
  -- they are at most what the entries weigh that were pending
  pub few : n ≤ weight_at cert old d q
  -- nothing is pending there now
  pub idle : IsIdle system d q new
  -- where there is no such device nothing has happened
  pub none : slice_get system.devices d ≡ None → (n ≡ 0) × (new ≡ old)

-- memory ran out after some dispatches, of which each ran a block
abbrev pub HasStopped : System → Certificate → ℕ → ℕ → World → World → Type 0
HasStopped system cert d q old new = (n : ℕ) × (answers : List WorldAnswer) × IsServed system cert d q n old answers new

-- ---- one dispatch

-- the certificate holds of device d, and the device is sound
abbrev pub IsSoundAt : System → Certificate → ℕ → World → Type 0
IsSoundAt system cert d w = (device : Device) → slice_get system.devices d ≡ Some device → DeviceHolds cert device × IsSound cert device (w.machines d)

-- a witness is told of an answer if a block ran
abbrev pub WasTold : {W : Type 0} → (W → WorldAnswer → W → Type 0) → WorldAnswer → Bool → W → W → Type 0
WasTold sees a true v v' = HasRun a × sees v a v'
WasTold sees a false v v' = (sent : Option ℕ) × (a ≡ Answered Idle sent) × (v' ≡ v)

-- a dispatch at which a block ran, of which the witness is told; or nothing was pending
abbrev pub IsOneServed : {W : Type 0} → (W → WorldAnswer → W → Type 0) → System → Certificate → ℕ → ℕ → Bool → World → W → World → W → Type 0
IsOneServed sees system cert d q true old v new v' = (a : WorldAnswer) × IsServed system cert d q 1 old (a ∷ []) new × sees v a v'
IsOneServed sees system cert d q false old v new v' = (new ≡ old) × (v' ≡ v) × IsIdle system d q old
