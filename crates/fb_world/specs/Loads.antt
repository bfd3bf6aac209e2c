-- What a world is of its texts.
use Rattle.std.specs.Prelude.{ℕ, ◌≡◌, List}
use Rattle.fb_model.specs.World.{IsFirst}
use Rattle.fb_verdict.specs.Verdicts.{IsOfTexts}
use Rattle.fb_model.specs.Verdicts.{IsFaultOf}
use Rattle.fb_device.specs.declared.refusal.Refusal.{Refusal}
use Rattle.fb_device.specs.declared.refusal.Refusal.TheVariants.{Checked, NoDevice, Limit}
use Rattle.fb_device_state.specs.Sessions.{Session}
use Rattle.fb_device_state.specs.Machines.{machine_of}
use Rattle.fb_world_course.specs.Scenes.{Scene, system_of, world_of}

-- the texts are spelled, well typed and fit, and the world is the first one of their system
pub record IsWorldOf (text certificate : List ℕ) (s : Scene) : Type 0 where
  pub texts : IsOfTexts text certificate s.verified
  pub first : IsFirst (system_of s) (world_of s)

-- what the refusal says of the texts is so; no device and no limit is told
abbrev pub IsWorldFault : List ℕ → List ℕ → Refusal → Type 0
IsWorldFault text certificate (Checked refusal) = IsFaultOf text certificate refusal
IsWorldFault text certificate (NoDevice shown) = ⊥
IsWorldFault text certificate Limit = ⊥

-- a session is that of the device of a number
pub record IsDeviceAt (s : Scene) (number : ℕ) (session : Session) : Type 0 where
  pub verified : session.verified ≡ s.verified
  pub number_is : session.number ≡ number
  pub machine : machine_of session ≡ (world_of s).machines number
