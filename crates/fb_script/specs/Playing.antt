-- What a command asks of a world of devices, and what comes of it.
use Rattle.std.specs.Prelude.{◌≡◌, ◌≢◌, ◌⊎◌, ℕ, true, false, List, [], Option, Some, None, slice_get}
use Rattle.std.specs.List.{AllByRecursion}
use Rattle.fb_model.specs.System.{Device, System}
use Rattle.fb_model.specs.Certificates.{Certificate}
use Rattle.fb_model.specs.Devices.{Answer}
use Rattle.fb_model.specs.World.{World, WorldEvent, At_device, Deliver_datagram, An_offer, A_tick, A_dispatch, Answered, WorldHappens, datagram_numbered, RootSteps, root_steps}
use Rattle.fb_model.specs.CertificateText.{words}
use Rattle.fb_verified.specs.Lookups.{is_same_path}
use Rattle.fb_device.specs.Answers.{IsNumberOf, IsNoNumber}
use Rattle.fb_script.specs.Lines.{Command, Offer, Deliver, Tick, Dispatch, Root, command_in}
use Rattle.fb_script.specs.Texts.{answer_text, root_text}

-- ---- names, in which letter case has no meaning

-- the device of a name, by its number
pub record IsDeviceNamed (system : System) (name : List ℕ) (d : ℕ) (device : Device) : Type 0 where
  pub stands : slice_get system.devices d ≡ Some device
  pub same : is_same_path device.name name ≡ true

abbrev pub IsNoDevice : System → List ℕ → Type 0
IsNoDevice system name = AllByRecursion (λ (device : Device). is_same_path device.name name ≡ false) system.devices

-- the device of a name has no resource of this one
abbrev pub IsNoResource : System → List ℕ → List ℕ → Type 0
IsNoResource system name resource = (d : ℕ) × (device : Device) × IsDeviceNamed system name d device × IsNoNumber device.resources resource

-- ---- commands

-- the event of the world that a command asks for
abbrev pub Asks : System → Command → WorldEvent → Type 0
Asks system (Offer name number values) event = (d : ℕ) × (device : Device) × IsDeviceNamed system name d device × (event ≡ At_device d (An_offer number values))
Asks system (Deliver number name) event = (d : ℕ) × (device : Device) × IsDeviceNamed system name d device × (event ≡ Deliver_datagram number d)
Asks system (Tick name now) event = (d : ℕ) × (device : Device) × IsDeviceNamed system name d device × (event ≡ At_device d (A_tick now))
Asks system (Dispatch name resource) event = (d : ℕ) × (device : Device) × IsDeviceNamed system name d device × ((n : ℕ) × IsNumberOf device.resources resource n × (event ≡ At_device d (A_dispatch n)))
Asks system (Root number) event = ⊥

-- a command names a device, a resource, a datagram or a root that is not there
abbrev pub IsUnknown : System → Certificate → World → Command → Type 0
IsUnknown system cert w (Offer name number values) = IsNoDevice system name
IsUnknown system cert w (Deliver number name) = IsNoDevice system name ⊎ (datagram_numbered w.datagrams number ≡ None)
IsUnknown system cert w (Tick name now) = IsNoDevice system name
IsUnknown system cert w (Dispatch name resource) = IsNoDevice system name ⊎ IsNoResource system name resource
IsUnknown system cert w (Root number) = root_steps cert w number ≡ None

-- an event that a command asks for happens, and this text is its answer's
pub record Acts (system : System) (cert : Certificate) (command : Command) (old : World) (text : List ℕ) (new : World) : Type 0 where
  pub event : WorldEvent
  pub answer : Answer
  pub sent : Option ℕ
  pub asks : Asks system command event
  pub happens : WorldHappens system cert old event (Answered answer sent) new
  pub text_is : text ≡ answer_text sent answer

-- what a command makes of a world, and the text that answers it. Nothing happens where a root is told
abbrev pub Plays : System → Certificate → Command → World → List ℕ → World → Type 0
Plays system cert (Root number) old text new = (told : RootSteps) × (root_steps cert old number ≡ Some told) × (text ≡ root_text number told) × (new ≡ old)
Plays system cert command old text new = Acts system cert command old text new

-- ---- lines

-- a line is a command that is played, and this text answers it
pub record Answers (system : System) (cert : Certificate) (line : List ℕ) (old : World) (text : List ℕ) (new : World) : Type 0 where
  pub command : Command
  pub means : command_in (words line) ≡ Some command
  pub plays : Plays system cert command old text new

-- a line has words, and is no command but one that names what is not there
abbrev pub IsBad : System → Certificate → World → List ℕ → Type 0
IsBad system cert w line = (words line ≢ []) × ((command : Command) → command_in (words line) ≡ Some command → IsUnknown system cert w command)
