-- What one line of a script does, in the terms of the code.
use Rattle.std.specs.Prelude.{◌≡◌, ◌⊎◌, ℕ, List, [], ◌∷◌, ◌++◌, Option, Some, None, slice_get}
use Rattle.std.specs.Io.KnownBytes.{Appends}
use Rattle.fb_model.specs.System.{Device}
use Rattle.fb_model.specs.Devices.{Answer}
use Rattle.fb_model.specs.World.{WorldEvent, At_device, A_dispatch, Answered, Unknown, WorldHappens, root_steps}
use Rattle.fb_model.specs.CertificateText.{words}
use Rattle.fb_world_course.specs.Answers.{device_of, event_of}
use Rattle.fb_world.specs.Answers.{steps_of}
use Rattle.fb_world_course.specs.Scenes.{Scene, system_of, cert_of, world_of}
use Rattle.fb_script.specs.Lines as lines
use Rattle.fb_script.specs.Lines.{Command}
use Rattle.fb_script.specs.Playing.{IsNoDevice, IsNoResource, Asks, IsUnknown, Plays, Answers, IsBad}
use Rattle.fb_script.specs.Texts.{answer_text}
use Rattle.fb_script.specs.declared.playing.Asked.{Asked}
use Rattle.fb_script.specs.declared.playing.Missing.{Missing}
use Rattle.fb_script.specs.declared.playing.Missing.TheVariants as missing
use Rattle.fb_script.specs.declared.playing.Asked.TheVariants as asked
use Rattle.fb_script.specs.declared.run.End.{End}
use Rattle.fb_script.specs.declared.run.End.TheVariants.{Line, OutOfMemory}

-- the device that a command names
abbrev pub device_named : Command → Option (List ℕ)
device_named (lines.Offer name number values) = Some name
device_named (lines.Deliver number name) = Some name
device_named (lines.Tick name now) = Some name
device_named (lines.Dispatch name resource) = Some name
device_named (lines.Root number) = None

-- what a command names and is not there
abbrev pub IsMissing : Scene → Command → Missing → Type 0
IsMissing s command (missing.Device name) = (device_named command ≡ Some name.now) × IsNoDevice (system_of s) name.now
IsMissing s command (missing.Resource name resource) = (command ≡ lines.Dispatch name.now resource.now) × IsNoResource (system_of s) name.now resource.now
IsMissing s command (missing.Datagram number) = ⊥
IsMissing s command (missing.Root number) = (command ≡ lines.Root number) × (root_steps (cert_of s) (world_of s) number ≡ None)

-- what a command asks of a world: an event at a device that is there, or a root that was opened; else it is unknown, and this is missing
abbrev pub IsAsked : Scene → Command → Asked → Type 0
IsAsked s command (asked.Event d event) = (device : Device) × (slice_get (system_of s).devices d ≡ Some device) × (device_of event ≡ d) × Asks (system_of s) command (event_of event)
IsAsked s command (asked.Dispatch d n) = (device : Device) × (slice_get (system_of s).devices d ≡ Some device) × Asks (system_of s) command (At_device d (A_dispatch n))
IsAsked s command (asked.Root root told) = (command ≡ lines.Root root) × (root_steps (cert_of s) (world_of s) root ≡ Some (steps_of told))
IsAsked s command (asked.Unknown what) = IsUnknown (system_of s) (cert_of s) (world_of s) command × IsMissing s command what

-- a text is written, and a line feed
abbrev pub IsWritten : List ℕ → Option (List ℕ) → Option (List ℕ) → Type 0
IsWritten text before after = Appends before after (text ++ 10 ∷ [])

-- nothing happens, and nothing is written
abbrev pub Stays : Scene → Option (List ℕ) → Option (List ℕ) → Scene → Type 0
Stays old before after new = Appends before after [] × (world_of new ≡ world_of old)

-- an event happens and its answer is written, or the script ends there: it is unknown, or there is no memory for it
abbrev pub HasHappened : Scene → WorldEvent → ℕ → Option (List ℕ) → Option (List ℕ) → Option End → Scene → Type 0
HasHappened old event n before after None new =
    (answer : Answer) × (sent : Option ℕ) × WorldHappens (system_of old) (cert_of old) (world_of old) event (Answered answer sent) (world_of new) × IsWritten (answer_text sent answer) before after
HasHappened old event n before after (Some end) new =
    (((end ≡ OutOfMemory) × (world_of new ≡ world_of old)) ⊎ ((end ≡ Line n) × WorldHappens (system_of old) (cert_of old) (world_of old) event Unknown (world_of new))) × Appends before after []

-- a command is played and its answer is written, or the script ends there
abbrev pub IsObeyed : Scene → Command → ℕ → Option (List ℕ) → Option (List ℕ) → Option End → Scene → Type 0
IsObeyed old command n before after None new = (text : List ℕ) × Plays (system_of old) (cert_of old) command (world_of old) text (world_of new) × IsWritten text before after
IsObeyed old command n before after (Some end) new = ((end ≡ OutOfMemory) ⊎ (IsUnknown (system_of old) (cert_of old) (world_of old) command × (end ≡ Line n))) × Stays old before after new

-- a line has no words, or it is answered, or the script ends there
abbrev pub IsStep : Scene → List ℕ → ℕ → Option (List ℕ) → Option (List ℕ) → Option End → Scene → Type 0
IsStep old line n before after None new =
    ((words line ≡ []) × Stays old before after new) ⊎ ((text : List ℕ) × Answers (system_of old) (cert_of old) line (world_of old) text (world_of new) × IsWritten text before after)
IsStep old line n before after (Some end) new = ((end ≡ OutOfMemory) ⊎ (IsBad (system_of old) (cert_of old) (world_of old) line × (end ≡ Line n))) × Stays old before after new
