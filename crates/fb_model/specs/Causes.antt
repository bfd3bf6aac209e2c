-- What one event causes on all devices, by what a run told alone: its events, its answers, and the causes and pending entries of the devices' machines.
-- This project's profile.
use Rattle.std.specs.Prelude.{ℕ, ◌≡◌, ◌+◌, ◌<◌, ◌≤◌, ◌==◌, ◌&&◌, ◌⊎◌, ◌↔◌, List, [], ◌∷◌, ◌++◌, Option, Some, None, if◌then◌else◌, slice_get}
use Rattle.fb_model.specs.Names.{Place}
use Rattle.fb_model.specs.System.{System}
use Rattle.fb_model.specs.Messages.{Message}
use Rattle.fb_model.specs.Serving.{Send}
use Rattle.fb_model.specs.Certificates.{Certificate, far_of}
use Rattle.fb_model.specs.Devices.{Ended, Admitted, Denied, Expired, Idle, Ran}
use Rattle.fb_model.specs.Headline.{IsOpen}
use Rattle.fb_model.specs.World.{World, WorldEvent, At_device, Deliver_datagram, A_dispatch, WorldAnswer, Answered, Unknown, WorldRun, AreWithin, IsFirst}
use Rattle.fb_model.specs.Worlds.{IsOpened, MeasureFalls, MeasureFallsOver}

-- ---- what a run tells

-- a cause of a device, by its number there
pub record Cause : Type 0 where
  pub device : ℕ
  pub number : ℕ

-- an event, and its answer
pub record Happening : Type 0 where
  pub event : WorldEvent
  pub answer : WorldAnswer

abbrev pub trace_of : List WorldEvent → List WorldAnswer → List Happening
trace_of [] answers = []
trace_of (e ∷ es) [] = []
trace_of (e ∷ es) (a ∷ as') = record { event = e; answer = a } ∷ trace_of es as'

-- of which cause a dispatch was, and its steps
pub record Dispatched : Type 0 where
  pub cause : Cause
  pub steps : ℕ

abbrev pub dispatch_in : WorldEvent → WorldAnswer → Option Dispatched
dispatch_in (At_device d event) (Answered (Ran cause place steps effect ended) sent) = Some (record { cause = record { device = d; number = cause }; steps = steps })
dispatch_in (At_device d event) (Answered (Admitted cause) sent) = None
dispatch_in (At_device d event) (Answered (Denied why) sent) = None
dispatch_in (At_device d event) (Answered (Expired count) sent) = None
dispatch_in (At_device d event) (Answered Idle sent) = None
dispatch_in (At_device d event) Unknown = None
dispatch_in (Deliver_datagram number d) answer = None

-- at this place of a trace, a dispatch of a cause sent a message as the datagram of a number
pub record Sends (trace : List Happening) (at : ℕ) (sender : Cause) (datagram : ℕ) (message : Message) : Type 0 where
  pub resource : ℕ
  pub place : Place
  pub steps : ℕ
  pub ended : Option Ended
  pub told : slice_get trace at ≡ Some (record { event = At_device sender.device (A_dispatch resource); answer = Answered (Ran sender.number place steps (Some (Send message)) ended) (Some datagram) })

-- at this place of a trace, a delivery of a datagram opened a cause
abbrev pub Opens : List Happening → ℕ → ℕ → Cause → Type 0
Opens trace at datagram opened = slice_get trace at ≡ Some (record { event = Deliver_datagram datagram opened.device; answer = Answered (Admitted opened.number) None })

-- a cause belongs to another: it is the same, or was opened by a delivery of a datagram that a dispatch of a cause which belongs to it had sent
pub data Belongs (trace : List Happening) (arrival : Cause) : Cause → Type 0 where
  itself : Belongs trace arrival arrival
  caused : (sender opened : Cause) (datagram i j : ℕ) (message : Message) → Belongs trace arrival sender → Sends trace i sender datagram message → i < j → Opens trace j datagram opened → Belongs trace arrival opened

-- ---- arrivals

abbrev pub HasOpened : World → Cause → Type 0
HasOpened w c = (0 < c.number) × (c.number < (w.machines c.device).next)

-- a cause that no delivery opened: a BEGIN did, an offer or a timer
abbrev pub IsArrival : List Happening → World → Cause → Type 0
IsArrival trace w c = HasOpened w c × ((at datagram : ℕ) → Opens trace at datagram c → ⊥)

-- so many steps are told, by part of a trace, of the dispatches that belong to an arrival
pub data Told (trace : List Happening) (arrival : Cause) : List Happening → ℕ → Type 0 where
  nothing : Told trace arrival [] 0
  -- a dispatch that belongs to it
  adds : (h : Happening) (d : Dispatched) (hs : List Happening) (n : ℕ) → dispatch_in h.event h.answer ≡ Some d → Belongs trace arrival d.cause → Told trace arrival hs n → Told trace arrival (h ∷ hs) (d.steps + n)
  -- a dispatch that does not
  passes : (h : Happening) (d : Dispatched) (hs : List Happening) (n : ℕ) → dispatch_in h.event h.answer ≡ Some d → (Belongs trace arrival d.cause → ⊥) → Told trace arrival hs n → Told trace arrival (h ∷ hs) n
  -- no dispatch
  skips : (h : Happening) (hs : List Happening) (n : ℕ) → dispatch_in h.event h.answer ≡ None → Told trace arrival hs n → Told trace arrival (h ∷ hs) n

-- ---- moments of a run

-- an entry of a cause is pending, with this opening
abbrev pub IsPending : World → Cause → Place → Type 0
IsPending w c opening = (q : ℕ) × IsOpen ((w.machines c.device).queues q) c.number opening

-- one was, when a run began or after one of its events
abbrev pub WasPending : (system : System) (cert : Certificate) (c : Cause) (opening : Place) (old : World) (es : List WorldEvent) (as' : List WorldAnswer) (new : World) → WorldRun system cert old es as' new → Type 0
WasPending system cert c opening old [] [] new run = IsPending old c opening
WasPending system cert c opening old [] (a ∷ as') new run = ⊥
WasPending system cert c opening old (e ∷ es) [] new run = ⊥
WasPending system cert c opening old (e ∷ es) (a ∷ as') new run = IsPending old c opening ⊎ WasPending system cert c opening run.0 es as' new run.2

-- it is so of what was told before and of the world, when a run begins and after each of its events
abbrev pub AtEach : (P : List Happening → World → Type 0) (system : System) (cert : Certificate) (before : List Happening) (old : World) (es : List WorldEvent) (as' : List WorldAnswer) (new : World) → WorldRun system cert old es as' new → Type 0
AtEach P system cert before old [] [] new run = P before old
AtEach P system cert before old [] (a ∷ as') new run = ⊥
AtEach P system cert before old (e ∷ es) [] new run = ⊥
AtEach P system cert before old (e ∷ es) (a ∷ as') new run = P before old × AtEach P system cert (before ++ record { event = e; answer = a } ∷ []) run.0 es as' new run.2

-- ---- admissions

-- how often a device told that it admits a datagram
abbrev pub admission_in : ℕ → ℕ → WorldEvent → WorldAnswer → ℕ
admission_in datagram d (Deliver_datagram number device) (Answered (Admitted cause) sent) = if (number == datagram) && (device == d) then 1 else 0
admission_in datagram d (Deliver_datagram number device) (Answered (Denied why) sent) = 0
admission_in datagram d (Deliver_datagram number device) (Answered (Expired count) sent) = 0
admission_in datagram d (Deliver_datagram number device) (Answered Idle sent) = 0
admission_in datagram d (Deliver_datagram number device) (Answered (Ran cause place steps effect ended) sent) = 0
admission_in datagram d (Deliver_datagram number device) Unknown = 0
admission_in datagram d (At_device device event) answer = 0

abbrev pub admissions_told : ℕ → ℕ → List Happening → ℕ
admissions_told datagram d [] = 0
admissions_told datagram d (h ∷ hs) = admission_in datagram d h.event h.answer + admissions_told datagram d hs

-- each datagram without a stamp that a dispatch sent which belongs to an arrival was admitted at most so often at each device
abbrev pub ToldWithin : ℕ → List Happening → Cause → Type 0
ToldWithin repeats trace arrival =
    (sender : Cause) (at datagram d : ℕ) (message : Message) → Belongs trace arrival sender → Sends trace at sender datagram message → message.stamp ≡ None → admissions_told datagram d trace ≤ repeats

-- ---- roots are arrivals

-- the roots of a world are the arrivals so far, one each
pub record AreArrivals (arrival_of : ℕ → Cause) (opening_of : ℕ → Place) (trace : List Happening) (w : World) : Type 0 where
  pub arrives : (n : ℕ) → IsOpened w n → IsArrival trace w (arrival_of n)
  pub differ : (m n : ℕ) → IsOpened w m → IsOpened w n → arrival_of m ≡ arrival_of n → m ≡ n
  pub each : (c : Cause) → IsArrival trace w c → (n : ℕ) × IsOpened w n × (arrival_of n ≡ c)
  -- each cause that a device opened belongs to one arrival
  pub belongs : (c : Cause) → HasOpened w c → (n : ℕ) × IsOpened w n × Belongs trace (arrival_of n) c
  pub apart : (m n : ℕ) (c : Cause) → IsOpened w m → IsOpened w n → Belongs trace (arrival_of m) c → Belongs trace (arrival_of n) c → m ≡ n
  -- the steps of a root are those that were told of the dispatches which belong to its arrival
  pub steps : (n : ℕ) → IsOpened w n → Told trace (arrival_of n) trace (w.roots n).steps
  pub openings : (n : ℕ) → IsOpened w n → (w.roots n).opening ≡ opening_of n

-- a run has one numbering of arrivals, and of their openings
pub record HasArrivals (system : System) (cert : Certificate) (old : World) (es : List WorldEvent) (as' : List WorldAnswer) (new : World) (run : WorldRun system cert old es as' new) : Type 0 where
  pub arrival_of : ℕ → Cause
  pub opening_of : ℕ → Place
  pub roots : AtEach (AreArrivals arrival_of opening_of) system cert [] old es as' new run
  -- an entry of the arrival's cause was pending with its opening, and none with another
  pub opened : (n : ℕ) → IsOpened new n → WasPending system cert (arrival_of n) (opening_of n) old es as' new run
  pub alone : (n : ℕ) (opening : Place) → IsOpened new n → WasPending system cert (arrival_of n) opening old es as' new run → opening ≡ opening_of n
  -- the admissions that are counted for a root are those that were told
  pub within : (n repeats : ℕ) → IsOpened new n → repeats ≤ 255 → AreWithin repeats n new.datagrams ↔ ToldWithin repeats (trace_of es as') (arrival_of n)

-- ---- what arrivals cost

-- the steps that a run tells of all dispatches which belong to an arrival are at most the FAR of its opening
abbrev pub BoundsArrivals : System → Certificate → World → Type 0
BoundsArrivals system cert old =
    (es : List WorldEvent) (as' : List WorldAnswer) (new : World) (repeats total : ℕ) (arrival : Cause) (opening : Place) (run : WorldRun system cert old es as' new) → cert.repeats ≡ Some repeats → repeats ≤ 255
    → IsArrival (trace_of es as') new arrival → WasPending system cert arrival opening old es as' new run → Told (trace_of es as') arrival (trace_of es as') total → ToldWithin repeats (trace_of es as') arrival → total ≤ (far_of cert).weight opening

-- what an event does to the measures of roots, where the certificate has a row REPEATS
abbrev pub Falls : System → Certificate → World → WorldEvent → WorldAnswer → World → Type 0
Falls system cert old event answer new = (repeats : ℕ) → cert.repeats ≡ Some repeats → MeasureFalls system cert repeats old event answer new

-- and what a run does
abbrev pub FallsOver : System → Certificate → World → List WorldEvent → List WorldAnswer → World → Type 0
FallsOver system cert old es as' new = (repeats : ℕ) → cert.repeats ≡ Some repeats → (run : WorldRun system cert old es as' new) → MeasureFallsOver system cert repeats old es as' new run

-- a run from the first world leads to this one, and its roots are its arrivals
pub record IsTold (system : System) (cert : Certificate) (w : World) : Type 0 where
  pub first : World
  pub events : List WorldEvent
  pub answers : List WorldAnswer
  pub is_first : IsFirst system first
  pub run : WorldRun system cert first events answers w
  pub arrivals : HasArrivals system cert first events answers w run
