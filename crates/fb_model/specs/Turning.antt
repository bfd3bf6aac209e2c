-- A turn of a device over a link: the clock, the datagrams that came in, and one dispatch of each resource.
-- This project's profile.
use Rattle.std.specs.Prelude.{◌≡◌, ℕ, ℤ, ◌+◌, ◌<◌, ◌≤◌, List, [], ◌∷◌, ◌++◌, map, length, Bool, true, false, if◌then◌else◌, Option, Some, None}
use Rattle.std.specs.List.{flat_map, sum_by, AllByRecursion}
use Rattle.fb_model.specs.System.{Device}
use Rattle.fb_model.specs.Messages.{spelling}
use Rattle.fb_model.specs.Serving.{Effect, Send, Write}
use Rattle.fb_model.specs.Certificates.{Certificate}
use Rattle.fb_model.specs.Devices.{Machine, Event, Deliver, Tick, Dispatch, Answer, Admitted, Denied, Expired, Idle, Ran, Run}
use Rattle.fb_words.specs.Links.{LinkCall, Handed, Silent, Broken, Sent}

-- these calls, one after another, lead from the first state to the last
abbrev pub Chain : {S C : Type 0} → (S → C → S → Type 0) → S → List C → S → Type 0
Chain does s [] t = s ≡ t
Chain {S} {C} does s (c ∷ cs) t = (m : S) × does s c m × Chain does m cs t

-- a datagram that came, as much of it as there is room for, and what the device answered to it
pub record Receipt : Type 0 where
  pub bytes : List ℕ
  pub answer : Answer

-- how the receives ended: after the sixteenth, where no datagram was there, or where the link failed
pub data Close : Type 0 where
  Sixteenth : Close
  Quiet : Close
  Cut : Close

abbrev pub delivery : Receipt → Event
delivery r = Deliver r.bytes

abbrev pub handing : Receipt → LinkCall
handing r = Handed 160 r.bytes

abbrev pub close_calls : Close → List LinkCall
close_calls Sixteenth = []
close_calls Quiet = Silent ∷ []
close_calls Cut = Broken ∷ []

abbrev pub ClosesAt : Close → ℕ → Type 0
ClosesAt Sixteenth n = n ≡ 16
ClosesAt Quiet n = n < 16
ClosesAt Cut n = n < 16

abbrev pub is_cut : Close → Bool
is_cut Cut = true
is_cut Quiet = false
is_cut Sixteenth = false

abbrev pub denials_of : Answer → ℕ
denials_of (Denied why) = 1
denials_of (Admitted cause) = 0
denials_of (Expired count) = 0
denials_of Idle = 0
denials_of (Ran cause place steps effect ended) = 0

-- 1 where a datagram was denied
abbrev pub denials : Receipt → ℕ
denials r = denials_of r.answer

-- what a dispatch answered, and whether the link took what it sends, where it does
pub record Service : Type 0 where
  pub answer : Answer
  pub taken : Bool

abbrev pub effect_of : Answer → Option Effect
effect_of (Ran cause place steps effect ended) = effect
effect_of (Admitted cause) = None
effect_of (Denied why) = None
effect_of (Expired count) = None
effect_of Idle = None

-- what an OUTPUT writes: its number, and its values
pub record Written : Type 0 where
  pub number : ℕ
  pub values : List ℤ

-- what the link is given for an effect, and what an OUTPUT writes
abbrev pub sends_for : Option Effect → Bool → List LinkCall
sends_for (Some (Send message)) taken = Sent (spelling message) taken ∷ []
sends_for (Some (Write number values)) taken = []
sends_for None taken = []

abbrev pub writes_for : Option Effect → List Written
writes_for (Some (Write number values)) = record { number = number; values = values } ∷ []
writes_for (Some (Send message)) = []
writes_for None = []

abbrev pub sends : Service → List LinkCall
sends s = sends_for (effect_of s.answer) s.taken

abbrev pub writes : Service → List Written
writes s = writes_for (effect_of s.answer)

-- 1 where a block ran, where the link took what was sent, and where it was lost
abbrev pub runs_of : Answer → ℕ
runs_of (Ran cause place steps effect ended) = 1
runs_of (Admitted cause) = 0
runs_of (Denied why) = 0
runs_of (Expired count) = 0
runs_of Idle = 0

abbrev pub taken_in : Option Effect → Bool → ℕ
taken_in (Some (Send message)) taken = if taken then 1 else 0
taken_in (Some (Write number values)) taken = 0
taken_in None taken = 0

abbrev pub lost_in : Option Effect → Bool → ℕ
lost_in (Some (Send message)) taken = if taken then 0 else 1
lost_in (Some (Write number values)) taken = 0
lost_in None taken = 0

abbrev pub runs : Service → ℕ
runs s = runs_of s.answer

abbrev pub takings : Service → ℕ
takings s = taken_in (effect_of s.answer) s.taken

abbrev pub losses : Service → ℕ
losses s = lost_in (effect_of s.answer) s.taken

-- a datagram that came and what was answered, or what a dispatch answered and whether the link took what was sent
pub data Sight : Type 0 where
  Came : (bytes : List ℕ) → (answer : Answer) → Sight
  Served : (answer : Answer) → (taken : Bool) → Sight

abbrev pub coming : Receipt → Sight
coming r = Came r.bytes r.answer

abbrev pub serving : Service → Sight
serving s = Served s.answer s.taken

-- the dispatches of the resources from this number on
abbrev pub each_once : ℕ → List Service → List Event
each_once q [] = []
each_once q (s ∷ ss) = Dispatch q ∷ each_once (q + 1) ss

pub record Turn : Type 0 where
  pub fired : ℕ
  pub receipts : List Receipt
  pub close : Close
  pub services : List Service

-- the events of a turn, and what the device answered to them
abbrev pub events_of : ℕ → Turn → List Event
events_of now t = Tick now ∷ (map delivery t.receipts ++ each_once 0 t.services)

abbrev pub answers_of : Turn → List Answer
answers_of t = Expired t.fired ∷ (map (λ r. r.answer) t.receipts ++ map (λ s. s.answer) t.services)

-- the calls of the link
abbrev pub link_calls_of : Turn → List LinkCall
link_calls_of t = map handing t.receipts ++ (close_calls t.close ++ flat_map sends t.services)

-- all that is seen of a turn, in order
abbrev pub sights_of : Turn → List Sight
sights_of t = map coming t.receipts ++ map serving t.services

-- the calls of a link that failed
abbrev pub failures_of : Turn → ℕ
failures_of t = (if is_cut t.close then 1 else 0) + sum_by losses t.services

-- a turn is the run of exactly these events, with exactly these calls of the link, and just this is seen of it
pub record IsTurn {L W : Type 0} (cert : Certificate) (device : Device) (calls : L → LinkCall → L → Type 0) (count : L → ℕ) (sees : W → Sight → W → Type 0) (now : ℕ) (s : Machine) (l : L) (w : W) (turn : Turn) (t : Machine) (m : L) (v : W) : Type 0 where
  pub device_run : Run cert device s (events_of now turn) (answers_of turn) t
  pub link_run : Chain calls l (link_calls_of turn) m
  pub seen : Chain sees w (sights_of turn) v
  pub datagrams : AllByRecursion (λ r. length r.bytes ≤ 160) turn.receipts
  pub closes : ClosesAt turn.close (length turn.receipts)
  pub counted : count m ≡ count l + failures_of turn
