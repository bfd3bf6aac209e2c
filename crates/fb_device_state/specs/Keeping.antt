-- What holds of the fields of every device.
use Rattle.std.specs.Prelude.{IfSome, ℕ, ◌≡◌, ◌<◌, ◌≤◌, ◌^◌, List, [], map, length, Some, slice_get}
use Rattle.std.specs.List.{AllByRecursion}
use Rattle.fb_model.specs.System.{Device}
use Rattle.fb_model.specs.Wires.{Leaf, leaves}
use Rattle.fb_model.specs.Certificates.{Certificate, DeviceHolds, depth_of}
use Rattle.fb_model.specs.Devices.{places_row}
use Rattle.fb_model.specs.Headline.{IsSound}
use Rattle.st_exec.specs.Cells.{Cell, forms_of}
use Rattle.fb_chart.specs.Sampling.{AreStores}
use Rattle.fb_verified.specs.Checked.{IsChecked}
use Rattle.fb_device_tables.specs.declared.table.Resource.{Resource}
use Rattle.fb_device_tables.specs.Views.{place_at}
use Rattle.fb_device_tables.specs.Tables.{IsPoint, AreTables}
use Rattle.fb_chart.specs.declared.memory.Condition.{Condition}
use Rattle.fb_chart.specs.Conditions.{IsConditionOf}
use Rattle.fb_sched.specs.declared.ticket.Ticket.{Ticket}
use Rattle.fb_sched.specs.declared.reaction.Reaction.{Reaction}
use Rattle.fb_sched.specs.Agenda.{Agenda, IsAgenda, slot_at}
use Rattle.fb_sched.specs.Entries.{AllPending, Weighs}
use Rattle.fb_sched.specs.Expiry.{AreArmed}
use Rattle.fb_device_state.specs.declared.program.Program.{Program}
use Rattle.fb_device_state.specs.declared.program.Running.{Running}
use Rattle.fb_device_state.specs.Sessions.{session_of}
use Rattle.fb_device_state.specs.Machines.{device_in, cert_in, machine_of}

-- the leaf of a number has its stores, and remembers what such a leaf does
pub record IsStanding (leaf : Leaf) (k : ℕ) (owns issues : List (List Cell)) (conditions : List Condition) : Type 0 where
  pub own : List Cell
  pub issued : List Cell
  pub condition : Condition
  pub own_is : slice_get owns k ≡ Some own
  pub issued_is : slice_get issues k ≡ Some issued
  pub condition_is : slice_get conditions k ≡ Some condition
  pub stores : AreStores leaf.kind (forms_of own) (forms_of issued)
  pub fits : IsConditionOf leaf.kind condition

abbrev pub AllStand : List Leaf → List (List Cell) → List (List Cell) → List Condition → Type 0
AllStand all owns issues conditions = (k : ℕ) (leaf : Leaf) → slice_get all k ≡ Some leaf → IsStanding leaf k owns issues conditions

-- the points of a queue are events of these leaves, and its causes hold the places of their openings
pub record ArePlaced (cert : Certificate) (all : List Leaf) (a : Agenda) : Type 0 where
  pub points : AllByRecursion (λ (t : Ticket). IsPoint all t.point) a.tickets
  pub openings : (slot : ℕ) (r : Reaction) → slot_at a.slots slot ≡ Some r → IsPoint all r.opening
  pub weighs : Weighs (λ p. places_row cert (place_at all p)) a.slots

-- the queue of the resource of a number between dispatches: it has room for its depth, and each open cause has a pending entry
pub record IsQueue (cert : Certificate) (device : Device) (n : ℕ) (a : Agenda) : Type 0 where
  pub agenda : IsAgenda a
  pub room : a.room ≡ depth_of cert device n
  pub placed : ArePlaced cert (leaves device) a
  pub pending : AllPending a.slots

-- what was checked, and the tables
pub record IsProgram (p : Program) (r : Running) : Type 0 where
  pub checked : IsChecked p.verified.value
  pub holds : DeviceHolds (cert_in (session_of p r)) (device_in (session_of p r))
  pub tables : AreTables (cert_in (session_of p r)) (device_in (session_of p r)) (map forms_of r.memory.own.items) (map forms_of r.memory.issued.items) p.tables
  pub device : p.number < length p.verified.value.typed.devices.items
  pub few : length p.tables.resources.items ≤ 65535

pub record IsGood (p : Program) (r : Running) : Type 0 where
  pub program : IsProgram p r
  pub sound : IsSound (cert_in (session_of p r)) (device_in (session_of p r)) (machine_of (session_of p r))
  pub stand : AllStand (leaves (device_in (session_of p r))) r.memory.own.items r.memory.issued.items r.memory.conditions.items
  pub count : length r.queues.items ≡ length p.tables.resources.items
  pub queues : (n : ℕ) (a : Agenda) → slice_get r.queues.items n ≡ Some a → IsQueue (cert_in (session_of p r)) (device_in (session_of p r)) n a
  -- the timers that are armed are those of the leaves, and there is room for all
  pub armed : AreArmed (machine_of (session_of p r)).store (leaves (device_in (session_of p r))) r.timers.armed
  pub timers : length (leaves (device_in (session_of p r))) ≤ r.timers.room
  -- nothing is left to be entered, and there is room for all that a dispatch emits
  pub outbox : r.outbox.items ≡ []
  pub wide : AllByRecursion (λ (x : Resource). x.depth ≤ r.outbox.capacity) p.tables.resources.items
  pub next : IfSome r.next (λ n. n < 2 ^ 64)
