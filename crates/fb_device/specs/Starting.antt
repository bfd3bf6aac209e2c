-- A device to which nothing has happened.
use Rattle.std.specs.Prelude.{ℕ, ◌≡◌, ◌≤◌, List, [], ◌∷◌, map, length, Some, slice_get}
use Rattle.std.specs.List.{AllByRecursion}
use Rattle.fb_model.specs.System.{Device, Input, Output, Publish, Subscribe, Delay, Cycle, Restart}
use Rattle.fb_model.specs.Wires.{Kind, Charted, Serviced, leaves}
use Rattle.fb_verified.specs.Checked.{system_in}
use Rattle.fb_verified.specs.declared.verified.Verified.{Verified}
use Rattle.fb_chart.specs.declared.table.Block.{Block}
use Rattle.fb_chart.specs.Views.{kind_of}
use Rattle.fb_words.specs.declared.format.Format.{Format}
use Rattle.fb_words.specs.declared.format.Format.TheVariants.{First, Second}
use Rattle.fb_wire.specs.declared.message.Stamp.{Stamp}
use Rattle.fb_chart.specs.declared.standing.Stamps.{Stamps}
use Rattle.fb_chart.specs.declared.standing.Stamps.TheVariants.{Unstamped, Upcoming, Latest}
use Rattle.fb_chart.specs.declared.standing.Standing.TheVariants.{Closed, Quiet, Plain}
use Rattle.fb_device_values.specs.First.{HaveFirstCells}
use Rattle.fb_device_values.specs.declared.first.FirstValues.{FirstValues}
use Rattle.fb_device_tables.specs.declared.table.Resource.{Resource}
use Rattle.fb_device_tables.specs.declared.table.Tables.{Tables}
use Rattle.fb_chart.specs.declared.memory.Condition.{Condition}
use Rattle.fb_chart.specs.declared.memory.Condition.TheVariants.{State, Service}
use Rattle.fb_sched.specs.Agenda.{Agenda, IsAgenda}
use Rattle.fb_device_state.specs.declared.program.Running.{Running}

-- what a PUBLISH and a SUBSCRIBE of a format keep at first
abbrev pub upcoming_of : Stamp → Format → Stamps
upcoming_of stamp First = Unstamped
upcoming_of stamp Second = Upcoming stamp

abbrev pub latest_of : Format → Stamps
latest_of First = Unstamped
latest_of Second = Latest (record { boot = 0; sequence = 0 })

-- what a leaf remembers at first: a chart its initial state, a PUBLISH the stamp of its first message
abbrev pub first_of : Stamp → Kind → Condition
first_of stamp (Charted block) = State 0
first_of stamp (Serviced (Publish channel types)) = Service (Closed (upcoming_of stamp channel.format))
first_of stamp (Serviced (Subscribe channel types)) = Service (Closed (latest_of channel.format))
first_of stamp (Serviced Delay) = Service Quiet
first_of stamp (Serviced Cycle) = Service Quiet
first_of stamp (Serviced (Input number types)) = Service Plain
first_of stamp (Serviced (Output number types)) = Service Plain
first_of stamp (Serviced Restart) = Service Plain

-- an empty queue for each resource, with room for its depth
abbrev pub AreEmpty : List Resource → List Agenda → Type 0
AreEmpty [] [] = Unit {0}
AreEmpty (x ∷ xs) (a ∷ as') = (a ≡ record { tickets = []; slots = []; room = x.depth }) × IsAgenda a × AreEmpty xs as'
AreEmpty [] (a ∷ as') = ⊥
AreEmpty (x ∷ xs) [] = ⊥

-- a device of these tables with these values, before its first cause, and with the stamp of its first messages
pub record IsAtRest (t : Tables) (values : FirstValues) (first : ℕ) (stamp : Stamp) (r : Running) : Type 0 where
  pub own : r.memory.own ≡ values.own
  pub issued : r.memory.issued ≡ values.issued
  pub conditions : r.memory.conditions.items ≡ map (λ (x : Block). first_of stamp (kind_of x)) t.blocks.items
  pub queues : AreEmpty t.resources.items r.queues.items
  pub armed : r.timers.armed ≡ []
  pub timers : length t.blocks.items ≤ r.timers.room
  pub outbox : r.outbox.items ≡ []
  pub wide : AllByRecursion (λ (x : Resource). x.depth ≤ r.outbox.capacity) t.resources.items
  pub clock : r.clock ≡ 0
  pub next : r.next ≡ Some first

-- how a device of these tables stands at first, the one of this number in what was checked
pub record IsSetUp (v : Verified) (k first : ℕ) (stamp : Stamp) (values : FirstValues) (t : Tables) (r : Running) : Type 0 where
  pub lies : (d : Device) → slice_get (system_in v).devices k ≡ Some d → HaveFirstCells (leaves d) values.own.items values.issued.items
  pub rest : IsAtRest t values first stamp r
