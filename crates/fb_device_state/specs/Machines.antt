-- The book's machine that a device is.
use Rattle.std.specs.Prelude.{ℕ, ◌+◌, List, [], ◌∷◌, map, sum_by, None, Some, slice_get, if◌then◌else◌}
use Rattle.fb_model.specs.Names.{path_eq}
use Rattle.fb_model.specs.System.{Device}
use Rattle.fb_model.specs.Wires.{Kind, Leaf, leaves}
use Rattle.fb_model.specs.Store.{LeafState, Store, first_store}
use Rattle.fb_model.specs.Certificates.{Certificate}
use Rattle.fb_model.specs.Devices as book
use Rattle.fb_model.specs.Devices.{Machine, first_stamp}
use Rattle.st_exec.specs.Cells.{Cell}
use Rattle.fb_verified.specs.Checked.{system_in, certificate_in}
use Rattle.fb_device_tables.specs.Views.{place_at}
use Rattle.fb_chart.specs.declared.memory.Condition.{Condition}
use Rattle.fb_chart.specs.declared.memory.Condition.TheVariants as c
use Rattle.fb_chart.specs.Conditions.{leaf_state}
use Rattle.fb_sched.specs.Agenda.{Agenda}
use Rattle.fb_sched.specs.Entries.{entries, booked}
use Rattle.fb_sched.specs.Steps.{spent}
use Rattle.fb_device_state.specs.declared.program.Program.{Program}
use Rattle.fb_device_state.specs.declared.program.Running.{Running}
use Rattle.fb_device_state.specs.Sessions.{Session, session_of}

-- ---- the device and its certificate

abbrev pub device_at : List Device → ℕ → Device
device_at devices n = elim (slice_get devices n) [ None ↦ record { name = []; resources = [] } | Some d ↦ d ]

abbrev pub device_in : Session → Device
device_in s = device_at (system_in s.verified).devices s.number

abbrev pub cert_in : Session → Certificate
cert_in s = certificate_in s.verified

-- ---- pending entries, and the steps of causes

-- the queue of a resource; nothing is pending where there is no such resource
abbrev pub queue_at : List Agenda → ℕ → Agenda
queue_at queues q = elim (slice_get queues q) [ None ↦ record { tickets = []; slots = []; room = 0 } | Some a ↦ a ]

-- the pending entries of a queue, whose points are events of these leaves
abbrev pub entries_in : List Leaf → Agenda → List book.Entry
entries_in all a = map (booked (place_at all)) (entries a)

-- the steps so far of a cause, which is open in one resource at most
abbrev pub spent_in : List Agenda → ℕ → ℕ
spent_in queues cause = sum_by (λ (a : Agenda). spent a cause) queues

-- ---- states

abbrev pub cells_at : List (List Cell) → ℕ → List Cell
cells_at stores k = elim (slice_get stores k) [ None ↦ [] | Some cells ↦ cells ]

abbrev pub remembered : List Condition → ℕ → Condition
remembered conditions k = elim (slice_get conditions k) [ None ↦ c.State 0 | Some condition ↦ condition ]

-- the leaf of a number with its values, and what it remembers
abbrev pub standing : List (List Cell) → List (List Cell) → List Condition → ℕ → Kind → LeafState
standing own issued conditions k kind = leaf_state kind (cells_at own k) (cells_at issued k) (remembered conditions k)

-- leaves, the first of this number, in their states
abbrev pub store_from : ℕ → List Leaf → (ℕ → Kind → LeafState) → Store
store_from k [] f p = first_store first_stamp [] p
store_from k (leaf ∷ rest) f p = if path_eq leaf.path p then f k leaf.kind else store_from (k + 1) rest f p

-- ---- the machine

abbrev pub machine : List Leaf → List Agenda → (ℕ → Kind → LeafState) → ℕ → ℕ → Machine
machine all queues f clock next =
    record {
      queues = λ q. entries_in all (queue_at queues q);
      store = store_from 0 all f;
      spent = spent_in queues;
      clock = clock;
      next = next;
    }

abbrev pub machine_of : Session → Machine
machine_of s = machine (leaves (device_in s)) s.queues (standing s.own s.issued s.conditions) s.clock s.next

-- ---- a device in the course of its run: its certificate, itself, its leaves, and where its machine stands

abbrev pub running_rows : Program → Running → Certificate
running_rows p r = cert_in (session_of p r)

abbrev pub running_device : Program → Running → Device
running_device p r = device_in (session_of p r)

abbrev pub running_leaves : Program → Running → List Leaf
running_leaves p r = leaves (running_device p r)

abbrev pub running_state : Program → Running → Machine
running_state p r = machine_of (session_of p r)

-- what happens takes it from one moment of its run to another, with this answer
abbrev pub Steps : Program → Running → book.Event → book.Answer → Running → Type 0
Steps p r happens answer r' = book.Happens (running_rows p r) (running_device p r) (running_state p r) happens answer (running_state p r')
