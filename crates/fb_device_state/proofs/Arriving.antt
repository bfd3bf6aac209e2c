-- An arrival by numbers is one of the book's machine.
use Rattle.std.proofs.Common.{◌≡◌, ℕ, ℤ, ◌+◌, ◌-◌, ◌<◌, ◌≤◌, ◌^◌, List, [], ◌∷◌, ◌++◌, map, length, length-append, set, slice_get, Option, Some, None, true, string_bytes, eqb, eq-eqb, refl, sym, ◌∙◌, ap, subst, arith, inl, inr}
use Rattle.std.specs.Prelude.{IfSome}
use Rattle.std.specs.Option.{SomeIff}
use Rattle.std.proofs.Math.Nat.{lt_of_not-le}
use Rattle.std.specs.List.{AllByRecursion}
use Rattle.std.proofs.lemmas.List.{length-map, map-append}
use Rattle.std.proofs.lemmas.Bool.{cond-true}
use Rattle.arrayvec.specs.ArrayVec.{ArrayVec}
use Rattle.fb_model.specs.Names.{Place, at_place, is_in}
use Rattle.fb_model.specs.System as system
use Rattle.fb_model.specs.System.{Device}
use Rattle.fb_model.specs.Wires.{Leaf, leaves, leaf_at}
use Rattle.fb_model.specs.Ranges.{IsMessage}
use Rattle.fb_model.specs.Certificates.{Certificate, events_of, IsWired}
use Rattle.fb_model.specs.Devices as book
use Rattle.fb_model.specs.Devices.{Machine, Arrival, HasRoom, put, held, places_row, place_of, admitted}
use Rattle.fb_model.specs.Headline.{IsSound}
use Rattle.fb_model.proofs.Homes.{homes}
use Rattle.fb_model.proofs.Admitting.{sound_admitted}
use Rattle.fb_model.proofs.Ending.{depth_le}
use Rattle.fb_lists.proofs.Lists.{all_got, same_at}
use Rattle.st_exec.specs.Cells.{Form, forms_of}
use Rattle.fb_chart.specs.declared.table.Point.{Point}
use Rattle.fb_chart.specs.declared.table.Event.{Event}
use Rattle.fb_chart.specs.declared.table.Block.{Block}
use Rattle.fb_device_tables.specs.declared.table.Resource.{Resource}
use Rattle.fb_device_tables.specs.Views.{place_at}
use Rattle.fb_device_tables.specs.Tables.{IsPoint, AreResources}
use Rattle.fb_chart.specs.declared.memory.Memory.{Memory}
use Rattle.fb_sched.specs.Agenda.{Agenda, IsAgenda, IsNew, all_places, reactions_in}
use Rattle.fb_sched.specs.Changes.{Opens}
use Rattle.fb_sched.specs.Entries.{entries, arrival_entry, booked}
use Rattle.fb_sched.proofs.Marked.{places_held, no_more_reactions}
use Rattle.fb_sched.proofs.Pending.{opens_pending}
use Rattle.fb_sched.proofs.Entries.{opens_entries}
use Rattle.fb_sched.proofs.Steps.{opens_steps}
use Rattle.fb_sched.specs.Order.{Timing}
use Rattle.fb_sched.specs.Expiry.{AreArmed}
use Rattle.fb_device_state.specs.declared.program.Program.{Program}
use Rattle.fb_device_state.specs.declared.program.Running.{Running}
use Rattle.fb_device_state.specs.declared.admission.Shortage.TheVariants.{Places}
use Rattle.fb_device_state.specs.Sessions.{session_of, next_of}
use Rattle.fb_device_state.specs.Machines.{device_in, cert_in, entries_in, standing, store_from, spent_in, machine, machine_of}
use Rattle.fb_device_state.specs.Keeping.{AllStand, IsQueue, IsGood}
use Rattle.fb_device_state.specs.Arrivals.{IsArrival, IsShort}
use Rattle.fb_device_state.proofs.Blocks.{Known, known, places_are, within, is_in_at}
use Rattle.fb_device_state.proofs.Queued.{queue_here, queues_is, spent_put, not_here, no_steps}
use Rattle.fb_device_state.proofs.Kept.{set_cases, set_count, opens_placed}
use Rattle.fb_device_state.proofs.Moved.{program_moved}

-- ---- resources

pub resource_count : (cert : Certificate) (device : Device) (n : ℕ) (xs : List Resource) (rs : List system.Resource) → AreResources cert device n xs rs → length xs ≡ length rs
resource_count cert device n [] [] a = refl
resource_count cert device n (x ∷ xs) (r ∷ rs) a = omega (arith, resource_count cert device (n + 1) xs rs a.2)
resource_count cert device n [] (r ∷ rs) a = absurd a
resource_count cert device n (x ∷ xs) [] a = absurd a

-- ---- numbers of causes

-- the cause after one; after the last there is none
pub next_up : (o : Option ℕ) (c : ℕ) → SomeIff o (c + 1 < 18446744073709551616) (c + 1) → c < 2 ^ 64 → next_of o ≡ c + 1
next_up None c h few = omega (arith, few, not_less (c + 1) 18446744073709551616 h)
  where
    not_less : (a b : ℕ) → (a < b → ⊥) → b ≤ a
    not_less a b n = omega (arith, lt_of_not-le {n = a + 1} {m = b} (λ k. n (omega (arith, k))))
next_up (Some x) c h few = h.1

pub next_in_range : (o : Option ℕ) (c : ℕ) → SomeIff o (c + 1 < 18446744073709551616) (c + 1) → IfSome o (λ n. n < 2 ^ 64)
next_in_range None c h = tt
next_in_range (Some x) c h = omega (arith, h.0, h.1)

pub cause_in_range : (o : Option ℕ) (c : ℕ) → IfSome o (λ n. n < 2 ^ 64) → o ≡ Some c → c < 2 ^ 64
cause_in_range None c h e = cc
cause_in_range (Some x) c h e = (let f : x ≡ c = cc in omega (arith, h, f))

pub next_is : (o : Option ℕ) (c : ℕ) → o ≡ Some c → next_of o ≡ c
next_is o c e = ap next_of e

module _ (p : Program) (r : Running) (g : IsGood p r) (point : Point) (ws : ArrayVec ℤ) (a : Arrival) (is : IsArrival (leaves (device_in (session_of p r))) point ws.items a) where
  abbrev cert : Certificate
  cert = cert_in (session_of p r)

  abbrev device : Device
  device = device_in (session_of p r)

  abbrev all : List Leaf
  all = leaves (device_in (session_of p r))

  abbrev m : Machine
  m = machine_of (session_of p r)

  abbrev owns : List (List Form)
  owns = map forms_of r.memory.own.items

  abbrev issues : List (List Form)
  issues = map forms_of r.memory.issued.items

  pub is_point : IsPoint all point
  is_point = record { leaf = a.leaf; block = is.leaf; event = within (events_of a.leaf.kind) point.event a.event is.event }

  pub k : Known cert all issues owns issues p.tables.blocks.items p.tables.ports.items point
  k = known cert all issues owns issues p.tables.blocks.items p.tables.ports.items point g.program.tables.blocks is_point

  leaf_is : k.leaf ≡ a.leaf
  leaf_is = (let e : Some k.leaf ≡ Some a.leaf = sym k.leaf_stands ∙ is.leaf in cc)

  name_is : string_bytes k.event.name ≡ a.event
  name_is = (let e : Some (string_bytes k.event.name) ≡ Some a.event = sym k.name_is ∙ ap (λ (l : Leaf). slice_get (events_of l.kind) point.event) leaf_is ∙ is.event in cc)

  pub place_is : place_at all point ≡ place_of a
  place_is = k.place_is ∙ ap (λ (l : Leaf). at_place l.path (string_bytes k.event.name)) leaf_is ∙ ap (at_place a.leaf.path) name_is

  pub needs_is : k.event.places ≡ places_row cert (place_of a)
  needs_is = places_are cert all issues owns issues p.tables.blocks.items p.tables.ports.items point k ∙ ap (places_row cert) place_is

  pub home_is : k.at.block.resource ≡ a.leaf.home
  home_is = k.at.is.home ∙ ap (λ (l : Leaf). l.home) leaf_is

  pub in_queues : a.leaf.home < length r.queues.items
  in_queues = omega (arith, all_got (λ (l : Leaf). l.home < length device.resources) all point.block a.leaf (homes device) is.leaf, resource_count cert device 0 p.tables.resources.items device.resources g.program.tables.resources, g.count)

  found : leaf_at all a.leaf.path ≡ Some a.leaf
  found = (all_got (IsWired all) all point.block a.leaf g.program.holds.wired is.leaf).found

  listed : is_in a.event (events_of a.leaf.kind) ≡ true
  listed = is_in_at (events_of a.leaf.kind) point.event a.event is.event

  -- what stands at the numbers of the point
  module _ (b : Block) (b_is : slice_get p.tables.blocks.items point.block ≡ Some b) where
    same_block : k.at.block ≡ b
    same_block = same_at p.tables.blocks.items point.block k.at.block b k.at.stands b_is

    pub home_of : b.resource ≡ a.leaf.home
    home_of = ap (λ (y : Block). y.resource) (sym same_block) ∙ home_is

    pub event_in : point.event < length b.events.items
    event_in = omega (arith, within k.at.block.events.items point.event k.event k.event_stands, ap (λ (y : Block). length y.events.items) same_block)

    pub queue_in : b.resource < length r.queues.items
    queue_in = omega (arith, home_of, in_queues)

    pub places_of_event : (e : Event) → slice_get b.events.items point.event ≡ Some e → e.places ≡ k.event.places
    places_of_event e h = ap (λ (y : Event). y.places) (same_at b.events.items point.event e k.event h (ap (λ (y : Block). slice_get y.events.items point.event) (sym same_block) ∙ k.event_stands))

    pub queue_at_home : (x : Agenda) → slice_get r.queues.items b.resource ≡ Some x → slice_get r.queues.items a.leaf.home ≡ Some x
    queue_at_home x h = ap (slice_get r.queues.items) (sym home_of) ∙ h

  pub block_in : point.block < length p.tables.blocks.items
  block_in = within p.tables.blocks.items point.block k.at.block k.at.stands

  module _ (x : Agenda) (x_is : slice_get r.queues.items a.leaf.home ≡ Some x) where
    pub queue : IsQueue cert device a.leaf.home x
    queue = g.queues a.leaf.home x x_is

    queue_is : m.queues a.leaf.home ≡ entries_in all x
    queue_is = ap (entries_in all) (queue_here r.queues.items a.leaf.home x x_is)

    held_is : held (places_row cert) (m.queues a.leaf.home) ≡ all_places x.slots
    held_is = ap (held (places_row cert)) queue_is ∙ places_held x (places_row cert) (place_at all) queue.agenda queue.pending queue.placed.weighs

    pub lacks : (needs free : ℕ) → needs ≡ k.event.places → free ≡ x.room - all_places x.slots → free < needs → IsShort cert device m a (Places needs free)
    lacks needs free n f l = (n ∙ needs_is, omega (arith, f, queue.room, held_is), l)

    pub credit_of : (needs free : ℕ) → needs ≡ k.event.places → free ≡ x.room - all_places x.slots → needs ≤ free → all_places x.slots + k.event.places ≤ x.room
    credit_of needs free n f l = omega (arith, n, f, l, queue.agenda.credit)

    -- credit
    module _ (credit : all_places x.slots + k.event.places ≤ x.room) (fresh : next_of r.next < 2 ^ 64) where
      pub has_room : HasRoom cert device m a
      has_room = record { credit = omega (arith, credit, held_is, needs_is, queue.room); number = fresh }

      sound : IsSound cert device (admitted m a)
      sound = sound_admitted cert device m g.sound a found listed (subst (IsMessage a.leaf.kind) (sym is.same) is.message) has_room.credit

      pub fits_queue : length x.tickets < x.room
      fits_queue =
          let deep = depth_le cert device g.program.holds (admitted m a) sound a.leaf.home in
          let here = cond-true (eqb a.leaf.home a.leaf.home) (m.queues a.leaf.home ++ record { cause = m.next; opening = place_of a; place = place_of a; values = a.values } ∷ []) (m.queues a.leaf.home) (eq-eqb a.leaf.home a.leaf.home refl) in
          let many = length-append (m.queues a.leaf.home) (record { cause = m.next; opening = place_of a; place = place_of a; values = a.values } ∷ []) in
          omega (arith, deep, ap length here, many, ap length queue_is, length-map (entries x) (booked (place_at all)), length-map x.tickets (λ t. Rattle.fb_sched.specs.Entries.entry_by (Rattle.fb_sched.specs.Agenda.slot_at x.slots t.slot) t), queue.room)

      pub fits_slots : reactions_in x.slots < x.room
      fits_slots = omega (arith, fits_queue, no_more_reactions x queue.agenda queue.pending)

      pub is_new : IsNew (next_of r.next) x.slots
      is_new = not_here cert device m g.sound a.leaf.home x queue.agenda queue_is (next_of r.next) queue.pending (λ h l. omega (arith, l))

      none_else : (j : ℕ) (b : Agenda) → (a.leaf.home ≡ j → ⊥) → slice_get r.queues.items j ≡ Some b → Rattle.fb_sched.specs.Steps.spent b (next_of r.next) ≡ 0
      none_else j b n h =
          let q = g.queues j b h in
          no_steps cert device m g.sound j b q.agenda (ap (entries_in all) (queue_here r.queues.items j b h)) (next_of r.next) q.pending (λ h l. omega (arith, l))

      module _ (y : Agenda) (places : ℕ) (agenda : IsAgenda y) (opens : Opens x (next_of r.next) point places ws y) (same : places ≡ k.event.places) where
        entries_are : entries_in all y ≡ m.queues a.leaf.home ++ record { cause = m.next; opening = place_of a; place = place_of a; values = a.values } ∷ []
        entries_are =
            ap (map (booked (place_at all))) (opens_entries x y (next_of r.next) point places ws queue.agenda opens)
            ∙ map-append (booked (place_at all)) (entries x) (arrival_entry (next_of r.next) point ws ∷ [])
            ∙ ap (λ es. es ++ booked (place_at all) (arrival_entry (next_of r.next) point ws) ∷ []) (sym queue_is)
            ∙ ap (λ (o : Place). m.queues a.leaf.home ++ record { cause = next_of r.next; opening = o; place = o; values = ws.items } ∷ []) place_is
            ∙ ap (λ (vs : List ℤ). m.queues a.leaf.home ++ record { cause = next_of r.next; opening = place_of a; place = place_of a; values = vs } ∷ []) (sym is.same)

        spent_is : spent_in (set r.queues.items a.leaf.home y) ≡ put m.spent m.next 0
        spent_is = spent_put r.queues.items a.leaf.home x y (next_of r.next) 0 x_is none_else (opens_steps x y (next_of r.next) point places ws queue.agenda agenda is_new opens)

        -- the machine with another queue and the next number
        pub machine_so : machine all (set r.queues.items a.leaf.home y) (standing r.memory.own.items r.memory.issued.items r.memory.conditions.items) r.clock (next_of r.next + 1) ≡ admitted m a
        machine_so =
            ap (λ (f : ℕ → List book.Entry). record { queues = f; store = m.store; spent = spent_in (set r.queues.items a.leaf.home y); clock = r.clock; next = next_of r.next + 1 }) (queues_is all r.queues.items a.leaf.home x y x_is)
            ∙ ap (λ es. record { queues = put m.queues a.leaf.home es; store = m.store; spent = spent_in (set r.queues.items a.leaf.home y); clock = r.clock; next = next_of r.next + 1 }) entries_are
            ∙ ap (λ f. record { queues = put m.queues a.leaf.home (m.queues a.leaf.home ++ record { cause = m.next; opening = place_of a; place = place_of a; values = a.values } ∷ []); store = m.store; spent = f; clock = r.clock; next = next_of r.next + 1 }) spent_is

        queue_now : IsQueue cert device a.leaf.home y
        queue_now = record {
          agenda = agenda;
          room = opens.room ∙ queue.room;
          placed = opens_placed cert all x y (next_of r.next) point places ws opens is_point (same ∙ needs_is ∙ ap (places_row cert) (sym place_is)) queue.placed;
          pending = opens_pending x y (next_of r.next) point places ws opens queue.pending;
        }

        queues_now : (j : ℕ) (b : Agenda) → slice_get (set r.queues.items a.leaf.home y) j ≡ Some b → IsQueue cert device j b
        queues_now j b h =
            elim (set_cases r.queues.items a.leaf.home j y b h) [
              | inl e ↦ subst (λ (i : ℕ). IsQueue cert device i b) e.0 (subst (IsQueue cert device a.leaf.home) e.1 queue_now)
              | inr e ↦ g.queues j b e.1
            ]

        module _ (new : Running) (queues : new.queues.items ≡ set r.queues.items a.leaf.home y) (memory : new.memory ≡ r.memory) (timers : new.timers ≡ r.timers) (outbox : new.outbox ≡ r.outbox) (clock : new.clock ≡ r.clock) (next : next_of new.next ≡ next_of r.next + 1)
            (in_range : IfSome new.next (λ n. n < 2 ^ 64)) where
          pub machine_is : machine_of (session_of p new) ≡ admitted m a
          machine_is =
              ap (λ us. machine all us (standing new.memory.own.items new.memory.issued.items new.memory.conditions.items) new.clock (next_of new.next)) queues
              ∙ ap (λ (h : Memory). machine all (set r.queues.items a.leaf.home y) (standing h.own.items h.issued.items h.conditions.items) new.clock (next_of new.next)) memory
              ∙ ap (λ c. machine all (set r.queues.items a.leaf.home y) (standing r.memory.own.items r.memory.issued.items r.memory.conditions.items) c (next_of new.next)) clock
              ∙ ap (λ n. machine all (set r.queues.items a.leaf.home y) (standing r.memory.own.items r.memory.issued.items r.memory.conditions.items) r.clock n) next ∙ machine_so

          pub good_so : IsGood p new
          good_so = record {
            program = program_moved p r new (ap (λ (h : Memory). map forms_of h.own.items) memory) (ap (λ (h : Memory). map forms_of h.issued.items) memory) g.program;
            sound = subst (IsSound cert device) (sym machine_is) sound;
            stand = subst (λ (h : Memory). AllStand all h.own.items h.issued.items h.conditions.items) (sym memory) g.stand;
            count = ap length queues ∙ set_count r.queues.items a.leaf.home y ∙ g.count;
            queues = λ j b h. queues_now j b (ap (λ us. slice_get us j) (sym queues) ∙ h);
            armed = subst (λ (t : Timing). AreArmed (store_from 0 all (standing new.memory.own.items new.memory.issued.items new.memory.conditions.items)) all t.armed) (sym timers)
                (subst (λ (h : Memory). AreArmed (store_from 0 all (standing h.own.items h.issued.items h.conditions.items)) all r.timers.armed) (sym memory) g.armed);
            timers = subst (λ (t : Timing). length all ≤ t.room) (sym timers) g.timers;
            outbox = ap (λ o. o.items) outbox ∙ g.outbox;
            wide = subst (λ o. AllByRecursion (λ (x : Resource). x.depth ≤ o.capacity) p.tables.resources.items) (sym outbox) g.wide;
            next = in_range;
          }
