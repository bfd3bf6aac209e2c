-- The arrival that opened a cause.
use Rattle.std.proofs.Common.{◌≡◌, ◌≢◌, ℕ, suc, ◌+◌, ◌<◌, false, ◌||◌, List, [], ◌∷◌, map, slice_get, Option, Some, None, refl, sym, ◌∙◌, ap, subst, arith, inl, inr}
use Rattle.std.specs.List.{AllByRecursion}
use Rattle.std.proofs.lemmas.Bool.{cases_eq, ne_eqb}
use Rattle.fb_model.specs.Names.{Place}
use Rattle.fb_model.specs.Wires.{Leaf, leaves}
use Rattle.fb_model.specs.Certificates.{Certificate}
use Rattle.fb_model.specs.Devices as book
use Rattle.fb_model.specs.Devices.{is_pending}
use Rattle.fb_model.specs.Headline as headline
use Rattle.st_exec.specs.Cells.{Form, forms_of}
use Rattle.fb_chart.specs.declared.table.Point.{Point}
use Rattle.fb_chart.specs.declared.table.Block.{Block}
use Rattle.fb_device_tables.specs.Views.{place_at}
use Rattle.fb_device_tables.specs.Tables.{IsPoint, far_at}
use Rattle.fb_sched.specs.declared.ticket.Ticket.{Ticket}
use Rattle.fb_sched.specs.declared.reaction.Reaction.{Reaction}
use Rattle.fb_sched.specs.Agenda.{Agenda, IsNew, IsOpen, slot_at, tickets_for}
use Rattle.fb_sched.specs.Entries.{entry_by, booked}
use Rattle.fb_sched.proofs.Slots.{reaction_there}
use Rattle.fb_sched.proofs.Kept.{for_other}
use Rattle.fb_device_state.specs.declared.program.Program.{Program}
use Rattle.fb_device_state.specs.declared.program.Running.{Running}
use Rattle.fb_device_state.specs.Sessions.{session_of}
use Rattle.fb_device_state.specs.Machines.{device_in, cert_in, queue_at, entries_in, machine_of}
use Rattle.fb_device_state.specs.Numbers.{event_at, steps_in, IsKnown}
use Rattle.fb_device_state.specs.Keeping.{IsQueue, IsGood}
use Rattle.fb_device_state.proofs.Blocks.{Known, known, is_known, steps_are, weighs}
use Rattle.fb_lists.proofs.Lists.{same_at}
use Rattle.fb_device_state.proofs.Queued.{queue_here}
use Rattle.fb_device.specs.declared.answer.Opening.{Opening}
use Rattle.fb_device.specs.Openings.{far_in, IsOpeningIn}
use Rattle.fb_device.specs.Answers.{IsOpening}

-- the entries of these tickets, in the book
abbrev booked_of : (Point → Place) → List (Option Reaction) → List Ticket → List book.Entry
booked_of place slots ts = map (booked place) (map (λ (t : Ticket). entry_by (slot_at slots t.slot) t) ts)

-- a cause without a slot has no entry
none_pending : (place : Point → Place) (slots : List (Option Reaction)) (c : ℕ) → IsNew c slots → (ts : List Ticket) → AllByRecursion (λ (t : Ticket). IsOpen slots t.slot) ts → is_pending c (booked_of place slots ts) ≡ false
none_pending place slots c n [] h = refl
none_pending place slots c n (t ∷ ts) h =
    let x = reaction_there (slot_at slots t.slot) h.0 in
    let cause : (entry_by (slot_at slots t.slot) t).cause ≡ x.0.cause = ap (λ (o : Option Reaction). (entry_by o t).cause) x.1 in
    let other : (entry_by (slot_at slots t.slot) t).cause ≢ c = λ q. n t.slot x.0 x.1 (sym cause ∙ q) in
    ap (λ b. b || is_pending c (booked_of place slots ts)) (ne_eqb (entry_by (slot_at slots t.slot) t).cause c other) ∙ none_pending place slots c n ts h.1

-- a cause with a pending entry is open, with the opening of its slot
open_entry : (place : Point → Place) (slots : List (Option Reaction)) (k : ℕ) (r : Reaction) → slot_at slots k ≡ Some r → (ts : List Ticket) → 0 < tickets_for k ts → headline.IsOpen (booked_of place slots ts) r.cause (place r.opening)
open_entry place slots k r e [] h = absurd (omega (arith, h))
open_entry place slots k r e (t ∷ ts) h =
    elim (cases_eq t.slot k) [
      | inl s ↦ (
          let is : slot_at slots t.slot ≡ Some r = ap (slot_at slots) s ∙ e in
          inl (ap (λ (o : Option Reaction). (entry_by o t).cause) is, ap (λ (o : Option Reaction). place (entry_by o t).opening) is)
          )
      | inr n ↦ inr (open_entry place slots k r e ts (omega (arith, h, for_other k t ts n)))
    ]

-- one more queue does not have the cause
pub one_more_without : (qs : List Agenda) (c n : ℕ) (x : Agenda) → slice_get qs n ≡ Some x → IsNew c x.slots → ((q : ℕ) (a : Agenda) → q < n → slice_get qs q ≡ Some a → IsNew c a.slots) → (q : ℕ) (a : Agenda) → q < n + 1 → slice_get qs q ≡ Some a → IsNew c a.slots
one_more_without qs c n x h new before q a l e =
    elim (cases_eq q n) [
      | inl s ↦ subst (λ (b : Agenda). IsNew c b.slots) (same_at qs n x a h (ap (λ k. slice_get qs k) (sym s) ∙ e)) new
      | inr k ↦ before q a (omega (arith, l, k)) e
    ]

module _ (p : Program) (r : Running) (g : IsGood p r) where
  abbrev cert : Certificate
  cert = cert_in (session_of p r)

  abbrev all : List Leaf
  all = leaves (device_in (session_of p r))

  abbrev owns : List (List Form)
  owns = map forms_of r.memory.own.items

  abbrev issues : List (List Form)
  issues = map forms_of r.memory.issued.items

  abbrev blocks : List Block
  blocks = p.tables.blocks.items

  known_point : (point : Point) → IsPoint all point → Known cert all issues owns issues blocks p.tables.ports.items point
  known_point point is = known cert all issues owns issues blocks p.tables.ports.items point g.program.tables.blocks is

  abbrev OpeningsKnown : Agenda → Type 0
  OpeningsKnown a = (slot : ℕ) (k : Reaction) → slot_at a.slots slot ≡ Some k → IsKnown p.tables.blocks.items k.opening

  openings_known : (qs : List Agenda) → ((n : ℕ) (a : Agenda) → slice_get qs n ≡ Some a → (slot : ℕ) (k : Reaction) → slot_at a.slots slot ≡ Some k → IsPoint all k.opening) → AllByRecursion OpeningsKnown qs
  openings_known [] h = tt
  openings_known (a ∷ as') h =
      (λ slot k e. is_known cert all issues owns issues blocks p.tables.ports.items k.opening (known_point k.opening (h 0 a refl slot k e)), openings_known as' (λ n b e. h (suc n) b e))

  pub all_openings : AllByRecursion (λ (a : Agenda). (slot : ℕ) (k : Reaction) → slot_at a.slots slot ≡ Some k → IsKnown p.tables.blocks.items k.opening) r.queues.items
  all_openings = openings_known r.queues.items (λ n a e. (g.queues n a e).placed.openings)

  -- ---- none of this number

  none_here : (c : ℕ) → ((q : ℕ) (a : Agenda) → slice_get r.queues.items q ≡ Some a → IsNew c a.slots) → (q : ℕ) (o : Option Agenda) → slice_get r.queues.items q ≡ o → is_pending c (entries_in all (queue_at r.queues.items q)) ≡ false
  none_here c n q None e = ap (λ (o : Option Agenda). is_pending c (entries_in all (elim o [ None ↦ record { tickets = []; slots = []; room = 0 } | Some a ↦ a ]))) e
  none_here c n q (Some a) e =
      ap (λ (b : Agenda). is_pending c (entries_in all b)) (queue_here r.queues.items q a e)
      ∙ none_pending (place_at all) a.slots c (n q a e) a.tickets (g.queues q a e).agenda.open_slots

  -- ---- one

  steps_here : (point : Point) → IsPoint all point → steps_in (event_at blocks point) ≡ book.steps_row cert (place_at all point)
  steps_here point is =
      let k : Known cert all issues owns issues blocks p.tables.ports.items point = known_point point is in
      let event : event_at blocks point ≡ Some k.event = ap (λ (o : Option Block). elim o [ None ↦ None | Some x ↦ slice_get x.events.items point.event ]) k.at.stands ∙ k.event_stands in
      ap steps_in event ∙ steps_are cert all issues owns issues blocks p.tables.ports.items point k

  far_here : (point : Point) → IsPoint all point → far_in (event_at blocks point) ≡ far_at cert (place_at all point)
  far_here point is =
      let k : Known cert all issues owns issues blocks p.tables.ports.items point = known_point point is in
      let event : event_at blocks point ≡ Some k.event = ap (λ (o : Option Block). elim o [ None ↦ None | Some x ↦ slice_get x.events.items point.event ]) k.at.stands ∙ k.event_stands in
      ap far_in event ∙ (weighs cert all issues owns issues blocks p.tables.ports.items point k).far ∙ ap (far_at cert) (sym k.place_is)

  open_here : (q : ℕ) (a : Agenda) → slice_get r.queues.items q ≡ Some a → (slot : ℕ) (k : Reaction) → slot_at a.slots slot ≡ Some k → headline.IsOpen (entries_in all (queue_at r.queues.items q)) k.cause (place_at all k.opening)
  open_here q a e slot k at =
      let h : IsQueue cert (device_in (session_of p r)) q a = g.queues q a e in
      subst (λ (b : Agenda). headline.IsOpen (entries_in all b) k.cause (place_at all k.opening)) (sym (queue_here r.queues.items q a e))
      (open_entry (place_at all) a.slots slot k at a.tickets (omega (arith, h.pending slot k at, h.agenda.counted slot k at)))

  pub opening_so : (c : ℕ) (o : Option Opening) → IsOpeningIn p.tables.blocks.items r.queues.items c o → IsOpening (cert_in (session_of p r)) (leaves (device_in (session_of p r))) (machine_of (session_of p r)) c o
  opening_so c None h = λ q. none_here c h q (slice_get r.queues.items q) refl
  opening_so c (Some o) (q, a, k, stands, (slot, at, cause), same) =
      subst (λ (w : Opening). IsOpening (cert_in (session_of p r)) (leaves (device_in (session_of p r))) (machine_of (session_of p r)) c (Some w)) (sym same) (
        q,
        subst (λ (n : ℕ). headline.IsOpen (entries_in all (queue_at r.queues.items q)) n (place_at all k.opening)) cause (open_here q a stands slot k at),
        steps_here k.opening ((g.queues q a stands).placed.openings slot k at),
        far_here k.opening ((g.queues q a stands).placed.openings slot k at),
      )
