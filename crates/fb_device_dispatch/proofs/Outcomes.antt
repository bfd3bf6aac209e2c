-- What the book says of a dispatch whose block has run.
use Rattle.std.proofs.Common.{◌≡◌, ℕ, ◌+◌, ◌^◌, ◌<◌, ◌≤◌, true, cond, ◌||◌, List, [], ◌++◌, map, length, length-append, Option, Some, None, eqb, eq-eqb, refl, sym, ◌∙◌, ap, subst, arith}
use Rattle.std.specs.List.{AllByRecursion}
use Rattle.std.proofs.lemmas.List.{length-map}
use Rattle.std.proofs.lemmas.Bool.{cond-true}
use Rattle.fb_model.specs.Names.{Name, Place}
use Rattle.fb_model.specs.Wires.{Kind}
use Rattle.fb_model.specs.Store.{LeafState, sampled, with_leaf}
use Rattle.fb_model.specs.Serving.{Effect as Outside, Serves}
use Rattle.fb_model.specs.Certificates.{depth_of, reached}
use Rattle.fb_model.specs.Devices as book
use Rattle.fb_model.specs.Devices.{Entry, Machine, Runs, Dispatch, Ran, put, is_pending, follow_ups, steps_row}
use Rattle.fb_model.specs.Headline.{IsSound, pending_of}
use Rattle.fb_model.proofs.Holding.{pending-cons}
use Rattle.fb_model.proofs.Running.{steps_le}
use Rattle.fb_model.proofs.Admitting.{sound_next}
use Rattle.fb_model.proofs.Ending.{depth_le}
use Rattle.fb_chart.specs.declared.table.Point.{Point}
use Rattle.fb_chart.specs.Views.{named, event_names}
use Rattle.fb_chart.specs.Sending.{Points, sent_to}
use Rattle.fb_chart.specs.declared.standing.Effect.{Effect}
use Rattle.fb_chart.specs.declared.memory.Memory.{Memory}
use Rattle.fb_chart.specs.Responses.{effect_of}
use Rattle.fb_chart.specs.Conditions.{leaf_state}
use Rattle.fb_chart.specs.Dispatching.{HasDispatched}
use Rattle.fb_device_tables.specs.Views.{place_at}
use Rattle.fb_device_tables.specs.Tables.{IsPoint}
use Rattle.fb_sched.specs.declared.ticket.Ticket.{Ticket}
use Rattle.fb_sched.specs.Agenda.{Agenda, slot_at}
use Rattle.fb_sched.specs.Entries.{entries, entry_by, booked}
use Rattle.fb_sched.proofs.Steps.{steps_found}
use Rattle.fb_device_state.specs.declared.program.Program.{Program}
use Rattle.fb_device_state.specs.declared.program.Running.{Running}
use Rattle.fb_device_state.specs.Machines.{entries_in}
use Rattle.fb_device_state.specs.Keeping.{IsGood}
use Rattle.fb_device_state.proofs.Queued.{queue_here, NoneElse, spent_of, no_steps}
use Rattle.fb_device_dispatch.specs.Taking.{HasTaken}
use Rattle.fb_device_dispatch.proofs.Reaching.{sent_is, sent_points, known as known_entries}
use Rattle.fb_device_dispatch.proofs.Happening as at

module _ (p : Program) (r : Running) (g : IsGood p r) (q : ℕ) (first : Ticket) (qs : List Agenda) (t : HasTaken r.queues.items q first qs) where
  abbrev cause : ℕ
  cause = t.takes.reaction.cause

  -- ---- its steps so far

  -- no other queue has steps of the cause
  pub none_else : NoneElse r.queues.items q cause
  none_else j b n h =
      let other = g.queues j b h in
      let first_known = (known_entries (at.cert p r g q first qs t) (at.device p r g q first qs t) g.program.holds (at.m p r g q first qs t) g.sound q (at.entry p r g q first qs t) (entries_in (at.all p r g q first qs t) t.left) (at.was_is p r g q first qs t) (at.leaf p r g q first qs t) (at.found_leaf p r g q first qs t)).0 in
      no_steps (at.cert p r g q first qs t) (at.device p r g q first qs t) (at.m p r g q first qs t) g.sound j b other.agenda (ap (entries_in (at.all p r g q first qs t)) (queue_here r.queues.items j b h)) cause other.pending
      (λ home less. n (sym first_known.home ∙ home))

  pub spent_was : (at.m p r g q first qs t).spent cause ≡ t.takes.reaction.steps
  spent_was = spent_of r.queues.items q t.was cause t.stands none_else ∙ steps_found t.was.slots first.slot t.takes.reaction (at.queue p r g q first qs t).agenda.different t.takes.was

  module _ (mem : Memory) (steps : ℕ) (effect : Option Effect) (points : List Point)
      (h : HasDispatched p.tables.blocks.items p.tables.ports.items r.memory first.point first.values.items r.clock mem steps effect r.outbox.items points) where
    abbrev outs : List Name
    outs = h.has_run.outs

    -- ---- what was emitted

    sent : points ≡ sent_to h.at.block.outputs.items outs
    sent = h.has_run.sent ∙ ap (λ (ps : Points). ps ++ sent_to h.at.block.outputs.items outs) g.outbox

    pub are_points : AllByRecursion (IsPoint (at.all p r g q first qs t)) points
    are_points = subst (AllByRecursion (IsPoint (at.all p r g q first qs t))) (sym sent) (sent_points (at.all p r g q first qs t) (at.leaf p r g q first qs t) h.at.block.outputs.items outs (at.is p r g q first qs t h.at).leads)

    pub reached_are : map (place_at (at.all p r g q first qs t)) points ≡ reached (at.leaf p r g q first qs t).targets outs
    reached_are = ap (map (place_at (at.all p r g q first qs t))) sent ∙ sent_is (at.all p r g q first qs t) (at.leaf p r g q first qs t) h.at.block.outputs.items outs (at.is p r g q first qs t h.at).leads h.has_run.known

    -- ---- the book's dispatch

    abbrev pub after : LeafState
    after = leaf_state (at.leaf p r g q first qs t).kind h.own h.issued h.condition

    abbrev pub outside : Option Outside
    outside = effect_of effect

    abbrev pub later_queue : List Entry
    later_queue = entries_in (at.all p r g q first qs t) t.left ++ follow_ups (at.entry p r g q first qs t) (reached (at.leaf p r g q first qs t).targets outs)

    abbrev pub later : Machine
    later =
        record {
          queues = put (at.m p r g q first qs t).queues q later_queue;
          store = with_leaf (at.m p r g q first qs t).store (at.leaf p r g q first qs t).path after;
          spent = put (at.m p r g q first qs t).spent cause (cond (is_pending cause later_queue) ((at.m p r g q first qs t).spent cause + steps) 0);
          clock = r.clock;
          next = (at.m p r g q first qs t).next;
        }

    abbrev pub ended : Option book.Ended
    ended = cond (is_pending cause later_queue) None (Some (record { cause = cause; total = (at.m p r g q first qs t).spent cause + steps; bound = steps_row (at.cert p r g q first qs t) (place_at (at.all p r g q first qs t) t.takes.reaction.opening) }))

    own_queue : put (at.m p r g q first qs t).queues q later_queue q ≡ later_queue
    own_queue = cond-true (eqb q q) later_queue ((at.m p r g q first qs t).queues q) (eq-eqb q q refl)

    served : Serves (at.leaf p r g q first qs t).kind r.clock (place_at (at.all p r g q first qs t) first.point).event first.values.items (sampled (at.m p r g q first qs t).store (at.leaf p r g q first qs t) (place_at (at.all p r g q first qs t) first.point).event) after steps outs outside
    served =
        let n : Name = (place_at (at.all p r g q first qs t) first.point).event in
        let k : Kind = (at.leaf p r g q first qs t).kind in
        subst (λ (s : LeafState). Serves k r.clock n first.values.items s after steps outs outside) (sym (at.before_is p r g q first qs t h.at h.sampled h.values_are))
        (subst (λ (e : Name). Serves k r.clock e first.values.items (leaf_state k h.sampled h.at.issued h.at.condition) after steps outs outside) (sym (at.event_is p r g q first qs t h.at))
        (subst (λ (j : Kind). Serves j r.clock (named (event_names h.at.block) first.point.event) first.values.items (leaf_state j h.sampled h.at.issued h.at.condition) (leaf_state j h.own h.issued h.condition) steps outs (effect_of effect)) (at.is p r g q first qs t h.at).kind h.has_run.served))

    pub runs : Runs (at.cert p r g q first qs t) (at.device p r g q first qs t) (at.m p r g q first qs t) q cause (place_at (at.all p r g q first qs t) first.point) steps outside ended later
    runs = record {
      first = at.entry p r g q first qs t;
      rest = entries_in (at.all p r g q first qs t) t.left;
      leaf = at.leaf p r g q first qs t;
      after = after;
      outs = outs;
      was = at.was_is p r g q first qs t;
      found = at.found_leaf p r g q first qs t;
      served = served;
      cause_is = refl;
      place_is = refl;
      queues = refl;
      store = refl;
      spent = ap (λ (es : List Entry). put (at.m p r g q first qs t).spent cause (cond (is_pending cause es) ((at.m p r g q first qs t).spent cause + steps) 0)) (sym own_queue);
      clock = refl;
      next = refl;
      ended_is = ap (λ (es : List Entry). cond (is_pending cause es) None (Some (record { cause = cause; total = (at.m p r g q first qs t).spent cause + steps; bound = steps_row (at.cert p r g q first qs t) (place_at (at.all p r g q first qs t) t.takes.reaction.opening) }))) (sym own_queue);
    }

    pub sound : IsSound (at.cert p r g q first qs t) (at.device p r g q first qs t) later
    sound = sound_next (at.cert p r g q first qs t) (at.device p r g q first qs t) g.program.holds (at.m p r g q first qs t) (Dispatch q) (Ran cause (place_at (at.all p r g q first qs t) first.point) steps outside ended) later g.sound runs

    -- ---- its bounds

    pub fits_queue : length t.left.tickets + length points ≤ t.left.room
    fits_queue =
        let depth : length (put (at.m p r g q first qs t).queues q later_queue q) ≤ depth_of (at.cert p r g q first qs t) (at.device p r g q first qs t) q = depth_le (at.cert p r g q first qs t) (at.device p r g q first qs t) g.program.holds later sound q in
        let parts = length-append (entries_in (at.all p r g q first qs t) t.left) (follow_ups (at.entry p r g q first qs t) (reached (at.leaf p r g q first qs t).targets outs)) in
        let many = length-map {B = Entry} (reached (at.leaf p r g q first qs t).targets outs) (λ (o : Place). record { cause = cause; opening = (at.entry p r g q first qs t).opening; place = o; values = [] }) in
        let left_entries = length-map (entries t.left) (booked (place_at (at.all p r g q first qs t))) in
        let left_tickets = length-map t.left.tickets (λ k. entry_by (slot_at t.left.slots k.slot) k) in
        omega (arith, depth, ap length own_queue, parts, many, left_entries, left_tickets, ap length reached_are, length-map points (place_at (at.all p r g q first qs t)), t.takes.room, (at.queue p r g q first qs t).room)

    total_le : (at.m p r g q first qs t).spent cause + steps ≤ steps_row (at.cert p r g q first qs t) (place_at (at.all p r g q first qs t) t.takes.reaction.opening)
    total_le =
        let w : Place → ℕ = steps_row (at.cert p r g q first qs t) in
        let few = steps_le (at.cert p r g q first qs t) (at.device p r g q first qs t) g.program.holds (at.m p r g q first qs t) g.sound q cause (place_at (at.all p r g q first qs t) first.point) steps outside ended later runs in
        let known_first = (known_entries (at.cert p r g q first qs t) (at.device p r g q first qs t) g.program.holds (at.m p r g q first qs t) g.sound q (at.entry p r g q first qs t) (entries_in (at.all p r g q first qs t) t.left) (at.was_is p r g q first qs t) (at.leaf p r g q first qs t) (at.found_leaf p r g q first qs t)).0 in
        let pending : is_pending cause ((at.m p r g q first qs t).queues q) ≡ true = ap (is_pending cause) (at.was_is p r g q first qs t) ∙ ap (λ c. c || is_pending cause (entries_in (at.all p r g q first qs t) t.left)) (eq-eqb cause cause refl) in
        let most = g.sound.steps q cause pending in
        let parts : pending_of w cause ((at.m p r g q first qs t).queues q) ≡ cond (eqb cause cause) (w (place_at (at.all p r g q first qs t) first.point)) 0 + pending_of w cause (entries_in (at.all p r g q first qs t) t.left) =
        ap (pending_of w cause) (at.was_is p r g q first qs t) ∙ pending-cons w cause (at.entry p r g q first qs t) (entries_in (at.all p r g q first qs t) t.left) in
        let own_part : cond (eqb cause cause) (w (place_at (at.all p r g q first qs t) first.point)) 0 ≡ w (place_at (at.all p r g q first qs t) first.point) = cond-true (eqb cause cause) (w (place_at (at.all p r g q first qs t) first.point)) 0 (eq-eqb cause cause refl) in
        let opens : w (g.sound.opening_of cause) ≡ w (place_at (at.all p r g q first qs t) t.takes.reaction.opening) = ap w (sym known_first.opening) in
        omega (arith, few, most, parts, own_part, opens, ap w runs.place_is)

    -- its steps can be counted
    pub fits_steps : t.takes.reaction.steps + steps < 2 ^ 64
    fits_steps = omega (arith, spent_was, total_le, at.few_steps p r g q first qs t (place_at (at.all p r g q first qs t) t.takes.reaction.opening))
