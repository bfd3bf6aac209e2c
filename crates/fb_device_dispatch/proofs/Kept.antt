-- A whole dispatch, from what the code reads to what it leaves.
use Rattle.std.proofs.Common.{◌≡◌, ℕ, ◌+◌, ◌-◌, ◌<◌, ◌≤◌, ◌^◌, cond, List, [], ◌++◌, map, length, set, slice_get, Option, Some, None, sym, ◌∙◌, ap, subst, arith, inl, inr}
use Rattle.std.specs.Prelude.{IfSome}
use Rattle.std.specs.List.{AllByRecursion}
use Rattle.std.specs.Option.{option_map}
use Rattle.std.proofs.lemmas.Bool.{cases_eq}
use Rattle.fb_model.specs.Wires.{Kind, Leaf, leaves}
use Rattle.fb_model.specs.Store.{LeafState, Store, with_leaf}
use Rattle.fb_model.specs.Serving.{Effect as Outside}
use Rattle.fb_model.specs.Devices as book
use Rattle.fb_model.specs.Devices.{Entry, Machine, Runs, put, is_pending, is_timer, follow_ups, steps_row}
use Rattle.fb_model.specs.Headline.{IsSound}
use Rattle.st_exec.specs.Cells.{Cell, forms_of}
use Rattle.fb_chart.specs.declared.table.Point.{Point}
use Rattle.fb_chart.specs.Sampling.{AreStores}
use Rattle.fb_chart.specs.declared.standing.Effect.{Effect}
use Rattle.fb_chart.specs.declared.memory.Condition.{Condition}
use Rattle.fb_chart.specs.declared.memory.Memory.{Memory}
use Rattle.fb_chart.specs.Conditions.{IsConditionOf}
use Rattle.fb_chart.specs.Dispatching.{HasDispatched}
use Rattle.fb_chart.proofs.Stood.{set_twice}
use Rattle.fb_device_tables.specs.declared.table.Resource.{Resource}
use Rattle.fb_device_tables.specs.Views.{place_at}
use Rattle.fb_sched.specs.declared.ticket.Ticket.{Ticket}
use Rattle.fb_sched.specs.declared.reaction.Reaction.{Reaction}
use Rattle.fb_sched.specs.Agenda.{Agenda}
use Rattle.fb_sched.specs.Changes.{PutsAll}
use Rattle.fb_sched.specs.Steps.{spent}
use Rattle.fb_sched.specs.Expiry.{AreArmed}
use Rattle.fb_device_state.specs.declared.program.Program.{Program}
use Rattle.fb_device_state.specs.declared.program.Running.{Running}
use Rattle.fb_device_state.specs.Sessions.{session_of, next_of}
use Rattle.fb_device_state.specs.Machines.{device_in, cert_in, entries_in, spent_in, standing, store_from, machine, machine_of}
use Rattle.fb_device_state.specs.Keeping.{IsStanding, AllStand, IsQueue, IsGood}
use Rattle.fb_lists.proofs.Lists.{same_at, set_stands, get_other, map_set}
use Rattle.fb_device_state.proofs.Storing.{store_set}
use Rattle.fb_device_state.proofs.Queued.{queues_is, spent_put}
use Rattle.fb_device_state.proofs.Kept.{set_cases, set_count}
use Rattle.fb_device_state.proofs.Moved.{program_moved}
use Rattle.fb_device_dispatch.specs.Answers.{end_of, end_by}
use Rattle.fb_device_dispatch.specs.Rearming.{HasRetimed}
use Rattle.fb_device_dispatch.specs.Taking.{HasTaken, HasEntered}
use Rattle.fb_device_dispatch.proofs.Happening as at
use Rattle.fb_device_dispatch.proofs.Outcomes as out
use Rattle.fb_device_dispatch.proofs.Entered.{Passes, mid_holds, one_reaction, pending_kept, placed_kept, entries_end, spent_end, ended_is}
use Rattle.fb_device_dispatch.proofs.Armed.{armed_after, remembers_at}

-- the other leaves stand as before
stand_set : (all : List Leaf) (owns issues : List (List Cell)) (conditions : List Condition) (i : ℕ) (leaf : Leaf) (own issued : List Cell) (n : Condition) → AllStand all owns issues conditions → slice_get all i ≡ Some leaf
    → IsStanding leaf i (set owns i own) (set issues i issued) (set conditions i n) → AllStand all (set owns i own) (set issues i issued) (set conditions i n)
stand_set all owns issues conditions i leaf own issued n old is now k other h =
    elim (cases_eq i k) [
      | inl e ↦ (
          let same : leaf ≡ other = same_at all i leaf other is (ap (slice_get all) e ∙ h) in
          subst (λ (j : ℕ). IsStanding other j (set owns i own) (set issues i issued) (set conditions i n)) e (subst (λ (l : Leaf). IsStanding l i (set owns i own) (set issues i issued) (set conditions i n)) same now)
          )
      | inr ne ↦ (
          let st = old k other h in
          record {
            own = st.own;
            issued = st.issued;
            condition = st.condition;
            own_is = get_other owns i k own ne ∙ st.own_is;
            issued_is = get_other issues i k issued ne ∙ st.issued_is;
            condition_is = get_other conditions i k n ne ∙ st.condition_is;
            stores = st.stores;
            fits = st.fits;
          }
          )
    ]

module _ (p : Program) (r : Running) (g : IsGood p r) (q : ℕ) (first : Ticket) (qs : List Agenda) (t : HasTaken r.queues.items q first qs) (mem : Memory) (steps : ℕ) (effect : Option Effect) (points : List Point)
    (h : HasDispatched p.tables.blocks.items p.tables.ports.items r.memory first.point first.values.items r.clock mem steps effect r.outbox.items points)
    (reaction : Reaction) (ended : Option Reaction) (queues : List Agenda) (e : HasEntered qs q points first.slot steps reaction ended queues) where
  abbrev all : List Leaf
  all = leaves (device_in (session_of p r))

  abbrev leaf : Leaf
  leaf = at.leaf p r g q first qs t

  abbrev m : Machine
  m = machine_of (session_of p r)

  abbrev cause : ℕ
  cause = t.takes.reaction.cause

  -- ---- the queue

  left_is : e.queue ≡ t.left
  left_is = same_at qs q e.queue t.left e.stands (ap (λ xs. slice_get xs q) t.new_is ∙ set_stands r.queues.items q t.was t.left t.stands)

  abbrev passes : Passes t.was t.left e.mid e.left first points steps ended
  passes = record {
    takes = t.takes;
    puts = subst (λ (a : Agenda). PutsAll a first.slot points e.mid) left_is e.puts;
    settles = e.settles;
    was_agenda = (at.queue p r g q first qs t).agenda;
    left_agenda = t.agenda;
    mid_agenda = e.mid_agenda;
    end_agenda = e.agenda;
  }

  reaction_is : reaction ≡ record t.takes.reaction { pending = t.takes.reaction.pending - 1 + length points }
  reaction_is =
      one_reaction e.mid.slots first.slot reaction (record t.takes.reaction { pending = t.takes.reaction.pending - 1 + length points }) e.is
      (mid_holds t.was t.left e.mid e.left first points steps ended passes)

  pub opening_is : reaction.opening ≡ t.takes.reaction.opening
  opening_is = ap (λ (x : Reaction). x.opening) reaction_is

  cause_is : reaction.cause ≡ cause
  cause_is = ap (λ (x : Reaction). x.cause) reaction_is

  queues_are : queues ≡ set r.queues.items q e.left
  queues_are = e.new_is ∙ ap (λ xs. set xs q e.left) t.new_is ∙ set_twice r.queues.items q t.left e.left

  abbrev later_queue : List Entry
  later_queue = out.later_queue p r g q first qs t mem steps effect points h

  abbrev later : Machine
  later = out.later p r g q first qs t mem steps effect points h

  entries_are : entries_in all e.left ≡ later_queue
  entries_are =
      entries_end t.was t.left e.mid e.left first points steps ended passes (cert_in (session_of p r)) all
      ∙ ap (λ ps. entries_in all t.left ++ follow_ups (at.entry p r g q first qs t) ps) (out.reached_are p r g q first qs t mem steps effect points h)

  abbrev told : List Entry → ℕ → ℕ
  told es n = cond (is_pending cause es) (n + steps) 0

  spent_are : spent_in (set r.queues.items q e.left) ≡ put (spent_in r.queues.items) cause (told later_queue (m.spent cause))
  spent_are =
      spent_put r.queues.items q t.was e.left cause (told later_queue (m.spent cause)) t.stands (out.none_else p r g q first qs t)
      (spent_end t.was t.left e.mid e.left first points steps ended passes (cert_in (session_of p r)) all
      ∙ ap (λ ps. put (spent t.was) cause (told (entries_in all t.left ++ follow_ups (at.entry p r g q first qs t) ps) t.takes.reaction.steps)) (out.reached_are p r g q first qs t mem steps effect points h)
      ∙ ap (λ n. put (spent t.was) cause (told later_queue n)) (sym (out.spent_was p r g q first qs t)))

  -- ---- the machine

  abbrev f : ℕ → Kind → LeafState
  f = standing (set r.memory.own.items first.point.block h.own) (set r.memory.issued.items first.point.block h.issued) (set r.memory.conditions.items first.point.block h.condition)

  later_is : machine all (set r.queues.items q e.left) f r.clock (next_of r.next) ≡ later
  later_is =
      ap (λ (x : ℕ → List Entry). record { queues = x; store = store_from 0 all f; spent = spent_in (set r.queues.items q e.left); clock = r.clock; next = next_of r.next })
      (queues_is all r.queues.items q t.was e.left t.stands ∙ ap (put m.queues q) entries_are)
      ∙ ap (λ (x : Store). record { queues = put m.queues q later_queue; store = x; spent = spent_in (set r.queues.items q e.left); clock = r.clock; next = next_of r.next })
      (store_set all r.memory.own.items r.memory.issued.items r.memory.conditions.items first.point.block leaf h.at.own h.at.issued h.own h.issued h.at.condition h.condition g.program.tables.apart (at.point p r g q first qs t).leaf_stands h.at.own_is h.at.issued_is h.at.condition_is)
      ∙ ap (λ (x : ℕ → ℕ). record { queues = put m.queues q later_queue; store = with_leaf m.store leaf.path (out.after p r g q first qs t mem steps effect points h); spent = x; clock = r.clock; next = next_of r.next }) spent_are

  module _ (new : Running) (queues_new : new.queues.items ≡ queues) (memory : new.memory ≡ mem) (clock : new.clock ≡ r.clock) (next : new.next ≡ r.next) where
    owns_are : new.memory.own.items ≡ set r.memory.own.items first.point.block h.own
    owns_are = ap (λ (x : Memory). x.own.items) memory ∙ h.own_set

    issues_are : new.memory.issued.items ≡ set r.memory.issued.items first.point.block h.issued
    issues_are = ap (λ (x : Memory). x.issued.items) memory ∙ h.issued_set

    conditions_are : new.memory.conditions.items ≡ set r.memory.conditions.items first.point.block h.condition
    conditions_are = ap (λ (x : Memory). x.conditions.items) memory ∙ h.conditions_set

    machine_is : machine_of (session_of p new) ≡ later
    machine_is =
        ap (λ us. machine all us (standing new.memory.own.items new.memory.issued.items new.memory.conditions.items) new.clock (next_of new.next)) (queues_new ∙ queues_are)
        ∙ ap (λ os. machine all (set r.queues.items q e.left) (standing os new.memory.issued.items new.memory.conditions.items) new.clock (next_of new.next)) owns_are
        ∙ ap (λ os. machine all (set r.queues.items q e.left) (standing (set r.memory.own.items first.point.block h.own) os new.memory.conditions.items) new.clock (next_of new.next)) issues_are
        ∙ ap (λ os. machine all (set r.queues.items q e.left) (standing (set r.memory.own.items first.point.block h.own) (set r.memory.issued.items first.point.block h.issued) os) new.clock (next_of new.next)) conditions_are
        ∙ ap (λ c. machine all (set r.queues.items q e.left) f c (next_of new.next)) clock
        ∙ ap (λ n. machine all (set r.queues.items q e.left) f r.clock (next_of n)) next
        ∙ later_is

    pub happens : (bound : ℕ) → bound ≡ steps_row (cert_in (session_of p r)) (place_at all t.takes.reaction.opening)
        → Runs (cert_in (session_of p r)) (device_in (session_of p r)) m q reaction.cause (place_at all first.point) steps (out.outside p r g q first qs t mem steps effect points h) (option_map end_of (option_map (end_by bound) ended)) (machine_of (session_of p new))
    happens bound same =
        let ends : option_map end_of (option_map (end_by bound) ended) ≡ out.ended p r g q first qs t mem steps effect points h =
        ended_is t.was t.left e.mid e.left first points steps ended passes (cert_in (session_of p r)) all bound
        ∙ ap (λ ps. cond (is_pending cause (entries_in all t.left ++ follow_ups (at.entry p r g q first qs t) ps)) None (Some (record { cause = cause; total = t.takes.reaction.steps + steps; bound = bound }))) (out.reached_are p r g q first qs t mem steps effect points h)
        ∙ ap (λ n. cond (is_pending cause later_queue) None (Some (record { cause = cause; total = n + steps; bound = bound }))) (sym (out.spent_was p r g q first qs t))
        ∙ ap (λ n. cond (is_pending cause later_queue) None (Some (record { cause = cause; total = m.spent cause + steps; bound = n }))) same in
        let O : Option Outside = out.outside p r g q first qs t mem steps effect points h in
        subst (λ (x : Machine). Runs (cert_in (session_of p r)) (device_in (session_of p r)) m q reaction.cause (place_at all first.point) steps O (option_map end_of (option_map (end_by bound) ended)) x) (sym machine_is)
        (subst (λ (x : Option book.Ended). Runs (cert_in (session_of p r)) (device_in (session_of p r)) m q reaction.cause (place_at all first.point) steps O x later) (sym ends)
        (subst (λ (x : ℕ). Runs (cert_in (session_of p r)) (device_in (session_of p r)) m q x (place_at all first.point) steps O (out.ended p r g q first qs t mem steps effect points h) later) (sym cause_is)
        (out.runs p r g q first qs t mem steps effect points h)))

    -- ---- what holds of the fields

    fits : IsConditionOf leaf.kind h.condition
    fits = subst (λ (j : Kind). IsConditionOf j h.condition) (at.is p r g q first qs t h.at).kind h.condition_fits

    stand_now : IsStanding leaf first.point.block (set r.memory.own.items first.point.block h.own) (set r.memory.issued.items first.point.block h.issued) (set r.memory.conditions.items first.point.block h.condition)
    stand_now = record {
      own = h.own;
      issued = h.issued;
      condition = h.condition;
      own_is = set_stands r.memory.own.items first.point.block h.at.own h.own h.at.own_is;
      issued_is = set_stands r.memory.issued.items first.point.block h.at.issued h.issued h.at.issued_is;
      condition_is = set_stands r.memory.conditions.items first.point.block h.at.condition h.condition h.at.condition_is;
      stores = subst (λ fs. AreStores leaf.kind fs (forms_of h.issued)) (sym h.own_forms) (subst (λ fs. AreStores leaf.kind (forms_of h.at.own) fs) (sym h.issued_forms) (at.st p r g q first qs t h.at).stores);
      fits = fits;
    }

    stands : AllStand all new.memory.own.items new.memory.issued.items new.memory.conditions.items
    stands =
        subst (λ ns. AllStand all new.memory.own.items new.memory.issued.items ns) (sym conditions_are)
        (subst (λ xs. AllStand all new.memory.own.items xs (set r.memory.conditions.items first.point.block h.condition)) (sym issues_are)
        (subst (λ xs. AllStand all xs (set r.memory.issued.items first.point.block h.issued) (set r.memory.conditions.items first.point.block h.condition)) (sym owns_are)
        (stand_set all r.memory.own.items r.memory.issued.items r.memory.conditions.items first.point.block leaf h.own h.issued h.condition g.stand (at.point p r g q first qs t).leaf_stands stand_now)))

    end_queue : IsQueue (cert_in (session_of p r)) (device_in (session_of p r)) q e.left
    end_queue = (let old = at.queue p r g q first qs t in record {
      agenda = e.agenda;
      room = e.settles.room ∙ passes_room ∙ t.takes.room ∙ old.room;
      placed = placed_kept t.was t.left e.mid e.left first points steps ended passes (cert_in (session_of p r)) all (out.are_points p r g q first qs t mem steps effect points h) (at.placed p r g q first qs t).1;
      pending = pending_kept t.was t.left e.mid e.left first points steps ended passes old.pending;
    })
      where
        passes_room : e.mid.room ≡ t.left.room
        passes_room = e.puts.room ∙ ap (λ (a : Agenda). a.room) left_is

    queue_kept : (j : ℕ) (v : Agenda) → slice_get new.queues.items j ≡ Some v → IsQueue (cert_in (session_of p r)) (device_in (session_of p r)) j v
    queue_kept j v is =
        elim (set_cases r.queues.items q j e.left v (ap (λ us. slice_get us j) (sym (queues_new ∙ queues_are)) ∙ is)) [
          | inl k ↦ subst (λ (i : ℕ). IsQueue (cert_in (session_of p r)) (device_in (session_of p r)) i v) k.0 (subst (IsQueue (cert_in (session_of p r)) (device_in (session_of p r)) q) k.1 end_queue)
          | inr k ↦ g.queues j v k.1
        ]

    module _ (timed : HasRetimed (is_timer leaf.kind) r.timers first.point.block h.condition new.timers) (room : r.timers.room ≤ new.timers.room) (empty : new.outbox.items ≡ []) (capacity : new.outbox.capacity ≡ r.outbox.capacity) where
      armed : AreArmed (machine_of (session_of p new)).store all new.timers.armed
      armed =
          subst (λ (x : Machine). AreArmed x.store all new.timers.armed) (sym machine_is)
          (armed_after m.store all g.program.tables.apart first.point.block leaf (at.point p r g q first qs t).leaf_stands (out.after p r g q first qs t mem steps effect points h) h.condition (remembers_at leaf.kind h.condition fits) r.timers new.timers g.armed timed)

      pub good : IsGood p new
      good = record {
        program =
            program_moved p r new
            (ap (map forms_of) owns_are ∙ map_set forms_of r.memory.own.items first.point.block h.at.own h.own h.at.own_is h.own_forms)
            (ap (map forms_of) issues_are ∙ map_set forms_of r.memory.issued.items first.point.block h.at.issued h.issued h.at.issued_is h.issued_forms) g.program;
        sound = subst (IsSound (cert_in (session_of p r)) (device_in (session_of p r))) (sym machine_is) (out.sound p r g q first qs t mem steps effect points h);
        stand = stands;
        count = ap length (queues_new ∙ queues_are) ∙ set_count r.queues.items q e.left ∙ g.count;
        queues = queue_kept;
        armed = armed;
        timers = omega (arith, g.timers, room);
        outbox = empty;
        wide = subst (λ (n : ℕ). AllByRecursion (λ (x : Resource). x.depth ≤ n) p.tables.resources.items) (sym capacity) g.wide;
        next = subst (λ o. IfSome o (λ n. n < 2 ^ 64)) (sym next) g.next;
      }

-- ---- nothing was taken

pub idle_same : (p : Program) (r new : Running) → new.queues.items ≡ r.queues.items → new.memory ≡ r.memory → new.clock ≡ r.clock → new.next ≡ r.next → machine_of (session_of p new) ≡ machine_of (session_of p r)
idle_same p r new queues memory clock next =
    ap (λ us. machine (leaves (device_in (session_of p r))) us (standing new.memory.own.items new.memory.issued.items new.memory.conditions.items) new.clock (next_of new.next)) queues
    ∙ ap (λ (x : Memory). machine (leaves (device_in (session_of p r))) r.queues.items (standing x.own.items x.issued.items x.conditions.items) new.clock (next_of new.next)) memory
    ∙ ap (λ c. machine (leaves (device_in (session_of p r))) r.queues.items (standing r.memory.own.items r.memory.issued.items r.memory.conditions.items) c (next_of new.next)) clock
    ∙ ap (λ n. machine (leaves (device_in (session_of p r))) r.queues.items (standing r.memory.own.items r.memory.issued.items r.memory.conditions.items) r.clock (next_of n)) next
