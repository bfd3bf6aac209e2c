-- What a dispatch asks of its parts, and what they answer.
use Rattle.std.proofs.Common.{◌≡◌, ℕ, ℤ, Bool, ◌+◌, ◌-◌, ◌<◌, ◌≤◌, ◌^◌, List, map, length, get_or, slice_get, Option, Some, None, sym, ◌∙◌, ap, subst, arith}
use Rattle.std.specs.Prelude.{IfSome, vec_len}
use Rattle.std.specs.List.{AllByRecursion}
use Rattle.fb_model.specs.Wires.{Kind, leaves}
use Rattle.fb_model.specs.Devices.{Machine, is_timer, steps_row}
use Rattle.fb_model.specs.Headline.{IsSound}
use Rattle.st_exec.specs.Cells.{forms_of}
use Rattle.fb_chart.specs.declared.table.Point.{Point}
use Rattle.fb_chart.specs.declared.table.Block.{Block}
use Rattle.fb_chart.specs.Views.{kind_of}
use Rattle.fb_chart.specs.declared.standing.Effect.{Effect}
use Rattle.fb_chart.specs.declared.standing.Ports.{Ports}
use Rattle.fb_chart.specs.declared.memory.Condition.{Condition}
use Rattle.fb_chart.specs.declared.memory.Memory.{Memory}
use Rattle.fb_chart.specs.Dispatching.{CanDispatch, HasDispatched}
use Rattle.fb_device_tables.specs.declared.table.Resource.{Resource}
use Rattle.fb_device_tables.specs.Views.{place_at}
use Rattle.fb_sched.specs.declared.ticket.Ticket.{Ticket}
use Rattle.fb_sched.specs.declared.reaction.Reaction.{Reaction}
use Rattle.fb_sched.specs.Agenda.{Agenda}
use Rattle.fb_sched.specs.Order.{Timing}
use Rattle.fb_sched.specs.Expiry.{AreArmed}
use Rattle.fb_device_state.specs.declared.program.Program.{Program}
use Rattle.fb_device_state.specs.declared.program.Running.{Running}
use Rattle.fb_device_state.specs.Sessions.{session_of}
use Rattle.fb_device_state.specs.Machines.{device_in, cert_in, machine_of}
use Rattle.fb_device_state.specs.Numbers.{event_at, steps_in, IsKnown}
use Rattle.fb_device_state.specs.Keeping.{AllStand, IsGood}
use Rattle.fb_chart.proofs.Stood.{read}
use Rattle.fb_lists.proofs.Lists.{same_at, set_stands}
use Rattle.fb_device_state.proofs.Blocks.{steps_are, is_known, within}
use Rattle.fb_device_state.proofs.Moved.{program_moved}
use Rattle.fb_device_dispatch.specs.Rearming.{CanRetime, HasRetimed}
use Rattle.fb_device_dispatch.specs.Taking.{HasTaken, CanEnter, HasEntered}
use Rattle.fb_device_dispatch.proofs.Happening as at
use Rattle.fb_device_dispatch.proofs.Outcomes as out
use Rattle.fb_device_dispatch.proofs.Kept.{opening_is, idle_same}
use Rattle.fb_device_dispatch.proofs.Armed.{can_retime}

-- nothing was taken
pub idle_good : (p : Program) (r new : Running) → IsGood p r → new.queues.items ≡ r.queues.items → new.memory ≡ r.memory → new.timers ≡ r.timers → new.outbox.items ≡ r.outbox.items → new.outbox.capacity ≡ r.outbox.capacity → new.clock ≡ r.clock → new.next ≡ r.next → IsGood p new
idle_good p r new g queues memory timers empty capacity clock next =
    let same = idle_same p r new queues memory clock next in
    record {
      program = program_moved p r new (ap (λ (x : Memory). map forms_of x.own.items) memory) (ap (λ (x : Memory). map forms_of x.issued.items) memory) g.program;
      sound = subst (IsSound (cert_in (session_of p r)) (device_in (session_of p r))) (sym same) g.sound;
      stand = subst (λ (x : Memory). AllStand (leaves (device_in (session_of p r))) x.own.items x.issued.items x.conditions.items) (sym memory) g.stand;
      count = ap length queues ∙ g.count;
      queues = λ n a e. g.queues n a (ap (λ xs. slice_get xs n) (sym queues) ∙ e);
      armed = subst (λ (x : Machine). AreArmed x.store (leaves (device_in (session_of p r))) new.timers.armed) (sym same) (subst (λ (x : Timing). AreArmed (machine_of (session_of p r)).store (leaves (device_in (session_of p r))) x.armed) (sym timers) g.armed);
      timers = subst (λ (x : Timing). length (leaves (device_in (session_of p r))) ≤ x.room) (sym timers) g.timers;
      outbox = empty ∙ g.outbox;
      wide = subst (λ (n : ℕ). AllByRecursion (λ (x : Resource). x.depth ≤ n) p.tables.resources.items) (sym capacity) g.wide;
      next = subst (λ o. IfSome o (λ n. n < 2 ^ 64)) (sym next) g.next;
    }

-- room that falls by what is sent is that of the same capacity
pub capacity_same : (old new sent more : ℕ) → old - sent + sent ≡ new - more + more → sent ≡ 0 → more ≤ new → new ≡ old
capacity_same old new sent more h none within = omega (arith, h, none, within)

module _ (p : Program) (r : Running) (g : IsGood p r) (q : ℕ) (first : Ticket) (qs : List Agenda) (t : HasTaken r.queues.items q first qs) where
  -- what the block can do, by the lists that the code reads
  pub can_dispatch_read : (blocks : List Block) (slots : List Ports) (values : List ℤ) → blocks ≡ p.tables.blocks.items → slots ≡ p.tables.ports.items → values ≡ first.values.items
      → CanDispatch blocks slots r.memory first.point values (r.outbox.capacity - length r.outbox.items)
  can_dispatch_read blocks slots values b s v =
      let room : ℕ = r.outbox.capacity - length r.outbox.items in
      subst (λ bs. CanDispatch bs slots r.memory first.point values room) (sym b)
      (subst (λ ss. CanDispatch p.tables.blocks.items ss r.memory first.point values room) (sym s)
      (subst (λ vs. CanDispatch p.tables.blocks.items p.tables.ports.items r.memory first.point vs room) (sym v) (at.can_dispatch p r g q first qs t)))

  -- and what it did
  pub dispatched_read : (blocks : List Block) (slots : List Ports) (values : List ℤ) → blocks ≡ p.tables.blocks.items → slots ≡ p.tables.ports.items → values ≡ first.values.items → (mem : Memory) (steps : ℕ) (effect : Option Effect) (points : List Point)
      → HasDispatched blocks slots r.memory first.point values r.clock mem steps effect r.outbox.items points → HasDispatched p.tables.blocks.items p.tables.ports.items r.memory first.point first.values.items r.clock mem steps effect r.outbox.items points
  dispatched_read blocks slots values b s v mem steps effect points h =
      subst (λ bs. HasDispatched bs p.tables.ports.items r.memory first.point first.values.items r.clock mem steps effect r.outbox.items points) b
      (subst (λ ss. HasDispatched blocks ss r.memory first.point first.values.items r.clock mem steps effect r.outbox.items points) s
      (subst (λ vs. HasDispatched blocks slots r.memory first.point vs r.clock mem steps effect r.outbox.items points) v h))

  pub block_within : first.point.block < vec_len p.tables.blocks
  block_within = omega (arith, within p.tables.blocks.items first.point.block (at.point p r g q first qs t).at.block (at.point p r g q first qs t).at.stands, p.tables.blocks.ok)

  -- the block that was read is that of the leaf
  kind_read : (block : Block) → block ≡ get_or p.tables.blocks.items first.point.block block → kind_of block ≡ (at.leaf p r g q first qs t).kind
  kind_read block e = ap kind_of (read p.tables.blocks.items first.point.block (at.point p r g q first qs t).at.block block (at.point p r g q first qs t).at.stands e) ∙ (at.point p r g q first qs t).at.is.kind

  pub can_retime_at : (timer : Bool) → CanRetime timer r.timers first.point.block
  can_retime_at timer = can_retime timer (at.all p r g q first qs t) r.timers first.point.block (at.leaf p r g q first qs t) g.timers (at.point p r g q first qs t).leaf_stands

  module _ (mem : Memory) (steps : ℕ) (effect : Option Effect) (points : List Point)
      (h : HasDispatched p.tables.blocks.items p.tables.ports.items r.memory first.point first.values.items r.clock mem steps effect r.outbox.items points) where
    condition_stands : slice_get mem.conditions.items first.point.block ≡ Some h.condition
    condition_stands = ap (λ xs. slice_get xs first.point.block) h.conditions_set ∙ set_stands r.memory.conditions.items first.point.block h.at.condition h.condition h.at.condition_is

    pub condition_within : first.point.block < length mem.conditions.items
    condition_within = within mem.conditions.items first.point.block h.condition condition_stands

    pub can_enter : CanEnter qs q points first.slot steps
    can_enter = record {
      queue = t.left;
      reaction = record t.takes.reaction { pending = t.takes.reaction.pending - 1 };
      stands = ap (λ xs. slice_get xs q) t.new_is ∙ set_stands r.queues.items q t.was t.left t.stands;
      room = out.fits_queue p r g q first qs t mem steps effect points h;
      is = t.takes.slots.changed;
      fits = out.fits_steps p r g q first qs t mem steps effect points h;
    }

    pub timed_as : (block : Block) → block ≡ get_or p.tables.blocks.items first.point.block block → (now : Condition) → slice_get mem.conditions.items first.point.block ≡ Some now → (new : Timing)
        → HasRetimed (is_timer (kind_of block)) r.timers first.point.block now new → HasRetimed (is_timer (at.leaf p r g q first qs t).kind) r.timers first.point.block h.condition new
    timed_as block e now is new timed =
        subst (λ (n : Condition). HasRetimed (is_timer (at.leaf p r g q first qs t).kind) r.timers first.point.block n new) (same_at mem.conditions.items first.point.block now h.condition is condition_stands)
        (subst (λ (k : Kind). HasRetimed (is_timer k) r.timers first.point.block now new) (kind_read block e) timed)

    module _ (reaction : Reaction) (ended : Option Reaction) (queues : List Agenda) (e : HasEntered qs q points first.slot steps reaction ended queues) where
      pub opening_known : IsKnown p.tables.blocks.items reaction.opening
      opening_known =
          subst (IsKnown p.tables.blocks.items) (sym (opening_is p r g q first qs t mem steps effect points h reaction ended queues e))
          (is_known (at.cert p r g q first qs t) (at.all p r g q first qs t) (at.issues p r g q first qs t) (at.owns p r g q first qs t) (at.issues p r g q first qs t) p.tables.blocks.items p.tables.ports.items t.takes.reaction.opening (at.opening p r g q first qs t))

      event_is : event_at p.tables.blocks.items t.takes.reaction.opening ≡ Some (at.opening p r g q first qs t).event
      event_is = ap (λ (o : Option Block). elim o [ None ↦ None | Some x ↦ slice_get x.events.items t.takes.reaction.opening.event ]) (at.opening p r g q first qs t).at.stands ∙ (at.opening p r g q first qs t).event_stands

      pub bound_is : (bound : ℕ) → bound ≡ steps_in (event_at p.tables.blocks.items reaction.opening) → bound ≡ steps_row (cert_in (session_of p r)) (place_at (leaves (device_in (session_of p r))) t.takes.reaction.opening)
      bound_is bound b =
          b ∙ ap (λ (o : Point). steps_in (event_at p.tables.blocks.items o)) (opening_is p r g q first qs t mem steps effect points h reaction ended queues e) ∙ ap steps_in event_is
          ∙ steps_are (at.cert p r g q first qs t) (at.all p r g q first qs t) (at.issues p r g q first qs t) (at.owns p r g q first qs t) (at.issues p r g q first qs t) p.tables.blocks.items p.tables.ports.items t.takes.reaction.opening (at.opening p r g q first qs t)
