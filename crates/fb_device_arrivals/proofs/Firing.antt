-- A timer that becomes fired.
use Rattle.std.proofs.Common.{◌≡◌, ℕ, zero, suc, ◌<◌, ◌≤◌, Bool, true, false, cond, List, [], ◌∷◌, map, length, set, slice_get, Option, Some, None, eq-eqb, refl, sym, ◌∙◌, ◌^◌, ap, subst, arith, inl, inr}
use Rattle.std.specs.Prelude.{IfSome}
use Rattle.std.specs.List.{AllByRecursion}
use Rattle.std.proofs.lemmas.Bool.{cases_eq, ne_eqb}
use Rattle.fb_model.specs.System.{Device}
use Rattle.fb_model.specs.Wires.{Kind, Charted, Serviced, Leaf, leaves}
use Rattle.fb_model.specs.Store as book
use Rattle.fb_model.specs.Store.{Store, LeafState, with_leaf}
use Rattle.fb_model.specs.Ranges.{CellsLie}
use Rattle.fb_model.specs.Certificates.{Certificate, IsWired}
use Rattle.fb_model.specs.Devices.{Machine, is_timer, due}
use Rattle.fb_model.specs.Headline.{KeepsStamps, IsSound}
use Rattle.fb_model.proofs.Running.{at_leaf, with_leaf_lies}
use Rattle.fb_model.proofs.Stamping.{with_leaf_keeps, timer_stamps}
use Rattle.fb_model.proofs.Admitting.{sound_but}
use Rattle.fb_model_laws.specs.Leaves.{AreApart}
use Rattle.fb_lists.proofs.Lists.{all_got, get_other, set_stands, same_at}
use Rattle.st_exec.specs.Cells.{Cell, forms_of}
use Rattle.fb_chart.specs.declared.standing.Standing.TheVariants as s
use Rattle.fb_device_tables.specs.declared.table.Resource.{Resource}
use Rattle.fb_chart.specs.declared.memory.Condition.{Condition}
use Rattle.fb_chart.specs.declared.memory.Condition.TheVariants.{Service}
use Rattle.fb_chart.specs.Conditions.{leaf_state, IsConditionOf}
use Rattle.fb_sched.specs.declared.armed.Armed.{Armed}
use Rattle.fb_sched.specs.Order.{due_of, without}
use Rattle.fb_sched.specs.Order as order
use Rattle.fb_sched.specs.Expiry.{AreArmed, moment_of}
use Rattle.fb_sched.proofs.Told.{due_cleared}
use Rattle.fb_device_state.specs.declared.program.Program.{Program}
use Rattle.fb_device_state.specs.declared.program.Running.{Running}
use Rattle.fb_device_state.specs.Sessions.{session_of, next_of}
use Rattle.fb_device_state.specs.Machines.{device_in, cert_in, standing, store_from, machine, machine_of}
use Rattle.fb_device_state.specs.Keeping.{IsStanding, AllStand, IsGood}
use Rattle.fb_device_state.proofs.Storing.{store_set, stored_at}
use Rattle.fb_device_state.proofs.Moved.{program_moved}
use Rattle.fb_device_arrivals.specs.Ticking.{IsTimer}

pub set_same : {X : Type 0} (xs : List X) (i : ℕ) (x : X) → slice_get xs i ≡ Some x → set xs i x ≡ xs
set_same [] i x h = refl
set_same (y ∷ ys) zero x h = (let e : y ≡ x = cc in ap (λ z. z ∷ ys) (sym e))
set_same (y ∷ ys) (suc i) x h = ap (λ zs. y ∷ zs) (set_same ys i x h)

-- what a timer remembers that has fired
fired_condition : (kind : Kind) (own issued : List Cell) → is_timer kind ≡ true → (leaf_state kind own issued (Service s.Fired)).condition ≡ book.Fired
fired_condition (Charted block) own issued h = cc
fired_condition (Serviced service) own issued h = refl

fired_fits : (kind : Kind) → is_timer kind ≡ true → IsConditionOf kind (Service s.Fired)
fired_fits (Charted block) h = cc
fired_fits (Serviced service) h = tt

-- the others are as they were
pub others_same : (all : List Leaf) (own issued : List (List Cell)) (conditions : List Condition) (i j : ℕ) (other : Leaf) (o x : List Cell) (n : Condition) → AreApart all → AllStand all own issued conditions → (i ≡ j → ⊥) → slice_get all j ≡ Some other
    → store_from 0 all (standing (set own i o) (set issued i x) (set conditions i n)) other.path ≡ store_from 0 all (standing own issued conditions) other.path
others_same all own issued conditions i j other o x n apart stand ne at =
    let st = stand j other at in
    stored_at all (set own i o) (set issued i x) (set conditions i n) j other st.own st.issued st.condition apart at (get_other own i j o ne ∙ st.own_is) (get_other issued i j x ne ∙ st.issued_is) (get_other conditions i j n ne ∙ st.condition_is)
    ∙ sym (stored_at all own issued conditions j other st.own st.issued st.condition apart at st.own_is st.issued_is st.condition_is)

module _ (p : Program) (r : Running) (g : IsGood p r) (block : ℕ) (t : IsTimer (leaves (device_in (session_of p r))) block) (apart_timers : order.AreApart r.timers.armed) where
  abbrev cert : Certificate
  cert = cert_in (session_of p r)

  abbrev device : Device
  device = device_in (session_of p r)

  abbrev all : List Leaf
  all = leaves (device_in (session_of p r))

  abbrev m : Machine
  m = machine_of (session_of p r)

  abbrev conditions : List Condition
  conditions = set r.memory.conditions.items block (Service s.Fired)

  abbrev leaf : Leaf
  leaf = t.leaf

  st : IsStanding leaf block r.memory.own.items r.memory.issued.items r.memory.conditions.items
  st = g.stand block leaf t.stands

  apart : AreApart all
  apart = g.program.tables.apart

  abbrev after : LeafState
  after = record { cells = (m.store leaf.path).cells; condition = book.Fired }

  before_is : m.store leaf.path ≡ leaf_state leaf.kind st.own st.issued st.condition
  before_is = stored_at all r.memory.own.items r.memory.issued.items r.memory.conditions.items block leaf st.own st.issued st.condition apart t.stands st.own_is st.issued_is st.condition_is

  after_is : leaf_state leaf.kind st.own st.issued (Service s.Fired) ≡ after
  after_is =
      ap (λ k. record { cells = (leaf_state leaf.kind st.own st.issued (Service s.Fired)).cells; condition = k }) (fired_condition leaf.kind st.own st.issued t.timer)
      ∙ ap (λ (k : LeafState). record { cells = k.cells; condition = book.Fired }) (sym before_is)

  pub store_is : store_from 0 all (standing r.memory.own.items r.memory.issued.items conditions) ≡ with_leaf m.store leaf.path after
  store_is =
      ap (λ os. store_from 0 all (standing os r.memory.issued.items conditions)) (sym (set_same r.memory.own.items block st.own st.own_is))
      ∙ ap (λ xs. store_from 0 all (standing (set r.memory.own.items block st.own) xs conditions)) (sym (set_same r.memory.issued.items block st.issued st.issued_is))
      ∙ store_set all r.memory.own.items r.memory.issued.items r.memory.conditions.items block leaf st.own st.issued st.own st.issued st.condition (Service s.Fired) apart t.stands st.own_is st.issued_is st.condition_is
      ∙ ap (with_leaf m.store leaf.path) after_is

  sound : IsSound cert device (record { queues = m.queues; store = with_leaf m.store leaf.path after; spent = m.spent; clock = m.clock; next = m.next })
  sound =
      let w = all_got (IsWired all) all block leaf g.program.holds.wired t.stands in
      let own : CellsLie cert.ranges leaf.path leaf.kind (m.store leaf.path).cells = (at_leaf (λ leaf. CellsLie cert.ranges leaf.path leaf.kind (m.store leaf.path).cells) all leaf.path leaf g.sound.lies w.found).0 in
      sound_but cert device m (with_leaf m.store leaf.path after) m.clock g.sound (with_leaf_lies cert.ranges m.store all all leaf after w.found own g.program.holds.wired g.sound.lies)
      (with_leaf_keeps (λ k s. KeepsStamps k.kind s.condition) m.store all all leaf after w.found (timer_stamps leaf.kind book.Fired t.timer) g.program.holds.wired g.sound.stamps)

  stands : AllStand all r.memory.own.items r.memory.issued.items conditions
  stands k other at =
      let old = g.stand k other at in
      elim (cases_eq block k) [
        | inl e ↦ (
            let same : leaf ≡ other = same_at all block leaf other t.stands (ap (slice_get all) e ∙ at) in
            record {
              own = old.own;
              issued = old.issued;
              condition = Service s.Fired;
              own_is = old.own_is;
              issued_is = old.issued_is;
              condition_is = ap (slice_get conditions) (sym e) ∙ set_stands r.memory.conditions.items block st.condition (Service s.Fired) st.condition_is;
              stores = old.stores;
              fits = subst (λ (l : Leaf). IsConditionOf l.kind (Service s.Fired)) same (fired_fits leaf.kind t.timer);
            }
            )
        | inr n ↦ record {
          own = old.own;
          issued = old.issued;
          condition = old.condition;
          own_is = old.own_is;
          issued_is = old.issued_is;
          condition_is = get_other r.memory.conditions.items block k (Service s.Fired) n ∙ old.condition_is;
          stores = old.stores;
          fits = old.fits;
        }
      ]

  -- its timer is armed no longer
  armed : AreArmed (store_from 0 all (standing r.memory.own.items r.memory.issued.items conditions)) all (without r.timers.armed block)
  armed k =
      due_cleared r.timers.armed block k apart_timers
      ∙ elim (cases_eq block k) [
        | inl e ↦ (
            let at : slice_get all k ≡ Some leaf = ap (slice_get all) (sym e) ∙ t.stands in
            let none : due (store_from 0 all (standing r.memory.own.items r.memory.issued.items conditions) leaf.path).condition ≡ None =
            ap (λ (k : LeafState). due k.condition)
            (stored_at all r.memory.own.items r.memory.issued.items conditions block leaf st.own st.issued (Service s.Fired) apart t.stands st.own_is st.issued_is (set_stands r.memory.conditions.items block st.condition (Service s.Fired) st.condition_is) ∙ after_is)
            in
            let own : moment_of (store_from 0 all (standing r.memory.own.items r.memory.issued.items conditions)) (Some leaf) ≡ None = ap (λ o. cond (is_timer leaf.kind) o None) none ∙ both (is_timer leaf.kind) in
            ap (λ b. cond b None (due_of r.timers.armed k)) (eq-eqb block k e) ∙ sym (ap (moment_of (store_from 0 all (standing r.memory.own.items r.memory.issued.items conditions))) at ∙ own)
            )
        | inr n ↦ ap (λ b. cond b None (due_of r.timers.armed k)) (ne_eqb block k n) ∙ g.armed k ∙ others n (slice_get all k) refl
      ]
    where
      both : (b : Bool) → cond {A = Option ℕ} b None None ≡ None
      both true = refl
      both false = refl

      others : (block ≡ k → ⊥) → (o : Option Leaf) → slice_get all k ≡ o → moment_of m.store o ≡ moment_of (store_from 0 all (standing r.memory.own.items r.memory.issued.items conditions)) o
      others n None at = refl
      others n (Some other) at =
          let same = others_same all r.memory.own.items r.memory.issued.items r.memory.conditions.items block k other st.own st.issued (Service s.Fired) apart g.stand n at in
          let there : store_from 0 all (standing r.memory.own.items r.memory.issued.items conditions) other.path ≡ m.store other.path =
          ap (λ os. store_from 0 all (standing os r.memory.issued.items conditions) other.path) (sym (set_same r.memory.own.items block st.own st.own_is))
          ∙ ap (λ xs. store_from 0 all (standing (set r.memory.own.items block st.own) xs conditions) other.path) (sym (set_same r.memory.issued.items block st.issued st.issued_is)) ∙ same in
          ap (λ (k : LeafState). cond (is_timer other.kind) (due k.condition) None) (sym there)

  module _ (new : Running) (queues : new.queues ≡ r.queues) (own : new.memory.own ≡ r.memory.own) (issued : new.memory.issued ≡ r.memory.issued) (changed : new.memory.conditions.items ≡ set r.memory.conditions.items block (Service s.Fired))
      (disarmed : new.timers.armed ≡ without r.timers.armed block) (room : r.timers.room ≤ new.timers.room) (outbox : new.outbox ≡ r.outbox) (clock : new.clock ≡ r.clock) (next : new.next ≡ r.next) where
    pub machine_is : machine_of (session_of p new) ≡ record { queues = m.queues; store = with_leaf m.store leaf.path after; spent = m.spent; clock = m.clock; next = m.next }
    machine_is =
        ap (λ us. machine all us.items (standing new.memory.own.items new.memory.issued.items new.memory.conditions.items) new.clock (next_of new.next)) queues
        ∙ ap (λ us. machine all r.queues.items (standing us.items new.memory.issued.items new.memory.conditions.items) new.clock (next_of new.next)) own
        ∙ ap (λ us. machine all r.queues.items (standing r.memory.own.items us.items new.memory.conditions.items) new.clock (next_of new.next)) issued
        ∙ ap (λ us. machine all r.queues.items (standing r.memory.own.items r.memory.issued.items us) new.clock (next_of new.next)) changed
        ∙ ap (λ k. machine all r.queues.items (standing r.memory.own.items r.memory.issued.items conditions) k (next_of new.next)) clock
        ∙ ap (λ k. machine all r.queues.items (standing r.memory.own.items r.memory.issued.items conditions) r.clock (next_of k)) next
        ∙ ap (λ (f : Store). record { queues = m.queues; store = f; spent = m.spent; clock = m.clock; next = m.next }) store_is

    pub good_after : IsGood p new
    good_after = record {
      program = program_moved p r new (ap (λ us. map forms_of us.items) own) (ap (λ us. map forms_of us.items) issued) g.program;
      sound = subst (IsSound cert device) (sym machine_is) sound;
      stand = subst (λ us. AllStand all us.items new.memory.issued.items new.memory.conditions.items) (sym own) (subst (λ us. AllStand all r.memory.own.items us.items new.memory.conditions.items) (sym issued) (subst (λ us. AllStand all r.memory.own.items r.memory.issued.items us) (sym changed) stands));
      count = ap (λ us. length us.items) queues ∙ g.count;
      queues = λ j b h. g.queues j b (ap (λ us. slice_get us.items j) (sym queues) ∙ h);
      armed = subst (λ (ts : List Armed). AreArmed (machine_of (session_of p new)).store all ts) (sym disarmed) (subst (λ (f : Machine). AreArmed f.store all (without r.timers.armed block)) (sym machine_is) (subst (λ (f : Store). AreArmed f all (without r.timers.armed block)) store_is armed));
      timers = omega (arith, g.timers, room);
      outbox = ap (λ o. o.items) outbox ∙ g.outbox;
      wide = subst (λ o. AllByRecursion (λ (x : Resource). x.depth ≤ o.capacity) p.tables.resources.items) (sym outbox) g.wide;
      next = subst (λ o. IfSome o (λ n. n < 2 ^ 64)) (sym next) g.next;
    }
