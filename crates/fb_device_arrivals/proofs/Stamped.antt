-- A SUBSCRIBE that keeps the stamp of a message.
use Rattle.std.proofs.Common.{◌≡◌, ℕ, ◌<◌, ◌≤◌, ◌^◌, Bool, true, false, cond, List, map, length, set, slice_get, Option, Some, None, refl, sym, ◌∙◌, ap, subst, inl, inr}
use Rattle.std.specs.Prelude.{IfSome}
use Rattle.std.specs.List.{AllByRecursion}
use Rattle.std.proofs.Math.Path.{fun_ext}
use Rattle.std.proofs.lemmas.Bool.{cases_eq}
use Rattle.fb_words.specs.declared.format.Format.TheVariants.{Second}
use Rattle.fb_model.specs.Names.{Path, path_eq}
use Rattle.fb_model.specs.System as system
use Rattle.fb_model.specs.System.{Device}
use Rattle.fb_model.specs.Messages as message
use Rattle.fb_model.specs.Messages.{Purpose, To_channel, To_input, IsStamped}
use Rattle.fb_model.specs.Wires.{Kind, Charted, Serviced, Leaf, leaves}
use Rattle.fb_model.specs.Store as book
use Rattle.fb_model.specs.Store.{Store, LeafState, with_leaf}
use Rattle.fb_model.specs.Serving.{is_ready}
use Rattle.fb_model.specs.Certificates.{Certificate, IsWired}
use Rattle.fb_model.specs.Devices.{Machine, Arrival, IsReady, admitted, due, is_timer, format_of, keeping, with_stamp}
use Rattle.fb_model.specs.Headline.{IsSound}
use Rattle.fb_model.proofs.Lists.{same_path}
use Rattle.fb_model.proofs.Admitting.{sound_stamped}
use Rattle.fb_model_laws.specs.Leaves.{AreApart}
use Rattle.fb_wire.specs.declared.message.Stamp.{Stamp}
use Rattle.fb_wire.specs.Views.{stamped_of}
use Rattle.fb_lists.proofs.Lists.{all_got, get_other, set_stands, same_at}
use Rattle.st_exec.specs.Cells.{Cell, forms_of}
use Rattle.fb_chart.specs.declared.standing.Stamps.TheVariants as k
use Rattle.fb_chart.specs.declared.standing.Standing.TheVariants as s
use Rattle.fb_device_tables.specs.declared.table.Resource.{Resource}
use Rattle.fb_chart.specs.declared.memory.Condition.{Condition}
use Rattle.fb_chart.specs.declared.memory.Condition.TheVariants.{Service}
use Rattle.fb_chart.specs.Conditions.{leaf_state, IsConditionOf}
use Rattle.fb_sched.specs.Order.{Timing}
use Rattle.fb_sched.specs.Expiry.{AreArmed, moment_of}
use Rattle.fb_device_state.specs.declared.program.Program.{Program}
use Rattle.fb_device_state.specs.declared.program.Running.{Running}
use Rattle.fb_device_state.specs.Sessions.{session_of, next_of}
use Rattle.fb_device_state.specs.Machines.{device_in, cert_in, standing, store_from, machine, machine_of}
use Rattle.fb_device_state.specs.Keeping.{IsStanding, AllStand, IsGood}
use Rattle.fb_device_state.proofs.Storing.{store_set, stored_at}
use Rattle.fb_device_state.proofs.Moved.{program_moved}
use Rattle.fb_device_arrivals.specs.Stamping.{CanKeep}
use Rattle.fb_device_arrivals.proofs.Firing.{set_same, others_same}

-- ---- no stamp

-- a message without a stamp leaves what is kept
pub unstamped : (m : Machine) (leaf : Leaf) → with_stamp m leaf None ≡ m
unstamped m leaf = ap (λ (f : Store). record { queues = m.queues; store = f; spent = m.spent; clock = m.clock; next = m.next }) (fun_ext (λ p. go p (path_eq leaf.path p) refl))
  where
    go : (p : Path) (b : Bool) → path_eq leaf.path p ≡ b → cond b (m.store leaf.path) (m.store p) ≡ m.store p
    go p true e = ap m.store (same_path leaf.path p e)
    go p false e = refl

-- ---- after an admission

ready_moved : (m : Machine) (a : Arrival) (leaf : Leaf) (purpose : Purpose) → IsReady m leaf purpose → IsReady (admitted m a) leaf purpose
ready_moved m a leaf To_channel h = h
ready_moved m a leaf To_input h = h

pub can_keep : (all : List Leaf) (m : Machine) (a : Arrival) (block : ℕ) (stamp : Option message.Stamp) → CanKeep all m block stamp → CanKeep all (admitted m a) block stamp
can_keep all m a block stamp c = record { leaf = c.leaf; purpose = c.purpose; stands = c.stands; stamped = c.stamped; format = c.format; ready = ready_moved m a c.leaf c.purpose c.ready }

-- ---- kinds that take stamped messages

kept_condition : (kind : Kind) (own issued : List Cell) (stamp : Stamp) → Second ≡ format_of kind → (leaf_state kind own issued (Service (s.Ready (k.Latest stamp)))).condition ≡ book.Ready (book.Latest (stamped_of stamp))
kept_condition (Charted block) own issued stamp h = cc
kept_condition (Serviced service) own issued stamp h = refl

kept_fits : (kind : Kind) (stamp : Stamp) → Second ≡ format_of kind → IsConditionOf kind (Service (s.Ready (k.Latest stamp)))
kept_fits (Charted block) stamp h = cc
kept_fits (Serviced service) stamp h = tt

no_timer : (kind : Kind) → Second ≡ format_of kind → is_timer kind ≡ false
no_timer (Charted block) h = refl
no_timer (Serviced (system.Input number types)) h = refl
no_timer (Serviced (system.Output number types)) h = refl
no_timer (Serviced (system.Publish channel types)) h = refl
no_timer (Serviced (system.Subscribe channel types)) h = refl
no_timer (Serviced system.Delay) h = cc
no_timer (Serviced system.Cycle) h = cc
no_timer (Serviced system.Restart) h = refl

open_keeps : (c : book.Condition) (stamp : message.Stamp) → is_ready c ≡ true → keeping c (Some stamp) ≡ book.Ready (book.Latest stamp)
open_keeps (book.Ready stamps) stamp h = refl
open_keeps (book.AtState n) stamp h = cc
open_keeps (book.Closed stamps) stamp h = cc
open_keeps book.Quiet stamp h = cc
open_keeps (book.Armed moment) stamp h = cc
open_keeps book.Fired stamp h = cc
open_keeps book.Plain stamp h = cc

is_open : (m : Machine) (leaf : Leaf) (purpose : Purpose) (stamp : message.Stamp) → IsStamped purpose (Some stamp) → IsReady m leaf purpose → is_ready (m.store leaf.path).condition ≡ true
is_open m leaf To_channel stamp s h = h
is_open m leaf To_input stamp s h = absurd s

-- ---- the stamp is kept

module _ (p : Program) (r : Running) (g : IsGood p r) (block : ℕ) (stamp : Stamp) (c : CanKeep (leaves (device_in (session_of p r))) (machine_of (session_of p r)) block (Some (stamped_of stamp))) where
  abbrev cert : Certificate
  cert = cert_in (session_of p r)

  abbrev device : Device
  device = device_in (session_of p r)

  abbrev all : List Leaf
  all = leaves (device_in (session_of p r))

  abbrev m : Machine
  m = machine_of (session_of p r)

  abbrev kept : Condition
  kept = Service (s.Ready (k.Latest stamp))

  abbrev conditions : List Condition
  conditions = set r.memory.conditions.items block (Service (s.Ready (k.Latest stamp)))

  abbrev leaf : Leaf
  leaf = c.leaf

  st : IsStanding leaf block r.memory.own.items r.memory.issued.items r.memory.conditions.items
  st = g.stand block leaf c.stands

  apart : AreApart all
  apart = g.program.tables.apart

  abbrev after : LeafState
  after = record { cells = (m.store leaf.path).cells; condition = keeping (m.store leaf.path).condition (Some (stamped_of stamp)) }

  before_is : m.store leaf.path ≡ leaf_state leaf.kind st.own st.issued st.condition
  before_is = stored_at all r.memory.own.items r.memory.issued.items r.memory.conditions.items block leaf st.own st.issued st.condition apart c.stands st.own_is st.issued_is st.condition_is

  after_is : leaf_state leaf.kind st.own st.issued kept ≡ after
  after_is =
      ap (λ n. record { cells = (leaf_state leaf.kind st.own st.issued kept).cells; condition = n })
      (kept_condition leaf.kind st.own st.issued stamp c.format ∙ sym (open_keeps (m.store leaf.path).condition (stamped_of stamp) (is_open m leaf c.purpose (stamped_of stamp) c.stamped c.ready)))
      ∙ ap (λ (n : LeafState). record { cells = n.cells; condition = keeping (m.store leaf.path).condition (Some (stamped_of stamp)) }) (sym before_is)

  pub store_is : store_from 0 all (standing r.memory.own.items r.memory.issued.items conditions) ≡ with_leaf m.store leaf.path after
  store_is =
      ap (λ os. store_from 0 all (standing os r.memory.issued.items conditions)) (sym (set_same r.memory.own.items block st.own st.own_is))
      ∙ ap (λ xs. store_from 0 all (standing (set r.memory.own.items block st.own) xs conditions)) (sym (set_same r.memory.issued.items block st.issued st.issued_is))
      ∙ store_set all r.memory.own.items r.memory.issued.items r.memory.conditions.items block leaf st.own st.issued st.own st.issued st.condition kept apart c.stands st.own_is st.issued_is st.condition_is
      ∙ ap (with_leaf m.store leaf.path) after_is

  sound : IsSound cert device (with_stamp m leaf (Some (stamped_of stamp)))
  sound = sound_stamped cert device g.program.holds m leaf c.purpose (Some (stamped_of stamp)) g.sound (all_got (IsWired all) all block leaf g.program.holds.wired c.stands) c.stamped c.format

  stands : AllStand all r.memory.own.items r.memory.issued.items conditions
  stands n other at =
      let old = g.stand n other at in
      elim (cases_eq block n) [
        | inl e ↦ (
            let same : leaf ≡ other = same_at all block leaf other c.stands (ap (slice_get all) e ∙ at) in
            record {
              own = old.own;
              issued = old.issued;
              condition = kept;
              own_is = old.own_is;
              issued_is = old.issued_is;
              condition_is = ap (slice_get conditions) (sym e) ∙ set_stands r.memory.conditions.items block st.condition kept st.condition_is;
              stores = old.stores;
              fits = subst (λ (l : Leaf). IsConditionOf l.kind kept) same (kept_fits leaf.kind stamp c.format);
            }
            )
        | inr ne ↦ record {
          own = old.own;
          issued = old.issued;
          condition = old.condition;
          own_is = old.own_is;
          issued_is = old.issued_is;
          condition_is = get_other r.memory.conditions.items block n kept ne ∙ old.condition_is;
          stores = old.stores;
          fits = old.fits;
        }
      ]

  abbrev new_store : Store
  new_store = store_from 0 all (standing r.memory.own.items r.memory.issued.items conditions)

  -- timers are armed as before, since this leaf is none
  armed : AreArmed (store_from 0 all (standing r.memory.own.items r.memory.issued.items conditions)) all r.timers.armed
  armed n = g.armed n ∙ elim (cases_eq block n) [ inl e ↦ own e | inr ne ↦ others ne (slice_get all n) refl ]
    where
      own : block ≡ n → moment_of m.store (slice_get all n) ≡ moment_of new_store (slice_get all n)
      own e =
          let at : slice_get all n ≡ Some leaf = ap (slice_get all) (sym e) ∙ c.stands in
          let none : is_timer leaf.kind ≡ false = no_timer leaf.kind c.format in
          ap (moment_of m.store) at ∙ ap (λ b. cond b (due (m.store leaf.path).condition) None) none ∙ sym (ap (λ b. cond b (due (new_store leaf.path).condition) None) none) ∙ ap (moment_of new_store) (sym at)

      others : (block ≡ n → ⊥) → (o : Option Leaf) → slice_get all n ≡ o → moment_of m.store o ≡ moment_of new_store o
      others ne None at = refl
      others ne (Some other) at =
          let same = others_same all r.memory.own.items r.memory.issued.items r.memory.conditions.items block n other st.own st.issued kept apart g.stand ne at in
          let there : store_from 0 all (standing r.memory.own.items r.memory.issued.items conditions) other.path ≡ m.store other.path =
          ap (λ os. store_from 0 all (standing os r.memory.issued.items conditions) other.path) (sym (set_same r.memory.own.items block st.own st.own_is))
          ∙ ap (λ xs. store_from 0 all (standing (set r.memory.own.items block st.own) xs conditions) other.path) (sym (set_same r.memory.issued.items block st.issued st.issued_is)) ∙ same in
          ap (λ (l : LeafState). cond (is_timer other.kind) (due l.condition) None) (sym there)

  module _ (new : Running) (queues : new.queues ≡ r.queues) (own : new.memory.own ≡ r.memory.own) (issued : new.memory.issued ≡ r.memory.issued) (changed : new.memory.conditions.items ≡ set r.memory.conditions.items block (Service (s.Ready (k.Latest stamp))))
      (timers : new.timers ≡ r.timers) (outbox : new.outbox ≡ r.outbox) (clock : new.clock ≡ r.clock) (next : new.next ≡ r.next) where
    pub machine_is : machine_of (session_of p new) ≡ with_stamp m leaf (Some (stamped_of stamp))
    machine_is =
        ap (λ us. machine all us.items (standing new.memory.own.items new.memory.issued.items new.memory.conditions.items) new.clock (next_of new.next)) queues
        ∙ ap (λ us. machine all r.queues.items (standing us.items new.memory.issued.items new.memory.conditions.items) new.clock (next_of new.next)) own
        ∙ ap (λ us. machine all r.queues.items (standing r.memory.own.items us.items new.memory.conditions.items) new.clock (next_of new.next)) issued
        ∙ ap (λ us. machine all r.queues.items (standing r.memory.own.items r.memory.issued.items us) new.clock (next_of new.next)) changed
        ∙ ap (λ n. machine all r.queues.items (standing r.memory.own.items r.memory.issued.items conditions) n (next_of new.next)) clock
        ∙ ap (λ n. machine all r.queues.items (standing r.memory.own.items r.memory.issued.items conditions) r.clock (next_of n)) next
        ∙ ap (λ (f : Store). record { queues = m.queues; store = f; spent = m.spent; clock = m.clock; next = m.next }) store_is

    pub good_after : IsGood p new
    good_after = record {
      program = program_moved p r new (ap (λ us. map forms_of us.items) own) (ap (λ us. map forms_of us.items) issued) g.program;
      sound = subst (IsSound cert device) (sym machine_is) sound;
      stand = subst (λ us. AllStand all us.items new.memory.issued.items new.memory.conditions.items) (sym own) (subst (λ us. AllStand all r.memory.own.items us.items new.memory.conditions.items) (sym issued) (subst (λ us. AllStand all r.memory.own.items r.memory.issued.items us) (sym changed) stands));
      count = ap (λ us. length us.items) queues ∙ g.count;
      queues = λ j b h. g.queues j b (ap (λ us. slice_get us.items j) (sym queues) ∙ h);
      armed = subst (λ (t : Timing). AreArmed (machine_of (session_of p new)).store all t.armed) (sym timers) (subst (λ (f : Machine). AreArmed f.store all r.timers.armed) (sym machine_is) (subst (λ (f : Store). AreArmed f all r.timers.armed) store_is armed));
      timers = subst (λ (t : Timing). length all ≤ t.room) (sym timers) g.timers;
      outbox = ap (λ o. o.items) outbox ∙ g.outbox;
      wide = subst (λ o. AllByRecursion (λ (x : Resource). x.depth ≤ o.capacity) p.tables.resources.items) (sym outbox) g.wide;
      next = subst (λ o. IfSome o (λ n. n < 2 ^ 64)) (sym next) g.next;
    }
