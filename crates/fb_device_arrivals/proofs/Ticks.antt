-- How far a tick has come.
use Rattle.std.proofs.Common.{◌≡◌, ℕ, suc, ◌+◌, ◌<◌, ◌≤◌, Bool, true, false, cond, List, [], ◌∷◌, drop, length, slice_get, Option, Some, None, refl, sym, ◌∙◌, ap, subst, arith, inl}
use Rattle.std.specs.Prelude.{nat_le}
use Rattle.fb_model.specs.System as system
use Rattle.fb_model.specs.System.{Device}
use Rattle.fb_model.specs.Services.{expire}
use Rattle.fb_model.specs.Wires.{Kind, Charted, Serviced, Leaf, leaves}
use Rattle.fb_model.specs.Store.{Store}
use Rattle.fb_model.specs.Certificates.{Certificate, events_of}
use Rattle.fb_model.specs.Devices.{Machine, Arrival, HasRoom, Tries, due, due_timers, is_timer, at_moment, expiring, expired}
use Rattle.fb_sched.specs.declared.armed.Armed.{Armed}
use Rattle.fb_sched.specs.Order as order
use Rattle.fb_sched.specs.Order.{IsOrdered, due_of, due_at, without}
use Rattle.fb_sched.specs.Expiry.{AreArmed, moment_of, leaves_at}
use Rattle.fb_sched.proofs.Few.{few}
use Rattle.fb_sched.proofs.Leaves.{due_leaves}
use Rattle.fb_sched.proofs.Ordered.{apart_without}
use Rattle.fb_device_state.specs.declared.program.Program.{Program}
use Rattle.fb_device_state.specs.declared.program.Running.{Running}
use Rattle.fb_device_state.specs.declared.admission.Shortage.{Shortage}
use Rattle.fb_device_state.specs.declared.admission.Shortage.TheVariants.{Places, Numbers}
use Rattle.fb_device_state.specs.Sessions.{session_of}
use Rattle.fb_device_state.specs.Machines.{device_in, cert_in, machine_of}
use Rattle.fb_device_state.specs.Keeping.{IsGood}
use Rattle.fb_device_state.specs.Arrivals.{IsArrival, IsShort}
use Rattle.fb_device_state.proofs.Blocks.{within}
use Rattle.fb_device_arrivals.specs.Ticking.{IsTimer}
use Rattle.fb_device_arrivals.proofs.Ticking.{due_there, without_due, Progress, progress_fired, progress_waits, progress_ends, drop_first, drop_none, leaf_first}

-- EXPIRE is the third event of a timer
expires_third : (kind : Kind) → is_timer kind ≡ true → slice_get (events_of kind) 2 ≡ Some expire
expires_third (Charted block) h = cc
expires_third (Serviced (system.Input number types)) h = cc
expires_third (Serviced (system.Output number types)) h = cc
expires_third (Serviced (system.Publish channel types)) h = cc
expires_third (Serviced (system.Subscribe channel types)) h = cc
expires_third (Serviced system.Delay) h = refl
expires_third (Serviced system.Cycle) h = refl
expires_third (Serviced system.Restart) h = cc

pub expiry : (all : List Leaf) (k : ℕ) (leaf : Leaf) → slice_get all k ≡ Some leaf → is_timer leaf.kind ≡ true → IsArrival all (record { block = k; event = 2 }) [] (expiring leaf)
expiry all k leaf at h = record { leaf = at; event = expires_third leaf.kind h; same = refl; message = inl refl }

-- what is short of places or numbers has no room
pub no_room : (cert : Certificate) (device : Device) (m : Machine) (a : Arrival) (why : Shortage) → IsShort cert device m a why → HasRoom cert device m a → ⊥
no_room cert device m a (Places needs free) s h = absurd (omega (arith, h.credit, s.0, s.1, s.2))
no_room cert device m a Numbers s h = absurd (omega (arith, h.number, s))

-- ---- armed timers are those of leaves

timer_of : (store : Store) (o : Option Leaf) (d : ℕ) → moment_of store o ≡ Some d → (leaf : Leaf) × (o ≡ Some leaf) × (is_timer leaf.kind ≡ true)
timer_of store None d h = cc
timer_of store (Some leaf) d h = go (is_timer leaf.kind) refl h
  where
    go : (b : Bool) → is_timer leaf.kind ≡ b → cond b (due (store leaf.path).condition) None ≡ Some d → (other : Leaf) × (Some leaf ≡ Some other) × (is_timer other.kind ≡ true)
    go true e k = (leaf, refl, e)
    go false e k = cc

armed_timer : (store : Store) (all : List Leaf) (armed : List Armed) (k d : ℕ) → AreArmed store all armed → due_of armed k ≡ Some d → IsTimer all k
armed_timer store all armed k d h e = (let t = timer_of store (slice_get all k) d (sym (h k) ∙ e) in record { leaf = t.0; stands = t.1; timer = t.2 })

pub due_timer : (store : Store) (all : List Leaf) (armed : List Armed) (clock i : ℕ) (x : Armed) → AreArmed store all armed → slice_get (due_at clock armed) i ≡ Some x → IsTimer all x.block
due_timer store all armed clock i x h e = by (due_of armed x.block) refl
  where
    by : (o : Option ℕ) → due_of armed x.block ≡ o → IsTimer all x.block
    by None k = absurd (due_there clock armed i x e k)
    by (Some d) k = armed_timer store all armed x.block d h k

due_few : (clock : ℕ) (armed : List Armed) → length (due_at clock armed) ≤ length armed
due_few clock [] = omega arith
due_few clock (a ∷ as') = go (nat_le a.due clock) (due_few clock as')
  where
    go : (b : Bool) → length (due_at clock as') ≤ length as' → length (cond b (a ∷ due_at clock as') []) ≤ suc (length as')
    go true h = omega (arith, h)
    go false h = omega arith

pub armed_few : (store : Store) (all : List Leaf) (armed : List Armed) (clock : ℕ) → order.AreApart armed → AreArmed store all armed → length (due_at clock armed) ≤ length all
armed_few store all armed clock apart h = omega (arith, due_few clock armed, few (length all) armed apart (λ k d e. (let t = armed_timer store all armed k d h e in within all k t.leaf t.stands)))

-- ---- the timers of a tick, so far

pub record Ticks (p : Program) (first now : Running) (moment fired waiting : ℕ) : Type 0 where
  pub good : IsGood p now
  pub apart : order.AreApart now.timers.armed
  pub progress : Progress (cert_in (session_of p first)) (device_in (session_of p first)) (due_timers (machine_of (session_of p first)).store (at_moment (machine_of (session_of p first)) moment).clock (leaves (device_in (session_of p first)))) (at_moment (machine_of (session_of p first)) moment) fired
      (leaves_at (leaves (device_in (session_of p first))) (drop waiting (due_at now.clock now.timers.armed))) (machine_of (session_of p now))
  pub count : fired + length (drop waiting (due_at now.clock now.timers.armed)) ≤ 65535

pub ticks : (p : Program) (first now : Running) (moment : ℕ) → IsGood p now → IsOrdered now.timers.armed → order.AreApart now.timers.armed → machine_of (session_of p now) ≡ at_moment (machine_of (session_of p first)) moment → Ticks p first now moment 0 0
ticks p first now moment g ordered apart is =
    let all = leaves (device_in (session_of p first)) in
    let clock : now.clock ≡ (at_moment (machine_of (session_of p first)) moment).clock = ap (λ (m : Machine). m.clock) is in
    let store : (machine_of (session_of p now)).store ≡ (machine_of (session_of p first)).store = ap (λ (m : Machine). m.store) is in
    let whole : due_timers (machine_of (session_of p first)).store (at_moment (machine_of (session_of p first)) moment).clock all ≡ leaves_at all (due_at now.clock now.timers.armed) =
    ap (λ s. due_timers s (at_moment (machine_of (session_of p first)) moment).clock all) (sym store) ∙ ap (λ c. due_timers (machine_of (session_of p now)).store c all) (sym clock) ∙ due_leaves (machine_of (session_of p now)).store all now.timers.armed now.clock ordered apart g.armed in
    record {
      good = g;
      apart = apart;
      progress = λ count new t. subst (λ n. Tries (cert_in (session_of p first)) (device_in (session_of p first)) (due_timers (machine_of (session_of p first)).store (at_moment (machine_of (session_of p first)) moment).clock all) (at_moment (machine_of (session_of p first)) moment) n new) (none_more count)
          (subst (λ ls. Tries (cert_in (session_of p first)) (device_in (session_of p first)) ls (at_moment (machine_of (session_of p first)) moment) count new) (sym whole)
          (subst (λ (m : Machine). Tries (cert_in (session_of p first)) (device_in (session_of p first)) (leaves_at all (due_at now.clock now.timers.armed)) m count new) is t));
      count = omega (arith, armed_few (machine_of (session_of p now)).store all now.timers.armed now.clock apart g.armed, g.program.tables.few);
    }
  where
    none_more : (n : ℕ) → n ≡ 0 + n
    none_more n = omega arith

pub ticked : (p : Program) (first now : Running) (moment fired waiting : ℕ) → Ticks p first now moment fired waiting → slice_get (due_at now.clock now.timers.armed) waiting ≡ None
    → Tries (cert_in (session_of p first)) (device_in (session_of p first)) (due_timers (machine_of (session_of p first)).store (at_moment (machine_of (session_of p first)) moment).clock (leaves (device_in (session_of p first)))) (at_moment (machine_of (session_of p first)) moment) fired (machine_of (session_of p now))
ticked p first now moment fired waiting t none =
    let none_left : leaves_at (leaves (device_in (session_of p first))) (drop waiting (due_at now.clock now.timers.armed)) ≡ [] = ap (leaves_at (leaves (device_in (session_of p first)))) (drop_none (due_at now.clock now.timers.armed) waiting none) in
    progress_ends _ _ _ _ fired (machine_of (session_of p now)) (subst (λ ls. Progress (cert_in (session_of p first)) (device_in (session_of p first)) (due_timers (machine_of (session_of p first)).store (at_moment (machine_of (session_of p first)) moment).clock (leaves (device_in (session_of p first)))) (at_moment (machine_of (session_of p first)) moment) fired ls (machine_of (session_of p now))) none_left t.progress)

module _ (p : Program) (first now : Running) (moment fired waiting : ℕ) (t : Ticks p first now moment fired waiting) (x : Armed) (at : slice_get (due_at now.clock now.timers.armed) waiting ≡ Some x) (leaf : Leaf) (stands : slice_get (leaves (device_in (session_of p first))) x.block ≡ Some leaf) where
  abbrev all : List Leaf
  all = leaves (device_in (session_of p first))

  more : drop waiting (due_at now.clock now.timers.armed) ≡ x ∷ drop (suc waiting) (due_at now.clock now.timers.armed)
  more = drop_first (due_at now.clock now.timers.armed) waiting x at

  next_is : suc waiting ≡ waiting + 1
  next_is = omega arith

  pub fits : fired + 1 ≤ 65535
  fits = omega (arith, t.count, ap length more)

  progress : Progress (cert_in (session_of p first)) (device_in (session_of p first)) (due_timers (machine_of (session_of p first)).store (at_moment (machine_of (session_of p first)) moment).clock all) (at_moment (machine_of (session_of p first)) moment) fired
      (leaf ∷ leaves_at all (drop (suc waiting) (due_at now.clock now.timers.armed))) (machine_of (session_of p now))
  progress = subst (λ ls. Progress (cert_in (session_of p first)) (device_in (session_of p first)) (due_timers (machine_of (session_of p first)).store (at_moment (machine_of (session_of p first)) moment).clock all) (at_moment (machine_of (session_of p first)) moment) fired ls (machine_of (session_of p now)))
      (ap (leaves_at all) more ∙ leaf_first all x (drop (suc waiting) (due_at now.clock now.timers.armed)) leaf stands) t.progress

  pub fired_less : (new : Running) → new.timers.armed ≡ without now.timers.armed x.block → new.clock ≡ now.clock → length (drop waiting (due_at new.clock new.timers.armed)) < length (drop waiting (due_at now.clock now.timers.armed))
  fired_less new armed clock =
      let left : drop waiting (due_at new.clock new.timers.armed) ≡ drop (suc waiting) (due_at now.clock now.timers.armed) =
      ap (λ c. drop waiting (due_at c new.timers.armed)) clock ∙ ap (λ l. drop waiting (due_at now.clock l)) armed ∙ without_due now.clock now.timers.armed waiting x t.apart at in
      omega (arith, ap length more, ap length left)

  pub waits_less : (new : Running) → new.timers.armed ≡ now.timers.armed → new.clock ≡ now.clock → length (drop (waiting + 1) (due_at new.clock new.timers.armed)) < length (drop waiting (due_at now.clock now.timers.armed))
  waits_less new armed clock =
      let left : drop (waiting + 1) (due_at new.clock new.timers.armed) ≡ drop (suc waiting) (due_at now.clock now.timers.armed) =
      ap (λ c. drop (waiting + 1) (due_at c new.timers.armed)) clock ∙ ap (λ l. drop (waiting + 1) (due_at now.clock l)) armed ∙ ap (λ n. drop n (due_at now.clock now.timers.armed)) (sym next_is) in
      omega (arith, ap length more, ap length left)

  pub waiting_few : waiting + 1 ≤ 65535
  waiting_few = omega (arith, within (due_at now.clock now.timers.armed) waiting x at, armed_few (machine_of (session_of p now)).store all now.timers.armed now.clock t.apart t.good.armed, t.good.program.tables.few)

  -- it is fired
  pub fired_one : (new : Running) → IsGood p new → new.timers.armed ≡ without now.timers.armed x.block → new.clock ≡ now.clock → HasRoom (cert_in (session_of p first)) (device_in (session_of p first)) (machine_of (session_of p now)) (expiring leaf)
      → machine_of (session_of p new) ≡ expired (machine_of (session_of p now)) leaf → Ticks p first new moment (fired + 1) waiting
  fired_one new g armed clock room is =
      let left : drop waiting (due_at new.clock new.timers.armed) ≡ drop (suc waiting) (due_at now.clock now.timers.armed) =
      ap (λ c. drop waiting (due_at c new.timers.armed)) clock ∙ ap (λ l. drop waiting (due_at now.clock l)) armed ∙ without_due now.clock now.timers.armed waiting x t.apart at in
      record {
        good = g;
        apart = subst order.AreApart (sym armed) (apart_without now.timers.armed x.block t.apart);
        progress = subst (λ (l : List Armed). Progress (cert_in (session_of p first)) (device_in (session_of p first)) (due_timers (machine_of (session_of p first)).store (at_moment (machine_of (session_of p first)) moment).clock all) (at_moment (machine_of (session_of p first)) moment) (fired + 1) (leaves_at all l) (machine_of (session_of p new))) (sym left)
            (subst (λ (m : Machine). Progress (cert_in (session_of p first)) (device_in (session_of p first)) (due_timers (machine_of (session_of p first)).store (at_moment (machine_of (session_of p first)) moment).clock all) (at_moment (machine_of (session_of p first)) moment) (fired + 1) (leaves_at all (drop (suc waiting) (due_at now.clock now.timers.armed))) m) (sym is)
            (progress_fired _ _ _ _ fired leaf _ (machine_of (session_of p now)) progress room));
        count = omega (arith, t.count, ap length more, ap length left);
      }

  -- it stays armed
  pub waits_one : (new : Running) → IsGood p new → new.timers.armed ≡ now.timers.armed → new.clock ≡ now.clock → (HasRoom (cert_in (session_of p first)) (device_in (session_of p first)) (machine_of (session_of p now)) (expiring leaf) → ⊥)
      → machine_of (session_of p new) ≡ machine_of (session_of p now) → Ticks p first new moment fired (waiting + 1)
  waits_one new g armed clock none is =
      let left : drop (waiting + 1) (due_at new.clock new.timers.armed) ≡ drop (suc waiting) (due_at now.clock now.timers.armed) =
      ap (λ c. drop (waiting + 1) (due_at c new.timers.armed)) clock ∙ ap (λ l. drop (waiting + 1) (due_at now.clock l)) armed ∙ ap (λ n. drop n (due_at now.clock now.timers.armed)) (sym next_is) in
      record {
        good = g;
        apart = subst order.AreApart (sym armed) t.apart;
        progress = subst (λ (l : List Armed). Progress (cert_in (session_of p first)) (device_in (session_of p first)) (due_timers (machine_of (session_of p first)).store (at_moment (machine_of (session_of p first)) moment).clock all) (at_moment (machine_of (session_of p first)) moment) fired (leaves_at all l) (machine_of (session_of p new))) (sym left)
            (subst (λ (m : Machine). Progress (cert_in (session_of p first)) (device_in (session_of p first)) (due_timers (machine_of (session_of p first)).store (at_moment (machine_of (session_of p first)) moment).clock all) (at_moment (machine_of (session_of p first)) moment) fired (leaves_at all (drop (suc waiting) (due_at now.clock now.timers.armed))) m) (sym is)
            (progress_waits _ _ _ _ fired leaf _ (machine_of (session_of p now)) progress none));
        count = omega (arith, t.count, ap length more, ap length left);
      }
