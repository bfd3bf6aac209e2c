-- Each event keeps what is so of worlds.
use Rattle.std.proofs.Common.{◌≡◌, ℕ, zero, suc, ◌+◌, ◌-◌, ◌<◌, ◌≤◌, ◌||◌, Bool, true, false, cond, eqb, min, List, [], ◌∷◌, ◌++◌, Option, Some, None, refl, sym, ◌∙◌, ap, subst, arith, inl, inr}
use Rattle.std.specs.Prelude.{length, slice_get, nat_lt}
use Rattle.std.specs.List.{AllByRecursion}
use Rattle.std.proofs.lemmas.Bool.{eqb-true, eqb-false, eq-eqb, ne_eqb, lt-ltb, le-ltb, cases_eq, cases_lt}
use Rattle.fb_model.specs.Names.{Place, at_place}
use Rattle.fb_model.specs.System.{System, Device}
use Rattle.fb_model.specs.Services.{arrive}
use Rattle.fb_model.specs.Messages.{Stamp}
use Rattle.fb_model.specs.Wires.{leaves}
use Rattle.fb_model.specs.Serving.{Effect, Send, Write}
use Rattle.fb_model.specs.Certificates.{Certificate, DeviceHolds, reached}
use Rattle.fb_model.specs.Devices.{Ended, Entry, Machine, put, is_pending, steps_row, arriving, with_stamp, IsFresh, is_subscriber, follow_ups, Runs}
use Rattle.fb_model.specs.Headline.{IsKnown, IsSound, IsSendable}
use Rattle.fb_model.specs.World.{Datagram, World, WorldEvent, WorldAnswer, OpensCauses, AddsSteps, AdmitsDatagram, roots_from, posted, forgotten, admitted_at, WorldHappens}
use Rattle.fb_model.proofs.Homes.{homes}
use Rattle.fb_model.proofs.Lists.{all_append, all_weaker, all_both}
use Rattle.fb_model.proofs.Running.{put_all, at_first_leaf, known_pending, cause_pending, other_queue, sound_run}
use Rattle.fb_model.proofs.Sending.{sends_messages}
use Rattle.fb_model.specs.Worlds.{AllHold, IsOpened, KeepsStamp, IsSent, IsWorldSound}
use Rattle.fb_model_worlds.proofs.Stamps.{same_kept, run_keeps, stamped_keeps, stamped_kept, kept_stale}
use Rattle.fb_model_worlds.proofs.Growing.{IsEmptyFrom, admitted_within, Grows}
use Rattle.fb_model_worlds.proofs.Cases.{at_number, Admits, Case, rests, opens, serves, takes, case, device_holds}

-- ---- lists

pub all_suffix : {A : Type 0} (P : A → Type 0) (xs ys : List A) → AllByRecursion P (xs ++ ys) → AllByRecursion P ys
all_suffix P [] ys h = h
all_suffix P (x ∷ xs) ys h = all_suffix P xs ys h.1

pub all_prefix : {A : Type 0} (P : A → Type 0) (xs ys : List A) → AllByRecursion P (xs ++ ys) → AllByRecursion P xs
all_prefix P [] ys h = tt
all_prefix P (x ∷ xs) ys h = (h.0, all_prefix P xs ys h.1)

all_follow : (P : ℕ → Type 0) (first : Entry) (ps : List Place) → P first.cause → AllByRecursion (λ e. P e.cause) (follow_ups first ps)
all_follow P first [] h = tt
all_follow P first (p ∷ ps) h = (h, all_follow P first ps h)

-- the root of a cause that is not pending says nothing
gone_says : (P : ℕ → Type 0) (of : ℕ → ℕ) (c r : ℕ) (es : List Entry) → is_pending c es ≡ false → AllByRecursion (λ e. P (of e.cause)) es → AllByRecursion (λ e. P (put of c r e.cause)) es
gone_says P of c r [] g h = tt
gone_says P of c r (e ∷ es) g h = by (eqb e.cause c) refl g (λ k. gone_says P of c r es k h.1) where
  by : (t : Bool) → eqb e.cause c ≡ t → (t || is_pending c es) ≡ false → (is_pending c es ≡ false → AllByRecursion (λ e. P (put of c r e.cause)) es) → AllByRecursion (λ e. P (put of c r e.cause)) (e ∷ es)
  by true i g more = cc
  by false i g more = (subst P (sym (ap (λ t. cond t r (of e.cause)) (ne_eqb c e.cause (λ k. eqb-false e.cause c i (sym k))))) h.0, more g)

-- that of a new cause says nothing of the others
other_says : (P : ℕ → Type 0) (of : ℕ → ℕ) (c r : ℕ) (es : List Entry) → AllByRecursion (λ e. e.cause < c) es → AllByRecursion (λ e. P (of e.cause)) es → AllByRecursion (λ e. P (put of c r e.cause)) es
other_says P of c r es l h = all_both (λ e. e.cause < c) (λ e. P (of e.cause)) (λ e. P (put of c r e.cause)) es (λ e k p. subst P (sym (ap (λ t. cond t r (of e.cause)) (ne_eqb c e.cause (λ g. omega (arith, g, k))))) p) l h

-- a device's machine and its roots are new
both_put : (P : ℕ → Machine → (ℕ → ℕ) → Type 0) (ms : ℕ → Machine) (ofs : ℕ → ℕ → ℕ) (d : ℕ) (m : Machine) (of : ℕ → ℕ) → P d m of → ((j : ℕ) → (d ≡ j → ⊥) → P j (ms j) (ofs j)) → (j : ℕ) → P j (put ms d m j) (put ofs d of j)
both_put P ms ofs d m of h k j = by (eqb d j) refl where
  by : (t : Bool) → eqb d j ≡ t → P j (cond t m (ms j)) (cond t of (ofs j))
  by true e = subst (λ i. P i m of) (eqb-true d j e) h
  by false e = k j (eqb-false d j e)

-- the pending entries of a machine have roots that were opened
abbrev AreRooted : World → Machine → (ℕ → ℕ) → Type 0
AreRooted w m of = (q : ℕ) → AllByRecursion (λ e. IsOpened w (of e.cause)) (m.queues q)

-- ---- one device

module _ (system : System) (cert : Certificate) (old new : World) (s : IsWorldSound system cert old) (d : ℕ) (device : Device) (at : slice_get system.devices d ≡ Some device) (machine : Machine) (machines : new.machines ≡ put old.machines d machine) where
  pub at_devices : (P : ℕ → Device → Machine → Type 0) → P d device machine → ((j : ℕ) (x : Device) → (d ≡ j → ⊥) → slice_get system.devices j ≡ Some x → P j x (old.machines j)) → (j : ℕ) (x : Device) → slice_get system.devices j ≡ Some x → P j x (new.machines j)
  at_devices P h k j x there =
      subst (λ (ms : ℕ → Machine). P j x (ms j)) (sym machines)
      (put_all (λ i m. (y : Device) → slice_get system.devices i ≡ Some y → P i y m) old.machines d machine
      (λ y a. (let both : Some device ≡ Some y = sym at ∙ a in let is : device ≡ y = cc in subst (λ z. P d z machine) is h))
      (λ i n y a. k i y n a) j x there)

  -- what is kept of stamps stays so
  pub all_kept : ((c : ℕ) (stamp : Stamp) → KeepsStamp device (old.machines d) c stamp → KeepsStamp device machine c stamp) → (j : ℕ) (x : Device) → slice_get system.devices j ≡ Some x → (c : ℕ) (stamp : Stamp) → KeepsStamp x (old.machines j) c stamp → KeepsStamp x (new.machines j) c stamp
  all_kept h = at_devices (λ j x m. (c : ℕ) (stamp : Stamp) → KeepsStamp x (old.machines j) c stamp → KeepsStamp x m c stamp) h (λ j x n a c stamp k. k)

  all_machines : IsSound cert device machine → (j : ℕ) (x : Device) → slice_get system.devices j ≡ Some x → IsSound cert x (new.machines j)
  all_machines h = at_devices (λ j x m. IsSound cert x m) h (λ j x n a. s.machines j x a)

  all_within : IsEmptyFrom (length device.resources) machine → (j : ℕ) (x : Device) → slice_get system.devices j ≡ Some x → (q : ℕ) → length x.resources ≤ q → (new.machines j).queues q ≡ []
  all_within h = at_devices (λ j x m. (q : ℕ) → length x.resources ≤ q → m.queues q ≡ []) h (λ j x n a. s.within j x a)

-- what is so of a datagram stays so
pub still_sent : (system : System) (old new : World) → old.next ≤ new.next → ((j : ℕ) (x : Device) → slice_get system.devices j ≡ Some x → (c : ℕ) (stamp : Stamp) → KeepsStamp x (old.machines j) c stamp → KeepsStamp x (new.machines j) c stamp)
    → (g : Datagram) → IsSent system old g → IsSent system new g
still_sent system old new more kept g h =
    record {
      opened = (h.opened.0, omega (arith, h.opened.1, more));
      message = h.message;
      few = h.few;
      once = h.once;
      kept = λ stamp j x e a l. kept j x a g.message.number stamp (h.kept stamp j x e a l);
    }

-- ---- causes open

module _ (system : System) (cert : Certificate) (hold : AllHold system cert) (old new : World) (s : IsWorldSound system cert old) (d : ℕ) (device : Device) (machine : Machine) (at : slice_get system.devices d ≡ Some device)
    (g : Grows cert device (old.machines d) machine) (b : OpensCauses old new d machine) where
  abbrev first : ℕ
  first = (old.machines d).next

  abbrev of_new : ℕ → ℕ
  of_new = roots_from (old.root_of d) (old.machines d).next machine.next old.next

  old_known : (q : ℕ) → AllByRecursion (λ e. e.cause < (old.machines d).next) ((old.machines d).queues q)
  old_known q = (let k = s.machines d device at in all_weaker (IsKnown device k.opening_of k.home_of (old.machines d).next q) (λ e. e.cause < (old.machines d).next) ((old.machines d).queues q) (λ e h. h.cause) (k.entries q))

  new_known : (q : ℕ) → AllByRecursion (λ e. e.cause < machine.next) (machine.queues q)
  new_known q = all_weaker (IsKnown device g.sound.opening_of g.sound.home_of machine.next q) (λ e. e.cause < machine.next) (machine.queues q) (λ e h. h.cause) (g.sound.entries q)

  more : old.next ≤ new.next
  more = omega (arith, b.next)

  opened_before : (e : Entry) → e.cause < (old.machines d).next → IsOpened old (old.root_of d e.cause) → IsOpened new (of_new e.cause)
  opened_before e l h =
      let same : of_new e.cause ≡ old.root_of d e.cause = ap (λ t. cond t (old.root_of d e.cause) (cond (nat_lt e.cause machine.next) (old.next + (e.cause - (old.machines d).next)) (old.root_of d e.cause))) (lt-ltb e.cause (old.machines d).next l) in
      (omega (arith, same, h.0), omega (arith, same, h.1, more))

  opened_now : (e : Entry) → (old.machines d).next ≤ e.cause → e.cause < machine.next → IsOpened new (of_new e.cause)
  opened_now e l m =
      let p : of_new e.cause ≡ cond (nat_lt e.cause machine.next) (old.next + (e.cause - (old.machines d).next)) (old.root_of d e.cause) =
      ap (λ t. cond t (old.root_of d e.cause) (cond (nat_lt e.cause machine.next) (old.next + (e.cause - (old.machines d).next)) (old.root_of d e.cause))) (le-ltb e.cause (old.machines d).next l) in
      let r : cond (nat_lt e.cause machine.next) (old.next + (e.cause - (old.machines d).next)) (old.root_of d e.cause) ≡ old.next + (e.cause - (old.machines d).next) =
      ap (λ t. cond t (old.next + (e.cause - (old.machines d).next)) (old.root_of d e.cause)) (lt-ltb e.cause machine.next m) in
      (omega (arith, p, r, s.above), omega (arith, p, r, b.next, l, m))

  rooted_here : AreRooted new machine of_new
  rooted_here q =
      let x = g.grown.grows q in
      subst (AllByRecursion (λ e. IsOpened new (of_new e.cause))) (sym x.1)
      (all_append (λ e. IsOpened new (of_new e.cause)) ((old.machines d).queues q) x.0
      (all_both (λ e. e.cause < (old.machines d).next) (λ e. IsOpened old (old.root_of d e.cause)) (λ e. IsOpened new (of_new e.cause)) ((old.machines d).queues q) opened_before (old_known q) (s.rooted d q))
      (all_both (λ e. (old.machines d).next ≤ e.cause) (λ e. e.cause < machine.next) (λ e. IsOpened new (of_new e.cause)) x.0 opened_now x.2
      (all_suffix (λ e. e.cause < machine.next) ((old.machines d).queues q) x.0 (subst (AllByRecursion (λ e. e.cause < machine.next)) x.1 (new_known q)))))

  rooted_elsewhere : (j : ℕ) → (d ≡ j → ⊥) → AreRooted new (old.machines j) (old.root_of j)
  rooted_elsewhere j n q = all_weaker (λ e. IsOpened old (old.root_of j e.cause)) (λ e. IsOpened new (old.root_of j e.cause)) ((old.machines j).queues q) (λ e h. (h.0, omega (arith, h.1, more))) (s.rooted j q)

  pub sound_opens : IsWorldSound system cert new
  sound_opens =
      record {
        above = omega (arith, more, s.above);
        machines = all_machines system cert old new s d device at machine b.machines g.sound;
        within = all_within system cert old new s d device at machine b.machines (g.within (s.within d device at));
        rooted = λ j. subst (λ (ms : ℕ → Machine). AreRooted new (ms j) (new.root_of j)) (sym b.machines)
            (subst (λ (ofs : ℕ → ℕ → ℕ). AreRooted new (put old.machines d machine j) (ofs j)) (sym b.root_of) (both_put (λ j m of. AreRooted new m of) old.machines old.root_of d machine of_new rooted_here rooted_elsewhere j));
        datagrams = subst (AllByRecursion (IsSent system new)) (sym b.datagrams)
            (all_weaker (IsSent system old) (IsSent system new) old.datagrams (still_sent system old new more (all_kept system cert old new s d device at machine b.machines (same_kept device (old.machines d) machine g.kept))) s.datagrams);
      }

-- ---- an entry is served

module _ (system : System) (cert : Certificate) (hold : AllHold system cert) (old new : World) (s : IsWorldSound system cert old) (d : ℕ) (device : Device) (holding : DeviceHolds cert device) (machine : Machine) (q cause : ℕ) (place : Place) (steps : ℕ) (effect : Option Effect)
    (ended : Option Ended) (sent : Option ℕ) (at : slice_get system.devices d ≡ Some device) (r : Runs cert device (old.machines d) q cause place steps effect ended machine) (b : AddsSteps old new d machine cause steps effect ended sent) where
  sound_here : IsSound cert device (old.machines d)
  sound_here = s.machines d device at

  was_rooted : AllByRecursion (λ e. IsOpened old (old.root_of d e.cause)) (r.first ∷ r.rest)
  was_rooted = subst (AllByRecursion (λ e. IsOpened old (old.root_of d e.cause))) r.was (s.rooted d q)

  -- the root of the cause was opened
  pub cause_opened : IsOpened old (old.root_of d cause)
  cause_opened = subst (λ c. IsOpened old (old.root_of d c)) (sym r.cause_is) was_rooted.0

  -- the queue is one of the device
  pub queue_within : q < length device.resources
  queue_within = elim (cases_lt q (length device.resources)) [
    | inl l ↦ l
    | inr l ↦ (let e = sym r.was ∙ s.within d device at q l in cc)
  ]

  same_next : (root : ℕ) → IsOpened old root → IsOpened new root
  same_next root h = (h.0, omega (arith, h.1, b.next))

  runs_rooted : AreRooted new machine (old.root_of d)
  runs_rooted =
      subst (λ (f : ℕ → List Entry). (j : ℕ) → AllByRecursion (λ e. IsOpened new (old.root_of d e.cause)) (f j)) (sym r.queues)
      (put_all (λ j es. AllByRecursion (λ e. IsOpened new (old.root_of d e.cause)) es) (old.machines d).queues q (r.rest ++ follow_ups r.first (reached r.leaf.targets r.outs))
      (all_append (λ e. IsOpened new (old.root_of d e.cause)) r.rest (follow_ups r.first (reached r.leaf.targets r.outs))
      (all_weaker (λ e. IsOpened old (old.root_of d e.cause)) (λ e. IsOpened new (old.root_of d e.cause)) r.rest (λ e h. same_next (old.root_of d e.cause) h) was_rooted.1)
      (all_follow (λ c. IsOpened new (old.root_of d c)) r.first (reached r.leaf.targets r.outs) (same_next (old.root_of d r.first.cause) was_rooted.0)))
      (λ j _. all_weaker (λ e. IsOpened old (old.root_of d e.cause)) (λ e. IsOpened new (old.root_of d e.cause)) ((old.machines d).queues j) (λ e h. same_next (old.root_of d e.cause) h) (s.rooted d j)))

  -- a cause that has ended is pending nowhere
  nowhere : is_pending cause (machine.queues q) ≡ false → (j : ℕ) → is_pending cause (machine.queues j) ≡ false
  nowhere gone j =
      elim (cases_eq q j) [
        | inl e ↦ subst (λ i. is_pending cause (machine.queues i) ≡ false) e gone
        | inr n ↦ ap (is_pending cause) (other_queue cert device holding (old.machines d) sound_here q cause place steps effect ended machine r j n) ∙ by (is_pending cause ((old.machines d).queues j)) refl n
      ]
    where
      by : (t : Bool) → is_pending cause ((old.machines d).queues j) ≡ t → (q ≡ j → ⊥) → t ≡ false
      by false e n = refl
      by true e n =
          let there = known_pending device sound_here.opening_of sound_here.home_of (old.machines d).next j cause ((old.machines d).queues j) (sound_here.entries j) e in
          let here = known_pending device sound_here.opening_of sound_here.home_of (old.machines d).next q cause ((old.machines d).queues q) (sound_here.entries q) (cause_pending cert device holding (old.machines d) sound_here q cause place steps effect ended machine r) in
          absurd (n (sym here.0 ∙ there.0))

  rooted_others : (j : ℕ) → (d ≡ j → ⊥) → AreRooted new (old.machines j) (old.root_of j)
  rooted_others j n p = all_weaker (λ e. IsOpened old (old.root_of j e.cause)) (λ e. IsOpened new (old.root_of j e.cause)) ((old.machines j).queues p) (λ e h. same_next (old.root_of j e.cause) h) (s.rooted j p)

  forgotten_rooted : (x : Option Ended) → ended ≡ x → (j : ℕ) → AreRooted new (put old.machines d machine j) (forgotten old.root_of d cause x j)
  forgotten_rooted None e j = put_all (λ j m. AreRooted new m (old.root_of j)) old.machines d machine runs_rooted rooted_others j
  forgotten_rooted (Some x) e j =
      both_put (λ j m of. AreRooted new m of) old.machines old.root_of d machine (put (old.root_of d) cause 0)
      (λ p. gone_says (IsOpened new) (old.root_of d) cause 0 (machine.queues p) (nowhere (by (is_pending cause (machine.queues q)) (sym e ∙ r.ended_is)) p) (runs_rooted p))
      rooted_others j
    where
      by : (t : Bool) → Some x ≡ (cond t None (Some (record { cause = cause; total = (old.machines d).spent cause + steps; bound = steps_row cert r.first.opening }))) → t ≡ false
      by true e = cc
      by false e = refl

  kept_still : (j : ℕ) (x : Device) → slice_get system.devices j ≡ Some x → (c : ℕ) (stamp : Stamp) → KeepsStamp x (old.machines j) c stamp → KeepsStamp x (new.machines j) c stamp
  kept_still = all_kept system cert old new s d device at machine b.machines (same_kept device (old.machines d) machine (run_keeps cert device holding (old.machines d) machine q cause place steps effect ended r))

  all_sent : AllByRecursion (IsSent system new) old.datagrams
  all_sent = all_weaker (IsSent system old) (IsSent system new) old.datagrams (still_sent system old new (omega (arith, b.next)) kept_still) s.datagrams

  posted_sent : (x : Option Effect) → effect ≡ x → AllByRecursion (IsSent system new) (posted old.datagrams (old.root_of d cause) x)
  posted_sent None e = all_sent
  posted_sent (Some (Write number values)) e = all_sent
  posted_sent (Some (Send message)) e =
      let sendable : IsSendable message = sends_messages cert device holding (old.machines d) sound_here q cause place steps message ended machine (subst (λ x. Runs cert device (old.machines d) q cause place steps x ended machine) e r) in
      all_append (IsSent system new) old.datagrams (record { message = message; root = old.root_of d cause; admissions = λ d. 0 } ∷ []) all_sent (
        record {
          opened = same_next (old.root_of d cause) cause_opened;
          message = sendable;
          few = λ j. omega arith;
          once = λ stamp i j. omega arith;
          kept = λ stamp j x i a l. absurd (omega (arith, l));
        },
        tt,
      )

  run_within : IsEmptyFrom (length device.resources) machine
  run_within =
      subst (λ (f : ℕ → List Entry). (j : ℕ) → length device.resources ≤ j → f j ≡ []) (sym r.queues)
      (put_all (λ j es. length device.resources ≤ j → es ≡ []) (old.machines d).queues q (r.rest ++ follow_ups r.first (reached r.leaf.targets r.outs))
      (λ l. absurd (omega (arith, l, queue_within))) (λ j _. s.within d device at j))

  pub sound_serves : IsWorldSound system cert new
  sound_serves =
      record {
        above = omega (arith, b.next, s.above);
        machines = all_machines system cert old new s d device at machine b.machines (sound_run cert device holding (old.machines d) sound_here q cause place steps effect ended machine r);
        within = all_within system cert old new s d device at machine b.machines run_within;
        rooted = λ j. subst (λ (ms : ℕ → Machine). AreRooted new (ms j) (new.root_of j)) (sym b.machines)
            (subst (λ (ofs : ℕ → ℕ → ℕ). AreRooted new (put old.machines d machine j) (ofs j)) (sym b.root_of) (forgotten_rooted ended refl j));
        datagrams = subst (AllByRecursion (IsSent system new)) (sym b.datagrams) (posted_sent effect refl);
      }

-- ---- a datagram is admitted

abbrev pub bumped : Datagram → ℕ → Datagram
bumped g d = record { message = g.message; root = g.root; admissions = put g.admissions d (min (g.admissions d + 1) 256) }

all_admitted : (P : Datagram → Type 0) (gs : List Datagram) (n d : ℕ) (g : Datagram) → slice_get gs n ≡ Some g → P (bumped g d) → AllByRecursion P gs → AllByRecursion P (admitted_at gs n d)
all_admitted P [] n d g e h k = tt
all_admitted P (x ∷ xs) zero d g e h k = (let is : g ≡ x = cc in subst (λ y. P (bumped y d)) is h, k.1)
all_admitted P (x ∷ xs) (suc n) d g e h k = (k.0, all_admitted P xs n d g e h k.1)

pub got_admitted : (gs : List Datagram) (n d : ℕ) (g : Datagram) → slice_get gs n ≡ Some g → slice_get (admitted_at gs n d) n ≡ Some (bumped g d)
got_admitted [] n d g e = cc
got_admitted (x ∷ xs) zero d g e = (let is : x ≡ g = cc in ap (λ y. Some (bumped y d)) is)
got_admitted (x ∷ xs) (suc n) d g e = got_admitted xs n d g e

module _ (system : System) (cert : Certificate) (hold : AllHold system cert) (old new : World) (s : IsWorldSound system cert old) (d n cause : ℕ) (device : Device) (holding : DeviceHolds cert device) (datagram : Datagram) (machine : Machine) (at : slice_get system.devices d ≡ Some device)
    (got : slice_get old.datagrams n ≡ Some datagram) (a : Admits cert device (old.machines d) datagram cause machine) (b : AdmitsDatagram old new d n machine datagram cause) where
  was_sent : IsSent system old datagram
  was_sent = at_number (IsSent system old) old.datagrams n datagram got s.datagrams

  same_opened : (root : ℕ) → IsOpened old root → IsOpened new root
  same_opened root h = (h.0, omega (arith, h.1, b.next))

  -- with a stamp, it was not admitted before
  none_yet : (stamp : Stamp) → datagram.message.stamp ≡ Some stamp → datagram.admissions d ≤ 0
  none_yet stamp e = elim (cases_lt 0 (datagram.admissions d)) [
    | inl l ↦ absurd (kept_stale ((old.machines d).store a.leaf.path).condition stamp (subst (IsFresh ((old.machines d).store a.leaf.path).condition) e a.fresh) (was_sent.kept stamp d device e at l a.leaf a.known))
    | inr l ↦ l
  ]

  keeps : (c : ℕ) (stamp : Stamp) → KeepsStamp device (old.machines d) c stamp → KeepsStamp device machine c stamp
  keeps c stamp h = subst (λ m. KeepsStamp device m c stamp) (sym a.new_is) (stamped_keeps cert device holding (old.machines d) datagram.message.number a.leaf a.known datagram.message.stamp a.fresh c stamp h)

  keeps_now : (stamp : Stamp) → datagram.message.stamp ≡ Some stamp → KeepsStamp device machine datagram.message.number stamp
  keeps_now stamp e = subst (λ m. KeepsStamp device m datagram.message.number stamp) (sym a.new_is) (stamped_kept cert device holding (old.machines d) datagram.message.number a.leaf a.known datagram.message.stamp a.fresh a.ready stamp e)

  still_kept : (j : ℕ) (x : Device) → slice_get system.devices j ≡ Some x → (c : ℕ) (stamp : Stamp) → KeepsStamp x (old.machines j) c stamp → KeepsStamp x (new.machines j) c stamp
  still_kept = all_kept system cert old new s d device at machine b.machines keeps

  pub bumped_sent : IsSent system new (bumped datagram d)
  bumped_sent =
      record {
        opened = same_opened datagram.root was_sent.opened;
        message = was_sent.message;
        few = put_all (λ j k. k ≤ 256) datagram.admissions d (min (datagram.admissions d + 1) 256) (omega arith) (λ j _. was_sent.few j);
        once = λ stamp e. put_all (λ j k. k ≤ 1) datagram.admissions d (min (datagram.admissions d + 1) 256) (omega (arith, none_yet stamp e)) (λ j _. was_sent.once stamp e j);
        kept = λ stamp j x e there l. at_devices system cert old new s d device at machine b.machines (λ j x m. 0 < put datagram.admissions d (min (datagram.admissions d + 1) 256) j → KeepsStamp x m datagram.message.number stamp)
            (λ _. keeps_now stamp e)
            (λ j x ne there l. was_sent.kept stamp j x e there (subst (λ k. 0 < k) (ap (λ t. cond t (min (datagram.admissions d + 1) 256) (datagram.admissions j)) (ne_eqb d j ne)) l))
            j x there l;
      }

  rooted_then : AreRooted new machine (put (old.root_of d) cause datagram.root)
  rooted_then =
      let of' : ℕ → ℕ = put (old.root_of d) (old.machines d).next datagram.root in
      let known : (q : ℕ) → AllByRecursion (λ e. e.cause < (old.machines d).next) ((old.machines d).queues q) =
      λ q. (let k = s.machines d device at in all_weaker (IsKnown device k.opening_of k.home_of (old.machines d).next q) (λ e. e.cause < (old.machines d).next) ((old.machines d).queues q) (λ e h. h.cause) (k.entries q)) in
      let before : (q : ℕ) → AllByRecursion (λ e. IsOpened new (put (old.root_of d) (old.machines d).next datagram.root e.cause)) ((old.machines d).queues q) =
      λ q. other_says (IsOpened new) (old.root_of d) (old.machines d).next datagram.root ((old.machines d).queues q) (known q)
      (all_weaker (λ e. IsOpened old (old.root_of d e.cause)) (λ e. IsOpened new (old.root_of d e.cause)) ((old.machines d).queues q) (λ e h. same_opened (old.root_of d e.cause) h) (s.rooted d q)) in
      let one : IsOpened new (put (old.root_of d) (old.machines d).next datagram.root (old.machines d).next) =
      subst (IsOpened new) (sym (ap (λ t. cond t datagram.root (old.root_of d (old.machines d).next)) (eq-eqb (old.machines d).next (old.machines d).next refl))) (same_opened datagram.root was_sent.opened) in
      subst (λ c. AreRooted new machine (put (old.root_of d) c datagram.root)) (sym a.cause_is)
      (subst (λ m. AreRooted new m (put (old.root_of d) (old.machines d).next datagram.root)) (sym a.new_is)
      (put_all (λ q es. AllByRecursion (λ e. IsOpened new (put (old.root_of d) (old.machines d).next datagram.root e.cause)) es) (old.machines d).queues a.leaf.home
      ((old.machines d).queues a.leaf.home ++ record { cause = (old.machines d).next; opening = at_place a.leaf.path arrive; place = at_place a.leaf.path arrive; values = a.values } ∷ [])
      (all_append (λ e. IsOpened new (put (old.root_of d) (old.machines d).next datagram.root e.cause)) ((old.machines d).queues a.leaf.home)
      (record { cause = (old.machines d).next; opening = at_place a.leaf.path arrive; place = at_place a.leaf.path arrive; values = a.values } ∷ []) (before a.leaf.home) (one, tt))
      (λ j _. before j)))

  rooted_rest : (j : ℕ) → (d ≡ j → ⊥) → AreRooted new (old.machines j) (old.root_of j)
  rooted_rest j n p = all_weaker (λ e. IsOpened old (old.root_of j e.cause)) (λ e. IsOpened new (old.root_of j e.cause)) ((old.machines j).queues p) (λ e h. same_opened (old.root_of j e.cause) h) (s.rooted j p)

  pub sound_takes : IsWorldSound system cert new
  sound_takes =
      record {
        above = omega (arith, b.next, s.above);
        machines = all_machines system cert old new s d device at machine b.machines a.sound;
        within = all_within system cert old new s d device at machine b.machines
            (subst (IsEmptyFrom (length device.resources)) (sym a.new_is)
            (admitted_within (length device.resources) (with_stamp (old.machines d) a.leaf datagram.message.stamp) (arriving a.leaf a.values)
            (at_first_leaf (λ l. l.home < length device.resources) (is_subscriber datagram.message.number) (leaves device) a.leaf (homes device) a.known).0 (s.within d device at)));
        rooted = λ j. subst (λ (ms : ℕ → Machine). AreRooted new (ms j) (new.root_of j)) (sym b.machines)
            (subst (λ (ofs : ℕ → ℕ → ℕ). AreRooted new (put old.machines d machine j) (ofs j)) (sym b.root_of)
            (both_put (λ j m of. AreRooted new m of) old.machines old.root_of d machine (put (old.root_of d) cause datagram.root) rooted_then rooted_rest j));
        datagrams = subst (AllByRecursion (IsSent system new)) (sym b.datagrams)
            (all_admitted (IsSent system new) old.datagrams n d datagram got bumped_sent (all_weaker (IsSent system old) (IsSent system new) old.datagrams (still_sent system old new (omega (arith, b.next)) still_kept) s.datagrams));
      }

-- ---- events and runs

module _ (system : System) (cert : Certificate) (hold : AllHold system cert) where
  pub sound_case : (old : World) (event : WorldEvent) (answer : WorldAnswer) (new : World) → IsWorldSound system cert old → Case system cert old event answer new → IsWorldSound system cert new
  sound_case old event answer new s (rests e x) = subst (IsWorldSound system cert) (sym e) s
  sound_case old event answer new s (opens d device machine at g b x) = sound_opens system cert hold old new s d device machine at g b
  sound_case old event answer new s (serves d device machine q cause place steps effect ended sent at r b x) =
      sound_serves system cert hold old new s d device (device_holds system cert hold d device at) machine q cause place steps effect ended sent at r b
  sound_case old event answer new s (takes d n cause device datagram machine at got a b x) =
      sound_takes system cert hold old new s d n cause device (device_holds system cert hold d device at) datagram machine at got a b

  pub sound_event : (old : World) (event : WorldEvent) (answer : WorldAnswer) (new : World) → IsWorldSound system cert old → WorldHappens system cert old event answer new → IsWorldSound system cert new
  sound_event old event answer new s h = sound_case old event answer new s (case system cert hold old event answer new s h)
