-- Causes open: each is an arrival, and has the next root.
use Rattle.std.proofs.Common.{◌≡◌, ℕ, ◌+◌, ◌-◌, ◌<◌, ◌≤◌, cond, List, refl, sym, ◌∙◌, ap, subst, arith, ◌⊎◌, inl, inr}
use Rattle.std.specs.Prelude.{length, nat_lt}
use Rattle.std.specs.List.{AllByRecursion}
use Rattle.std.proofs.lemmas.Bool.{lt-ltb, le-ltb, cases_eq, cases_lt}
use Rattle.fb_model.specs.Names.{Place}
use Rattle.fb_model.specs.System.{Device}
use Rattle.fb_model.specs.Certificates.{Certificate}
use Rattle.fb_model.specs.Devices.{Entry, Machine, put}
use Rattle.fb_model.specs.Headline.{IsKnown, IsOpen}
use Rattle.fb_model.specs.World.{OpensCauses, roots_from, Root, World}
use Rattle.fb_model.proofs.Lists.{all_append, all_weaker, all_both}
use Rattle.fb_model.proofs.Running.{put_all}
use Rattle.fb_model_worlds.proofs.Growing.{Grows}
use Rattle.fb_model_worlds.proofs.Sounding.{all_suffix}
use Rattle.fb_model.specs.Worlds.{IsOpened}
use Rattle.fb_model.specs.Causes.{Cause, Happening, Belongs, itself, HasOpened, IsArrival, IsPending}
use Rattle.fb_model_causes.proofs.Lists.{there_is, AllFrom, Carries}
use Rattle.fb_model_causes.proofs.Belonging.{steps_same, steps_none, steps_of, all_of_weaker}
use Rattle.fb_model_causes.proofs.Putting.{put_here, put_other, machine_here, machine_other, at_machine, roots_before_these, roots_of_these, open_is}
use Rattle.fb_model_causes.proofs.Tied.{IsRooted, IsTold, Tied, Goes}

module _ (cert : Certificate) (device : Device) (arrival_of : ℕ → Cause) (trace : List Happening) (old new : World) (above : 0 < old.next) (d : ℕ) (machine : Machine) (g : Grows cert device (old.machines d) machine) (b : OpensCauses old new d machine) (t : Tied arrival_of trace old) where
  abbrev first : ℕ
  first = (old.machines d).next

  abbrev of_new : ℕ → ℕ → ℕ
  of_new = put t.of d (roots_from (t.of d) (old.machines d).next machine.next old.next)

  abbrev later : ℕ → Cause
  later n = cond (nat_lt n old.next) (arrival_of n) (record { device = d; number = (old.machines d).next + (n - old.next) })

  -- ---- machines

  machine_is : new.machines d ≡ machine
  machine_is = machine_here old new d machine b.machines

  other_is : (j : ℕ) → (d ≡ j → ⊥) → new.machines j ≡ old.machines j
  other_is = machine_other old new d machine b.machines

  at_each : (P : Machine → Type 0) (j : ℕ) → (d ≡ j → P machine) → ((d ≡ j → ⊥) → P (old.machines j)) → P (new.machines j)
  at_each = at_machine old new d machine b.machines

  next_up : (j : ℕ) → (old.machines j).next ≤ (new.machines j).next
  next_up j = at_each (λ m. (old.machines j).next ≤ m.next) j (λ e. omega (arith, g.grown.next, ap (λ i. (old.machines i).next) e)) (λ ne. omega arith)

  -- ---- causes

  still_open : (c : Cause) → HasOpened old c → HasOpened new c
  still_open c h = (h.0, omega (arith, h.1, next_up c.device))

  abbrev IsNew : Cause → Type 0
  IsNew c = (c.device ≡ d) × ((old.machines d).next ≤ c.number) × (c.number < machine.next)

  was_or_new : (c : Cause) → HasOpened new c → HasOpened old c ⊎ IsNew c
  was_or_new c h = elim (cases_lt c.number (old.machines c.device).next) [
    | inl l ↦ inl (h.0, l)
    | inr l ↦ elim (cases_eq d c.device) [
      | inl e ↦ inr (sym e, omega (arith, l, ap (λ i. (old.machines i).next) e), omega (arith, h.1, ap (λ i. (new.machines i).next) e, ap (λ (m : Machine). m.next) machine_is))
      | inr ne ↦ absurd (omega (arith, l, h.1, ap (λ (m : Machine). m.next) (other_is c.device ne)))
    ]
  ]

  of_old : (c : Cause) → HasOpened old c → of_new c.device c.number ≡ t.of c.device c.number
  of_old c h =
      put_all (λ j f. (n : ℕ) → n < (old.machines j).next → f n ≡ t.of j n) t.of d (roots_from (t.of d) (old.machines d).next machine.next old.next)
      (λ n l. roots_before_these (t.of d) (old.machines d).next machine.next old.next n l) (λ j ne n l. refl) c.device c.number h.1

  of_fresh : (n : ℕ) → (old.machines d).next ≤ n → n < machine.next → of_new d n ≡ old.next + (n - (old.machines d).next)
  of_fresh n l m = ap (λ f. f n) (put_here t.of d (roots_from (t.of d) (old.machines d).next machine.next old.next)) ∙ roots_of_these (t.of d) (old.machines d).next machine.next old.next n l m

  of_new_one : (c : Cause) → IsNew c → of_new c.device c.number ≡ old.next + (c.number - (old.machines d).next)
  of_new_one c k = ap (λ j. of_new j c.number) k.0 ∙ of_fresh c.number k.1 k.2

  -- ---- roots

  later_old : (n : ℕ) → n < old.next → later n ≡ arrival_of n
  later_old n l = ap (λ x. cond x (arrival_of n) (record { device = d; number = (old.machines d).next + (n - old.next) })) (lt-ltb n old.next l)

  later_new : (n : ℕ) → old.next ≤ n → later n ≡ record { device = d; number = (old.machines d).next + (n - old.next) }
  later_new n l = ap (λ x. cond x (arrival_of n) (record { device = d; number = (old.machines d).next + (n - old.next) })) (le-ltb n old.next l)

  new_arrival : (c : Cause) → IsNew c → later (of_new c.device c.number) ≡ c
  new_arrival c k =
      ap later (of_new_one c k)
      ∙ later_new (old.next + (c.number - (old.machines d).next)) (omega arith)
      ∙ ap (λ n. record { device = d; number = n }) (let e : (old.machines d).next + ((old.next + (c.number - (old.machines d).next)) - old.next) ≡ c.number = omega (arith, k.1) in e)
      ∙ ap (λ j. record { device = j; number = c.number }) (sym k.0)

  old_arrival : (c : Cause) → HasOpened old c → later (of_new c.device c.number) ≡ arrival_of (t.of c.device c.number)
  old_arrival c o = ap later (of_old c o) ∙ later_old (t.of c.device c.number) (t.rooted c o).1

  -- the root of a new cause in the book
  root_fresh : (n : ℕ) → (old.machines d).next ≤ n → n < machine.next → new.root_of d n ≡ old.next + (n - (old.machines d).next)
  root_fresh n l m =
      ap (λ f. f d n) b.root_of ∙ ap (λ f. f n) (put_here old.root_of d (roots_from (old.root_of d) (old.machines d).next machine.next old.next))
      ∙ roots_of_these (old.root_of d) (old.machines d).next machine.next old.next n l m

  root_old : (n : ℕ) → n < (old.machines d).next → new.root_of d n ≡ old.root_of d n
  root_old n l =
      ap (λ f. f d n) b.root_of ∙ ap (λ f. f n) (put_here old.root_of d (roots_from (old.root_of d) (old.machines d).next machine.next old.next))
      ∙ roots_before_these (old.root_of d) (old.machines d).next machine.next old.next n l

  root_other : (j n : ℕ) → (d ≡ j → ⊥) → new.root_of j n ≡ old.root_of j n
  root_other j n ne = ap (λ f. f j n) b.root_of ∙ ap (λ f. f n) (put_other old.root_of d (roots_from (old.root_of d) (old.machines d).next machine.next old.next) j ne)

  -- a new root has no steps, and a pending entry with its opening
  pub record IsBegun (n : ℕ) : Type 0 where
    pub place : Place
    pub queue : ℕ
    pub entry : IsOpen (machine.queues queue) ((old.machines d).next + (n - old.next)) place
    pub root : new.roots n ≡ record { opening = place; steps = 0 }

  begun_root : (n : ℕ) → old.next ≤ n → n < new.next → IsBegun n
  begun_root n l m =
      let below : n - old.next < length g.places = omega (arith, l, m, b.next, g.admits.next) in
      let (p, is) = there_is g.places (n - old.next) below in
      let there = g.admits.there (n - old.next) p is in
      let opened = open_is (λ c o. (old.machines d).next ≤ c → new.roots (new.root_of d c) ≡ record { opening = o; steps = 0 }) (machine.queues there.0) ((old.machines d).next + (n - old.next)) p (b.opened there.0) there.1 in
      let root_is : new.root_of d ((old.machines d).next + (n - old.next)) ≡ n = omega (arith, root_fresh ((old.machines d).next + (n - old.next)) (omega arith) (omega (arith, l, m, b.next)), l) in
      record { place = p; queue = there.0; entry = there.1; root = ap new.roots (sym root_is) ∙ opened (omega arith) }

  -- ---- entries

  new_known : (q : ℕ) → AllByRecursion (λ e. e.cause < machine.next) (machine.queues q)
  new_known q = all_weaker (IsKnown device g.sound.opening_of g.sound.home_of machine.next q) (λ e. e.cause < machine.next) (machine.queues q) (λ e h. h.cause) (g.sound.entries q)

  entry_old : (e : Entry) → IsRooted old t.of d e.cause → IsRooted new of_new d e.cause
  entry_old e k = record {
    is_open = still_open (record { device = d; number = e.cause }) k.is_open;
    root = root_old e.cause k.is_open.1 ∙ k.root ∙ sym (of_old (record { device = d; number = e.cause }) k.is_open);
  }

  entry_new : (e : Entry) → (old.machines d).next ≤ e.cause → e.cause < machine.next → IsRooted new of_new d e.cause
  entry_new e l m = record {
    is_open = (omega (arith, l, t.begun d), omega (arith, m, ap (λ (x : Machine). x.next) machine_is));
    root = root_fresh e.cause l m ∙ sym (of_fresh e.cause l m);
  }

  entry_other : (j : ℕ) → (d ≡ j → ⊥) → (e : Entry) → IsRooted old t.of j e.cause → IsRooted new of_new j e.cause
  entry_other j ne e k = record {
    is_open = still_open (record { device = j; number = e.cause }) k.is_open;
    root = root_other j e.cause ne ∙ k.root ∙ sym (of_old (record { device = j; number = e.cause }) k.is_open);
  }

  here_pending : (q : ℕ) → AllByRecursion (λ e. IsRooted new of_new d e.cause) (machine.queues q)
  here_pending q =
      let x = g.grown.grows q in
      subst (AllByRecursion (λ e. IsRooted new of_new d e.cause)) (sym x.1)
      (all_append (λ e. IsRooted new of_new d e.cause) ((old.machines d).queues q) x.0
      (all_weaker (λ e. IsRooted old t.of d e.cause) (λ e. IsRooted new of_new d e.cause) ((old.machines d).queues q) entry_old (t.pending d q))
      (all_both (λ e. (old.machines d).next ≤ e.cause) (λ e. e.cause < machine.next) (λ e. IsRooted new of_new d e.cause) x.0 entry_new x.2
      (all_suffix (λ e. e.cause < machine.next) ((old.machines d).queues q) x.0 (subst (AllByRecursion (λ e. e.cause < machine.next)) x.1 (new_known q)))))

  all_pending : (j q : ℕ) → AllByRecursion (λ e. IsRooted new of_new j e.cause) ((new.machines j).queues q)
  all_pending j q =
      at_each (λ m. AllByRecursion (λ e. IsRooted new of_new j e.cause) (m.queues q)) j (λ e. subst (λ i. AllByRecursion (λ e. IsRooted new of_new i e.cause) (machine.queues q)) e (here_pending q))
      (λ ne. all_weaker (λ e. IsRooted old t.of j e.cause) (λ e. IsRooted new of_new j e.cause) ((old.machines j).queues q) (entry_other j ne) (t.pending j q))

  -- ---- openings

  abbrev OpensWith : ℕ → Place → List Entry → Type 0
  OpensWith number place es = AllByRecursion (λ e. e.cause ≡ number → e.opening ≡ place) es

  -- a cause that was there has no new entry
  opened_here : (number : ℕ) (place : Place) (q : ℕ) → number < (old.machines d).next → OpensWith number place ((old.machines d).queues q) → OpensWith number place (machine.queues q)
  opened_here number place q l h =
      let x = g.grown.grows q in
      subst (OpensWith number place) (sym x.1)
      (all_append (λ e. e.cause ≡ number → e.opening ≡ place) ((old.machines d).queues q) x.0 h
      (all_weaker (λ e. (old.machines d).next ≤ e.cause) (λ e. e.cause ≡ number → e.opening ≡ place) x.0 (λ e k i. absurd (omega (arith, k, i, l))) x.2))

  opened_old : (n q : ℕ) → 0 < n → n < old.next → OpensWith (arrival_of n).number (new.roots n).opening ((new.machines (arrival_of n).device).queues q)
  opened_old n q z l =
      let was = t.opened n q (z, l) in
      let o = (t.arrives n (z, l)).0 in
      subst (λ (r : Root). OpensWith (arrival_of n).number r.opening ((new.machines (arrival_of n).device).queues q)) (sym (b.before n l))
      (at_each (λ m. OpensWith (arrival_of n).number (old.roots n).opening (m.queues q)) (arrival_of n).device
      (λ e. opened_here (arrival_of n).number (old.roots n).opening q (omega (arith, o.1, ap (λ i. (old.machines i).next) e)) (subst (λ i. OpensWith (arrival_of n).number (old.roots n).opening ((old.machines i).queues q)) (sym e) was))
      (λ ne. was))

  opened_new : (n q : ℕ) → old.next ≤ n → n < new.next → OpensWith ((old.machines d).next + (n - old.next)) (new.roots n).opening ((new.machines d).queues q)
  opened_new n q l m =
      subst (λ (x : Machine). OpensWith ((old.machines d).next + (n - old.next)) (new.roots n).opening (x.queues q)) (sym machine_is)
      (all_weaker (λ e. (old.machines d).next ≤ e.cause → (new.roots (new.root_of d e.cause) ≡ record { opening = e.opening; steps = 0 })) (λ e. e.cause ≡ (old.machines d).next + (n - old.next) → e.opening ≡ (new.roots n).opening) (machine.queues q)
      (λ e k i.
      let root_is : new.root_of d e.cause ≡ n = omega (arith, root_fresh e.cause (omega (arith, i)) (omega (arith, i, l, m, b.next)), i, l) in
      ap (λ (r : Root). r.opening) (sym (k (omega (arith, i)))) ∙ ap (λ r. (new.roots r).opening) root_is)
      (b.opened q))

  -- ---- all of it

  steps_then : (n : ℕ) → IsOpened new n → (new.roots n).steps ≡ steps_of of_new n trace
  steps_then n r = elim (cases_lt n old.next) [
    | inl l ↦ ap (λ (x : Root). x.steps) (b.before n l) ∙ t.steps n (r.0, l) ∙ sym (steps_same (HasOpened old) t.of of_new n trace of_old t.ran)
    | inr l ↦ ap (λ (x : Root). x.steps) (begun_root n l r.1).root ∙ sym (steps_none (HasOpened old) of_new n trace (λ c o e. omega (arith, e, of_old c o, (t.rooted c o).1, l)) t.ran)
  ]

  arrives_then : (n : ℕ) → IsOpened new n → IsArrival trace new (later n)
  arrives_then n r = elim (cases_lt n old.next) [
    | inl l ↦ (let a = t.arrives n (r.0, l) in subst (IsArrival trace new) (sym (later_old n l)) (still_open (arrival_of n) a.0, a.1))
    | inr l ↦ subst (IsArrival trace new) (sym (later_new n l)) (
      (omega (arith, t.begun d), omega (arith, ap (λ (x : Machine). x.next) machine_is, r.1, b.next, l)),
      λ at datagram o. let p = t.opens at datagram (record { device = d; number = (old.machines d).next + (n - old.next) }) o in absurd (omega (arith, p.0.1)),
    )
  ]

  returns_then : (n : ℕ) → IsOpened new n → of_new (later n).device (later n).number ≡ n
  returns_then n r = elim (cases_lt n old.next) [
    | inl l ↦ ap (λ (c : Cause). of_new c.device c.number) (later_old n l) ∙ of_old (arrival_of n) (t.arrives n (r.0, l)).0 ∙ t.returns n (r.0, l)
    | inr l ↦ ap (λ (c : Cause). of_new c.device c.number) (later_new n l)
        ∙ of_fresh ((old.machines d).next + (n - old.next)) (omega arith) (omega (arith, l, r.1, b.next))
        ∙ (let e : old.next + (((old.machines d).next + (n - old.next)) - (old.machines d).next) ≡ n = omega (arith, l) in e)
  ]

  rooted_then : (c : Cause) → HasOpened new c → IsOpened new (of_new c.device c.number)
  rooted_then c h = elim (was_or_new c h) [
    | inl o ↦ (let r = t.rooted c o in (omega (arith, of_old c o, r.0), omega (arith, of_old c o, r.1, b.next)))
    | inr k ↦ (omega (arith, of_new_one c k, above), omega (arith, of_new_one c k, b.next, k.1, k.2))
  ]

  belongs_then : (c : Cause) → HasOpened new c → Belongs trace (later (of_new c.device c.number)) c
  belongs_then c h = elim (was_or_new c h) [
    | inl o ↦ subst (λ x. Belongs trace x c) (sym (old_arrival c o)) (t.belongs c o)
    | inr k ↦ subst (λ x. Belongs trace x c) (sym (new_arrival c k)) itself
  ]

  arrivals_then : (c : Cause) → IsArrival trace new c → later (of_new c.device c.number) ≡ c
  arrivals_then c a = elim (was_or_new c a.0) [
    | inl o ↦ old_arrival c o ∙ t.arrivals c (o, a.1)
    | inr k ↦ new_arrival c k
  ]

  opened_then : (n q : ℕ) → IsOpened new n → OpensWith (later n).number (new.roots n).opening ((new.machines (later n).device).queues q)
  opened_then n q r = elim (cases_lt n old.next) [
    | inl l ↦ subst (λ (c : Cause). OpensWith c.number (new.roots n).opening ((new.machines c.device).queues q)) (sym (later_old n l)) (opened_old n q r.0 l)
    | inr l ↦ subst (λ (c : Cause). OpensWith c.number (new.roots n).opening ((new.machines c.device).queues q)) (sym (later_new n l)) (opened_new n q l r.1)
  ]

  tied_then : Tied later trace new
  tied_then =
      record {
        of = of_new;
        carried = t.carried;
        begun = λ j. omega (arith, t.begun j, next_up j);
        pending = all_pending;
        rooted = rooted_then;
        belongs = belongs_then;
        arrives = arrives_then;
        returns = returns_then;
        arrivals = arrivals_then;
        sends = λ at datagram c message s. let p = t.sends at datagram c message s in (still_open c p.0, of_old c p.0 ∙ p.1, subst (λ gs. Carries gs datagram message) (sym b.datagrams) p.2);
        opens = λ at datagram c o. let p = t.opens at datagram c o in (still_open c p.0, of_old c p.0 ∙ p.1, omega (arith, p.2, ap length b.datagrams));
        datagrams = subst (AllFrom (IsTold t.carried trace) 1) (sym b.datagrams) t.datagrams;
        unsent = λ datagram j l. t.unsent datagram j (omega (arith, l, ap length b.datagrams));
        ran = all_of_weaker (HasOpened old) (HasOpened new) trace still_open t.ran;
        steps = steps_then;
        opened = opened_then;
      }

  begins_then : (n : ℕ) → old.next ≤ n → n < new.next → IsPending new (later n) (new.roots n).opening
  begins_then n l m =
      let k = begun_root n l m in
      subst (λ c. IsPending new c (new.roots n).opening) (sym (later_new n l)) (
        k.queue,
        subst (λ (x : Machine). IsOpen (x.queues k.queue) ((old.machines d).next + (n - old.next)) (new.roots n).opening) (sym machine_is)
            (subst (IsOpen (machine.queues k.queue) ((old.machines d).next + (n - old.next))) (ap (λ (r : Root). r.opening) (sym k.root)) k.entry),
      )

  pub opens_goes : Goes arrival_of trace old new
  opens_goes = record { later = later; same = later_old; tied = tied_then; more = omega (arith, b.next); openings = λ n l. ap (λ (r : Root). r.opening) (b.before n l); begins = begins_then }
