-- A datagram is admitted: the cause that it opens belongs to the arrival of the cause that sent it.
use Rattle.std.proofs.Common.{◌≡◌, ℕ, suc, ◌+◌, ◌<◌, ◌≤◌, ◌&&◌, eqb, min, ℤ, List, [], ◌∷◌, ◌++◌, Option, Some, None, refl, sym, ◌∙◌, ap, subst, arith, ◌⊎◌, inl, inr}
use Rattle.std.specs.Prelude.{length, slice_get}
use Rattle.std.specs.List.{AllByRecursion}
use Rattle.std.proofs.lemmas.Bool.{eq-eqb, ne_eqb, cases_lt, cases_eq}
use Rattle.fb_model.specs.Wires.{Leaf}
use Rattle.fb_model.specs.Messages.{Stamp}
use Rattle.fb_model.specs.Serving.{Send}
use Rattle.fb_model.specs.Devices.{Entry, Machine, put, Admitted, Ran, place_of, admitted, arriving, with_stamp}
use Rattle.fb_model.specs.World.{Root, World, At_device, Deliver_datagram, A_dispatch, Answered, Datagram, AdmitsDatagram}
use Rattle.fb_model.proofs.Lists.{all_append, all_weaker}
use Rattle.fb_model.proofs.Running.{put_all}
use Rattle.fb_model_worlds.proofs.Sounding.{bumped}
use Rattle.fb_model.specs.Worlds.{IsOpened}
use Rattle.fb_model.specs.Causes.{Cause, Happening, Opens, Belongs, caused, HasOpened, IsArrival, admission_in, admissions_told}
use Rattle.fb_model_causes.proofs.Lists.{index_below, at_end, was_or_last, AllFrom, from_at, from_admitted, length-admitted, Carries, carries_admitted}
use Rattle.fb_model_causes.proofs.Belonging.{sends_still, opens_still, belongs_still, sends_before, one_if, another_datagram, this_datagram, admissions_end, steps_end, steps_same, steps_of, all_of_weaker}
use Rattle.fb_model_causes.proofs.Putting.{put_here, put_other, machine_here, machine_other, at_machine}
use Rattle.fb_model_causes.proofs.Tied.{IsRooted, IsTold, Tied, admissions_still, told_still, all_of_end, Goes}

abbrev delivered : ℕ → ℕ → ℕ → Happening
delivered n d cause = record { event = Deliver_datagram n d; answer = Answered (Admitted cause) None }

same_opening : (n d cause datagram : ℕ) (c : Cause) → delivered n d cause ≡ delivered datagram c.device c.number → (n ≡ datagram) × (d ≡ c.device) × (cause ≡ c.number)
same_opening n d cause datagram c e =
    let events : Deliver_datagram n d ≡ Deliver_datagram datagram c.device = ap (λ (x : Happening). x.event) e in
    let answers : Answered (Admitted cause) None ≡ Answered (Admitted c.number) None = ap (λ (x : Happening). x.answer) e in
    (cc, cc, cc)

module _ (arrival_of : ℕ → Cause) (trace : List Happening) (old new : World) (d n cause : ℕ) (datagram : Datagram) (machine : Machine) (leaf : Leaf) (stamp : Option Stamp) (values : List ℤ) (got : slice_get old.datagrams n ≡ Some datagram) (cause_is : cause ≡ (old.machines d).next)
    (new_is : machine ≡ admitted (with_stamp (old.machines d) leaf stamp) (arriving leaf values)) (b : AdmitsDatagram old new d n machine datagram cause) (t : Tied arrival_of trace old) where
  abbrev happening : Happening
  happening = record { event = Deliver_datagram (suc n) d; answer = Answered (Admitted cause) None }

  abbrev then_told : List Happening
  then_told = trace ++ record { event = Deliver_datagram (suc n) d; answer = Answered (Admitted cause) None } ∷ []

  abbrev of_then : ℕ → ℕ → ℕ
  of_then = put t.of d (put (t.of d) cause datagram.root)

  -- ---- who sent it

  carrier : IsTold t.carried trace (suc n) datagram
  carrier = subst (λ k. IsTold t.carried trace k datagram) (let e : 1 + n ≡ suc n = omega arith in e) (from_at (IsTold t.carried trace) 1 old.datagrams n datagram got t.datagrams)

  sender_sent : HasOpened old carrier.sender × (t.of carrier.sender.device carrier.sender.number ≡ t.carried (suc n)) × Carries old.datagrams (suc n) datagram.message
  sender_sent = t.sends carrier.at (suc n) carrier.sender datagram.message carrier.sends

  n_below : suc n ≤ length old.datagrams
  n_below = index_below old.datagrams n datagram got

  -- ---- causes

  next_up : (j : ℕ) → (old.machines j).next ≤ (new.machines j).next
  next_up j = at_machine old new d machine b.machines (λ m. (old.machines j).next ≤ m.next) j (λ e. omega (arith, ap (λ (m : Machine). m.next) new_is, ap (λ i. (old.machines i).next) e)) (λ ne. omega arith)

  still_open : (c : Cause) → HasOpened old c → HasOpened new c
  still_open c h = (h.0, omega (arith, h.1, next_up c.device))

  abbrev IsNew : Cause → Type 0
  IsNew c = (d ≡ c.device) × (cause ≡ c.number)

  was_or_new : (c : Cause) → HasOpened new c → HasOpened old c ⊎ IsNew c
  was_or_new c h = elim (cases_lt c.number (old.machines c.device).next) [
    | inl l ↦ inl (h.0, l)
    | inr l ↦ elim (cases_eq d c.device) [
      | inl e ↦ inr (e, omega (arith, l, cause_is, h.1, ap (λ i. (old.machines i).next) e, ap (λ i. (new.machines i).next) e, ap (λ (m : Machine). m.next) (machine_here old new d machine b.machines), ap (λ (m : Machine). m.next) new_is))
      | inr ne ↦ absurd (omega (arith, l, h.1, ap (λ (m : Machine). m.next) (machine_other old new d machine b.machines c.device ne)))
    ]
  ]

  of_old : (c : Cause) → HasOpened old c → of_then c.device c.number ≡ t.of c.device c.number
  of_old c h =
      put_all (λ j f. (k : ℕ) → k < (old.machines j).next → f k ≡ t.of j k) t.of d (put (t.of d) cause datagram.root)
      (λ k l. put_other (t.of d) cause datagram.root k (λ e. omega (arith, e, l, cause_is))) (λ j ne k l. refl) c.device c.number h.1

  of_new : of_then d cause ≡ datagram.root
  of_new = ap (λ f. f cause) (put_here t.of d (put (t.of d) cause datagram.root)) ∙ put_here (t.of d) cause datagram.root

  of_one : (c : Cause) → IsNew c → of_then c.device c.number ≡ datagram.root
  of_one c k = ap (λ j. of_then j c.number) (sym k.0) ∙ ap (of_then d) (sym k.1) ∙ of_new

  one_is : (c : Cause) → IsNew c → record { device = d; number = cause } ≡ c
  one_is c k = ap (λ j. record { device = j; number = cause }) k.0 ∙ ap (λ i. record { device = c.device; number = i }) k.1

  new_open : HasOpened new (record { device = d; number = cause })
  new_open = (omega (arith, t.begun d, cause_is), omega (arith, cause_is, ap (λ (m : Machine). m.next) (machine_here old new d machine b.machines), ap (λ (m : Machine). m.next) new_is))

  -- an old cause is not the new one
  not_new : (c : Cause) → HasOpened old c → IsNew c → ⊥
  not_new c h k = omega (arith, h.1, k.1, cause_is, ap (λ i. (old.machines i).next) k.0)

  -- ---- entries

  each_queue : (P : Entry → Type 0) → ((j : ℕ) → AllByRecursion P ((old.machines d).queues j)) → P (record { cause = (old.machines d).next; opening = place_of (arriving leaf values); place = place_of (arriving leaf values); values = values }) → (j : ℕ) → AllByRecursion P (machine.queues j)
  each_queue P h p j =
      subst (λ (f : ℕ → List Entry). AllByRecursion P (f j)) (sym (ap (λ (m : Machine). m.queues) new_is))
      (put_all (λ i es. AllByRecursion P es) (old.machines d).queues leaf.home ((old.machines d).queues leaf.home ++ record { cause = (old.machines d).next; opening = place_of (arriving leaf values); place = place_of (arriving leaf values); values = values } ∷ [])
      (all_append P ((old.machines d).queues leaf.home) (record { cause = (old.machines d).next; opening = place_of (arriving leaf values); place = place_of (arriving leaf values); values = values } ∷ []) (h leaf.home) (p, tt))
      (λ i ne. h i) j)

  root_then : (j : ℕ) → new.root_of j ≡ put old.root_of d (put (old.root_of d) cause datagram.root) j
  root_then j = ap (λ f. f j) b.root_of

  entry_old : (e : Entry) → IsRooted old t.of d e.cause → IsRooted new of_then d e.cause
  entry_old e k = record {
    is_open = still_open (record { device = d; number = e.cause }) k.is_open;
    root = ap (λ f. f e.cause) (root_then d ∙ put_here old.root_of d (put (old.root_of d) cause datagram.root))
        ∙ put_other (old.root_of d) cause datagram.root e.cause (λ i. omega (arith, i, k.is_open.1, cause_is))
        ∙ k.root ∙ sym (of_old (record { device = d; number = e.cause }) k.is_open);
  }

  entry_new : IsRooted new of_then d cause
  entry_new = record {
    is_open = new_open;
    root = ap (λ f. f cause) (root_then d ∙ put_here old.root_of d (put (old.root_of d) cause datagram.root)) ∙ put_here (old.root_of d) cause datagram.root ∙ sym of_new;
  }

  entry_other : (j : ℕ) → (d ≡ j → ⊥) → (e : Entry) → IsRooted old t.of j e.cause → IsRooted new of_then j e.cause
  entry_other j ne e k = record {
    is_open = still_open (record { device = j; number = e.cause }) k.is_open;
    root = ap (λ f. f e.cause) (root_then j ∙ put_other old.root_of d (put (old.root_of d) cause datagram.root) j ne) ∙ k.root ∙ sym (of_old (record { device = j; number = e.cause }) k.is_open);
  }

  pending_then : (j q : ℕ) → AllByRecursion (λ e. IsRooted new of_then j e.cause) ((new.machines j).queues q)
  pending_then j q =
      at_machine old new d machine b.machines (λ m. AllByRecursion (λ e. IsRooted new of_then j e.cause) (m.queues q)) j
      (λ i. subst (λ k. AllByRecursion (λ e. IsRooted new of_then k e.cause) (machine.queues q)) i
      (each_queue (λ e. IsRooted new of_then d e.cause)
      (λ p. all_weaker (λ e. IsRooted old t.of d e.cause) (λ e. IsRooted new of_then d e.cause) ((old.machines d).queues p) entry_old (t.pending d p))
      (subst (IsRooted new of_then d) cause_is entry_new) q))
      (λ ne. all_weaker (λ e. IsRooted old t.of j e.cause) (λ e. IsRooted new of_then j e.cause) ((old.machines j).queues q) (entry_other j ne) (t.pending j q))

  -- ---- what belongs

  sender_root : t.of carrier.sender.device carrier.sender.number ≡ of_then d cause
  sender_root = sender_sent.1 ∙ sym carrier.root ∙ sym of_new

  belongs_now : Belongs then_told (arrival_of (of_then d cause)) (record { device = d; number = cause })
  belongs_now =
      caused carrier.sender (record { device = d; number = cause }) (suc n) carrier.at (length trace) datagram.message
      (subst (λ k. Belongs then_told (arrival_of k) carrier.sender) sender_root (belongs_still trace (happening ∷ []) (arrival_of (t.of carrier.sender.device carrier.sender.number)) carrier.sender (t.belongs carrier.sender sender_sent.0)))
      (sends_still trace (happening ∷ []) carrier.at (suc n) carrier.sender datagram.message carrier.sends)
      (index_below trace carrier.at (record { event = At_device carrier.sender.device (A_dispatch carrier.sends.resource); answer = Answered (Ran carrier.sender.number carrier.sends.place carrier.sends.steps (Some (Send datagram.message)) carrier.sends.ended) (Some (suc n)) }) carrier.sends.told)
      (at_end trace happening)

  belongs_then : (c : Cause) → HasOpened new c → Belongs then_told (arrival_of (of_then c.device c.number)) c
  belongs_then c h = elim (was_or_new c h) [
    | inl o ↦ subst (λ k. Belongs then_told (arrival_of k) c) (sym (of_old c o)) (belongs_still trace (happening ∷ []) (arrival_of (t.of c.device c.number)) c (t.belongs c o))
    | inr k ↦ subst (λ (x : Cause). Belongs then_told (arrival_of (of_then x.device x.number)) x) (one_is c k) belongs_now
  ]

  rooted_then : (c : Cause) → HasOpened new c → IsOpened new (of_then c.device c.number)
  rooted_then c h = elim (was_or_new c h) [
    | inl o ↦ (let r = t.rooted c o in (omega (arith, of_old c o, r.0), omega (arith, of_old c o, r.1, b.next)))
    | inr k ↦ (let r = t.rooted carrier.sender sender_sent.0 in let e = of_one c k ∙ sym of_new ∙ sym sender_root in (omega (arith, e, r.0), omega (arith, e, r.1, b.next)))
  ]

  was_root : (k : ℕ) → IsOpened new k → IsOpened old k
  was_root k h = (h.0, omega (arith, h.1, b.next))

  -- an old cause is opened by no delivery now
  opens_old : (at number : ℕ) (c : Cause) → HasOpened old c → Opens then_told at number c → Opens trace at number c
  opens_old at number c h o = elim (was_or_last trace happening at (record { event = Deliver_datagram number c.device; answer = Answered (Admitted c.number) None }) o) [
    | inl k ↦ k
    | inr k ↦ (let s = same_opening (suc n) d cause number c k.1 in absurd (not_new c h (s.1, s.2)))
  ]

  arrivals_then : (c : Cause) → IsArrival then_told new c → arrival_of (of_then c.device c.number) ≡ c
  arrivals_then c a = elim (was_or_new c a.0) [
    | inl o ↦ ap arrival_of (of_old c o) ∙ t.arrivals c (o, λ at number p. a.1 at number (opens_still trace (happening ∷ []) at number c p))
    | inr k ↦ absurd (a.1 (length trace) (suc n) (subst (Opens then_told (length trace) (suc n)) (one_is c k) (at_end trace happening)))
  ]

  opens_then : (at number : ℕ) (c : Cause) → Opens then_told at number c → HasOpened new c × (of_then c.device c.number ≡ t.carried number) × (number ≤ length new.datagrams)
  opens_then at number c o =
      let same : length new.datagrams ≡ length old.datagrams = ap length b.datagrams ∙ length-admitted old.datagrams n d in
      elim (was_or_last trace happening at (record { event = Deliver_datagram number c.device; answer = Answered (Admitted c.number) None }) o) [
        | inl k ↦ (let p = t.opens at number c k in (still_open c p.0, of_old c p.0 ∙ p.1, omega (arith, p.2, same)))
        | inr k ↦ (
            let s = same_opening (suc n) d cause number c k.1 in
            (subst (HasOpened new) (one_is c (s.1, s.2)) new_open, of_one c (s.1, s.2) ∙ carrier.root ∙ ap t.carried s.0, omega (arith, n_below, s.0, same))
            )
      ]

  -- ---- datagrams

  -- what this delivery adds to the admissions of its datagram
  seen : (number j : ℕ) → number ≡ suc n → admission_in number j (Deliver_datagram (suc n) d) (Answered (Admitted cause) None) ≡ one_if (eqb d j)
  seen number j e = ap (λ k. one_if (eqb (suc n) k && eqb d j)) e ∙ this_datagram (suc n) d j

  not_seen : (number j : ℕ) → (number ≡ suc n → ⊥) → admission_in number j (Deliver_datagram (suc n) d) (Answered (Admitted cause) None) ≡ 0
  not_seen number j ne = another_datagram (suc n) number d j (λ e. ne (sym e))

  told_bumped : (g : Datagram) → IsTold t.carried trace (1 + n) g → IsTold t.carried then_told (1 + n) (bumped g d)
  told_bumped g k =
      record {
        at = k.at;
        sender = k.sender;
        sends = sends_still trace (happening ∷ []) k.at (1 + n) k.sender g.message k.sends;
        root = k.root;
        admissions = put_all (λ j x. x ≡ min (admissions_told (1 + n) j then_told) 256) g.admissions d (min (g.admissions d + 1) 256)
            (omega (arith, k.admissions d, admissions_end (1 + n) d trace happening, seen (1 + n) d (omega arith), ap one_if (eq-eqb d d refl)))
            (λ j ne. omega (arith, k.admissions j, admissions_end (1 + n) j trace happening, seen (1 + n) j (omega arith), ap one_if (ne_eqb d j ne)));
      }

  datagrams_then : AllFrom (IsTold t.carried then_told) 1 new.datagrams
  datagrams_then =
      subst (AllFrom (IsTold t.carried then_told) 1) (sym b.datagrams)
      (from_admitted (IsTold t.carried trace) (IsTold t.carried then_told) 1 old.datagrams n d
      (λ m g ne k. told_still t.carried t.carried trace happening m g refl (λ j. not_seen m j (λ e. ne (omega (arith, e)))) k) told_bumped t.datagrams)

  -- ---- all of it

  opened_then : (k q : ℕ) → IsOpened new k → AllByRecursion (λ e. e.cause ≡ (arrival_of k).number → e.opening ≡ (new.roots k).opening) ((new.machines (arrival_of k).device).queues q)
  opened_then k q r =
      let o = (t.arrives k (was_root k r)).0 in
      subst (λ (f : ℕ → Root). AllByRecursion (λ e. e.cause ≡ (arrival_of k).number → e.opening ≡ (f k).opening) ((new.machines (arrival_of k).device).queues q)) (sym b.roots)
      (at_machine old new d machine b.machines (λ m. AllByRecursion (λ e. e.cause ≡ (arrival_of k).number → e.opening ≡ (old.roots k).opening) (m.queues q)) (arrival_of k).device
      (λ i. each_queue (λ e. e.cause ≡ (arrival_of k).number → e.opening ≡ (old.roots k).opening)
      (λ p. subst (λ j. AllByRecursion (λ e. e.cause ≡ (arrival_of k).number → e.opening ≡ (old.roots k).opening) ((old.machines j).queues p)) (sym i) (t.opened k p (was_root k r)))
      (λ e. absurd (omega (arith, e, o.1, ap (λ j. (old.machines j).next) i))) q)
      (λ ne. t.opened k q (was_root k r)))

  steps_then : (k : ℕ) → IsOpened new k → (new.roots k).steps ≡ steps_of of_then k then_told
  steps_then k r =
      let same : steps_of of_then k trace ≡ steps_of t.of k trace = steps_same (HasOpened old) t.of of_then k trace of_old t.ran in
      omega (arith, ap (λ f. (f k).steps) b.roots, t.steps k (was_root k r), same, steps_end of_then k trace happening)

  tied_then : Tied arrival_of then_told new
  tied_then =
      record {
        of = of_then;
        carried = t.carried;
        begun = λ j. omega (arith, t.begun j, next_up j);
        pending = pending_then;
        rooted = rooted_then;
        belongs = belongs_then;
        arrives = λ k r. let a = t.arrives k (was_root k r) in (still_open (arrival_of k) a.0, λ at number o. a.1 at number (opens_old at number (arrival_of k) a.0 o));
        returns = λ k r. of_old (arrival_of k) (t.arrives k (was_root k r)).0 ∙ t.returns k (was_root k r);
        arrivals = arrivals_then;
        sends = λ at number c message s.
            let p = t.sends at number c message (sends_before trace happening at number c message refl s) in
            (still_open c p.0, of_old c p.0 ∙ p.1, subst (λ gs. Carries gs number message) (sym b.datagrams) (carries_admitted old.datagrams n d number message p.2));
        opens = opens_then;
        datagrams = datagrams_then;
        unsent = λ number j l. admissions_still number j trace happening (not_seen number j (λ e. omega (arith, e, l, n_below, ap length b.datagrams, length-admitted old.datagrams n d)))
            ∙ t.unsent number j (omega (arith, l, ap length b.datagrams, length-admitted old.datagrams n d));
        ran = all_of_end (HasOpened new) trace happening (all_of_weaker (HasOpened old) (HasOpened new) trace still_open t.ran) tt;
        steps = steps_then;
        opened = opened_then;
      }

  pub takes_goes : Goes arrival_of then_told old new
  takes_goes = record { later = arrival_of; same = λ k l. refl; tied = tied_then; more = omega (arith, b.next); openings = λ k l. ap (λ f. (f k).opening) b.roots; begins = λ k l m. absurd (omega (arith, l, m, b.next)) }
