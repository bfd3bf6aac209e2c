-- An entry is served: its steps are those of its cause's root, which its datagram has too.
use Rattle.std.proofs.Common.{◌≡◌, ℕ, suc, ◌+◌, ◌<◌, ◌≤◌, cond, eqb, List, [], ◌∷◌, ◌++◌, Option, Some, None, refl, sym, ◌∙◌, ap, subst, arith, inl, inr}
use Rattle.std.specs.Prelude.{length, slice_get}
use Rattle.std.specs.List.{AllByRecursion}
use Rattle.std.proofs.lemmas.Bool.{eq-eqb, ne_eqb}
use Rattle.fb_model.specs.Names.{Place}
use Rattle.fb_model.specs.System.{System, Device}
use Rattle.fb_model.specs.Messages.{Message}
use Rattle.fb_model.specs.Serving.{Effect, Send, Write}
use Rattle.fb_model.specs.Certificates.{Certificate, reached}
use Rattle.fb_model.specs.Devices.{Ended, Entry, Machine, put, Ran, follow_ups, Runs}
use Rattle.fb_model.specs.World.{Root, World, At_device, A_dispatch, WorldAnswer, Answered, Datagram, AddsSteps, posted, number_sent, stepped, forgotten}
use Rattle.fb_model.proofs.Lists.{all_append, all_both}
use Rattle.fb_model.proofs.Running.{put_all}
use Rattle.fb_model.specs.Worlds.{IsOpened, IsWorldSound}
use Rattle.fb_model.specs.Causes.{Cause, Happening, Dispatched, dispatch_in, Sends, Opens, HasOpened}
use Rattle.fb_model_causes.proofs.Lists.{at_end, was_or_last, AllFrom, from_weaker, from_end, length-end, Carries, carries_still, carries_below}
use Rattle.fb_model_causes.proofs.Belonging.{opens_before, opens_still, belongs_still, steps_end, steps_of, all_of_weaker}
use Rattle.fb_model_causes.proofs.Putting.{put_here, put_other, at_machine}
use Rattle.fb_model_causes.proofs.Tied.{IsRooted, IsTold, Tied, admissions_still, told_still, all_of_end, Goes}

-- ---- the parts of a dispatch

same_dispatch : (x y : Dispatched) → Some x ≡ Some y → x ≡ y
same_dispatch x y e = cc

same_number : (m n : ℕ) → Some m ≡ Some n → m ≡ n
same_number m n e = cc

-- what a dispatch answers
abbrev ran_with : ℕ → Place → ℕ → Option Effect → Option Ended → Option ℕ → WorldAnswer
ran_with cause place steps effect ended sent = Answered (Ran cause place steps effect ended) sent

effect_is : (cause : ℕ) (place : Place) (steps : ℕ) (effect : Option Effect) (ended : Option Ended) (sent : Option ℕ) (cause' : ℕ) (place' : Place) (steps' : ℕ) (effect' : Option Effect) (ended' : Option Ended) (sent' : Option ℕ)
    → ran_with cause place steps effect ended sent ≡ ran_with cause' place' steps' effect' ended' sent' → (effect ≡ effect') × (sent ≡ sent')
effect_is cause place steps effect ended sent cause' place' steps' effect' ended' sent' e = (cc, cc)

posted_carries : (gs : List Datagram) (root : ℕ) (x : Option Effect) (number : ℕ) (message : Message) → Carries gs number message → Carries (posted gs root x) number message
posted_carries gs root None number message k = k
posted_carries gs root (Some (Write output values)) number message k = k
posted_carries gs root (Some (Send m)) number message k = carries_still gs (record { message = m; root = root; admissions = λ d. 0 } ∷ []) number message k

posted_more : (gs : List Datagram) (root : ℕ) (x : Option Effect) → length gs ≤ length (posted gs root x)
posted_more gs root None = omega arith
posted_more gs root (Some (Write number values)) = omega arith
posted_more gs root (Some (Send message)) = omega (arith, length-end gs (record { message = message; root = root; admissions = λ d. 0 }))

stepped_steps : (roots : ℕ → Root) (root steps n : ℕ) → (stepped roots root steps n).steps ≡ (roots n).steps + cond (eqb root n) steps 0
stepped_steps roots root steps n =
    put_all (λ i x. x.steps ≡ (roots i).steps + cond (eqb root i) steps 0) roots root (record { opening = (roots root).opening; steps = (roots root).steps + steps })
    (omega (arith, ap (λ t. cond t steps 0) (eq-eqb root root refl))) (λ i ne. omega (arith, ap (λ t. cond t steps 0) (ne_eqb root i ne))) n

stepped_opening : (roots : ℕ → Root) (root steps n : ℕ) → (stepped roots root steps n).opening ≡ (roots n).opening
stepped_opening roots root steps n = put_all (λ i x. x.opening ≡ (roots i).opening) roots root (record { opening = (roots root).opening; steps = (roots root).steps + steps }) refl (λ i ne. refl) n

-- a root that is still there is the one that was
not_forgotten : (of : ℕ → ℕ → ℕ) (d cause : ℕ) (x : Option Ended) (j c : ℕ) → 0 < forgotten of d cause x j c → forgotten of d cause x j c ≡ of j c
not_forgotten of d cause None j c l = refl
not_forgotten of d cause (Some e) j c l =
    put_all (λ i f. 0 < f c → f c ≡ of i c) of d (put (of d) cause 0)
    (λ k. put_all (λ i n. 0 < n → n ≡ of d i) (of d) cause 0 (λ z. absurd (omega (arith, z))) (λ i ne z. refl) c k)
    (λ i ne k. refl) j l

follow : (P : ℕ → Place → Type 0) (first : Entry) (ps : List Place) → P first.cause first.opening → AllByRecursion (λ e. P e.cause e.opening) (follow_ups first ps)
follow P first [] h = tt
follow P first (p ∷ ps) h = (h, follow P first ps h)

-- ---- a dispatch

module _ (system : System) (cert : Certificate) (device : Device) (arrival_of : ℕ → Cause) (trace : List Happening) (old new : World) (sound : IsWorldSound system cert new) (d q cause : ℕ) (place : Place) (steps : ℕ) (effect : Option Effect) (ended : Option Ended) (sent : Option ℕ)
    (machine : Machine) (r : Runs cert device (old.machines d) q cause place steps effect ended machine) (b : AddsSteps old new d machine cause steps effect ended sent) (t : Tied arrival_of trace old) where
  abbrev happening : Happening
  happening = record { event = At_device d (A_dispatch q); answer = Answered (Ran cause place steps effect ended) sent }

  abbrev then_told : List Happening
  then_told = trace ++ record { event = At_device d (A_dispatch q); answer = Answered (Ran cause place steps effect ended) sent } ∷ []

  abbrev carried_then : ℕ → ℕ
  carried_then = put t.carried (length old.datagrams + 1) (t.of d cause)

  -- ---- the cause

  was : AllByRecursion (λ e. IsRooted old t.of d e.cause) (r.first ∷ r.rest)
  was = subst (AllByRecursion (λ e. IsRooted old t.of d e.cause)) r.was (t.pending d q)

  served : IsRooted old t.of d cause
  served = subst (IsRooted old t.of d) (sym r.cause_is) was.0

  next_same : (j : ℕ) → (new.machines j).next ≡ (old.machines j).next
  next_same j = at_machine old new d machine b.machines (λ m. m.next ≡ (old.machines j).next) j (λ e. r.next ∙ ap (λ i. (old.machines i).next) e) (λ ne. refl)

  still_open : (c : Cause) → HasOpened old c → HasOpened new c
  still_open c h = (h.0, omega (arith, h.1, next_same c.device))

  was_open : (c : Cause) → HasOpened new c → HasOpened old c
  was_open c h = (h.0, omega (arith, h.1, next_same c.device))

  was_root : (n : ℕ) → IsOpened new n → IsOpened old n
  was_root n h = (h.0, omega (arith, h.1, b.next))

  is_root : (n : ℕ) → IsOpened old n → IsOpened new n
  is_root n h = (h.0, omega (arith, h.1, b.next))

  -- ---- entries

  -- what is so of all entries by their causes and openings stays so
  each_queue : (P : ℕ → Place → Type 0) → ((j : ℕ) → AllByRecursion (λ e. P e.cause e.opening) ((old.machines d).queues j)) → (j : ℕ) → AllByRecursion (λ e. P e.cause e.opening) (machine.queues j)
  each_queue P h =
      let here : AllByRecursion (λ e. P e.cause e.opening) (r.first ∷ r.rest) = subst (AllByRecursion (λ e. P e.cause e.opening)) r.was (h q) in
      subst (λ (f : ℕ → List Entry). (j : ℕ) → AllByRecursion (λ e. P e.cause e.opening) (f j)) (sym r.queues)
      (put_all (λ j es. AllByRecursion (λ e. P e.cause e.opening) es) (old.machines d).queues q (r.rest ++ follow_ups r.first (reached r.leaf.targets r.outs))
      (all_append (λ e. P e.cause e.opening) r.rest (follow_ups r.first (reached r.leaf.targets r.outs)) here.1 (follow P r.first (reached r.leaf.targets r.outs) here.0))
      (λ j _. h j))

  each_pending : (P : ℕ → ℕ → Place → Type 0) → ((j p : ℕ) → AllByRecursion (λ e. P j e.cause e.opening) ((old.machines j).queues p)) → (j p : ℕ) → AllByRecursion (λ e. P j e.cause e.opening) ((new.machines j).queues p)
  each_pending P h j p =
      at_machine old new d machine b.machines (λ m. AllByRecursion (λ e. P j e.cause e.opening) (m.queues p)) j
      (λ e. subst (λ i. AllByRecursion (λ x. P i x.cause x.opening) (machine.queues p)) e (each_queue (P d) (h d) p))
      (λ ne. h j p)

  entry_then : (j : ℕ) (e : Entry) → IsRooted old t.of j e.cause → IsOpened new (new.root_of j e.cause) → IsRooted new t.of j e.cause
  entry_then j e k o =
      let same : new.root_of j e.cause ≡ forgotten old.root_of d cause ended j e.cause = ap (λ f. f j e.cause) b.root_of in
      record {
        is_open = still_open (record { device = j; number = e.cause }) k.is_open;
        root = same ∙ not_forgotten old.root_of d cause ended j e.cause (omega (arith, same, o.0)) ∙ k.root;
      }

  pending_then : (j p : ℕ) → AllByRecursion (λ e. IsRooted new t.of j e.cause) ((new.machines j).queues p)
  pending_then j p =
      all_both (λ e. IsRooted old t.of j e.cause) (λ e. IsOpened new (new.root_of j e.cause)) (λ e. IsRooted new t.of j e.cause) ((new.machines j).queues p)
      (entry_then j) (each_pending (λ i c o. IsRooted old t.of i c) t.pending j p) (sound.rooted j p)

  -- ---- datagrams

  carried_old : (n : ℕ) → n ≤ length old.datagrams → carried_then n ≡ t.carried n
  carried_old n l = put_other t.carried (length old.datagrams + 1) (t.of d cause) n (λ e. omega (arith, e, l))

  more_datagrams : length old.datagrams ≤ length new.datagrams
  more_datagrams = omega (arith, posted_more old.datagrams (old.root_of d cause) effect, ap length b.datagrams)

  old_told : AllFrom (IsTold carried_then then_told) 1 old.datagrams
  old_told =
      from_weaker (IsTold t.carried trace) (IsTold carried_then then_told) 1 old.datagrams
      (λ n g k. told_still t.carried carried_then trace happening n g (carried_old n (carries_below old.datagrams n g.message (t.sends k.at n k.sender g.message k.sends).2)) (λ j. refl) k) t.datagrams

  new_told : (message : Message) → effect ≡ Some (Send message) → IsTold carried_then then_told (1 + length old.datagrams) (record { message = message; root = old.root_of d cause; admissions = λ j. 0 })
  new_told message e =
      let number : length old.datagrams + 1 ≡ 1 + length old.datagrams = omega arith in
      record {
        at = length trace;
        sender = record { device = d; number = cause };
        sends = record {
          resource = q;
          place = place;
          steps = steps;
          ended = ended;
          told = at_end trace happening
              ∙ ap (λ x. Some (record { event = At_device d (A_dispatch q); answer = Answered (Ran cause place steps x ended) sent })) e
              ∙ ap (λ s. Some (record { event = At_device d (A_dispatch q); answer = Answered (Ran cause place steps (Some (Send message)) ended) s })) (b.sent_is ∙ ap (number_sent old.datagrams) e ∙ ap Some number);
        };
        root = served.root ∙ sym (put_here t.carried (length old.datagrams + 1) (t.of d cause)) ∙ ap carried_then number;
        admissions = λ j. omega (arith, admissions_still (1 + length old.datagrams) j trace happening refl, t.unsent (1 + length old.datagrams) j (omega arith));
      }

  posted_told : (x : Option Effect) → effect ≡ x → AllFrom (IsTold carried_then then_told) 1 (posted old.datagrams (old.root_of d cause) x)
  posted_told None e = old_told
  posted_told (Some (Write number values)) e = old_told
  posted_told (Some (Send message)) e = from_end (IsTold carried_then then_told) 1 old.datagrams (record { message = message; root = old.root_of d cause; admissions = λ j. 0 }) old_told (new_told message e)

  sent_now : (message : Message) → effect ≡ Some (Send message) → Carries new.datagrams (suc (length old.datagrams)) message
  sent_now message e =
      record {
        index = length old.datagrams;
        datagram = record { message = message; root = old.root_of d cause; admissions = λ j. 0 };
        number_is = refl;
        there = ap (λ gs. slice_get gs (length old.datagrams)) (b.datagrams ∙ ap (posted old.datagrams (old.root_of d cause)) e) ∙ at_end old.datagrams (record { message = message; root = old.root_of d cause; admissions = λ j. 0 });
        same = refl;
      }

  sends_then : (at datagram : ℕ) (c : Cause) (message : Message) → Sends then_told at c datagram message → HasOpened new c × (t.of c.device c.number ≡ carried_then datagram) × Carries new.datagrams datagram message
  sends_then at datagram c message s =
      elim (was_or_last trace happening at (record { event = At_device c.device (A_dispatch s.resource); answer = Answered (Ran c.number s.place s.steps (Some (Send message)) s.ended) (Some datagram) }) s.told) [
        | inl k ↦ (
            let p = t.sends at datagram c message (record { resource = s.resource; place = s.place; steps = s.steps; ended = s.ended; told = k }) in
            (still_open c p.0, p.1 ∙ sym (carried_old datagram (carries_below old.datagrams datagram message p.2)), subst (λ gs. Carries gs datagram message) (sym b.datagrams) (posted_carries old.datagrams (old.root_of d cause) effect datagram message p.2))
            )
        | inr k ↦ (
            let c_is : record { device = d; number = cause } ≡ c = ap (λ (x : Dispatched). x.cause)
            (same_dispatch (record { cause = record { device = d; number = cause }; steps = steps }) (record { cause = record { device = c.device; number = c.number }; steps = s.steps }) (ap (λ (x : Happening). dispatch_in x.event x.answer) k.1)) in
            let parts = effect_is cause place steps effect ended sent c.number s.place s.steps (Some (Send message)) s.ended (Some datagram) (ap (λ (x : Happening). x.answer) k.1) in
            let both : Some (length old.datagrams + 1) ≡ Some datagram = sym (ap (number_sent old.datagrams) parts.0) ∙ sym b.sent_is ∙ parts.1 in
            let number : length old.datagrams + 1 ≡ datagram = same_number (length old.datagrams + 1) datagram both in (
              subst (HasOpened new) c_is (still_open (record { device = d; number = cause }) served.is_open),
              ap (λ (x : Cause). t.of x.device x.number) (sym c_is) ∙ sym (put_here t.carried (length old.datagrams + 1) (t.of d cause)) ∙ ap carried_then number,
              subst (λ n. Carries new.datagrams n message) (let e : suc (length old.datagrams) ≡ datagram = omega (arith, number) in e) (sent_now message parts.0),
            )
            )
      ]

  opens_then : (at datagram : ℕ) (c : Cause) → Opens then_told at datagram c → HasOpened new c × (t.of c.device c.number ≡ carried_then datagram) × (datagram ≤ length new.datagrams)
  opens_then at datagram c o =
      let p = t.opens at datagram c (opens_before trace happening at datagram c refl o) in
      (still_open c p.0, p.1 ∙ sym (carried_old datagram p.2), omega (arith, p.2, more_datagrams))

  -- ---- all of it

  steps_then : (n : ℕ) → IsOpened new n → (new.roots n).steps ≡ steps_of t.of n then_told
  steps_then n k =
      omega (
        arith,
        ap (λ f. (f n).steps) b.roots,
        stepped_steps old.roots (old.root_of d cause) steps n,
        t.steps n (was_root n k),
        steps_end t.of n trace happening,
        ap (λ i. cond (eqb i n) steps 0) served.root,
      )

  opening_same : (n : ℕ) → (new.roots n).opening ≡ (old.roots n).opening
  opening_same n = ap (λ f. (f n).opening) b.roots ∙ stepped_opening old.roots (old.root_of d cause) steps n

  opened_then : (n p : ℕ) → IsOpened new n → AllByRecursion (λ e. e.cause ≡ (arrival_of n).number → e.opening ≡ (new.roots n).opening) ((new.machines (arrival_of n).device).queues p)
  opened_then n p k =
      subst (λ x. AllByRecursion (λ e. e.cause ≡ (arrival_of n).number → e.opening ≡ x) ((new.machines (arrival_of n).device).queues p)) (sym (opening_same n))
      (at_machine old new d machine b.machines (λ m. AllByRecursion (λ e. e.cause ≡ (arrival_of n).number → e.opening ≡ (old.roots n).opening) (m.queues p)) (arrival_of n).device
      (λ e. each_queue (λ c o. c ≡ (arrival_of n).number → o ≡ (old.roots n).opening)
      (λ j. subst (λ i. AllByRecursion (λ x. x.cause ≡ (arrival_of n).number → x.opening ≡ (old.roots n).opening) ((old.machines i).queues j)) (sym e) (t.opened n j (was_root n k))) p)
      (λ ne. t.opened n p (was_root n k)))

  tied_then : Tied arrival_of then_told new
  tied_then =
      record {
        of = t.of;
        carried = carried_then;
        begun = λ j. omega (arith, t.begun j, next_same j);
        pending = pending_then;
        rooted = λ c h. is_root (t.of c.device c.number) (t.rooted c (was_open c h));
        belongs = λ c h. belongs_still trace (happening ∷ []) (arrival_of (t.of c.device c.number)) c (t.belongs c (was_open c h));
        arrives = λ n k. let a = t.arrives n (was_root n k) in (still_open (arrival_of n) a.0, λ at datagram o. a.1 at datagram (opens_before trace happening at datagram (arrival_of n) refl o));
        returns = λ n k. t.returns n (was_root n k);
        arrivals = λ c a. t.arrivals c (was_open c a.0, λ at datagram o. a.1 at datagram (opens_still trace (happening ∷ []) at datagram c o));
        sends = sends_then;
        opens = opens_then;
        datagrams = subst (AllFrom (IsTold carried_then then_told) 1) (sym b.datagrams) (posted_told effect refl);
        unsent = λ datagram j l. admissions_still datagram j trace happening refl ∙ t.unsent datagram j (omega (arith, l, more_datagrams));
        ran = all_of_end (HasOpened new) trace happening (all_of_weaker (HasOpened old) (HasOpened new) trace still_open t.ran) (still_open (record { device = d; number = cause }) served.is_open);
        steps = steps_then;
        opened = opened_then;
      }

  pub serves_goes : Goes arrival_of then_told old new
  serves_goes = record { later = arrival_of; same = λ n l. refl; tied = tied_then; more = omega (arith, b.next); openings = λ n l. opening_same n; begins = λ n l m. absurd (omega (arith, l, m, b.next)) }
