-- Over runs.
use Rattle.std.proofs.Common.{◌≡◌, ℕ, zero, suc, ◌<◌, ◌≤◌, List, [], ◌∷◌, ◌++◌, Option, refl, sym, ◌∙◌, ap, subst, arith, inl, inr}
use Rattle.std.proofs.lemmas.Bool.{cases_lt}
use Rattle.fb_model.specs.Names.{Place}
use Rattle.fb_model.specs.System.{System}
use Rattle.fb_model.specs.Certificates.{Certificate}
use Rattle.fb_model.specs.Devices.{Admitted, Denied, Expired, Idle, Ran, numbers_in}
use Rattle.fb_model.specs.World.{World, WorldEvent, At_device, Deliver_datagram, An_offer, A_tick, A_dispatch, WorldAnswer, Answered, Unknown, WorldHappens, WorldRun}
use Rattle.fb_model.specs.Worlds.{IsOpened, AllHold, IsWorldSound}
use Rattle.fb_model_worlds.proofs.Growing.{offer_grows, tick_grows}
use Rattle.fb_model_worlds.proofs.Cases.{device_holds}
use Rattle.fb_model_worlds.proofs.Sounding.{sound_event}
use Rattle.fb_model.specs.Causes.{Cause, Happening, trace_of, HasOpened, IsPending, WasPending, AtEach, AreArrivals}
use Rattle.fb_model_causes.proofs.Lists.{append_nothing, append_again}
use Rattle.fb_model_causes.proofs.Belonging.{opens_still}
use Rattle.fb_model_causes.proofs.Tied.{Tied, IsQuiet, quietly, Goes, are_arrivals, one_root, pending_opened, opening_alone}
use Rattle.fb_model_causes.proofs.Opening.{opens_goes}
use Rattle.fb_model_causes.proofs.Serving.{serves_goes}
use Rattle.fb_model_causes.proofs.Taking.{takes_goes}

-- ---- one event

rests_goes : (arrival_of : ℕ → Cause) (trace : List Happening) (h : Happening) (old new : World) → IsQuiet h → new ≡ old → Tied arrival_of trace old → Goes arrival_of (trace ++ h ∷ []) old new
rests_goes arrival_of trace h old new quiet same t =
    subst (Goes arrival_of (trace ++ h ∷ []) old) (sym same)
    (record { later = arrival_of; same = λ n l. refl; tied = quietly arrival_of trace h old quiet t; more = omega arith; openings = λ n l. refl; begins = λ n l m. absurd (omega (arith, l, m)) })

module _ (system : System) (cert : Certificate) (hold : AllHold system cert) (arrival_of : ℕ → Cause) (trace : List Happening) where
  event_goes : (old : World) (event : WorldEvent) (answer : WorldAnswer) (new : World) → IsWorldSound system cert old → WorldHappens system cert old event answer new → Tied arrival_of trace old → Goes arrival_of (trace ++ record { event = event; answer = answer } ∷ []) old new
  event_goes old (At_device d (An_offer input values)) (Answered (Admitted cause) sent) new s h t =
      opens_goes cert h.0 arrival_of (trace ++ record { event = At_device d (An_offer input values); answer = Answered (Admitted cause) sent } ∷ []) old new s.above d h.1
      (offer_grows cert h.0 (device_holds system cert hold d h.0 h.2) (old.machines d) h.1 input values cause (s.machines d h.0 h.2) h.3) h.4.0
      (quietly arrival_of trace (record { event = At_device d (An_offer input values); answer = Answered (Admitted cause) sent }) old (record { no_dispatch = refl; no_admission = λ n j. refl }) t)
  event_goes old (At_device d (An_offer input values)) (Answered (Denied why) sent) new s h t =
      rests_goes arrival_of trace (record { event = At_device d (An_offer input values); answer = Answered (Denied why) sent }) old new (record { no_dispatch = refl; no_admission = λ n j. refl }) h.4.0 t
  event_goes old (At_device d (An_offer input values)) (Answered (Expired count) sent) new s h t = absurd h.3
  event_goes old (At_device d (An_offer input values)) (Answered Idle sent) new s h t = absurd h.3
  event_goes old (At_device d (An_offer input values)) (Answered (Ran cause place steps effect ended) sent) new s h t = absurd h.3
  event_goes old (At_device d (A_tick now)) (Answered (Admitted cause) sent) new s h t = absurd h.3
  event_goes old (At_device d (A_tick now)) (Answered (Denied why) sent) new s h t = absurd h.3
  event_goes old (At_device d (A_tick now)) (Answered (Expired count) sent) new s h t =
      opens_goes cert h.0 arrival_of (trace ++ record { event = At_device d (A_tick now); answer = Answered (Expired count) sent } ∷ []) old new s.above d h.1
      (tick_grows cert h.0 (device_holds system cert hold d h.0 h.2) (old.machines d) h.1 now count (s.machines d h.0 h.2) h.3) h.4.0
      (quietly arrival_of trace (record { event = At_device d (A_tick now); answer = Answered (Expired count) sent }) old (record { no_dispatch = refl; no_admission = λ n j. refl }) t)
  event_goes old (At_device d (A_tick now)) (Answered Idle sent) new s h t = absurd h.3
  event_goes old (At_device d (A_tick now)) (Answered (Ran cause place steps effect ended) sent) new s h t = absurd h.3
  event_goes old (At_device d (A_dispatch q)) (Answered (Admitted cause) sent) new s h t = absurd h.3
  event_goes old (At_device d (A_dispatch q)) (Answered (Denied why) sent) new s h t = absurd h.3
  event_goes old (At_device d (A_dispatch q)) (Answered (Expired count) sent) new s h t = absurd h.3
  event_goes old (At_device d (A_dispatch q)) (Answered Idle sent) new s h t =
      rests_goes arrival_of trace (record { event = At_device d (A_dispatch q); answer = Answered Idle sent }) old new (record { no_dispatch = refl; no_admission = λ n j. refl }) h.4.0 t
  event_goes old (At_device d (A_dispatch q)) (Answered (Ran cause place steps effect ended) sent) new s h t =
      serves_goes system cert h.0 arrival_of trace old new (sound_event system cert hold old (At_device d (A_dispatch q)) (Answered (Ran cause place steps effect ended) sent) new s h) d q cause place steps effect ended sent h.1 h.3 h.4 t
  event_goes old (At_device d event) Unknown new s h t = rests_goes arrival_of trace (record { event = At_device d event; answer = Unknown }) old new (record { no_dispatch = refl; no_admission = λ n j. refl }) h.1 t
  event_goes old (Deliver_datagram zero d) (Answered answer sent) new s h t = absurd h
  event_goes old (Deliver_datagram (suc n) d) (Answered (Admitted cause) sent) new s h t =
      let x = h.5.happens in
      subst (λ (o : Option ℕ). Goes arrival_of (trace ++ record { event = Deliver_datagram (suc n) d; answer = Answered (Admitted cause) o } ∷ []) old new) (sym h.7)
      (takes_goes arrival_of trace old new d n cause h.1 h.2 x.leaf x.message.stamp (numbers_in x.message.values) h.4 x.cause_is x.new_is h.6 t)
  event_goes old (Deliver_datagram (suc n) d) (Answered (Denied why) sent) new s h t =
      rests_goes arrival_of trace (record { event = Deliver_datagram (suc n) d; answer = Answered (Denied why) sent }) old new (record { no_dispatch = refl; no_admission = λ m j. refl }) h.6 t
  event_goes old (Deliver_datagram (suc n) d) (Answered (Expired count) sent) new s h t =
      rests_goes arrival_of trace (record { event = Deliver_datagram (suc n) d; answer = Answered (Expired count) sent }) old new (record { no_dispatch = refl; no_admission = λ m j. refl }) h.6 t
  event_goes old (Deliver_datagram (suc n) d) (Answered Idle sent) new s h t =
      rests_goes arrival_of trace (record { event = Deliver_datagram (suc n) d; answer = Answered Idle sent }) old new (record { no_dispatch = refl; no_admission = λ m j. refl }) h.6 t
  event_goes old (Deliver_datagram (suc n) d) (Answered (Ran cause place steps effect ended) sent) new s h t =
      rests_goes arrival_of trace (record { event = Deliver_datagram (suc n) d; answer = Answered (Ran cause place steps effect ended) sent }) old new (record { no_dispatch = refl; no_admission = λ m j. refl }) h.6 t
  event_goes old (Deliver_datagram n d) Unknown new s h t = rests_goes arrival_of trace (record { event = Deliver_datagram n d; answer = Unknown }) old new (record { no_dispatch = refl; no_admission = λ m j. refl }) h.1 t

-- ---- runs

-- what is pending when a run begins was pending
pub pending_at_first : (system : System) (cert : Certificate) (c : Cause) (opening : Place) (old : World) (es : List WorldEvent) (as' : List WorldAnswer) (new : World) (run : WorldRun system cert old es as' new) → IsPending old c opening → WasPending system cert c opening old es as' new run
pending_at_first system cert c opening old [] [] new run p = p
pending_at_first system cert c opening old [] (a ∷ as') new run p = absurd run
pending_at_first system cert c opening old (e ∷ es) [] new run p = absurd run
pending_at_first system cert c opening old (e ∷ es) (a ∷ as') new run p = inl p

pub record Numbers (system : System) (cert : Certificate) (arrival_of : ℕ → Cause) (before : List Happening) (old : World) (es : List WorldEvent) (as' : List WorldAnswer) (new : World) (run : WorldRun system cert old es as' new) : Type 0 where
  pub later : ℕ → Cause
  pub same : (n : ℕ) → n < old.next → later n ≡ arrival_of n
  pub more : old.next ≤ new.next
  pub openings : (n : ℕ) → n < old.next → (new.roots n).opening ≡ (old.roots n).opening
  pub each : AtEach (AreArrivals later (λ n. (new.roots n).opening)) system cert before old es as' new run
  pub opened : (n : ℕ) → old.next ≤ n → n < new.next → WasPending system cert (later n) (new.roots n).opening old es as' new run
  pub alone : (n : ℕ) (opening : Place) → IsOpened new n → WasPending system cert (later n) opening old es as' new run → opening ≡ (new.roots n).opening
  pub tied : Tied later (before ++ trace_of es as') new

-- a root that opens later is not pending yet
not_yet : (arrival_of later : ℕ → Cause) (before rest : List Happening) (old new : World) → Tied arrival_of before old → Tied later (before ++ rest) new → ((n : ℕ) → n < old.next → later n ≡ arrival_of n) → old.next ≤ new.next → (n : ℕ) → old.next ≤ n → IsOpened new n → HasOpened old (later n) → ⊥
not_yet arrival_of later before rest old new t u same more n l r h =
    let root : IsOpened old (t.of (later n).device (later n).number) = t.rooted (later n) h in
    let was = t.arrivals (later n) (h, λ at datagram o. (u.arrives n r).1 at datagram (opens_still before rest at datagram (later n) o)) in
    let is : t.of (later n).device (later n).number ≡ n =
    one_root later (before ++ rest) new u (t.of (later n).device (later n).number) n (root.0, omega (arith, root.1, more)) r (same (t.of (later n).device (later n).number) root.1 ∙ was) in
    omega (arith, is, root.1, l)

module _ (system : System) (cert : Certificate) (hold : AllHold system cert) where
  more_numbers : (arrival_of : ℕ → Cause) (before : List Happening) (old : World) (e : WorldEvent) (a : WorldAnswer) (es : List WorldEvent) (as' : List WorldAnswer) (new : World) (run : WorldRun system cert old (e ∷ es) (a ∷ as') new) → Tied arrival_of before old
      → (k : Goes arrival_of (before ++ record { event = e; answer = a } ∷ []) old run.0) → Numbers system cert k.later (before ++ record { event = e; answer = a } ∷ []) run.0 es as' new run.2 → Numbers system cert arrival_of before old (e ∷ es) (a ∷ as') new run
  more_numbers arrival_of before old e a es as' new run t k m =
      record {
        later = m.later;
        same = same;
        more = omega (arith, k.more, m.more);
        openings = openings;
        each = (are_arrivals arrival_of before old t m.later (λ n. (new.roots n).opening) (λ n r. same n r.1) (λ n r. sym (openings n r.1)), m.each);
        opened = opened;
        alone = alone;
        tied = tied;
      }
    where
      same : (n : ℕ) → n < old.next → m.later n ≡ arrival_of n
      same n l = m.same n (omega (arith, l, k.more)) ∙ k.same n l

      openings : (n : ℕ) → n < old.next → (new.roots n).opening ≡ (old.roots n).opening
      openings n l = m.openings n (omega (arith, l, k.more)) ∙ k.openings n l

      tied : Tied m.later (before ++ trace_of (e ∷ es) (a ∷ as')) new
      tied = subst (λ trace. Tied m.later trace new) (append_again before (record { event = e; answer = a }) (trace_of es as')) m.tied

      opened : (n : ℕ) → old.next ≤ n → n < new.next → WasPending system cert (m.later n) (new.roots n).opening old (e ∷ es) (a ∷ as') new run
      opened n l h = elim (cases_lt n (run.0).next) [
        | inl x ↦ inr (pending_at_first system cert (m.later n) (new.roots n).opening run.0 es as' new run.2
            (subst (λ c. IsPending run.0 c (new.roots n).opening) (sym (m.same n x)) (subst (IsPending run.0 (k.later n)) (sym (m.openings n x)) (k.begins n l x))))
        | inr x ↦ inr (m.opened n x h)
      ]

      alone : (n : ℕ) (opening : Place) → IsOpened new n → WasPending system cert (m.later n) opening old (e ∷ es) (a ∷ as') new run → opening ≡ (new.roots n).opening
      alone n opening r (inr p) = m.alone n opening r p
      alone n opening r (inl p) = elim (cases_lt n old.next) [
        | inl l ↦ opening_alone arrival_of before old t n opening (r.0, l) (subst (λ c. IsPending old c opening) (same n l) p) ∙ sym (openings n l)
        | inr l ↦ absurd (not_yet arrival_of m.later before (trace_of (e ∷ es) (a ∷ as')) old new t tied same (omega (arith, k.more, m.more)) n l r (pending_opened arrival_of before old t (m.later n) opening p))
      ]

  pub numbers : (arrival_of : ℕ → Cause) (before : List Happening) (old : World) (es : List WorldEvent) (as' : List WorldAnswer) (new : World) (run : WorldRun system cert old es as' new) → IsWorldSound system cert old → Tied arrival_of before old → Numbers system cert arrival_of before old es as' new run
  numbers arrival_of before old [] [] new run s t =
      let same : (n : ℕ) → (new.roots n).opening ≡ (old.roots n).opening = λ n. ap (λ (w : World). (w.roots n).opening) run in
      record {
        later = arrival_of;
        same = λ n l. refl;
        more = omega (arith, ap (λ (w : World). w.next) run);
        openings = λ n l. same n;
        each = are_arrivals arrival_of before old t arrival_of (λ n. (new.roots n).opening) (λ n r. refl) (λ n r. sym (same n));
        opened = λ n l h. absurd (omega (arith, l, h, ap (λ (w : World). w.next) run));
        alone = λ n opening r p. opening_alone arrival_of before old t n opening (subst (λ w. IsOpened w n) run r) p ∙ sym (same n);
        tied = subst (λ trace. Tied arrival_of trace new) (sym (append_nothing before)) (subst (Tied arrival_of before) (sym run) t);
      }
  numbers arrival_of before old [] (a ∷ as') new run s t = absurd run
  numbers arrival_of before old (e ∷ es) [] new run s t = absurd run
  numbers arrival_of before old (e ∷ es) (a ∷ as') new run s t =
      let k = event_goes system cert hold arrival_of before old e a run.0 s run.1 t in
      more_numbers arrival_of before old e a es as' new run t k (numbers k.later (before ++ record { event = e; answer = a } ∷ []) run.0 es as' new run.2 (sound_event system cert hold old e a run.0 s run.1) k.tied)
