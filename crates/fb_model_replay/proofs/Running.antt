-- Two events, and two runs over the same events, end alike.
use Rattle.std.proofs.Common.{◌≡◌, ℕ, ◌+◌, ℤ, List, [], ◌∷◌, ◌++◌, refl, sym, ◌∙◌, ap, subst, inl, inr}
use Rattle.fb_model.specs.System.{Device}
use Rattle.fb_model.specs.Wires.{Leaf, leaves}
use Rattle.fb_model.specs.Certificates.{Certificate}
use Rattle.fb_model.specs.Devices.{Machine, Event, Offer, Deliver, Tick, Dispatch, Answer, Admitted, Denied, Expired, Idle, Ran, expired, due_timers, Tries, at_moment, Happens, Run}
use Rattle.fb_model_replay.specs.Alike.{IsAlike, AreAlike, effect_in, written, sent, writes_in, sends_in}
use Rattle.fb_model_replay.proofs.Dispatching.{runs_once}
use Rattle.fb_model_replay.proofs.Admitting.{offers_once, delivers_once, offer_not_denied, delivery_not_denied, offer_denials_agree, delivery_denials_agree}

-- timers that are tried
tries_once : (cert : Certificate) (device : Device) (timers : List Leaf) (old : Machine) (count more : ℕ) (new again : Machine) → Tries cert device timers old count new → Tries cert device timers old more again → (count ≡ more) × (new ≡ again)
tries_once cert device [] old count more new again x y = (x.0 ∙ sym y.0, x.1 ∙ sym y.1)
tries_once cert device (leaf ∷ rest) old count more new again (inl x) (inl y) =
    let later = tries_once cert device rest (expired old leaf) x.0 y.0 new again x.3 y.3 in
    (x.2 ∙ ap (λ k. k + 1) later.0 ∙ sym y.2, later.1)
tries_once cert device (leaf ∷ rest) old count more new again (inl x) (inr y) = absurd (y.0 x.1)
tries_once cert device (leaf ∷ rest) old count more new again (inr x) (inl y) = absurd (x.0 y.1)
tries_once cert device (leaf ∷ rest) old count more new again (inr x) (inr y) = tries_once cert device rest old count more new again x.1 y.1

module _ (cert : Certificate) (device : Device) (old new again : Machine) where
  offer_once : (input : ℕ) (values : List ℤ) (a b : Answer) → Happens cert device old (Offer input values) a new → Happens cert device old (Offer input values) b again → IsAlike a b × (new ≡ again)
  offer_once input values (Admitted cause) (Admitted count) x y = (let same = offers_once cert device old input values cause count new again x y in (ap Admitted same.0, same.1))
  offer_once input values (Admitted cause) (Denied why) x y = absurd (offer_not_denied cert device old input values cause new why x y.0)
  offer_once input values (Admitted cause) (Expired b) x y = absurd y
  offer_once input values (Admitted cause) Idle x y = absurd y
  offer_once input values (Admitted cause) (Ran b c d e f) x y = absurd y
  offer_once input values (Denied why) (Admitted cause) x y = absurd (offer_not_denied cert device old input values cause again why y x.0)
  offer_once input values (Denied why) (Denied other) x y = (offer_denials_agree cert device old input values why other x.0 y.0, x.1 ∙ sym y.1)
  offer_once input values (Denied why) (Expired b) x y = absurd y
  offer_once input values (Denied why) Idle x y = absurd y
  offer_once input values (Denied why) (Ran b c d e f) x y = absurd y
  offer_once input values (Expired count) b x y = absurd x
  offer_once input values Idle b x y = absurd x
  offer_once input values (Ran cause place steps effect ended) b x y = absurd x

  delivery_once : (bytes : List ℕ) (a b : Answer) → Happens cert device old (Deliver bytes) a new → Happens cert device old (Deliver bytes) b again → IsAlike a b × (new ≡ again)
  delivery_once bytes (Admitted cause) (Admitted count) x y = (let same = delivers_once cert device old bytes cause count new again x y in (ap Admitted same.0, same.1))
  delivery_once bytes (Admitted cause) (Denied why) x y = absurd (delivery_not_denied cert device old bytes cause new why x y.0)
  delivery_once bytes (Admitted cause) (Expired b) x y = absurd y
  delivery_once bytes (Admitted cause) Idle x y = absurd y
  delivery_once bytes (Admitted cause) (Ran b c d e f) x y = absurd y
  delivery_once bytes (Denied why) (Admitted cause) x y = absurd (delivery_not_denied cert device old bytes cause again why y x.0)
  delivery_once bytes (Denied why) (Denied other) x y = (delivery_denials_agree cert device old bytes why other x.0 y.0, x.1 ∙ sym y.1)
  delivery_once bytes (Denied why) (Expired b) x y = absurd y
  delivery_once bytes (Denied why) Idle x y = absurd y
  delivery_once bytes (Denied why) (Ran b c d e f) x y = absurd y
  delivery_once bytes (Expired count) b x y = absurd x
  delivery_once bytes Idle b x y = absurd x
  delivery_once bytes (Ran cause place steps effect ended) b x y = absurd x

  tick_once : (now : ℕ) (a b : Answer) → Happens cert device old (Tick now) a new → Happens cert device old (Tick now) b again → IsAlike a b × (new ≡ again)
  tick_once now (Expired count) (Expired more) x y =
      let same = tries_once cert device (due_timers old.store (at_moment old now).clock (leaves device)) (at_moment old now) count more new again x y in
      (ap Expired same.0, same.1)
  tick_once now (Expired count) (Admitted b) x y = absurd y
  tick_once now (Expired count) (Denied b) x y = absurd y
  tick_once now (Expired count) Idle x y = absurd y
  tick_once now (Expired count) (Ran b c d e f) x y = absurd y
  tick_once now (Admitted cause) b x y = absurd x
  tick_once now (Denied why) b x y = absurd x
  tick_once now Idle b x y = absurd x
  tick_once now (Ran cause place steps effect ended) b x y = absurd x

  dispatch_once : (q : ℕ) (a b : Answer) → Happens cert device old (Dispatch q) a new → Happens cert device old (Dispatch q) b again → IsAlike a b × (new ≡ again)
  dispatch_once q Idle Idle x y = (refl, x.1 ∙ sym y.1)
  dispatch_once q Idle (Ran cause place steps effect ended) x y = (let e = sym x.0 ∙ y.was in cc)
  dispatch_once q Idle (Admitted b) x y = absurd y
  dispatch_once q Idle (Denied b) x y = absurd y
  dispatch_once q Idle (Expired b) x y = absurd y
  dispatch_once q (Ran cause place steps effect ended) Idle x y = (let e = sym y.0 ∙ x.was in cc)
  dispatch_once q (Ran cause place steps effect ended) (Ran count here more other closed) x y = runs_once cert device old q cause count place here steps more effect other ended closed new again x y
  dispatch_once q (Ran cause place steps effect ended) (Admitted b) x y = absurd y
  dispatch_once q (Ran cause place steps effect ended) (Denied b) x y = absurd y
  dispatch_once q (Ran cause place steps effect ended) (Expired b) x y = absurd y
  dispatch_once q (Admitted cause) b x y = absurd x
  dispatch_once q (Denied why) b x y = absurd x
  dispatch_once q (Expired count) b x y = absurd x

  happens_once : (e : Event) (a b : Answer) → Happens cert device old e a new → Happens cert device old e b again → IsAlike a b × (new ≡ again)
  happens_once (Offer input values) a b x y = offer_once input values a b x y
  happens_once (Deliver bytes) a b x y = delivery_once bytes a b x y
  happens_once (Tick now) a b x y = tick_once now a b x y
  happens_once (Dispatch q) a b x y = dispatch_once q a b x y

pub run_once : (cert : Certificate) (device : Device) (es : List Event) (as' bs : List Answer) (old new again : Machine) → Run cert device old es as' new → Run cert device old es bs again → AreAlike as' bs × (new ≡ again)
run_once cert device [] [] [] old new again x y = (tt, x ∙ sym y)
run_once cert device [] (a ∷ as') bs old new again x y = absurd x
run_once cert device [] [] (b ∷ bs) old new again x y = absurd y
run_once cert device (e ∷ es) [] bs old new again x y = absurd x
run_once cert device (e ∷ es) (a ∷ as') [] old new again x y = absurd y
run_once cert device (e ∷ es) (a ∷ as') (b ∷ bs) old new again x y =
    let first = happens_once cert device old x.0 y.0 e a b x.1 y.1 in
    let rest = run_once cert device es as' bs x.0 new again x.2 (subst (λ m. Run cert device m es bs again) (sym first.1) y.2) in
    ((first.0, rest.0), rest.1)

-- ---- what alike answers tell

alike_effect : (a b : Answer) → IsAlike a b → effect_in a ≡ effect_in b
alike_effect (Denied why) (Denied other) h = refl
alike_effect (Denied why) (Admitted cause) h = ap effect_in h
alike_effect (Denied why) (Expired count) h = ap effect_in h
alike_effect (Denied why) Idle h = ap effect_in h
alike_effect (Denied why) (Ran cause place steps effect ended) h = ap effect_in h
alike_effect (Admitted cause) b h = ap effect_in h
alike_effect (Expired count) b h = ap effect_in h
alike_effect Idle b h = ap effect_in h
alike_effect (Ran cause place steps effect ended) b h = ap effect_in h

pub alike_writes : (as' bs : List Answer) → AreAlike as' bs → writes_in as' ≡ writes_in bs
alike_writes [] [] h = refl
alike_writes [] (b ∷ bs) h = absurd h
alike_writes (a ∷ as') [] h = absurd h
alike_writes (a ∷ as') (b ∷ bs) h = ap (λ e. written e ++ writes_in as') (alike_effect a b h.0) ∙ ap (λ ws. written (effect_in b) ++ ws) (alike_writes as' bs h.1)

pub alike_sends : (as' bs : List Answer) → AreAlike as' bs → sends_in as' ≡ sends_in bs
alike_sends [] [] h = refl
alike_sends [] (b ∷ bs) h = absurd h
alike_sends (a ∷ as') [] h = absurd h
alike_sends (a ∷ as') (b ∷ bs) h = ap (λ e. sent e ++ sends_in as') (alike_effect a b h.0) ∙ ap (λ ms. sent (effect_in b) ++ ms) (alike_sends as' bs h.1)
