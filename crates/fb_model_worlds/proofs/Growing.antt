-- What a device makes of an offer, a tick and a message: entries of new causes, and nothing else.
use Rattle.std.proofs.Common.{◌≡◌, ℕ, ◌<◌, ◌≤◌, Bool, true, ℤ, List, [], ◌∷◌, ◌++◌, Some, sym, ap, subst, arith, inl, inr}
use Rattle.std.specs.Prelude.{length}
use Rattle.std.specs.List.{AllByRecursion}
use Rattle.fb_model.specs.Names.{Place}
use Rattle.fb_model.specs.System.{Device}
use Rattle.fb_model.specs.Wires.{Kind, Leaf, leaves}
use Rattle.fb_model.specs.Store.{with_leaf, Fired}
use Rattle.fb_model.specs.Serving.{stamps_of}
use Rattle.fb_model.specs.Certificates.{Certificate, IsWired, DeviceHolds}
use Rattle.fb_model.specs.Devices.{Machine, Arrival, place_of, admitted, arriving, first_leaf, is_input_numbered, Event, Offer, Tick, Dispatch, Answer, Admitted, Expired, due_timers, expiring, expired, Tries, at_moment, is_timer, Happens}
use Rattle.fb_model.specs.Headline.{IsSound}
use Rattle.fb_model.proofs.Homes.{homes}
use Rattle.fb_model.proofs.Lists.{all_both, all_weaker}
use Rattle.fb_model.proofs.Running.{put_all, at_first_leaf}
use Rattle.fb_model.proofs.Admitting.{sound_next, all_due}
use Rattle.fb_model.proofs.Bounding.{Extends, Case, extends, idles, runs, case}
use Rattle.fb_model_worlds.proofs.Stamps.{KeepsAll, tries_keep}
use Rattle.fb_model_worlds.proofs.Opening.{Admits, admits_offer, admits_tick}

-- ---- queues that a device does not have

abbrev pub IsEmptyFrom : ℕ → Machine → Type 0
IsEmptyFrom n m = (q : ℕ) → n ≤ q → m.queues q ≡ []

pub admitted_within : (n : ℕ) (m : Machine) (a : Arrival) → a.leaf.home < n → IsEmptyFrom n m → IsEmptyFrom n (admitted m a)
admitted_within n m a l h =
    put_all (λ q es. n ≤ q → es ≡ []) m.queues a.leaf.home (m.queues a.leaf.home ++ record { cause = m.next; opening = place_of a; place = place_of a; values = a.values } ∷ [])
    (λ g. absurd (omega (arith, l, g))) (λ q _. h q)

tries_within : (cert : Certificate) (device : Device) (n : ℕ) (ls : List Leaf) (old : Machine) (count : ℕ) (new : Machine) → AllByRecursion (λ leaf. leaf.home < n) ls → Tries cert device ls old count new → IsEmptyFrom n old → IsEmptyFrom n new
tries_within cert device n [] old count new l t h = subst (IsEmptyFrom n) (sym t.1) h
tries_within cert device n (leaf ∷ rest) old count new l t h =
    elim t [
      | inl k ↦ tries_within cert device n rest (expired old leaf) k.0 new l.1 k.3
          (admitted_within n (record { queues = old.queues; store = with_leaf old.store leaf.path (record { cells = (old.store leaf.path).cells; condition = Fired }); spent = old.spent; clock = old.clock; next = old.next }) (expiring leaf) l.0 h)
      | inr k ↦ tries_within cert device n rest old count new l.1 k.1 h
    ]

-- ---- entries of new causes

-- what an event makes that is no dispatch
pub record Grows (cert : Certificate) (device : Device) (old new : Machine) : Type 0 where
  pub sound : IsSound cert device new
  pub grown : Extends old new
  pub places : List Place
  pub admits : Admits cert old new places
  pub within : IsEmptyFrom (length device.resources) old → IsEmptyFrom (length device.resources) new
  pub kept : KeepsAll device old new

no_dispatch : (cert : Certificate) (device : Device) (old : Machine) (e : Event) (a : Answer) (new : Machine) → ((q : ℕ) → e ≡ Dispatch q → ⊥) → Case cert device old e a new → Extends old new
no_dispatch cert device old e a new n (extends x t d) = x
no_dispatch cert device old e a new n (idles q i j k s) = absurd (n q i)
no_dispatch cert device old e a new n (runs q cause place steps effect ended i j r) = absurd (n q i)

module _ (cert : Certificate) (device : Device) (holding : DeviceHolds cert device) where
  home_of : (p : Kind → Bool) (leaf : Leaf) → first_leaf p (leaves device) ≡ Some leaf → leaf.home < length device.resources
  home_of p leaf h = (at_first_leaf (λ l. l.home < length device.resources) p (leaves device) leaf (homes device) h).0

  pub offer_grows : (old new : Machine) (input : ℕ) (values : List ℤ) (cause : ℕ) → IsSound cert device old → Happens cert device old (Offer input values) (Admitted cause) new → Grows cert device old new
  offer_grows old new input values cause s h =
      let a = admits_offer cert device old input values cause new h in
      record {
        sound = sound_next cert device holding old (Offer input values) (Admitted cause) new s h;
        grown = no_dispatch cert device old (Offer input values) (Admitted cause) new (λ q e. cc) (case cert device old (Offer input values) (Admitted cause) new h);
        places = a.0;
        admits = a.1;
        within = λ w. subst (IsEmptyFrom (length device.resources)) (sym h.new_is) (admitted_within (length device.resources) old (arriving h.leaf values) (home_of (is_input_numbered input) h.leaf h.known) w);
        kept = λ c k s. ap (λ (m : Machine). stamps_of (m.store k.path).condition) h.new_is;
      }

  pub tick_grows : (old new : Machine) (now count : ℕ) → IsSound cert device old → Happens cert device old (Tick now) (Expired count) new → Grows cert device old new
  tick_grows old new now count s h =
      let a = admits_tick cert device old now count new h in
      let due = due_timers old.store (at_moment old now).clock (leaves device) in
      let timers = all_due (λ leaf. IsWired (leaves device) leaf × (leaf.home < length device.resources)) old.store (at_moment old now).clock (leaves device)
      (all_both (IsWired (leaves device)) (λ leaf. leaf.home < length device.resources) (λ leaf. IsWired (leaves device) leaf × (leaf.home < length device.resources)) (leaves device) (λ leaf w l. (w, l)) holding.wired (homes device)) in
      record {
        sound = sound_next cert device holding old (Tick now) (Expired count) new s h;
        grown = no_dispatch cert device old (Tick now) (Expired count) new (λ q e. cc) (case cert device old (Tick now) (Expired count) new h);
        places = a.0;
        admits = a.1;
        within = tries_within cert device (length device.resources) (due_timers old.store (at_moment old now).clock (leaves device)) (at_moment old now) count new
            (all_weaker (λ leaf. (IsWired (leaves device) leaf × (leaf.home < length device.resources)) × (is_timer leaf.kind ≡ true)) (λ leaf. leaf.home < length device.resources) (due_timers old.store (at_moment old now).clock (leaves device)) (λ leaf t. t.0.1) timers) h;
        kept = tries_keep cert device holding (due_timers old.store (at_moment old now).clock (leaves device)) (at_moment old now) count new
            (all_weaker (λ leaf. (IsWired (leaves device) leaf × (leaf.home < length device.resources)) × (is_timer leaf.kind ≡ true)) (λ leaf. IsWired (leaves device) leaf × (is_timer leaf.kind ≡ true)) (due_timers old.store (at_moment old now).clock (leaves device)) (λ leaf t. (t.0.0, t.1)) timers) h;
      }
