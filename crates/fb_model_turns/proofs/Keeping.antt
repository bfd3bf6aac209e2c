-- What every queue keeps from the start of a device on.
use Rattle.std.proofs.Common.{◌≡◌, ℕ, ◌+◌, ◌<◌, true, cond, List, [], ◌∷◌, ◌++◌, Option, Some, refl, sym, subst, arith, inl, inr}
use Rattle.std.specs.List.{AllByRecursion}
use Rattle.fb_model.specs.Names.{Place, Name, at_place, is_in}
use Rattle.fb_model.specs.System.{Device, Input, Output, Publish, Subscribe, Delay, Cycle, Restart}
use Rattle.fb_model.specs.Services.{arrive, expire, begin}
use Rattle.fb_model.specs.Wires.{Kind, Charted, Serviced, Leaf, leaves, leaf_at}
use Rattle.fb_model.specs.Store.{with_leaf, Fired}
use Rattle.fb_model.specs.Messages.{To_channel, To_input, Purpose}
use Rattle.fb_model.specs.Serving.{Effect}
use Rattle.fb_model.specs.Certificates.{Certificate, DeviceHolds, IsWired, reached, kind_arrivals, is_restart}
use Rattle.fb_model.specs.Devices.{Ended, Entry, Machine, Arrival, place_of, admitted, is_input_numbered, is_subscriber, input_of, subscriber_of, arriving, numbers_in, with_stamp, Event, Offer, Deliver, Tick, Dispatch, Answer, Admitted, Denied, Expired, Idle, Ran, is_timer, due_timers, expiring, expired, Tries, at_moment, follow_ups, Runs, Happens, Run, beginning, begun, silent, at_first}
use Rattle.fb_model.specs.Headline.{IsKnown, IsSound}
use Rattle.fb_model.proofs.Lists.{all_append, all_weaker}
use Rattle.fb_model.proofs.Running.{put_all, at_first_leaf}
use Rattle.fb_model.proofs.Admitting.{all_due, sound_next}
use Rattle.fb_model.proofs.Starting.{first_sound}
use Rattle.fb_model_turns.specs.Turns.{ComesTo}

-- an arrival of a resource
pub record IsArrival (device : Device) (q : ℕ) (o : Place) : Type 0 where
  pub leaf : Leaf
  pub event : Name
  pub found : leaf_at (leaves device) leaf.path ≡ Some leaf
  pub home : leaf.home ≡ q
  pub listed : is_in event (kind_arrivals leaf.kind) ≡ true
  pub place : o ≡ at_place leaf.path event

arrives_input : (n : ℕ) (kind : Kind) → is_input_numbered n kind ≡ true → is_in arrive (kind_arrivals kind) ≡ true
arrives_input n (Charted block) h = cc
arrives_input n (Serviced (Input number types)) h = refl
arrives_input n (Serviced (Output number types)) h = cc
arrives_input n (Serviced (Publish channel types)) h = cc
arrives_input n (Serviced (Subscribe channel types)) h = cc
arrives_input n (Serviced Delay) h = cc
arrives_input n (Serviced Cycle) h = cc
arrives_input n (Serviced Restart) h = cc

arrives_channel : (n : ℕ) (kind : Kind) → is_subscriber n kind ≡ true → is_in arrive (kind_arrivals kind) ≡ true
arrives_channel n (Charted block) h = cc
arrives_channel n (Serviced (Input number types)) h = cc
arrives_channel n (Serviced (Output number types)) h = cc
arrives_channel n (Serviced (Publish channel types)) h = cc
arrives_channel n (Serviced (Subscribe channel types)) h = refl
arrives_channel n (Serviced Delay) h = cc
arrives_channel n (Serviced Cycle) h = cc
arrives_channel n (Serviced Restart) h = cc

expires_timer : (kind : Kind) → is_timer kind ≡ true → is_in expire (kind_arrivals kind) ≡ true
expires_timer (Charted block) h = cc
expires_timer (Serviced (Input number types)) h = cc
expires_timer (Serviced (Output number types)) h = cc
expires_timer (Serviced (Publish channel types)) h = cc
expires_timer (Serviced (Subscribe channel types)) h = cc
expires_timer (Serviced Delay) h = refl
expires_timer (Serviced Cycle) h = refl
expires_timer (Serviced Restart) h = cc

begins_restart : (kind : Kind) → is_restart kind ≡ true → is_in begin (kind_arrivals kind) ≡ true
begins_restart (Charted block) h = cc
begins_restart (Serviced (Input number types)) h = cc
begins_restart (Serviced (Output number types)) h = cc
begins_restart (Serviced (Publish channel types)) h = cc
begins_restart (Serviced (Subscribe channel types)) h = cc
begins_restart (Serviced Delay) h = cc
begins_restart (Serviced Cycle) h = cc
begins_restart (Serviced Restart) h = refl

arrival_of : (device : Device) (a : Arrival) → leaf_at (leaves device) a.leaf.path ≡ Some a.leaf → is_in a.event (kind_arrivals a.leaf.kind) ≡ true → IsArrival device a.leaf.home (place_of a)
arrival_of device a found listed = record { leaf = a.leaf; event = a.event; found = found; home = refl; listed = listed; place = refl }

addressed_arrives : (cert : Certificate) (device : Device) (holding : DeviceHolds cert device) (purpose : Purpose) (n : ℕ) (leaf : Leaf) → elim purpose [ To_channel ↦ subscriber_of device n | To_input ↦ input_of device n ] ≡ Some leaf
    → IsWired (leaves device) leaf × (is_in arrive (kind_arrivals leaf.kind) ≡ true)
addressed_arrives cert device holding To_channel n leaf h =
    let k = at_first_leaf (IsWired (leaves device)) (is_subscriber n) (leaves device) leaf holding.wired h in
    (k.0, arrives_channel n leaf.kind k.1)
addressed_arrives cert device holding To_input n leaf h =
    let k = at_first_leaf (IsWired (leaves device)) (is_input_numbered n) (leaves device) leaf holding.wired h in
    (k.0, arrives_input n leaf.kind k.1)

module _ (cert : Certificate) (device : Device) (holding : DeviceHolds cert device) (P : ℕ → List Entry → Type 0) where
  -- what is so of an empty queue, and is kept by admissions and dispatches
  pub record IsKept : Type 0 where
    pub empty : (q : ℕ) → P q []
    pub admits : (q : ℕ) (es : List Entry) (e : Entry) → AllByRecursion (λ x. x.cause < e.cause) es → e.opening ≡ e.place → IsArrival device q e.opening → P q es → P q (es ++ e ∷ [])
    pub runs : (old : Machine) (sound : IsSound cert device old) (q cause : ℕ) (place : Place) (steps : ℕ) (effect : Option Effect) (ended : Option Ended) (new : Machine)
        → (r : Runs cert device old q cause place steps effect ended new) → P q (old.queues q) → P q (r.rest ++ follow_ups r.first (reached r.leaf.targets r.outs))

  -- it is so of each queue of a machine, whose causes are below the next one
  abbrev Holds : Machine → Type 0
  Holds m = (q : ℕ) → AllByRecursion (λ e. e.cause < m.next) (m.queues q) × P q (m.queues q)

  module _ (kept : IsKept) where
    holds_admitted : (m : Machine) (a : Arrival) → IsArrival device a.leaf.home (place_of a) → Holds m → Holds (admitted m a)
    holds_admitted m a is h =
        let new : Entry = record { cause = m.next; opening = place_of a; place = place_of a; values = a.values } in
        put_all (λ j es. AllByRecursion (λ e. e.cause < m.next + 1) es × P j es) m.queues a.leaf.home (m.queues a.leaf.home ++ record { cause = m.next; opening = place_of a; place = place_of a; values = a.values } ∷ []) (
          all_append (λ e. e.cause < m.next + 1) (m.queues a.leaf.home) (new ∷ []) (all_weaker (λ e. e.cause < m.next) (λ e. e.cause < m.next + 1) (m.queues a.leaf.home) (λ e k. omega (arith, k)) (h a.leaf.home).0) (omega arith, tt),
          kept.admits a.leaf.home (m.queues a.leaf.home) new (h a.leaf.home).0 refl is (h a.leaf.home).1,
        )
        (λ j _. (all_weaker (λ e. e.cause < m.next) (λ e. e.cause < m.next + 1) (m.queues j) (λ e k. omega (arith, k)) (h j).0, (h j).1))

    holds_tries : (ls : List Leaf) (old : Machine) (count : ℕ) (new : Machine) → AllByRecursion (λ leaf. IsWired (leaves device) leaf × (is_timer leaf.kind ≡ true)) ls → Holds old → Tries cert device ls old count new → Holds new
    holds_tries [] old count new w h t = subst Holds (sym t.1) h
    holds_tries (leaf ∷ rest) old count new w h t =
        elim t [
          | inl k ↦ (
              let fired : Machine = record { queues = old.queues; store = with_leaf old.store leaf.path (record { cells = (old.store leaf.path).cells; condition = Fired }); spent = old.spent; clock = old.clock; next = old.next } in
              holds_tries rest (expired old leaf) k.0 new w.1 (holds_admitted fired (expiring leaf) (arrival_of device (expiring leaf) w.0.0.found (expires_timer leaf.kind w.0.1)) h) k.3
              )
          | inr k ↦ holds_tries rest old count new w.1 h k.1
        ]

    holds_runs : (old : Machine) (sound : IsSound cert device old) (q cause : ℕ) (place : Place) (steps : ℕ) (effect : Option Effect) (ended : Option Ended) (new : Machine)
        → IsSound cert device new → Runs cert device old q cause place steps effect ended new → Holds old → Holds new
    holds_runs old sound q cause place steps effect ended new sn r h j = (
      all_weaker (IsKnown device sn.opening_of sn.home_of new.next j) (λ e. e.cause < new.next) (new.queues j) (λ e k. k.cause) (sn.entries j),
      subst (λ (f : ℕ → List Entry). P j (f j)) (sym r.queues) (put_all P old.queues q (r.rest ++ follow_ups r.first (reached r.leaf.targets r.outs)) (kept.runs old sound q cause place steps effect ended new r (h q).1) (λ i _. (h i).1) j),
    )

    holds_next : (old : Machine) (e : Event) (a : Answer) (new : Machine) → IsSound cert device old → Happens cert device old e a new → Holds old → Holds new
    holds_next old (Offer input values) (Admitted cause) new s h k =
        let f = at_first_leaf (IsWired (leaves device)) (is_input_numbered input) (leaves device) h.leaf holding.wired h.known in
        subst Holds (sym h.new_is) (holds_admitted old (arriving h.leaf values) (arrival_of device (arriving h.leaf values) f.0.found (arrives_input input h.leaf.kind f.1)) k)
    holds_next old (Deliver bytes) (Admitted cause) new s h k =
        let f = addressed_arrives cert device holding h.message.purpose h.message.number h.leaf h.known in
        subst Holds (sym h.new_is) (holds_admitted (with_stamp old h.leaf h.message.stamp) (arriving h.leaf (numbers_in h.message.values)) (arrival_of device (arriving h.leaf (numbers_in h.message.values)) f.0.found f.1) k)
    holds_next old (Offer input values) (Denied why) new s h k = subst Holds (sym h.1) k
    holds_next old (Deliver bytes) (Denied why) new s h k = subst Holds (sym h.1) k
    holds_next old (Tick now) (Expired count) new s h k =
        holds_tries (due_timers old.store (at_moment old now).clock (leaves device)) (at_moment old now) count new (all_due (IsWired (leaves device)) old.store (at_moment old now).clock (leaves device) holding.wired) k h
    holds_next old (Dispatch q) Idle new s h k = subst Holds (sym h.1) k
    holds_next old (Dispatch q) (Ran cause place steps effect ended) new s h k =
        holds_runs old s q cause place steps effect ended new (sound_next cert device holding old (Dispatch q) (Ran cause place steps effect ended) new s h) h k
    holds_next old (Offer input values) (Expired count) new s h k = absurd h
    holds_next old (Offer input values) Idle new s h k = absurd h
    holds_next old (Offer input values) (Ran cause place steps effect ended) new s h k = absurd h
    holds_next old (Deliver bytes) (Expired count) new s h k = absurd h
    holds_next old (Deliver bytes) Idle new s h k = absurd h
    holds_next old (Deliver bytes) (Ran cause place steps effect ended) new s h k = absurd h
    holds_next old (Tick now) (Admitted cause) new s h k = absurd h
    holds_next old (Tick now) (Denied why) new s h k = absurd h
    holds_next old (Tick now) Idle new s h k = absurd h
    holds_next old (Tick now) (Ran cause place steps effect ended) new s h k = absurd h
    holds_next old (Dispatch q) (Admitted cause) new s h k = absurd h
    holds_next old (Dispatch q) (Denied why) new s h k = absurd h
    holds_next old (Dispatch q) (Expired count) new s h k = absurd h

    -- over a run
    holds_after : (es : List Event) (answers : List Answer) (old new : Machine) → IsSound cert device old → Run cert device old es answers new → Holds old → IsSound cert device new × Holds new
    holds_after [] [] old new s r k = (subst (IsSound cert device) (sym r) s, subst Holds (sym r) k)
    holds_after [] (a ∷ answers) old new s r k = absurd r
    holds_after (e ∷ es) [] old new s r k = absurd r
    holds_after (e ∷ es) (a ∷ answers) old new s (mid, h, r) k =
        holds_after es answers mid new (sound_next cert device holding old e a mid s h) r (holds_next old e a mid s h k)

    holds_begun : (ls : List Leaf) (m : Machine) → AllByRecursion (IsWired (leaves device)) ls → Holds m → Holds (begun ls m)
    holds_begun [] m w h = h
    holds_begun (leaf ∷ rest) m w h = go (is_restart leaf.kind) refl (λ m'. holds_begun rest m' w.1)
      where
        go : (t : Rattle.std.specs.Prelude.Bool) → is_restart leaf.kind ≡ t → ((m' : Machine) → Holds m' → Holds (begun rest m')) → Holds (begun rest (cond t (admitted m (beginning leaf)) m))
        go true e ih = ih (admitted m (beginning leaf)) (holds_admitted m (beginning leaf) (arrival_of device (beginning leaf) w.0.found (begins_restart leaf.kind e)) h)
        go Rattle.std.specs.Prelude.false e ih = ih m h

    -- a state to which the device comes from its start
    pub holds : (m : Machine) → ComesTo cert device m → IsSound cert device m × ((q : ℕ) → P q (m.queues q))
    holds m come =
        let start : Holds (at_first device come.first come.stamp) = holds_begun (leaves device) (silent device come.first come.stamp) holding.wired (λ q. (tt, kept.empty q)) in
        let k = holds_after come.events come.answers (at_first device come.first come.stamp) m (first_sound cert device holding come.first come.stamp come.is_stamp) come.run start in
        (k.0, λ q. (k.1 q).1)
