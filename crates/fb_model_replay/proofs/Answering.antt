-- Each call of a device has an answer.
use Rattle.std.proofs.Common.{◌≡◌, ℕ, suc, ◌+◌, ◌-◌, ◌<◌, ◌≤◌, ◌^◌, ◌&&◌, ◌⊎◌, inl, inr, ℤ, Bool, true, false, List, [], ◌∷◌, length, slice_get, Option, None, Some, refl, sym, ◌∙◌, ap, subst, arith}
use Rattle.std.specs.List.{AllByRecursion}
use Rattle.std.proofs.lemmas.Bool.{cases_lt}
use Rattle.fb_words.specs.declared.elem_type.ElemType.{ElemType}
use Rattle.fb_words.specs.declared.format.Format.{Format}
use Rattle.fb_words.specs.declared.format.Format.TheVariants.{First, Second}
use Rattle.fb_words.specs.Numbers.{in_type}
use Rattle.fb_model.specs.Names.{at_place}
use Rattle.fb_model.specs.Values.{all_in}
use Rattle.fb_model.specs.System.{Device, Input, Output, Publish, Subscribe, Delay, Cycle, Restart}
use Rattle.fb_model.specs.Services.{arrive}
use Rattle.fb_model.specs.Wires.{Kind, Charted, Serviced, Leaf, leaves}
use Rattle.fb_model.specs.Store.{Stamps, Unstamped, Upcoming, Exhausted, Latest, Condition}
use Rattle.fb_model.specs.Fields.{Fault, fault_in, type_of}
use Rattle.fb_model.specs.Messages as book
use Rattle.fb_model.specs.Messages.{Message, Purpose, To_channel, To_input, Typed, Stamp, IsStamped, Spells}
use Rattle.fb_model.specs.Serving.{is_ready, stamps_of}
use Rattle.fb_model.specs.Ranges.{types_of}
use Rattle.fb_model.specs.Certificates.{Certificate, DeviceHolds, depth_of}
use Rattle.fb_model.specs.Devices.{Entry, Machine, Arrival, place_of, Event, Offer, Deliver, Tick, Dispatch, UnknownInput, BadCount, BadValue, NoCredit, Spent, NotAMessage, NoSubscriber, Shape, NotReady, Stale, Answer, Admitted, Denied, Expired, Idle, Ran, places_row, held, HasRoom, admitted, is_subscriber, input_of, subscriber_of, addressed, arriving, types_in, numbers_in, format_in, format_of, is_later, is_after, IsReady, IsShaped, IsFresh, IsStale, with_stamp, LacksCredit, IsBad, expiring, expired, due_timers, Tries, at_moment, Happens, Run}
use Rattle.fb_model.specs.Headline.{IsSound, IsLatest, KeepsStamps}
use Rattle.fb_model.proofs.Running.{at_first_leaf}
use Rattle.fb_model.proofs.Progress.{runs_so}
use Rattle.fb_model.proofs.Admitting.{sound_next}
use Rattle.fb_model_texts.proofs.Messages.{type_of_code}
use Rattle.fb_model_replay.specs.Calls.{IsCall}
use Rattle.fb_model_replay.proofs.Reading.{AreBytes, message_read}

-- ---- either this or that

-- a statement holds, or not
abbrev Decided : Type 0 → Type 0
Decided P = P ⊎ (P → ⊥)

truth : (b : Bool) → (b ≡ true) ⊎ (b ≡ false)
truth true = inl refl
truth false = inr refl

truth_decided : (b : Bool) → Decided (b ≡ true)
truth_decided true = inl refl
truth_decided false = inr (λ e. cc)

same_format : (f g : Format) → Decided (f ≡ g)
same_format First First = inl refl
same_format Second Second = inl refl
same_format First Second = inr (λ e. cc)
same_format Second First = inr (λ e. cc)

type_is : (e d : ElemType) → book.code e ≡ book.code d → e ≡ d
type_is e d h = go (sym (type_of_code e) ∙ ap type_of h ∙ type_of_code d)
  where
    go : Some e ≡ Some d → e ≡ d
    go k = cc

same_types : (es ds : List ElemType) → Decided (es ≡ ds)
same_types [] [] = inl refl
same_types [] (d ∷ ds) = inr (λ e. cc)
same_types (e ∷ es) [] = inr (λ h. cc)
same_types (e ∷ es) (d ∷ ds) = elim (same_number (book.code e) (book.code d)) [
  | inl c ↦ elim (same_types es ds) [
    | inl h ↦ inl (ap (λ x. x ∷ es) (type_is e d c) ∙ ap (λ xs. d ∷ xs) h)
    | inr n ↦ inr (λ h. n (let is : es ≡ ds = cc in is))
  ]
  | inr n ↦ inr (λ h. n (ap book.code (let is : e ≡ d = cc in is)))
]
  where
    same_number : (m n : ℕ) → Decided (m ≡ n)
    same_number m n = elim (cases_lt m n) [
      | inl l ↦ inr (λ e. absurd (omega (arith, l, e)))
      | inr l ↦ elim (cases_lt n m) [ inl k ↦ inr (λ e. absurd (omega (arith, k, e))) | inr k ↦ inl (omega (arith, l, k)) ]
    ]

module _ (cert : Certificate) (device : Device) where
  -- ---- room

  data Room (m : Machine) (a : Arrival) : Type 0 where
    there : HasRoom cert device m a → Room m a
    full : depth_of cert device a.leaf.home < held (places_row cert) (m.queues a.leaf.home) + places_row cert (place_of a) → Room m a
    out_of_numbers : 2 ^ 64 ≤ m.next → Room m a

  room : (m : Machine) (a : Arrival) → Room m a
  room m a = elim (cases_lt (depth_of cert device a.leaf.home) (held (places_row cert) (m.queues a.leaf.home) + places_row cert (place_of a))) [
    | inl l ↦ full l
    | inr l ↦ elim (cases_lt m.next (2 ^ 64)) [ inl k ↦ there (record { credit = l; number = k }) | inr k ↦ out_of_numbers k ]
  ]

  lacks : (m : Machine) (leaf : Leaf) (values : List ℤ) → held (places_row cert) (m.queues leaf.home) ≤ depth_of cert device leaf.home → depth_of cert device leaf.home < held (places_row cert) (m.queues leaf.home) + places_row cert (place_of (arriving leaf values))
      → LacksCredit cert device m leaf (places_row cert (at_place leaf.path arrive)) (depth_of cert device leaf.home - held (places_row cert) (m.queues leaf.home))
  lacks m leaf values most l = (refl, refl, omega (arith, most, l))

  -- an answer, and the machine after it
  abbrev Answered : Machine → Event → Type 0
  Answered old e = (a : Answer) × (new : Machine) × Happens cert device old e a new

  -- ---- offers

  -- values that do not fit are too few or too many, or one of them is bad
  misfit : (types : List ElemType) (values : List ℤ) → all_in types values ≡ false → (length values ≡ length types → ⊥) ⊎ ((k : ℕ) × IsBad (slice_get types k) (slice_get values k))
  misfit [] [] h = cc
  misfit [] (v ∷ vs) h = inl (λ e. absurd (omega (arith, e)))
  misfit (t ∷ ts) [] h = inl (λ e. absurd (omega (arith, e)))
  misfit (t ∷ ts) (v ∷ vs) h = elim (truth (in_type t v)) [
    | inl e ↦ elim (misfit ts vs (subst (λ b. (b && all_in ts vs) ≡ false) e h)) [
      | inl n ↦ inl (λ l. n (omega (arith, l)))
      | inr b ↦ inr (suc b.0, b.1)
    ]
    | inr e ↦ inr (0, e)
  ]

  offer_answered : (old : Machine) → IsSound cert device old → (input : ℕ) (values : List ℤ) → Answered old (Offer input values)
  offer_answered old sound input values = go (input_of device input) refl
    where
      go : (o : Option Leaf) → input_of device input ≡ o → Answered old (Offer input values)
      go None known = (Denied UnknownInput, old, (known, refl))
      go (Some leaf) known = elim (truth (all_in (types_of leaf.kind) values)) [
        | inl fit ↦ elim (room old (arriving leaf values)) [
          | there r ↦ (Admitted old.next, admitted old (arriving leaf values), record { leaf = leaf; known = known; fit = fit; room = r; cause_is = refl; new_is = refl })
          | full l ↦ (Denied (NoCredit (places_row cert (at_place leaf.path arrive)) (depth_of cert device leaf.home - held (places_row cert) (old.queues leaf.home))), old, ((leaf, known, lacks old leaf values (sound.depth leaf.home) l), refl))
          | out_of_numbers l ↦ (Denied Spent, old, (l, refl))
        ]
        | inr unfit ↦ elim (misfit (types_of leaf.kind) values unfit) [
          | inl n ↦ (Denied BadCount, old, ((leaf, known, n), refl))
          | inr b ↦ (Denied (BadValue (b.0 + 1)), old, ((leaf, b.0, known, refl, b.1), refl))
        ]
      ]

  -- ---- datagrams

  -- typed values fit their types
  typed_fit : (vs : List Typed) → AllByRecursion (λ (v : Typed). in_type v.type v.value ≡ true) vs → all_in (types_in vs) (numbers_in vs) ≡ true
  typed_fit [] h = refl
  typed_fit (v ∷ vs) h = subst (λ b. (b && all_in (types_in vs) (numbers_in vs)) ≡ true) (sym h.0) (typed_fit vs h.1)

  ready_decided : (m : Machine) (leaf : Leaf) (purpose : Purpose) → Decided (IsReady m leaf purpose)
  ready_decided m leaf To_channel = truth_decided (is_ready (m.store leaf.path).condition)
  ready_decided m leaf To_input = inl tt

  shape_decided : (kind : Kind) (message : Message) → Decided (IsShaped kind message)
  shape_decided kind message = elim (same_format (format_in message.stamp) (format_of kind)) [
    | inl f ↦ elim (same_types (types_in message.values) (types_of kind)) [
      | inl t ↦ inl (record { format = f; types = t })
      | inr n ↦ inr (λ (h : IsShaped kind message). n h.types)
    ]
    | inr n ↦ inr (λ (h : IsShaped kind message). n h.format)
  ]

  -- a stamp is later than the last one, or not
  later_or_not : (c : Condition) (stamp : Stamp) (kept : Stamps) → stamps_of c ≡ kept → IsLatest Second kept → IsFresh c (Some stamp) ⊎ ((last : Stamp) × IsStale c (Some stamp) last)
  later_or_not c stamp Unstamped is h = absurd h
  later_or_not c stamp (Upcoming next) is h = absurd h
  later_or_not c stamp Exhausted is h = absurd h
  later_or_not c stamp (Latest last) is h = elim (truth (is_later stamp last)) [
    | inl e ↦ inl (subst (λ s. is_after stamp s ≡ true) (sym is) e)
    | inr e ↦ inr (last, (is, e))
  ]

  -- a subscriber of the second format keeps the stamp of its last message
  subscribed : (kind : Kind) (n : ℕ) (c : Condition) → is_subscriber n kind ≡ true → format_of kind ≡ Second → KeepsStamps kind c → IsLatest Second (stamps_of c)
  subscribed (Charted block) n c is f h = cc
  subscribed (Serviced (Input number types)) n c is f h = cc
  subscribed (Serviced (Output number types)) n c is f h = cc
  subscribed (Serviced (Publish channel types)) n c is f h = cc
  subscribed (Serviced (Subscribe channel types)) n c is f h = subst (λ g. IsLatest g (stamps_of c)) f h
  subscribed (Serviced Delay) n c is f h = cc
  subscribed (Serviced Cycle) n c is f h = cc
  subscribed (Serviced Restart) n c is f h = cc

  fresh_or_stale : (old : Machine) → IsSound cert device old → (m : Message) (leaf : Leaf) → IsStamped m.purpose m.stamp → addressed device m ≡ Some leaf → IsShaped leaf.kind m
      → IsFresh (old.store leaf.path).condition m.stamp ⊎ ((last : Stamp) × IsStale (old.store leaf.path).condition m.stamp last)
  fresh_or_stale old sound m leaf stamped known shape = go m.purpose m.stamp stamped known shape.format
    where
      go : (p : Purpose) (s : Option Stamp) → IsStamped p s → (elim p [ To_channel ↦ subscriber_of device m.number | To_input ↦ input_of device m.number ]) ≡ Some leaf → format_in s ≡ format_of leaf.kind
          → IsFresh (old.store leaf.path).condition s ⊎ ((last : Stamp) × IsStale (old.store leaf.path).condition s last)
      go p None h k f = inl tt
      go To_input (Some s) h k f = absurd h
      go To_channel (Some s) h k f =
          let at = at_first_leaf (λ (l : Leaf). KeepsStamps l.kind (old.store l.path).condition) (is_subscriber m.number) (leaves device) leaf sound.stamps k in
          later_or_not (old.store leaf.path).condition s (stamps_of (old.store leaf.path).condition) refl (subscribed leaf.kind m.number (old.store leaf.path).condition at.1 (sym f) at.0)

  message_answered : (old : Machine) → IsSound cert device old → (bytes : List ℕ) (m : Message) → Spells m bytes → Answered old (Deliver bytes)
  message_answered old sound bytes m spelled = go (addressed device m) refl
    where
      unknown : (p : Purpose) → m.purpose ≡ p → addressed device m ≡ None → Answered old (Deliver bytes)
      unknown To_channel is known = (Denied NoSubscriber, old, ((m, spelled, is, known), refl))
      unknown To_input is known = (Denied UnknownInput, old, ((m, spelled, is, known), refl))

      go : (o : Option Leaf) → addressed device m ≡ o → Answered old (Deliver bytes)
      go None known = unknown m.purpose refl known
      go (Some leaf) known = elim (shape_decided leaf.kind m) [
        | inr n ↦ (Denied Shape, old, ((m, leaf, spelled, known, n), refl))
        | inl shape ↦ elim (ready_decided old leaf m.purpose) [
          | inr n ↦ (Denied NotReady, old, ((m, leaf, spelled, known, n), refl))
          | inl ready ↦ elim (fresh_or_stale old sound m leaf spelled.stamp known shape) [
            | inr s ↦ (Denied (Stale s.0.boot s.0.sequence), old, ((m, leaf, spelled, known, s.1), refl))
            | inl fresh ↦ elim (room old (arriving leaf (numbers_in m.values))) [
              | there r ↦ (
                Admitted old.next,
                admitted (with_stamp old leaf m.stamp) (arriving leaf (numbers_in m.values)),
                record {
                  message = m;
                  leaf = leaf;
                  spelled = spelled;
                  known = known;
                  shape = shape;
                  fit = subst (λ types. all_in types (numbers_in m.values) ≡ true) shape.types (typed_fit m.values spelled.values);
                  ready = ready;
                  fresh = fresh;
                  room = r;
                  cause_is = refl;
                  new_is = refl;
                },
              )
              | full l ↦ (Denied (NoCredit (places_row cert (at_place leaf.path arrive)) (depth_of cert device leaf.home - held (places_row cert) (old.queues leaf.home))), old, ((m, leaf, spelled, known, lacks old leaf (numbers_in m.values) (sound.depth leaf.home) l), refl))
              | out_of_numbers l ↦ (Denied Spent, old, (l, refl))
            ]
          ]
        ]
      ]

  datagram_answered : (old : Machine) → IsSound cert device old → (bytes : List ℕ) → AreBytes bytes → Answered old (Deliver bytes)
  datagram_answered old sound bytes small = go (fault_in bytes) refl
    where
      go : (o : Option Fault) → fault_in bytes ≡ o → Answered old (Deliver bytes)
      go (Some fault) h = (Denied (NotAMessage fault), old, (h, refl))
      go None h = (let m = message_read bytes small h in message_answered old sound bytes m.0 m.1)

  -- ---- ticks and dispatches

  tried : (timers : List Leaf) (old : Machine) → (count : ℕ) × (new : Machine) × Tries cert device timers old count new
  tried [] old = (0, old, (refl, refl))
  tried (leaf ∷ rest) old = go (room old (expiring leaf)) (tried rest (expired old leaf)) (tried rest old)
    where
      go : Room old (expiring leaf) → (count : ℕ) × (new : Machine) × Tries cert device rest (expired old leaf) count new → (count : ℕ) × (new : Machine) × Tries cert device rest old count new
          → (count : ℕ) × (new : Machine) × Tries cert device (leaf ∷ rest) old count new
      go (there r) fires waits = (fires.0 + 1, fires.1, inl (fires.0, r, refl, fires.2))
      go (full l) fires waits = (waits.0, waits.1, inr ((λ r. absurd (omega (arith, l, r.credit))), waits.2))
      go (out_of_numbers l) fires waits = (waits.0, waits.1, inr ((λ r. absurd (omega (arith, l, r.number))), waits.2))

  module _ (holding : DeviceHolds cert device) where
    answered : (old : Machine) → IsSound cert device old → (e : Event) → IsCall e → Answered old e
    answered old sound (Offer input values) call = offer_answered old sound input values
    answered old sound (Deliver bytes) call = datagram_answered old sound bytes call
    answered old sound (Tick now) call =
        let t = tried (due_timers old.store (at_moment old now).clock (leaves device)) (at_moment old now) in
        (Expired t.0, t.1, t.2)
    answered old sound (Dispatch q) call = go (old.queues q) refl
      where
        go : (es : List Entry) → old.queues q ≡ es → Answered old (Dispatch q)
        go [] was = (Idle, old, (was, refl))
        go (first ∷ rest) was =
            let r = runs_so cert device holding old sound q first rest was in
            (Ran r.0 r.1 r.2 r.3 r.4, r.5, r.6)

    pub run_exists : (es : List Event) → AllByRecursion IsCall es → (old : Machine) → IsSound cert device old → (as' : List Answer) × (new : Machine) × Run cert device old es as' new
    run_exists [] calls old sound = ([], old, refl)
    run_exists (e ∷ es) calls old sound =
        let first = answered old sound e calls.0 in
        let rest = run_exists es calls.1 first.1 (sound_next cert device holding old e first.0 first.1 sound first.2) in
        (first.0 ∷ rest.0, rest.1, (first.1, first.2, rest.2))
