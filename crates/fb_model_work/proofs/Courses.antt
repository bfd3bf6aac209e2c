-- Over a run, what an open cause may still spend falls by what its dispatches spend.
use Rattle.std.proofs.Common.{◌≡◌, ℕ, ◌+◌, ◌≤◌, ◌<◌, Bool, true, false, cond, ◌⊎◌, eqb, List, [], ◌∷◌, ◌++◌, Option, refl, sym, ◌∙◌, ap, subst, arith, inl, inr}
use Rattle.std.specs.List.{AllByRecursion}
use Rattle.std.proofs.lemmas.Bool.{eq-eqb, ne_eqb, cases_eq, false≢true}
use Rattle.fb_model.specs.Names.{Place}
use Rattle.fb_model.specs.System.{Device}
use Rattle.fb_model.specs.Wires.{leaves}
use Rattle.fb_model.specs.Serving.{Effect}
use Rattle.fb_model.specs.Certificates.{Certificate, reached, DeviceHolds}
use Rattle.fb_model.specs.Devices.{Ended, Entry, Machine, is_pending, Event, Dispatch, Answer, Ran, follow_ups, Runs, Happens, Run}
use Rattle.fb_model.specs.Headline.{pending_of, IsSound}
use Rattle.fb_model.proofs.Lists.{all_append, all_weaker, all_both}
use Rattle.fb_model.proofs.Holding.{pending-append, pending-cons, pending-none, is_pending-fresh}
use Rattle.fb_model.proofs.Running.{known_pending, openings, queue_is, other_queue, pending_falls, cause_pending}
use Rattle.fb_model.proofs.Admitting.{sound_next}
use Rattle.fb_model.proofs.Bounding.{Case, extends, idles, runs, case, next_up, back, extends_weight, open_is, alone_in}
use Rattle.fb_model_laws.specs.Leaves.{IsClosed}
use Rattle.fb_model_turns.specs.Turns.{Counts, ComesTo}
use Rattle.fb_model_turns.proofs.Keeping.{IsKept, holds}
use Rattle.fb_model_turns.proofs.Events.{all_follow}
use Rattle.fb_model_turns.proofs.Holding.{open_counts}
use Rattle.fb_model_turns.proofs.Alone.{each}
use Rattle.fb_model_work.specs.Spending.{Prices, in_run, in_event, in_course}
use Rattle.fb_model_work.specs.Work.{WorkFits, BoundsWork}
use Rattle.fb_model_work.proofs.Priced.{ArePriced}
use Rattle.fb_model_work.proofs.Dispatches.{run_le}

module _ (prices : Prices) (counts : Counts) (cert : Certificate) (device : Device) (holding : DeviceHolds cert device)
    (priced : ArePriced prices cert.ranges (leaves device)) (closed : AllByRecursion (λ leaf. IsClosed leaf.kind) (leaves device))
    (fits : WorkFits prices cert.ranges counts (leaves device)) where
  -- ---- what is pending of a cause weighs at most what its opening does

  abbrev Weighed : List Entry → Entry → Type 0
  Weighed es e = pending_of counts.weight e.cause es ≤ counts.weight e.opening

  abbrev IsWeighed : ℕ → List Entry → Type 0
  IsWeighed q es = AllByRecursion (Weighed es) es

  -- an admitted entry, behind the others
  module _ (es : List Entry) (e : Entry) (below : AllByRecursion (λ x. x.cause < e.cause) es) (same : e.opening ≡ e.place) where
    abbrev own : Bool → ℕ
    own t = cond t (counts.weight e.place) 0

    others_weighed : (x : Entry) → x.cause < e.cause → Weighed es x → Weighed (es ++ e ∷ []) x
    others_weighed x l k =
        let none : own (eqb e.cause x.cause) ≡ 0 = ap own (ne_eqb e.cause x.cause (λ g. omega (arith, g, l))) in
        omega (arith, k, none, pending-append counts.weight x.cause es (e ∷ []), pending-cons counts.weight x.cause e [])

    own_weighed : Weighed (es ++ e ∷ []) e
    own_weighed =
        let none : pending_of counts.weight e.cause es ≡ 0 = pending-none counts.weight e.cause es (is_pending-fresh e.cause es below) in
        let one : own (eqb e.cause e.cause) ≡ counts.weight e.place = ap own (eq-eqb e.cause e.cause refl) in
        omega (arith, none, one, pending-append counts.weight e.cause es (e ∷ []), pending-cons counts.weight e.cause e [], ap counts.weight same)

    weighed_admitted : AllByRecursion (Weighed es) es → AllByRecursion (Weighed (es ++ e ∷ [])) (es ++ e ∷ [])
    weighed_admitted h =
        all_append (Weighed (es ++ e ∷ [])) es (e ∷ [])
        (all_both (λ x. x.cause < e.cause) (Weighed es) (Weighed (es ++ e ∷ [])) es others_weighed below h) (own_weighed, tt)

  module _ (old : Machine) (sound : IsSound cert device old) (q cause : ℕ) (place : Place) (steps : ℕ) (effect : Option Effect) (ended : Option Ended)
      (new : Machine) (r : Runs cert device old q cause place steps effect ended new) where
    abbrev spent : ℕ
    spent = in_run prices cert device old q cause place steps effect ended new r

    abbrev appended : List Entry
    appended = follow_ups r.first (reached r.leaf.targets r.outs)

    -- what is pending of a cause falls by what a dispatch of the resource spends for it
    dispatch_falls : (c : ℕ) → cond (eqb cause c) spent 0 + pending_of counts.weight c (r.rest ++ appended) ≤ pending_of counts.weight c (old.queues q)
    dispatch_falls c =
        pending_falls cert device holding old sound q cause place steps effect ended new r counts.weight spent c
        (run_le prices counts cert device holding priced closed fits old sound q cause place steps effect ended new r)

    weighed_run : IsWeighed q (old.queues q) → IsWeighed q (r.rest ++ appended)
    weighed_run h =
        let now : AllByRecursion (Weighed (r.rest ++ appended)) (r.first ∷ r.rest) =
        all_weaker (Weighed (old.queues q)) (Weighed (r.rest ++ appended)) (r.first ∷ r.rest) (λ e k. omega (arith, k, dispatch_falls e.cause))
        (subst (AllByRecursion (Weighed (old.queues q))) r.was h) in
        all_append (Weighed (r.rest ++ appended)) r.rest appended now.1
        (all_follow (Weighed (r.rest ++ appended)) r.first (reached r.leaf.targets r.outs)
        (each (reached r.leaf.targets r.outs) (Weighed (r.rest ++ appended) r.first) now.0))

  weighed_kept : IsKept cert device holding IsWeighed
  weighed_kept = record { empty = λ q. tt; admits = λ q es e below same arrival h. weighed_admitted es e below same h; runs = weighed_run }

  -- ---- over a run

  module _ (q c : ℕ) where
    abbrev left : Machine → ℕ
    left m = pending_of counts.weight c (m.queues q)

    -- it is pending in no other resource
    abbrev IsHere : Machine → Type 0
    IsHere m = (i : ℕ) → (q ≡ i → ⊥) → is_pending c (m.queues i) ≡ false

    here_next : (old : Machine) (s : IsSound cert device old) (e : Event) (a : Answer) (new : Machine) → Case cert device old e a new → c < old.next
        → IsHere old → IsHere new
    here_next old s e a new k l here i n = go (is_pending c (new.queues i)) refl
      where
        go : (t : Bool) → is_pending c (new.queues i) ≡ t → is_pending c (new.queues i) ≡ false
        go true p = absurd (false≢true (sym (here i n) ∙ back cert device holding old s e a new i c k l p))
        go false p = p

    -- a dispatch of its resource, or of another, where another cause runs
    run_falls : (old : Machine) (s : IsSound cert device old) (r cause : ℕ) (place : Place) (steps : ℕ) (effect : Option Effect) (ended : Option Ended)
        (new : Machine) (h : Runs cert device old r cause place steps effect ended new) → IsHere old
        → cond (eqb cause c) (in_run prices cert device old r cause place steps effect ended new h) 0 + left new ≤ left old
    run_falls old s r cause place steps effect ended new h here = go (cases_eq r q)
      where
        go : (r ≡ q) ⊎ (r ≡ q → ⊥) → cond (eqb cause c) (in_run prices cert device old r cause place steps effect ended new h) 0 + left new ≤ left old
        go (inl g) =
            let was : pending_of counts.weight c (old.queues r) ≡ left old = ap (λ i. pending_of counts.weight c (old.queues i)) g in
            let at : left new ≡ pending_of counts.weight c (new.queues r) = ap (λ i. pending_of counts.weight c (new.queues i)) (sym g) in
            let is = ap (pending_of counts.weight c) (queue_is cert device holding old s r cause place steps effect ended new h) in
            omega (arith, dispatch_falls old s r cause place steps effect ended new h c, was, at, is)
        go (inr g) =
            let was : is_pending cause (old.queues r) ≡ true = cause_pending cert device holding old s r cause place steps effect ended new h in
            let other : cause ≡ c → ⊥ = λ f. false≢true (sym (here r (λ m. g (sym m))) ∙ ap (λ d. is_pending d (old.queues r)) (sym f) ∙ was) in
            let spent : ℕ = in_run prices cert device old r cause place steps effect ended new h in
            let none : cond (eqb cause c) spent 0 ≡ 0 = ap (λ t. cond t spent 0) (ne_eqb cause c other) in
            omega (arith, none, ap (pending_of counts.weight c) (other_queue cert device holding old s r cause place steps effect ended new h q g))

    never_more : (old : Machine) (s : IsSound cert device old) (e : Event) (a : Answer) (new : Machine) → Case cert device old e a new → c < old.next
        → IsHere old → left new ≤ left old
    never_more old s e a new (extends x t d) l here = omega (arith, extends_weight old new x counts.weight q c l)
    never_more old s e a new (idles r ei ai empty same) l here = omega (arith, ap left same)
    never_more old s e a new (runs r cause place steps effect ended ei ai h) l here = omega (arith, run_falls old s r cause place steps effect ended new h here)

    event_falls : (old : Machine) (s : IsSound cert device old) (e : Event) (a : Answer) (new : Machine) (h : Happens cert device old e a new)
        → c < old.next → IsHere old → in_event prices cert device c old e a new h + left new ≤ left old
    event_falls old s (Dispatch r) (Ran cause place steps effect ended) new h l here = run_falls old s r cause place steps effect ended new h here
    event_falls old s e a new h l here = omega (arith, never_more old s e a new (case cert device old e a new h) l here)

    course_falls : (es : List Event) (answers : List Answer) (old new : Machine) → IsSound cert device old → (r : Run cert device old es answers new)
        → c < old.next → IsHere old → in_course prices cert device c old es answers new r + left new ≤ left old
    course_falls [] [] old new s r l here = omega (arith, ap left r)
    course_falls [] (a ∷ answers) old new s r l here = absurd r
    course_falls (e ∷ es) [] old new s r l here = absurd r
    course_falls (e ∷ es) (a ∷ answers) old new s (mid, h, r) l here =
        let k = case cert device old e a mid h in
        let below : c < mid.next = omega (arith, l, next_up cert device holding old e a mid k) in
        let sm : IsSound cert device mid = sound_next cert device holding old e a mid s h in
        omega (arith, event_falls old s e a mid h l here, course_falls es answers mid new sm r below (here_next old s e a mid k l here))

  bounds : (m : Machine) → ComesTo cert device m → BoundsWork prices counts cert device m
  bounds m come es answers new q c o r open_now =
      let k = holds cert device holding IsWeighed weighed_kept m come in
      let s : IsSound cert device m = k.0 in
      let i : (is_pending c (m.queues q) ≡ true) × (s.opening_of c ≡ o) =
      open_is cert device holding c o s.opening_of (m.queues q) (openings cert device holding m s q (m.queues q) m.next (s.entries q)) open_now in
      let below : c < m.next = (known_pending device s.opening_of s.home_of m.next q c (m.queues q) (s.entries q) i.0).1 in
      let most : pending_of counts.weight c (m.queues q) ≤ counts.weight o = open_counts counts.weight c o (m.queues q) (m.queues q) (k.1 q) open_now in
      omega (arith, course_falls q c es answers m new s r below (alone_in cert device holding m s q c i.0), most)

-- the dispatches of an open cause spend at most what its opening weighs
pub bounds_work : (prices : Prices) (counts : Counts) (cert : Certificate) (device : Device) → DeviceHolds cert device
    → ArePriced prices cert.ranges (leaves device) → AllByRecursion (λ leaf. IsClosed leaf.kind) (leaves device) → WorkFits prices cert.ranges counts (leaves device)
    → (m : Machine) → ComesTo cert device m → BoundsWork prices counts cert device m
bounds_work prices counts cert device holding priced closed fits m come = bounds prices counts cert device holding priced closed fits m come
