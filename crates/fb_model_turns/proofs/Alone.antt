-- A cause beside which nothing has room ends with its last dispatch.
use Rattle.std.proofs.Common.{◌≡◌, ℕ, ◌+◌, ◌≤◌, ◌<◌, Bool, true, false, cond, ◌⊎◌, eqb, List, [], ◌∷◌, ◌++◌, Option, refl, sym, ◌∙◌, ap, subst, arith, inl, inr}
use Rattle.std.specs.List.{sum_by, AllByRecursion}
use Rattle.std.proofs.lemmas.Bool.{eq-eqb, ne_eqb, cases_eq}
use Rattle.fb_model.specs.Names.{Place, at_place}
use Rattle.fb_model.specs.System.{Device}
use Rattle.fb_model.specs.Wires.{leaves}
use Rattle.fb_model.specs.Serving.{Effect}
use Rattle.fb_model.specs.Certificates.{Certificate, depth_of, reached, kind_arrivals, DeviceHolds}
use Rattle.fb_model.specs.Devices.{Ended, Entry, Machine, is_pending, places_row, Event, Answer, follow_ups, Runs, Happens, Run, at_first}
use Rattle.fb_model.specs.Headline.{pending_of, IsKnown, IsSound, dispatches}
use Rattle.fb_model.proofs.Lists.{all_append, all_weaker, all_both, at_listed}
use Rattle.fb_model.proofs.Holding.{pending-append, pending-cons, pending-none, is_pending-fresh}
use Rattle.fb_model.proofs.Running.{at_leaf, known_pending, openings, queue_is, other_queue, pending_falls}
use Rattle.fb_model.proofs.Admitting.{sound_next, sound_after}
use Rattle.fb_model.proofs.Bounding.{Case, extends, idles, runs, case, next_up, back, back_after, extends_weight, open_is}
use Rattle.fb_model.proofs.Ending.{run_more}
use Rattle.fb_model_turns.specs.Turns.{Counts, DispatchesFit, added, ComesTo, IsAlone, HasNothingBeside, EndsAlone}
use Rattle.fb_model_turns.proofs.Joins.{added_joins, added_sum}
use Rattle.fb_model_turns.proofs.Dispatching.{dispatch_le, input_least}
use Rattle.fb_model_turns.proofs.Keeping.{IsArrival, IsKept, holds}
use Rattle.fb_model_turns.proofs.Events.{dispatches-cons, dispatch_one, dispatch_other, all_follow}
use Rattle.fb_model_turns.proofs.Holding.{all_pending, opening_is, held_two, pending_least, open_counts}

-- where the cause is this one
own_falls : (t : Bool) (n k m : ℕ) → t ≡ true → cond t n 0 + k ≤ m → n + k ≤ m
own_falls true n k m h l = l
own_falls false n k m h l = cc

-- what is so without an entry is so for each
pub each : {X : Type 0} (xs : List X) (A : Type 0) → A → AllByRecursion (λ x. A) xs
each [] A a = tt
each (x ∷ xs) A a = (a, each xs A a)

module _ (cert : Certificate) (device : Device) (holding : DeviceHolds cert device) where
  -- each entry was opened by an arrival of its resource
  abbrev IsArrived : ℕ → List Entry → Type 0
  IsArrived q es = AllByRecursion (λ e. IsArrival device q e.opening) es

  arrived_kept : IsKept cert device holding IsArrived
  arrived_kept =
      record {
        empty = λ q. tt;
        admits = λ q es e below same arrival h. all_append (λ e. IsArrival device q e.opening) es (e ∷ []) h (arrival, tt);
        runs = λ old sound q cause place steps effect ended new r h.
            let was : AllByRecursion (λ e. IsArrival device q e.opening) (r.first ∷ r.rest) = subst (AllByRecursion (λ e. IsArrival device q e.opening)) r.was h in
            all_append (λ e. IsArrival device q e.opening) r.rest (follow_ups r.first (reached r.leaf.targets r.outs)) was.1
            (all_follow (λ e. IsArrival device q e.opening) r.first (reached r.leaf.targets r.outs) (each (reached r.leaf.targets r.outs) (IsArrival device q r.first.opening) was.0));
      }

  -- no arrival of the resource has room beside this one
  no_room : (q : ℕ) (o a : Place) → IsAlone cert device q o → IsArrival device q a → depth_of cert device q < places_row cert o + places_row cert a
  no_room q o a alone is =
      let at = (at_leaf (λ leaf. leaf.home ≡ q → AllByRecursion (λ e. depth_of cert device q < places_row cert o + places_row cert (at_place leaf.path e)) (kind_arrivals leaf.kind)) (leaves device) is.leaf.path is.leaf alone is.found).0 in
      let l = at_listed (λ e. depth_of cert device q < places_row cert o + places_row cert (at_place is.leaf.path e)) (kind_arrivals is.leaf.kind) is.event (at is.home) is.listed in
      omega (arith, l, ap (places_row cert) is.place)

  -- so nothing is beside a cause with this opening
  nothing_beside : (m : Machine) (s : IsSound cert device m) (q c : ℕ) (o : Place) → IsArrived q (m.queues q) → is_pending c (m.queues q) ≡ true → s.opening_of c ≡ o → IsAlone cert device q o → AllByRecursion (λ e. e.cause ≡ c) (m.queues q)
  nothing_beside m s q c o arrived p of_is alone =
      let of_all : AllByRecursion (λ e. e.opening ≡ s.opening_of e.cause) (m.queues q) = openings cert device holding m s q (m.queues q) m.next (s.entries q) in
      let both : AllByRecursion (λ e. IsArrival device q (s.opening_of e.cause)) (m.queues q) =
      all_both (λ e. IsArrival device q e.opening) (λ e. e.opening ≡ s.opening_of e.cause) (λ e. IsArrival device q (s.opening_of e.cause)) (m.queues q) (λ e a is. subst (IsArrival device q) is a) arrived of_all in
      all_both (λ e. IsArrival device q (s.opening_of e.cause)) (λ e. is_pending e.cause (m.queues q) ≡ true) (λ e. e.cause ≡ c) (m.queues q)
      (λ e a r. elim (cases_eq c e.cause) [
        | inl same ↦ sym same
        | inr n ↦ absurd (omega (arith, held_two (places_row cert) s.opening_of c e.cause (m.queues q) of_all n p r, s.depth q, no_room q o (s.opening_of e.cause) alone a, ap (places_row cert) of_is))
      ]) both (all_pending (m.queues q) (m.queues q) (λ d r. r))

  pub has_nothing_beside : (m : Machine) → ComesTo cert device m → HasNothingBeside cert device m
  has_nothing_beside m come q c o open_now alone =
      let k = holds cert device holding IsArrived arrived_kept m come in
      let i : (is_pending c (m.queues q) ≡ true) × (k.0.opening_of c ≡ o) = open_is cert device holding c o k.0.opening_of (m.queues q) (openings cert device holding m k.0 q (m.queues q) m.next (k.0.entries q)) open_now in
      nothing_beside m k.0 q c o (k.1 q) i.0 i.1 alone

  module _ (counts : Counts) (fits : DispatchesFit added counts (leaves device)) where
    -- the pending entries of a cause count at most what its opening counts
    abbrev IsCounted : ℕ → List Entry → Type 0
    IsCounted q es = AllByRecursion (λ e. pending_of counts.weight e.cause es ≤ counts.weight e.opening) es

    emitted_le : (old : Machine) (sound : IsSound cert device old) (q cause : ℕ) (place : Place) (steps : ℕ) (effect : Option Effect) (ended : Option Ended) (new : Machine)
        → (r : Runs cert device old q cause place steps effect ended new) → 1 + sum_by counts.weight (reached r.leaf.targets r.outs) ≤ counts.weight r.first.place
    emitted_le old sound q cause place steps effect ended new r =
        omega (arith, dispatch_le added added_joins counts cert device fits old sound q cause place steps effect ended new r, added_sum counts.weight (reached r.leaf.targets r.outs))

    counted_kept : IsKept cert device holding IsCounted
    counted_kept =
        record {
          empty = λ q. tt;
          admits = λ q es e below same arrival h.
              all_append (λ x. pending_of counts.weight x.cause (es ++ e ∷ []) ≤ counts.weight x.opening) es (e ∷ [])
              (all_both (λ x. x.cause < e.cause) (λ x. pending_of counts.weight x.cause es ≤ counts.weight x.opening) (λ x. pending_of counts.weight x.cause (es ++ e ∷ []) ≤ counts.weight x.opening) es
              (λ x l k. (
              let none : cond (eqb e.cause x.cause) (counts.weight e.place) 0 ≡ 0 = ap (λ t. cond t (counts.weight e.place) 0) (ne_eqb e.cause x.cause (λ g. omega (arith, g, l))) in
              omega (arith, k, none, pending-append counts.weight x.cause es (e ∷ []), pending-cons counts.weight x.cause e []))) below h) (
                (
                    let none : pending_of counts.weight e.cause es ≡ 0 = pending-none counts.weight e.cause es (is_pending-fresh e.cause es below) in
                    let own : cond (eqb e.cause e.cause) (counts.weight e.place) 0 ≡ counts.weight e.place = ap (λ t. cond t (counts.weight e.place) 0) (eq-eqb e.cause e.cause refl) in
                    omega (arith, none, own, pending-append counts.weight e.cause es (e ∷ []), pending-cons counts.weight e.cause e [], ap counts.weight same)),
                tt,
              );
          runs = λ old sound q cause place steps effect ended new r h.
              let later : List Entry = r.rest ++ follow_ups r.first (reached r.leaf.targets r.outs) in
              let less : (c : ℕ) → pending_of counts.weight c later ≤ pending_of counts.weight c (old.queues q) =
              (λ c. omega (arith, pending_falls cert device holding old sound q cause place steps effect ended new r counts.weight 0 c (omega (arith, emitted_le old sound q cause place steps effect ended new r)))) in
              let now : AllByRecursion (λ e. pending_of counts.weight e.cause later ≤ counts.weight e.opening) (r.first ∷ r.rest) =
              all_weaker (λ e. pending_of counts.weight e.cause (old.queues q) ≤ counts.weight e.opening) (λ e. pending_of counts.weight e.cause later ≤ counts.weight e.opening) (r.first ∷ r.rest) (λ e k. omega (arith, k, less e.cause))
              (subst (AllByRecursion (λ e. pending_of counts.weight e.cause (old.queues q) ≤ counts.weight e.opening)) r.was h) in
              all_append (λ e. pending_of counts.weight e.cause later ≤ counts.weight e.opening) r.rest (follow_ups r.first (reached r.leaf.targets r.outs)) now.1
              (all_follow (λ e. pending_of counts.weight e.cause later ≤ counts.weight e.opening) r.first (reached r.leaf.targets r.outs) (each (reached r.leaf.targets r.outs) (pending_of counts.weight r.first.cause later ≤ counts.weight r.first.opening) now.0));
        }

    module _ (q c : ℕ) (o : Place) (alone : IsAlone cert device q o) where
      -- the entries of the cause have this opening
      abbrev Opened : Machine → Type 0
      Opened m = AllByRecursion (λ e. e.cause ≡ c → e.opening ≡ o) (m.queues q)

      abbrev left : Machine → ℕ
      left m = pending_of counts.weight c (m.queues q)

      less_left : (old : Machine) (s : IsSound cert device old) (cause : ℕ) (place : Place) (steps : ℕ) (effect : Option Effect) (ended : Option Ended) (new : Machine)
          → (r : Runs cert device old q cause place steps effect ended new) → AllByRecursion (λ e. e.cause ≡ c) (old.queues q) → left new + 1 ≤ left old
      less_left old s cause place steps effect ended new r all =
          let first_is : r.first.cause ≡ c = (subst (AllByRecursion (λ e. e.cause ≡ c)) r.was all).0 in
          let falls = own_falls (eqb cause c) 1 (pending_of counts.weight c (r.rest ++ follow_ups r.first (reached r.leaf.targets r.outs))) (left old) (eq-eqb cause c (r.cause_is ∙ first_is))
          (pending_falls cert device holding old s q cause place steps effect ended new r counts.weight 1 c (emitted_le old s q cause place steps effect ended new r)) in
          let is : left new ≡ pending_of counts.weight c (r.rest ++ follow_ups r.first (reached r.leaf.targets r.outs)) = ap (pending_of counts.weight c) (queue_is cert device holding old s q cause place steps effect ended new r) in
          omega (arith, falls, is)

      opened_runs : (old : Machine) (s : IsSound cert device old) (cause : ℕ) (place : Place) (steps : ℕ) (effect : Option Effect) (ended : Option Ended) (new : Machine)
          → (r : Runs cert device old q cause place steps effect ended new) → Opened old → Opened new
      opened_runs old s cause place steps effect ended new r h =
          let was : AllByRecursion (λ e. e.cause ≡ c → e.opening ≡ o) (r.first ∷ r.rest) = subst (AllByRecursion (λ e. e.cause ≡ c → e.opening ≡ o)) r.was h in
          subst (AllByRecursion (λ e. e.cause ≡ c → e.opening ≡ o)) (sym (queue_is cert device holding old s q cause place steps effect ended new r))
          (all_append (λ e. e.cause ≡ c → e.opening ≡ o) r.rest (follow_ups r.first (reached r.leaf.targets r.outs)) was.1
          (all_follow (λ e. e.cause ≡ c → e.opening ≡ o) r.first (reached r.leaf.targets r.outs) (each (reached r.leaf.targets r.outs) (r.first.cause ≡ c → r.first.opening ≡ o) was.0)))

      opened_next : (old : Machine) (s : IsSound cert device old) (e : Event) (a : Answer) (new : Machine) → Case cert device old e a new → c < old.next → Opened old → Opened new
      opened_next old s e a new (extends x t d) l h =
          let g = x.grows q in
          subst (AllByRecursion (λ e. e.cause ≡ c → e.opening ≡ o)) (sym g.1)
          (all_append (λ e. e.cause ≡ c → e.opening ≡ o) (old.queues q) g.0 h (all_weaker (λ e. old.next ≤ e.cause) (λ e. e.cause ≡ c → e.opening ≡ o) g.0 (λ e k same. absurd (omega (arith, k, l, same))) g.2))
      opened_next old s e a new (idles r ei ai empty same) l h = subst Opened (sym same) h
      opened_next old s e a new (runs r cause place steps effect ended ei ai rr) l h = go (cases_eq r q)
        where
          go : (r ≡ q) ⊎ (r ≡ q → ⊥) → Opened new
          go (inl g) = opened_runs old s cause place steps effect ended new (subst (λ i. Runs cert device old i cause place steps effect ended new) g rr) h
          go (inr g) = subst (AllByRecursion (λ e. e.cause ≡ c → e.opening ≡ o)) (sym (other_queue cert device holding old s r cause place steps effect ended new rr q g)) h

      left_next : (old : Machine) (s : IsSound cert device old) (e : Event) (a : Answer) (new : Machine) → Case cert device old e a new → c < old.next → AllByRecursion (λ e. e.cause ≡ c) (old.queues q) → is_pending c (old.queues q) ≡ true → left new + dispatches q (e ∷ []) ≤ left old
      left_next old s e a new (extends x t d) l all p = omega (arith, d q, extends_weight old new x counts.weight q c l)
      left_next old s e a new (idles r ei ai empty same) l all p = go (cases_eq r q)
        where
          go : (r ≡ q) ⊎ (r ≡ q → ⊥) → left new + dispatches q (e ∷ []) ≤ left old
          go (inl g) = (let none : false ≡ true = ap (is_pending c) (sym empty) ∙ ap (λ i. is_pending c (old.queues i)) g ∙ p in cc)
          go (inr g) =
              let d : dispatches q (e ∷ []) ≡ 0 = ap (λ x. dispatches q (x ∷ [])) ei ∙ dispatch_other r q g in
              let k : left new ≡ left old = ap left same in
              omega (arith, d, k)
      left_next old s e a new (runs r cause place steps effect ended ei ai rr) l all p = go (cases_eq r q)
        where
          go : (r ≡ q) ⊎ (r ≡ q → ⊥) → left new + dispatches q (e ∷ []) ≤ left old
          go (inl g) =
              let d : dispatches q (e ∷ []) ≡ 1 = ap (λ x. dispatches q (x ∷ [])) ei ∙ dispatch_one r q g in
              omega (arith, d, less_left old s cause place steps effect ended new (subst (λ i. Runs cert device old i cause place steps effect ended new) g rr) all)
          go (inr g) =
              let d : dispatches q (e ∷ []) ≡ 0 = ap (λ x. dispatches q (x ∷ [])) ei ∙ dispatch_other r q g in
              let same : left new ≡ left old = ap (pending_of counts.weight c) (other_queue cert device holding old s r cause place steps effect ended new rr q g) in
              omega (arith, d, same)

      -- while it is open, each dispatch of the resource is one of its own
      left_after : (es : List Event) (answers : List Answer) (old new : Machine) → ComesTo cert device old → IsSound cert device old → Run cert device old es answers new → c < old.next → Opened old → is_pending c (new.queues q) ≡ true → left new + dispatches q es ≤ left old
      left_after [] [] old new come s r l h p = omega (arith, ap left r)
      left_after [] (a ∷ answers) old new come s r l h p = absurd r
      left_after (e ∷ es) [] old new come s r l h p = absurd r
      left_after (e ∷ es) (a ∷ answers) old new come s (mid, g, r) l h p =
          let k = case cert device old e a mid g in
          let sm : IsSound cert device mid = sound_next cert device holding old e a mid s g in
          let below : c < mid.next = omega (arith, l, next_up cert device holding old e a mid k) in
          let pm : is_pending c (mid.queues q) ≡ true = back_after cert device holding es answers mid new q c sm r below p in
          let po : is_pending c (old.queues q) ≡ true = back cert device holding old s e a mid q c k l pm in
          let of_is : s.opening_of c ≡ o = opening_is s.opening_of c o (old.queues q) (openings cert device holding old s q (old.queues q) old.next (s.entries q)) h po in
          let all : AllByRecursion (λ e. e.cause ≡ c) (old.queues q) = nothing_beside old s q c o ((holds cert device holding IsArrived arrived_kept old come).1 q) po of_is alone in
          omega (arith, dispatches-cons q e es, left_next old s e a mid k l all po, left_after es answers mid new (further old e a mid come g) sm r below (opened_next old s e a mid k l h) p)
        where
          further : (old : Machine) (e : Event) (a : Answer) (mid : Machine) → ComesTo cert device old → Happens cert device old e a mid → ComesTo cert device mid
          further old e a mid come g =
              record {
                first = come.first;
                stamp = come.stamp;
                is_stamp = come.is_stamp;
                events = come.events ++ e ∷ [];
                answers = come.answers ++ a ∷ [];
                run = run_more cert device come.events come.answers (at_first device come.first come.stamp) old mid e a come.run g;
              }

    pub ends_alone : (old : Machine) → ComesTo cert device old → EndsAlone counts cert device old
    ends_alone old come es answers new q c o r open_old alone enough = go (is_pending c (new.queues q)) refl
      where
        go : (t : Bool) → is_pending c (new.queues q) ≡ t → is_pending c (new.queues q) ≡ false
        go false p = p
        go true p =
            let k = holds cert device holding IsCounted counted_kept old come in
            let s : IsSound cert device old = k.0 in
            let sn : IsSound cert device new = sound_after cert device holding es answers old new s r in
            let of_all : AllByRecursion (λ e. e.opening ≡ s.opening_of e.cause) (old.queues q) = openings cert device holding old s q (old.queues q) old.next (s.entries q) in
            let i : (is_pending c (old.queues q) ≡ true) × (s.opening_of c ≡ o) = open_is cert device holding c o s.opening_of (old.queues q) of_all open_old in
            let below : c < old.next = (known_pending device s.opening_of s.home_of old.next q c (old.queues q) (s.entries q) i.0).1 in
            let opened : AllByRecursion (λ e. e.cause ≡ c → e.opening ≡ o) (old.queues q) =
            all_weaker (λ e. e.opening ≡ s.opening_of e.cause) (λ e. e.cause ≡ c → e.opening ≡ o) (old.queues q) (λ e is g. is ∙ ap s.opening_of g ∙ i.1) of_all in
            let falls = left_after q c o alone es answers old new come s r below opened p in
            let some : 1 ≤ pending_of counts.weight c (new.queues q) =
            pending_least counts.weight c (new.queues q)
            (all_weaker (IsKnown device sn.opening_of sn.home_of new.next q) (λ e. 1 ≤ counts.weight e.place) (new.queues q) (λ e k. input_least added added_joins counts (leaves device) e.place fits k.input) (sn.entries q)) p in
            let most : pending_of counts.weight c (old.queues q) ≤ counts.weight o = open_counts counts.weight c o (old.queues q) (old.queues q) (k.1 q) open_old in
            absurd (omega (arith, falls, some, most, enough))
