-- A cause ends within its generations.
use Rattle.std.proofs.Common.{◌≡◌, ℕ, ◌+◌, ◌*◌, ◌≤◌, ◌<◌, true, false, ◌⊎◌, eqb, List, [], ◌∷◌, ◌++◌, Option, length, refl, sym, ◌∙◌, ap, subst, arith, inl, inr}
use Rattle.std.specs.List.{AllByRecursion}
use Rattle.std.proofs.lemmas.Bool.{or_from, ne_eqb, cases_eq}
use Rattle.std.proofs.lemmas.List.{length-append}
use Rattle.std.proofs.lemmas.Nat.{mul-le}
use Rattle.fb_model.specs.Names.{Place}
use Rattle.fb_model.specs.System.{Device}
use Rattle.fb_model.specs.Wires.{leaves}
use Rattle.fb_model.specs.Serving.{Effect}
use Rattle.fb_model.specs.Certificates.{Certificate, depth_of, reached, DeviceHolds}
use Rattle.fb_model.specs.Devices.{Ended, Entry, Machine, is_pending, Event, Answer, follow_ups, Runs, Run}
use Rattle.fb_model.specs.Headline.{IsKnown, IsSound, dispatches}
use Rattle.fb_model.proofs.Lists.{all_append, all_weaker, all_both}
use Rattle.fb_model.proofs.Running.{known_pending, openings, queue_is, other_queue}
use Rattle.fb_model.proofs.Admitting.{sound_next, sound_after}
use Rattle.fb_model.proofs.Bounding.{Extends, Case, extends, idles, runs, case, next_up, open_is}
use Rattle.fb_model.proofs.Ending.{depth_le}
use Rattle.fb_model_turns.specs.Turns.{Counts, DispatchesFit, largest, joined, ComesTo, EndsInGenerations}
use Rattle.fb_model_turns.proofs.Joins.{largest_joins, each_within}
use Rattle.fb_model_turns.proofs.Dispatching.{dispatch_le, input_least}
use Rattle.fb_model_turns.proofs.Keeping.{IsKept, holds}
use Rattle.fb_model_turns.proofs.Events.{dispatches-cons, dispatch_one, dispatch_other, all_follow, follow_length}

-- ---- how far the entries of a cause are from their ends

module _ (weight : Place → ℕ) (n c : ℕ) where
  -- from this place of the queue on, each entry of the cause ends with all that follows from it, each generation n dispatches later than the one before, within b
  abbrev EndsWithin : ℕ → ℕ → List Entry → Type 0
  EndsWithin i b [] = Unit {0}
  EndsWithin i b (e ∷ es) = (e.cause ≡ c → i + 1 + weight e.place * n ≤ b) × EndsWithin (i + 1) b es

  ends-append : (i b : ℕ) (xs ys : List Entry) → EndsWithin i b xs → EndsWithin (i + length xs) b ys → EndsWithin i b (xs ++ ys)
  ends-append i b [] ys h k = subst (λ j. EndsWithin j b ys) (let e : i + 0 ≡ i = omega arith in e) k
  ends-append i b (x ∷ xs) ys h k = (h.0, ends-append (i + 1) b xs ys h.1 (subst (λ j. EndsWithin j b ys) (let e : i + length (x ∷ xs) ≡ (i + 1) + length xs = omega arith in e) k))

  -- entries of other causes
  ends_other : (i b : ℕ) (es : List Entry) → AllByRecursion (λ e. e.cause ≡ c → ⊥) es → EndsWithin i b es
  ends_other i b [] h = tt
  ends_other i b (e ∷ es) h = (λ g. absurd (h.0 g), ends_other (i + 1) b es h.1)

  -- one dispatch brings each entry behind the first one nearer
  ends_nearer : (i b : ℕ) (es : List Entry) → EndsWithin (i + 1) (b + 1) es → EndsWithin i b es
  ends_nearer i b [] h = tt
  ends_nearer i b (e ∷ es) h = (λ g. omega (arith, h.0 g), ends_nearer (i + 1) b es h.1)

  -- what the first one emits is of the next generation
  ends_follow : (first : Entry) (i b : ℕ) (ps : List Place) → length ps + i ≤ n → (first.cause ≡ c → weight first.place * n ≤ b) → AllByRecursion (λ p. 1 + weight p ≤ weight first.place) ps → EndsWithin i b (follow_ups first ps)
  ends_follow first i b [] l h k = tt
  ends_follow first i b (p ∷ ps) l h k = (
    λ g.
        let less : (1 + weight p) * n ≤ weight first.place * n = mul-le _ _ _ _ k.0 (omega arith) in
        omega (arith, less, l, h g),
    ends_follow first (i + 1) b ps (omega (arith, l)) h k.1,
  )

  ends_dispatch : (first : Entry) (rest : List Entry) (ps : List Place) (b : ℕ) → length (rest ++ follow_ups first ps) ≤ n → AllByRecursion (λ p. 1 + weight p ≤ weight first.place) ps → EndsWithin 0 (b + 1) (first ∷ rest) → EndsWithin 0 b (rest ++ follow_ups first ps)
  ends_dispatch first rest ps b l k h =
      let long : length rest + length ps ≤ n = omega (arith, l, length-append rest (follow_ups first ps), follow_length first ps) in
      ends-append 0 b rest (follow_ups first ps) (ends_nearer 0 b rest h.1) (ends_follow first (0 + length rest) b ps (omega (arith, long)) (λ g. omega (arith, h.0 g)) k)

  -- within n nothing of the cause is left
  ends_none : (i : ℕ) (es : List Entry) → AllByRecursion (λ e. 1 ≤ weight e.place) es → EndsWithin i n es → is_pending c es ≡ false
  ends_none i [] k h = refl
  ends_none i (e ∷ es) k h =
      or_from (eqb e.cause c) (is_pending c es)
      (ne_eqb e.cause c (λ g. let most : 1 * n ≤ weight e.place * n = mul-le _ _ _ _ k.0 (omega arith) in omega (arith, most, h.0 g)))
      (ends_none (i + 1) es k.1 h.1)

  -- at first each entry is within what its opening counts
  ends_first : (o : Place) (i : ℕ) (es : List Entry) → length es + i ≤ n → AllByRecursion (λ e. e.cause ≡ c → weight e.place ≤ weight o) es → EndsWithin i (weight o * n + n) es
  ends_first o i [] l h = tt
  ends_first o i (e ∷ es) l h = (
    λ g.
        let less : weight e.place * n ≤ weight o * n = mul-le _ _ _ _ (h.0 g) (omega arith) in
        omega (arith, less, l),
    ends_first o (i + 1) es (omega (arith, l)) h.1,
  )

-- ---- over a run

module _ (cert : Certificate) (device : Device) (holding : DeviceHolds cert device) (counts : Counts) (fits : DispatchesFit largest counts (leaves device)) where
  -- each entry counts at most what its opening counts
  abbrev IsCounted : ℕ → List Entry → Type 0
  IsCounted q es = AllByRecursion (λ e. counts.weight e.place ≤ counts.weight e.opening) es

  emitted_le : (old : Machine) (sound : IsSound cert device old) (q cause : ℕ) (place : Place) (steps : ℕ) (effect : Option Effect) (ended : Option Ended) (new : Machine)
      → (r : Runs cert device old q cause place steps effect ended new) → AllByRecursion (λ p. 1 + counts.weight p ≤ counts.weight r.first.place) (reached r.leaf.targets r.outs)
  emitted_le old sound q cause place steps effect ended new r =
      let le : 1 + joined largest counts.weight (reached r.leaf.targets r.outs) ≤ counts.weight r.first.place = dispatch_le largest largest_joins counts cert device fits old sound q cause place steps effect ended new r in
      all_weaker (λ p. counts.weight p ≤ joined largest counts.weight (reached r.leaf.targets r.outs)) (λ p. 1 + counts.weight p ≤ counts.weight r.first.place) (reached r.leaf.targets r.outs) (λ p k. omega (arith, k, le))
      (each_within largest largest_joins counts.weight (reached r.leaf.targets r.outs) (joined largest counts.weight (reached r.leaf.targets r.outs)) (omega arith))

  counted_kept : IsKept cert device holding IsCounted
  counted_kept =
      record {
        empty = λ q. tt;
        admits = λ q es e below same arrival h. all_append (λ e. counts.weight e.place ≤ counts.weight e.opening) es (e ∷ []) h (omega (arith, ap counts.weight same), tt);
        runs = λ old sound q cause place steps effect ended new r h.
            let was : AllByRecursion (λ e. counts.weight e.place ≤ counts.weight e.opening) (r.first ∷ r.rest) = subst (AllByRecursion (λ e. counts.weight e.place ≤ counts.weight e.opening)) r.was h in
            all_append (λ e. counts.weight e.place ≤ counts.weight e.opening) r.rest (follow_ups r.first (reached r.leaf.targets r.outs)) was.1
            (all_follow (λ e. counts.weight e.place ≤ counts.weight e.opening) r.first (reached r.leaf.targets r.outs)
            (all_weaker (λ p. 1 + counts.weight p ≤ counts.weight r.first.place) (λ p. counts.weight p ≤ counts.weight r.first.opening) (reached r.leaf.targets r.outs) (λ p k. omega (arith, k, was.0)) (emitted_le old sound q cause place steps effect ended new r)));
      }

  module _ (q c : ℕ) where
    abbrev Near : ℕ → Machine → Type 0
    Near b m = EndsWithin counts.weight (depth_of cert device q) c 0 b (m.queues q)

    near_extends : (b : ℕ) (old new : Machine) → Extends old new → c < old.next → Near b old → Near b new
    near_extends b old new x l h =
        let g = x.grows q in
        subst (EndsWithin counts.weight (depth_of cert device q) c 0 b) (sym g.1)
        (ends-append counts.weight (depth_of cert device q) c 0 b (old.queues q) g.0 h
        (ends_other counts.weight (depth_of cert device q) c (0 + length (old.queues q)) b g.0 (all_weaker (λ e. old.next ≤ e.cause) (λ e. e.cause ≡ c → ⊥) g.0 (λ e k same. omega (arith, k, l, same)) g.2)))

    near_runs : (b : ℕ) (old : Machine) (sound : IsSound cert device old) (cause : ℕ) (place : Place) (steps : ℕ) (effect : Option Effect) (ended : Option Ended) (new : Machine)
        → IsSound cert device new → Runs cert device old q cause place steps effect ended new → Near (b + 1) old → Near b new
    near_runs b old sound cause place steps effect ended new sn r h =
        let is = queue_is cert device holding old sound q cause place steps effect ended new r in
        subst (EndsWithin counts.weight (depth_of cert device q) c 0 b) (sym is)
        (ends_dispatch counts.weight (depth_of cert device q) c r.first r.rest (reached r.leaf.targets r.outs) b (omega (arith, ap length is, depth_le cert device holding new sn q)) (emitted_le old sound q cause place steps effect ended new r)
        (subst (EndsWithin counts.weight (depth_of cert device q) c 0 (b + 1)) r.was h))

    -- an event that is no dispatch of the resource
    same_bound : (b : ℕ) (e : Event) (m : Machine) → dispatches q (e ∷ []) ≡ 0 → Near (b + dispatches q (e ∷ [])) m → Near b m
    same_bound b e m d h = subst (λ k. Near k m) (let s : b + dispatches q (e ∷ []) ≡ b = omega (arith, d) in s) h

    near_next : (b : ℕ) (old : Machine) (s : IsSound cert device old) (e : Event) (a : Answer) (new : Machine) → IsSound cert device new → Case cert device old e a new → c < old.next → Near (b + dispatches q (e ∷ [])) old → Near b new
    near_next b old s e a new sn (extends x t d) l h = near_extends b old new x l (same_bound b e old (d q) h)
    near_next b old s e a new sn (idles r ei ai empty same) l h = go (cases_eq r q)
      where
        go : (r ≡ q) ⊎ (r ≡ q → ⊥) → Near b new
        go (inl g) = subst (EndsWithin counts.weight (depth_of cert device q) c 0 b) (sym (ap (λ m. m.queues q) same ∙ ap old.queues (sym g) ∙ empty)) tt
        go (inr g) = subst (Near b) (sym same) (same_bound b e old (ap (λ x. dispatches q (x ∷ [])) ei ∙ dispatch_other r q g) h)
    near_next b old s e a new sn (runs r cause place steps effect ended ei ai rr) l h = go (cases_eq r q)
      where
        go : (r ≡ q) ⊎ (r ≡ q → ⊥) → Near b new
        go (inl g) =
            let rq : Runs cert device old q cause place steps effect ended new = subst (λ i. Runs cert device old i cause place steps effect ended new) g rr in
            let d : dispatches q (e ∷ []) ≡ 1 = ap (λ x. dispatches q (x ∷ [])) ei ∙ dispatch_one r q g in
            near_runs b old s cause place steps effect ended new sn rq (subst (λ k. Near (b + k) old) d h)
        go (inr g) =
            subst (EndsWithin counts.weight (depth_of cert device q) c 0 b) (sym (other_queue cert device holding old s r cause place steps effect ended new rr q g))
            (same_bound b e old (ap (λ x. dispatches q (x ∷ [])) ei ∙ dispatch_other r q g) h)

    near_after : (b : ℕ) (es : List Event) (answers : List Answer) (old new : Machine) → IsSound cert device old → Run cert device old es answers new → c < old.next → Near (b + dispatches q es) old → Near b new
    near_after b [] [] old new s r l h = subst (Near b) (sym r) (subst (λ k. Near k old) (let e : b + dispatches q [] ≡ b = omega arith in e) h)
    near_after b [] (a ∷ answers) old new s r l h = absurd r
    near_after b (e ∷ es) [] old new s r l h = absurd r
    near_after b (e ∷ es) (a ∷ answers) old new s (mid, g, r) l h =
        let k = case cert device old e a mid g in
        let sm : IsSound cert device mid = sound_next cert device holding old e a mid s g in
        let split : b + dispatches q (e ∷ es) ≡ (b + dispatches q es) + dispatches q (e ∷ []) = omega (arith, dispatches-cons q e es) in
        near_after b es answers mid new sm r (omega (arith, l, next_up cert device holding old e a mid k)) (near_next (b + dispatches q es) old s e a mid sm k l (subst (λ i. Near i old) split h))

  -- more than enough is within too
  ends_later : (weight : Place → ℕ) (n c i a b : ℕ) (es : List Entry) → a ≤ b → EndsWithin weight n c i a es → EndsWithin weight n c i b es
  ends_later weight n c i a b [] l h = tt
  ends_later weight n c i a b (e ∷ es) l h = (λ g. omega (arith, h.0 g, l), ends_later weight n c (i + 1) a b es l h.1)

  pub ends_in_generations : (old : Machine) → ComesTo cert device old → EndsInGenerations counts cert device old
  ends_in_generations old come es answers new q c o r open_old enough =
      let held_old = holds cert device holding IsCounted counted_kept old come in
      let s : IsSound cert device old = held_old.0 in
      let sn : IsSound cert device new = sound_after cert device holding es answers old new s r in
      let of_is : AllByRecursion (λ e. e.opening ≡ s.opening_of e.cause) (old.queues q) = openings cert device holding old s q (old.queues q) old.next (s.entries q) in
      let i : (is_pending c (old.queues q) ≡ true) × (s.opening_of c ≡ o) = open_is cert device holding c o s.opening_of (old.queues q) of_is open_old in
      let below : c < old.next = (known_pending device s.opening_of s.home_of old.next q c (old.queues q) (s.entries q) i.0).1 in
      let n = depth_of cert device q in
      let most : AllByRecursion (λ e. e.cause ≡ c → counts.weight e.place ≤ counts.weight o) (old.queues q) =
      all_both (λ e. e.opening ≡ s.opening_of e.cause) (λ e. counts.weight e.place ≤ counts.weight e.opening) (λ e. e.cause ≡ c → counts.weight e.place ≤ counts.weight o) (old.queues q)
      (λ e is k g. omega (arith, k, ap counts.weight (is ∙ ap s.opening_of g ∙ i.1))) of_is (held_old.1 q) in
      let at_old : EndsWithin counts.weight n c 0 (counts.weight o * n + n) (old.queues q) = ends_first counts.weight n c o 0 (old.queues q) (omega (arith, depth_le cert device holding old s q)) most in
      let later : EndsWithin counts.weight n c 0 (n + dispatches q es) (old.queues q) = ends_later counts.weight n c 0 (counts.weight o * n + n) (n + dispatches q es) (old.queues q) (omega (arith, enough)) at_old in
      let at_new : EndsWithin counts.weight n c 0 n (new.queues q) = near_after q c n es answers old new s r below later in
      ends_none counts.weight n c 0 (new.queues q)
      (all_weaker (IsKnown device sn.opening_of sn.home_of new.next q) (λ e. 1 ≤ counts.weight e.place) (new.queues q) (λ e k. input_least largest largest_joins counts (leaves device) e.place fits k.input) (sn.entries q))
      at_new
