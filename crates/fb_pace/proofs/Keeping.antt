-- Who keeps to its rate passes, and what passes keeps to it.
use Rattle.std.proofs.Common.{arith, ◌≡◌, ℕ, zero, suc, ◌+◌, ◌-◌, ◌*◌, ◌<◌, ◌≤◌, max, Bool, true, false, cond, List, [], ◌∷◌, length, refl, sym, subst, get_or}
use Rattle.std.specs.List.{AllByRecursion}
use Rattle.std.proofs.lemmas.Bool.{cond-true, le-leb, leb-true}
use Rattle.fb_pace.specs.declared.rate.Rate.{Rate}
use Rattle.fb_pace.specs.declared.bucket.Bucket.{Bucket}
use Rattle.fb_pace.specs.Rates.{AreInOrder, IsWithin}
use Rattle.fb_pace.specs.Bucket.{answers, leeway, passes, passing, taken}

-- ---- who keeps to its rate

-- none of the moments is too early, if the first is due at this one and each later one a step later
abbrev Affords : ℕ → ℕ → ℕ → List ℕ → Type 0
Affords step early due [] = Unit {0}
Affords step early due (t ∷ ts) = (due ≤ t + early) × Affords step early (due + step) ts

affords_both : (step early a b : ℕ) (ts : List ℕ) → Affords step early a ts → Affords step early b ts → Affords step early (max a b) ts
affords_both step early a b [] one other = tt
affords_both step early a b (t ∷ ts) one other =
    let later : max (a + step) (b + step) ≡ max a b + step = omega arith in
    (omega (arith, one.0, other.0), subst (λ (due : ℕ). Affords step early due ts) later (affords_both step early (a + step) (b + step) ts one.1 other.1))

affords : (step early due : ℕ) (ts : List ℕ) → ((j : ℕ) → j < length ts → due + j * step ≤ get_or ts j 0 + early) → Affords step early due ts
affords step early due [] h = tt
affords step early due (t ∷ ts) h =
    let first : due + 0 * step ≤ t + early = h 0 (omega arith) in (
      omega (arith, first),
      affords step early (due + step) ts (λ j lt. let next : due + suc j * step ≤ get_or ts j 0 + early = h (suc j) (omega (arith, lt)) in omega (arith, next)),
    )

tail_in_order : (t : ℕ) (ts : List ℕ) → AreInOrder (t ∷ ts) → AreInOrder ts
tail_in_order t ts h i j le lt = h (suc i) (suc j) (omega (arith, le)) (omega (arith, lt))

less_one : (i j : ℕ) → suc j - suc i ≡ j - i
less_one i j = omega arith

tail_within : (r : Rate) (t : ℕ) (ts : List ℕ) → IsWithin r (t ∷ ts) → IsWithin r ts
tail_within r t ts h i j le lt =
    subst (λ (n : ℕ). n * r.interval ≤ (r.burst - 1) * r.interval + (get_or ts j 0 - get_or ts i 0)) (less_one i j)
    (h (suc i) (suc j) (omega (arith, le)) (omega (arith, lt)))

-- the moments behind one are not too early, if they are due from an interval after it on
affords_rest : (r : Rate) (t : ℕ) (ts : List ℕ) → AreInOrder (t ∷ ts) → IsWithin r (t ∷ ts) → Affords r.interval (leeway r) (t + r.interval) ts
affords_rest r t ts order within =
    affords r.interval (leeway r) (t + r.interval) ts
    (λ j lt.
    let after : t ≤ get_or ts j 0 = order 0 (suc j) (omega arith) (omega (arith, lt)) in
    let enough : (suc j - 0) * r.interval ≤ (r.burst - 1) * r.interval + (get_or ts j 0 - t) = within 0 (suc j) (omega arith) (omega (arith, lt)) in
    let all : suc j - 0 ≡ suc j = omega arith in
    let so : suc j * r.interval ≤ (r.burst - 1) * r.interval + (get_or ts j 0 - t) =
    subst (λ (n : ℕ). n * r.interval ≤ (r.burst - 1) * r.interval + (get_or ts j 0 - t)) all enough in
    omega (arith, after, so))

keeps : (b : Bucket) (ts : List ℕ) → Affords b.rate.interval (leeway b.rate) b.due ts → AreInOrder ts → IsWithin b.rate ts
    → AllByRecursion (λ answer. answer ≡ true) (answers b ts)
keeps b [] early order within = tt
keeps b (t ∷ ts) early order within =
    let yes : passes b t ≡ true = le-leb b.due (t + leeway b.rate) early.0 in
    let later : max (b.due + b.rate.interval) (t + b.rate.interval) ≡ max b.due t + b.rate.interval = omega arith in
    let rest = subst (λ (due : ℕ). Affords b.rate.interval (leeway b.rate) due ts) later
    (affords_both b.rate.interval (leeway b.rate) (b.due + b.rate.interval) (t + b.rate.interval) ts early.1 (affords_rest b.rate t ts order within)) in (
      yes,
      subst (λ (x : Bucket). AllByRecursion (λ answer. answer ≡ true) (answers x ts)) (sym (cond-true (passes b t) (taken b t) b yes))
          (keeps (taken b t) ts rest (tail_in_order t ts order) (tail_within b.rate t ts within)),
    )

pub keeper_passes : (b : Bucket) (ts : List ℕ) → b.due ≡ 0 → AreInOrder ts → IsWithin b.rate ts → AllByRecursion (λ answer. answer ≡ true) (answers b ts)
keeper_passes b ts new order within =
    keeps b ts
    (affords b.rate.interval (leeway b.rate) b.due ts
    (λ j lt.
    let enough : (j - 0) * b.rate.interval ≤ (b.rate.burst - 1) * b.rate.interval + (get_or ts j 0 - get_or ts 0 0) = within 0 j (omega arith) lt in
    let all : j - 0 ≡ j = omega arith in
    let so : j * b.rate.interval ≤ (b.rate.burst - 1) * b.rate.interval + (get_or ts j 0 - get_or ts 0 0) =
    subst (λ (n : ℕ). n * b.rate.interval ≤ (b.rate.burst - 1) * b.rate.interval + (get_or ts j 0 - get_or ts 0 0)) all enough in
    omega (arith, new, so)))
    order within

-- ---- what passes

-- moments behind a first one, of which so many came before these, are within a rate
abbrev Follow : ℕ → ℕ → ℕ → ℕ → List ℕ → Type 0
Follow step early first n [] = Unit {0}
Follow step early first n (t ∷ ts) = (n * step ≤ early + (t - first)) × Follow step early first (n + 1) ts

abbrev FollowAll : ℕ → ℕ → List ℕ → Type 0
FollowAll step early [] = Unit {0}
FollowAll step early (t ∷ ts) = Follow step early t 1 ts × FollowAll step early ts

follow_at : (step early first n : ℕ) (ts : List ℕ) (j : ℕ) → Follow step early first n ts → j < length ts → (n + j) * step ≤ early + (get_or ts j 0 - first)
follow_at step early first n [] j h lt = absurd (omega (arith, lt))
follow_at step early first n (t ∷ ts) zero h lt = let here : n * step ≤ early + (t - first) = h.0 in omega (arith, here)
follow_at step early first n (t ∷ ts) (suc j) h lt =
    let there : (n + 1 + j) * step ≤ early + (get_or ts j 0 - first) = follow_at step early first (n + 1) ts j h.1 (omega (arith, lt)) in
    omega (arith, there)

follow_within : (r : Rate) (ts : List ℕ) → FollowAll r.interval (leeway r) ts → IsWithin r ts
follow_within r [] h i j le lt = absurd (omega (arith, lt))
follow_within r (t ∷ ts) h zero zero le lt = omega arith
follow_within r (t ∷ ts) h zero (suc j) le lt =
    let there : (1 + j) * r.interval ≤ (r.burst - 1) * r.interval + (get_or ts j 0 - t) = follow_at r.interval (leeway r) t 1 ts j h.0 (omega (arith, lt)) in
    let all : 1 + j ≡ suc j - 0 = omega arith in
    subst (λ (n : ℕ). n * r.interval ≤ (r.burst - 1) * r.interval + (get_or ts j 0 - t)) all there
follow_within r (t ∷ ts) h (suc i) zero le lt = absurd (omega (arith, le))
follow_within r (t ∷ ts) h (suc i) (suc j) le lt =
    subst (λ (n : ℕ). n * r.interval ≤ (r.burst - 1) * r.interval + (get_or ts j 0 - get_or ts i 0)) (sym (less_one i j))
    (follow_within r ts h.1 i j (omega (arith, le)) (omega (arith, lt)))

-- what passes behind a first one, if the next is due as many intervals after it as have come
follows : (b : Bucket) (first n : ℕ) (ts : List ℕ) → first + n * b.rate.interval ≤ b.due → Follow b.rate.interval (leeway b.rate) first n (passing ts (answers b ts))
follows b first n [] due = tt
follows b first n (t ∷ ts) due =
    choose (passes b t) refl (λ le. follows (taken b t) first (n + 1) ts (omega (arith, due))) (follows b first n ts due)
  where
    choose : (p : Bool) → passes b t ≡ p → (b.due ≤ t + leeway b.rate → Follow b.rate.interval (leeway b.rate) first (n + 1) (passing ts (answers (taken b t) ts)))
        → Follow b.rate.interval (leeway b.rate) first n (passing ts (answers b ts)) → Follow b.rate.interval (leeway b.rate) first n (passing (t ∷ ts) (p ∷ answers (cond p (taken b t) b) ts))
    choose true is more same = let le = leb-true b.due (t + leeway b.rate) is in (omega (arith, due, le), more le)
    choose false is more same = same

follow_all : (b : Bucket) (ts : List ℕ) → FollowAll b.rate.interval (leeway b.rate) (passing ts (answers b ts))
follow_all b [] = tt
follow_all b (t ∷ ts) = choose (passes b t) (follows (taken b t) t 1 ts (omega arith)) (follow_all (taken b t) ts) (follow_all b ts)
  where
    choose : (p : Bool) → Follow b.rate.interval (leeway b.rate) t 1 (passing ts (answers (taken b t) ts)) → FollowAll b.rate.interval (leeway b.rate) (passing ts (answers (taken b t) ts))
        → FollowAll b.rate.interval (leeway b.rate) (passing ts (answers b ts)) → FollowAll b.rate.interval (leeway b.rate) (passing (t ∷ ts) (p ∷ answers (cond p (taken b t) b) ts))
    choose true first more same = (first, more)
    choose false first more same = same

pub what_passes : (b : Bucket) (ts : List ℕ) → IsWithin b.rate (passing ts (answers b ts))
what_passes b ts = follow_within b.rate (passing ts (answers b ts)) (follow_all b ts)
