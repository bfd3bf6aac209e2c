-- What the iterations of a FOR spend.
use Rattle.std.proofs.Common.{◌≡◌, ℕ, zero, suc, ◌+◌, ◌*◌, ◌<◌, ◌≤◌, ℤ, pos, ◌+ℤ◌, ◌*ℤ◌, Bool, true, false, List, None, refl, sym, ap, subst, arith}
use Rattle.std.specs.Prelude.{if◌then◌else◌}
use Rattle.std.specs.List.{AllByRecursion}
use Rattle.std.specs.Str.{bytes_eq}
use Rattle.std.proofs.lemmas.Int.{ints}
use Rattle.std.proofs.Math.Nat.{mul-le-mul_right}
use Rattle.fb_model.specs.Names.{Name, is_in}
use Rattle.fb_model.specs.Values.{One, Values, numbers_of}
use Rattle.fb_model.specs.Language.{Outcome, Done, Trap, setting, iteration_count}
use Rattle.fb_model.specs.Spans.{Span}
use Rattle.fb_model.specs.Clear.{Spans, changed, Found, Clear, Leaves, Traps, are_kept, reset, most_iterations, taken, left_with, looped}
use Rattle.fb_model.specs.Shapes.{IsIn, Lies, Shape, HasShape}
use Rattle.fb_model.specs.Counts.{Taken}
use Rattle.fb_model.proofs.Iterations.{iterations_most, all_taken}
use Rattle.fb_model.proofs.Rowed.{OnClear, Rowed, FoundRowed, changed_rowed, reset_rowed}
use Rattle.fb_model.proofs.Runs.{Runs, set_fits, set_lies, reset_lies, reset_is, back}
use Rattle.fb_model_work.specs.Spending.{where_done, in_iterations}
use Rattle.fb_model_work.proofs.Cleared.{Clears, AreIn}

next_from : (w k : ℤ) (i : ℕ) → w +ℤ pos (suc i) *ℤ k ≡ (w +ℤ k) +ℤ pos i *ℤ k
next_from w k i = omega (arith, ints)

first_from : (w k : ℤ) → w +ℤ pos 0 *ℤ k ≡ w
first_from w k = omega (arith, ints)

-- ---- iterations, whose body assigns xs and writes ys

module _ (shape : Shape) (rows base end : Spans) (xs ys : List Name) (x : Name) (own : Span) (m : ℕ) (k : ℤ) (p : shape x ≡ None)
    (b : Rowed shape rows base) (e : Rowed shape rows end) (r : (y : Name) → is_in y xs ≡ true → base y ≡ rows y) (kept : are_kept xs rows end ≡ true)
    (body : Values → Outcome) (spent : Values → ℕ) (price most : ℕ)
    (good : (values : Values) → AreIn shape rows (changed x (λ z. own) base) values → Runs shape m end xs ys values (body values))
    (spends : (values : Values) → AreIn shape rows (changed x (λ z. own) base) values → spent values ≤ most) where
  -- the variables besides x lie where they lay before
  abbrev Around : Values → Type 0
  Around values = (y : Name) → bytes_eq x y ≡ false → AllByRecursion (IsIn (base y)) (numbers_of (values y))

  -- an iteration with w begins
  begins : (w : ℤ) (values : Values) → HasShape shape values → Around values → IsIn own w
      → AreIn shape rows (changed x (λ z. own) base) (setting values x (One w))
  begins w values fit around h =
      record {
        rowed = changed_rowed shape rows x (λ c. own) base p b;
        fits = set_fits shape x w values p fit;
        lies = set_lies shape x (λ z. own) w base values h around;
      }

  set_around : (w : ℤ) (values : Values) → Around values → Around (setting values x (One w))
  set_around w values around y h = subst (λ v. AllByRecursion (IsIn (base y)) (numbers_of v)) (sym (ap (λ z. if z then One w else values y) h)) (around y h)

  -- what comes after an iteration
  goes_on : (first : Values) (o : Outcome) (f : Values → ℕ) (c : ℕ) → Around first → Runs shape m end xs ys first o
      → ((next : Values) → HasShape shape next → Around next → f next ≤ c) → where_done o f ≤ c
  goes_on first Trap f c around g go = absurd g
  goes_on first (Done next n) f c around g go =
      go next g.fits (λ y h. back shape xs rows base end first next b e r kept g.lies g.still y (around y h))

  all_spend : (j : ℕ) (w : ℤ) (values : Values) → HasShape shape values → Around values → ((i : ℕ) → i < j → IsIn own (w +ℤ pos i *ℤ k))
      → in_iterations price j body spent x w k values ≤ j * (price + most)
  all_spend zero w values fit around h = omega arith
  all_spend (suc j) w values fit around h =
      let first : Values = setting values x (One w) in
      let begun = begins w values fit around (subst (IsIn own) (first_from w k) (h 0 (omega arith))) in
      let once = spends first begun in
      let later : where_done (body first) (in_iterations price j body spent x (w +ℤ k) k) ≤ j * (price + most) =
      goes_on first (body first) _ _ (set_around w values around) (good first begun)
      (λ next f a. all_spend j (w +ℤ k) next f a (λ i below. subst (IsIn own) (next_from w k i) (h (suc i) (omega (arith, below))))) in
      omega (arith, once, later)

-- ---- a FOR that has an iteration at most, and whose examination is clear

record IsLooped (xs : List Name) (rows : Spans) (F : Found) (spans : Spans) : Type 0 where
  start : are_kept xs rows spans ≡ true
  end : Spans
  steps : ℕ
  is : F ≡ Clear end steps
  kept : are_kept xs rows end ≡ true

if_clear : (b : Bool) (F : Found) → Clears (if b then F else Leaves) → (b ≡ true) × Clears F
if_clear true F c = (refl, c)
if_clear false F c = absurd c

body_clear : (xs : List Name) (rows spans : Spans) (F : Found) (after : Spans) (cost : ℕ → ℕ) → are_kept xs rows spans ≡ true
    → Clears (elim F [ Clear end m ↦ if are_kept xs rows end then Clear after (cost m) else Leaves | Leaves ↦ Leaves | Traps ↦ Traps ]) → IsLooped xs rows F spans
body_clear xs rows spans (Clear end m) after cost k c =
    record { start = k; end = end; steps = m; is = refl; kept = (if_clear (are_kept xs rows end) (Clear after (cost m)) c).0 }
body_clear xs rows spans Leaves after cost k c = absurd c
body_clear xs rows spans Traps after cost k c = absurd c

looped_clear : (n : ℕ) (xs : List Name) (rows : Spans) (f : Spans → Found) (x : Name) (r s : Span) (k : ℤ) (spans : Spans) → Clears (looped (suc n) xs rows f x r s k spans)
    → IsLooped xs rows (f (changed x (λ b. taken r s k (suc n)) (reset xs rows spans))) spans
looped_clear n xs rows f x r s k spans c =
    let base : Spans = reset xs rows spans in
    let d = if_clear (are_kept xs rows spans) _ c in
    body_clear xs rows spans (f (changed x (λ b. taken r s k (suc n)) base)) (changed x (left_with r s k (suc n)) base) (λ m. 1 + suc n * (1 + m)) d.0 d.1

-- ---- a whole FOR

module _ (shape : Shape) (rows : Spans) (xs ys : List Name) (x : Name) (k : ℤ) (p : shape x ≡ None) (body : Values → Outcome) (spent : Values → ℕ) (price : ℕ)
    (f : Spans → Found) (w : Spans → ℕ) (rowed : (s : Spans) → Rowed shape rows s → FoundRowed shape rows (f s))
    (good : (s : Spans) (values : Values) → AreIn shape rows s values → OnClear (λ t n. Runs shape n t xs ys values (body values)) (f s))
    (spends : (s : Spans) (values : Values) → AreIn shape rows s values → Clears (f s) → spent values ≤ w s)
    (r s : Span) (u v : ℤ) (spans : Spans) (values : Values) (h : IsIn r u) (l : IsIn s v) (here : AreIn shape rows spans values) where
  -- the ranges with which an iteration begins
  abbrev inner : ℕ → Spans
  inner n = changed x (λ z. taken r s k n) (reset xs rows spans)

  some_spend : (n : ℕ) → most_iterations r s k ≡ suc n → IsLooped xs rows (f (inner (suc n))) spans
      → in_iterations price (iteration_count u v k) body spent x u k values ≤ iteration_count u v k * (price + w (inner (suc n)))
  some_spend n most d =
      let t : Taken r s k n u v = all_taken r s k n u v h l most in
      let from : Rowed shape rows (reset xs rows spans) = reset_rowed shape rows xs spans here.rowed in
      let start : Rowed shape rows (inner (suc n)) = changed_rowed shape rows x (λ c. taken r s k (suc n)) (reset xs rows spans) p from in
      let ends : Rowed shape rows d.end = subst (FoundRowed shape rows) d.is (rowed (inner (suc n)) start) in
      let lie : Lies (reset xs rows spans) values = reset_lies shape xs rows spans values d.start here.lies in
      all_spend shape rows (reset xs rows spans) d.end xs ys x (taken r s k (suc n)) d.steps k p from ends (reset_is shape xs rows spans) d.kept body spent price (w (inner (suc n)))
      (λ vs i. subst (OnClear (λ z c. Runs shape c z xs ys vs (body vs))) d.is (good (inner (suc n)) vs i))
      (λ vs i. spends (inner (suc n)) vs i (subst Clears (sym d.is) tt)) (iteration_count u v k) u values here.fits (λ y c. lie y) t.own

  pub loop_spends : (n : ℕ) → most_iterations r s k ≡ n → Clears (looped n xs rows f x r s k spans)
      → in_iterations price (iteration_count u v k) body spent x u k values ≤ n * (price + w (inner n))
  loop_spends zero most c = none (iteration_count u v k) (let few = iterations_most r s k u v h l in omega (arith, few, most)) where
    none : (j : ℕ) → j ≡ 0 → in_iterations price j body spent x u k values ≤ 0 * (price + w (inner zero))
    none zero z = omega arith
    none (suc j) z = absurd (omega (arith, z))
  loop_spends (suc n) most c =
      let few = iterations_most r s k u v h l in
      let times : iteration_count u v k * (price + w (inner (suc n))) ≤ suc n * (price + w (inner (suc n))) = mul-le-mul_right (price + w (inner (suc n))) (omega (arith, few, most)) in
      let spend = some_spend n most (looped_clear n xs rows f x r s k spans c) in
      omega (arith, times, spend)
