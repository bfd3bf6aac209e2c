-- The numbers of a FOR stay between its bounds.
use Rattle.std.proofs.Common.{◌≡◌, ℕ, zero, suc, ◌-◌, ◌*◌, ◌/◌, ◌<◌, ◌≤◌, ℤ, pos, negsuc, ◌+ℤ◌, ◌-ℤ◌, ◌*ℤ◌, ◌≤ℤ◌, unsigned_abs, int_lt, Bool, true, false, ◌&&◌, sym, ◌∙◌, ap, ap₂, subst, arith, ◌⊎◌, inl, inr}
use Rattle.std.specs.Prelude.{if◌then◌else◌}
use Rattle.std.proofs.Math.Nat.{mul-le-mul_right}
use Rattle.std.proofs.lemmas.Int.{ints, by_lt_z}
use Rattle.fb_model.specs.Language.{iteration_count}
use Rattle.fb_model.specs.Spans.{Span, span, joined}
use Rattle.fb_model.specs.Clear.{most_iterations, is_single, last_value, taken, may_skip, left_with}
use Rattle.fb_words.proofs.Types.{lt_true, lt_false, le_is}

pub last_is : (a k : ℤ) (n : ℕ) → 0 < n → last_value a k n ≡ a +ℤ pos (n - 1) *ℤ k
last_is a k zero h = absurd (omega (arith, h))
last_is a k (suc n) h = ap (λ m. a +ℤ pos m *ℤ k) (let e : n ≡ suc n - 1 = omega arith in e)

-- where there is a iteration, the bounds are in the step's order
pub some_up : (a b : ℤ) (n : ℕ) → 0 < iteration_count a b (pos n) → a ≤ℤ b
some_up a b zero h = absurd (omega (arith, h))
some_up a b (suc n) h = by_lt_z b a (λ lt. absurd (let e = rw (lt_true b a lt) at h in omega arith)) (λ le. le)

pub some_down : (a b : ℤ) (n : ℕ) → 0 < iteration_count a b (negsuc n) → b ≤ℤ a
some_down a b n h = by_lt_z a b (λ lt. absurd (let e = rw (lt_true a b lt) at h in omega arith)) (λ le. le)

up_to : (d n i : ℕ) → i < suc (d / suc n) → i * suc n ≤ d
up_to d n i h = let le : i ≤ d / suc n = omega arith in omega (arith, mul-le-mul_right (suc n) le)

-- a number between two others
pub record Between (a b v : ℤ) : Type 0 where
  pub least : a ≤ℤ v
  pub most : v ≤ℤ b

between_up : (a b : ℤ) (n i : ℕ) → i < iteration_count a b (pos (suc n)) → Between a b (a +ℤ pos i *ℤ pos (suc n))
between_up a b n i h =
    by_lt_z b a
    (λ lt. absurd (let e = rw (lt_true b a lt) at h in omega arith))
    (λ le.
    let e = rw (lt_false b a le) at h in
    let u = up_to (unsigned_abs (b -ℤ a)) n i e in
    let d : pos (unsigned_abs (b -ℤ a)) ≡ b -ℤ a = omega (arith, ints) in
    record { least = omega (arith, ints); most = omega (arith, ints) })

between_down : (a b : ℤ) (n i : ℕ) → i < iteration_count a b (negsuc n) → Between b a (a +ℤ pos i *ℤ negsuc n)
between_down a b n i h =
    by_lt_z a b
    (λ lt. absurd (let e = rw (lt_true a b lt) at h in omega arith))
    (λ le.
    let e = rw (lt_false a b le) at h in
    let u = up_to (unsigned_abs (b -ℤ a)) n i e in
    let d : pos (unsigned_abs (b -ℤ a)) ≡ a -ℤ b = omega (arith, ints) in
    record { least = omega (arith, ints); most = omega (arith, ints) })

-- the last number lies between two ends of the bounds' ranges
pub last_between : (r s : Span) (k : ℤ) (n : ℕ) → r.low ≤ℤ r.high → is_single r ≡ true → n ≡ most_iterations r s k → 0 < n
    → Between r.low s.high (last_value r.low k n) ⊎ Between s.low r.high (last_value r.low k n)
last_between r s (pos zero) n o e m h = absurd (omega (arith, m, h))
last_between r s (pos (suc j)) n o e m h = inl (subst (Between r.low s.high) (sym (last_is r.low (pos (suc j)) n h)) (between_up r.low s.high j (n - 1) (omega (arith, m, h))))
last_between r s (negsuc j) n o e m h =
    let same : r.high ≡ r.low = let l = le_is r.high r.low e in omega (arith, ints) in
    inr (subst (Between s.low r.high) (ap (λ a. a +ℤ pos (n - 1) *ℤ negsuc j) same ∙ sym (last_is r.low (negsuc j) n h)) (between_down r.high s.low j (n - 1) (omega (arith, m, h))))

-- where there is a iteration, so are the ends
pub ends_up : (r s : Span) (k : ℤ) (n : ℕ) → n ≡ most_iterations r s k → 0 < n → int_lt (pos 0) k ≡ true → r.low ≤ℤ s.high
ends_up r s (pos j) n m h up = some_up r.low s.high j (omega (arith, m, h))
ends_up r s (negsuc j) n m h up = cc

pub ends_down : (r s : Span) (k : ℤ) (n : ℕ) → n ≡ most_iterations r s k → 0 < n → int_lt (pos 0) k ≡ false → s.low ≤ℤ r.high
ends_down r s (pos zero) n m h up = absurd (omega (arith, m, h))
ends_down r s (pos (suc j)) n m h up = let e = lt_true (pos 0) (pos (suc j)) (omega (arith, ints)) in cc
ends_down r s (negsuc j) n m h up = some_down r.high s.low j (omega (arith, m, h))

-- ---- what is said of the variable, case by case

module _ (r s : Span) (k : ℤ) (n : ℕ) where
  pub taken_known : (is_single r && is_single s) ≡ true → taken r s k n ≡ joined (span r.low r.low) (span (last_value r.low k n) (last_value r.low k n))
  taken_known e = ap (λ c. if c then joined (span r.low r.low) (span (last_value r.low k n) (last_value r.low k n)) else if int_lt (pos 0) k then span r.low s.high else span s.low r.high) e

  pub taken_by : (b : Bool) → (is_single r && is_single s) ≡ false → int_lt (pos 0) k ≡ b → taken r s k n ≡ (if b then span r.low s.high else span s.low r.high)
  taken_by b e f = ap₂ (λ c d. if c then joined (span r.low r.low) (span (last_value r.low k n) (last_value r.low k n)) else if d then span r.low s.high else span s.low r.high) e f

  pub left_known : (before : Span) → (is_single r && is_single s) ≡ true → left_with r s k n before ≡ span (last_value r.low k n) (last_value r.low k n)
  left_known before e = ap (λ c. if c then span (last_value r.low k n) (last_value r.low k n) else if may_skip r s k then joined (taken r s k n) before else taken r s k n) e

  pub left_by : (b : Bool) (before : Span) → (is_single r && is_single s) ≡ false → may_skip r s k ≡ b → left_with r s k n before ≡ (if b then joined (taken r s k n) before else taken r s k n)
  left_by b before e f = ap₂ (λ c d. if c then span (last_value r.low k n) (last_value r.low k n) else if d then joined (taken r s k n) before else taken r s k n) e f
