-- The numbers that a FOR takes.
use Rattle.std.proofs.Common.{◌≡◌, ℕ, zero, suc, ◌*◌, ◌/◌, ◌<◌, ◌≤◌, ℤ, pos, negsuc, ◌+ℤ◌, ◌-ℤ◌, ◌*ℤ◌, ◌≤ℤ◌, unsigned_abs, int_lt, Bool, true, false, ◌&&◌, refl, sym, ◌∙◌, ap, ap₂, subst, arith}
use Rattle.std.specs.Prelude.{if◌then◌else◌}
use Rattle.std.proofs.Math.Nat.{mul-le-mul_right}
use Rattle.std.proofs.lemmas.Int.{ints, clamps, by_lt_z}
use Rattle.fb_model.specs.Language.{iteration_count}
use Rattle.fb_model.specs.Spans.{Span, span, joined}
use Rattle.fb_model.specs.Clear.{most_iterations, is_single, last_value, taken, may_skip, left_with}
use Rattle.fb_model.specs.Shapes.{IsIn}
use Rattle.fb_model.specs.Counts.{Taken}
use Rattle.fb_words.proofs.Types.{lt_true, lt_false, le_is}
use Rattle.fb_model.proofs.Results.{div_up, joined_left, joined_right, and_left, and_right}
use Rattle.fb_model.proofs.Narrowing.{not_lt_is}

-- ---- iterations

up_to : (d n i : ℕ) → i < suc (d / suc n) → i * suc n ≤ d
up_to d n i h = let le : i ≤ d / suc n = omega arith in omega (arith, mul-le-mul_right (suc n) le)

-- the taken numbers of an upward FOR lie between its bounds
pub between_up : (a b : ℤ) (n i : ℕ) → i < iteration_count a b (pos (suc n)) → IsIn (span a b) (a +ℤ pos i *ℤ pos (suc n))
between_up a b n i h =
    by_lt_z b a
    (λ lt. absurd (let e = rw (lt_true b a lt) at h in omega arith))
    (λ le.
    let e = rw (lt_false b a le) at h in
    let u = up_to (unsigned_abs (b -ℤ a)) n i e in
    let d : pos (unsigned_abs (b -ℤ a)) ≡ b -ℤ a = omega (arith, ints) in
    record { least = omega (arith, ints); most = omega (arith, ints) })

-- and of a downward one
pub between_down : (a b : ℤ) (n i : ℕ) → i < iteration_count a b (negsuc n) → IsIn (span b a) (a +ℤ pos i *ℤ negsuc n)
between_down a b n i h =
    by_lt_z a b
    (λ lt. absurd (let e = rw (lt_true a b lt) at h in omega arith))
    (λ le.
    let e = rw (lt_false a b le) at h in
    let u = up_to (unsigned_abs (b -ℤ a)) n i e in
    let d : pos (unsigned_abs (b -ℤ a)) ≡ a -ℤ b = omega (arith, ints) in
    record { least = omega (arith, ints); most = omega (arith, ints) })

-- bounds further apart give no fewer iterations
more_up : (a b c d : ℤ) (n : ℕ) → c ≤ℤ a → b ≤ℤ d → iteration_count a b (pos (suc n)) ≤ iteration_count c d (pos (suc n))
more_up a b c d n h k =
    by_lt_z b a
    (λ lt. rw (lt_true b a lt) (omega arith))
    (λ le. let l : c ≤ℤ d = omega (arith, ints) in rw (lt_false b a le, lt_false d c l) (let q = div_up (unsigned_abs (b -ℤ a)) (unsigned_abs (d -ℤ c)) n (omega (arith, ints)) in omega arith))

more_down : (a b c d : ℤ) (n : ℕ) → a ≤ℤ c → d ≤ℤ b → iteration_count a b (negsuc n) ≤ iteration_count c d (negsuc n)
more_down a b c d n h k =
    by_lt_z a b
    (λ lt. rw (lt_true a b lt) (omega arith))
    (λ le. let l : d ≤ℤ c = omega (arith, ints) in rw (lt_false a b le, lt_false c d l) (let q = div_up (unsigned_abs (b -ℤ a)) (unsigned_abs (d -ℤ c)) n (omega (arith, ints)) in omega arith))

-- a FOR takes no more iterations than its bounds' ranges allow
pub iterations_most : (r s : Span) (k u v : ℤ) → IsIn r u → IsIn s v → iteration_count u v k ≤ most_iterations r s k
iterations_most r s (pos zero) u v h l = omega arith
iterations_most r s (pos (suc n)) u v h l = more_up u v r.low s.high n h.least l.most
iterations_most r s (negsuc n) u v h l = more_down u v r.high s.low n h.most l.least

-- ---- where both bounds are known

alone : (r : Span) (u : ℤ) → IsIn r u → is_single r ≡ true → (u ≡ r.low) × (u ≡ r.high)
alone r u h e = let p = le_is r.high r.low e in (omega (arith, ints), omega (arith, ints))

exactly : (r s : Span) (k u v : ℤ) → (u ≡ r.low) × (u ≡ r.high) → (v ≡ s.low) × (v ≡ s.high) → iteration_count u v k ≡ most_iterations r s k
exactly r s (pos n) u v h l = ap₂ (λ a b. iteration_count a b (pos n)) h.0 l.1
exactly r s (negsuc n) u v h l = ap₂ (λ a b. iteration_count a b (negsuc n)) h.1 l.0

taken_in : (a k : ℤ) (i n : ℕ) → i ≤ n → IsIn (joined (span a a) (span (a +ℤ pos n *ℤ k) (a +ℤ pos n *ℤ k))) (a +ℤ pos i *ℤ k)
taken_in a (pos m) i n h = let l : i * m ≤ n * m = mul-le-mul_right m h in record { least = omega (arith, ints, clamps); most = omega (arith, ints, clamps) }
taken_in a (negsuc m) i n h = let l : i * suc m ≤ n * suc m = mul-le-mul_right (suc m) h in record { least = omega (arith, ints, clamps); most = omega (arith, ints, clamps) }

-- ---- what is said of a FOR's variable

known : (r s : Span) (k : ℤ) (n : ℕ) (u v : ℤ) → IsIn r u → IsIn s v → most_iterations r s k ≡ suc n → (is_single r && is_single s) ≡ true → Taken r s k n u v
known r s k n u v h l m e =
    let a = alone r u h (and_left _ _ e) in
    let b = alone s v l (and_right (is_single r) _ e) in
    let c : iteration_count u v k ≡ suc n = exactly r s k u v a b ∙ m in
    record {
      own = λ i below. rw (e, a.0) (taken_in r.low k i n (omega (arith, below, c)));
      last = λ j before is. let same : j ≡ n = omega (arith, is, c) in rw (e, a.0, same) (record { least = omega (arith, ints); most = omega (arith, ints) });
      none = λ before w is lies. absurd (omega (arith, is, c));
    }

-- the range for afterwards, where a taken number or what was before lies in it
left_taken : (own before : Span) (w : ℤ) (b : Bool) → IsIn own w → IsIn (if b then joined own before else own) w
left_taken own before w true h = joined_left own before w h
left_taken own before w false h = h

left_before : (own before : Span) (w : ℤ) (b c : Bool) → b ≡ c → (b ≡ false → ⊥) → IsIn before w → IsIn (if b then joined own before else own) w
left_before own before w true c e n h = joined_right own before w h
left_before own before w false c e n h = absurd (n refl)

is_up : (n : ℕ) → int_lt (pos 0) (pos (suc n)) ≡ true
is_up n = lt_true (pos 0) (pos (suc n)) (omega (arith, ints))

some_up : (r s : Span) (n : ℕ) (u v : ℤ) → IsIn r u → IsIn s v → iteration_count u v (pos (suc n)) ≡ 0 → may_skip r s (pos (suc n)) ≡ false → ⊥
some_up r s n u v h l z e =
    let f : int_lt s.low r.high ≡ false = ap (λ b. if b then int_lt s.low r.high else int_lt r.low s.high) (sym (is_up n)) ∙ e in
    let p : r.high ≤ℤ s.low = not_lt_is s.low r.high f in
    let q : u ≤ℤ v = omega (arith, ints) in
    let t = rw (lt_false v u q) at z in
    omega arith

some_down : (r s : Span) (n : ℕ) (u v : ℤ) → IsIn r u → IsIn s v → iteration_count u v (negsuc n) ≡ 0 → may_skip r s (negsuc n) ≡ false → ⊥
some_down r s n u v h l z e =
    let p : s.high ≤ℤ r.low = not_lt_is r.low s.high e in
    let q : v ≤ℤ u = omega (arith, ints) in
    let t = rw (lt_false u v q) at z in
    omega arith

module _ (r s : Span) (k : ℤ) (n : ℕ) (u v : ℤ) (e : (is_single r && is_single s) ≡ false) where
  left_many : (before : Span) → left_with r s k (suc n) before ≡ (if may_skip r s k then joined (taken r s k (suc n)) before else taken r s k (suc n))
  left_many before = ap (λ b. if b then span (last_value r.low k (suc n)) (last_value r.low k (suc n)) else if may_skip r s k then joined (taken r s k (suc n)) before else taken r s k (suc n)) e

  taken_many : (b : Bool) → int_lt (pos 0) k ≡ b → taken r s k (suc n) ≡ (if b then span r.low s.high else span s.low r.high)
  taken_many b f = ap₂ (λ c d. if c then joined (span r.low r.low) (span (last_value r.low k (suc n)) (last_value r.low k (suc n))) else if d then span r.low s.high else span s.low r.high) e f

  many : ((i : ℕ) → i < iteration_count u v k → IsIn (taken r s k (suc n)) (u +ℤ pos i *ℤ k)) → (iteration_count u v k ≡ 0 → may_skip r s k ≡ false → ⊥) → Taken r s k n u v
  many own some =
      record {
        own = own;
        last = λ j before is. subst (λ t. IsIn t (u +ℤ pos j *ℤ k)) (sym (left_many before)) (left_taken (taken r s k (suc n)) before _ (may_skip r s k) (own j (omega (arith, is))));
        none = λ before w is lies. subst (λ t. IsIn t w) (sym (left_many before)) (left_before (taken r s k (suc n)) before w (may_skip r s k) _ refl (some is) lies);
      }

upward : (r s : Span) (m n : ℕ) (u v : ℤ) → IsIn r u → IsIn s v → (is_single r && is_single s) ≡ false → Taken r s (pos (suc m)) n u v
upward r s m n u v h l e =
    many r s (pos (suc m)) n u v e
    (λ i below.
    let b = between_up u v m i below in
    subst (λ t. IsIn t (u +ℤ pos i *ℤ pos (suc m))) (sym (taken_many r s (pos (suc m)) n u v e true (is_up m))) (record { least = omega (arith, ints); most = omega (arith, ints) }))
    (λ z f. some_up r s m u v h l z f)

downward : (r s : Span) (m n : ℕ) (u v : ℤ) → IsIn r u → IsIn s v → (is_single r && is_single s) ≡ false → Taken r s (negsuc m) n u v
downward r s m n u v h l e =
    many r s (negsuc m) n u v e
    (λ i below.
    let b = between_down u v m i below in
    subst (λ t. IsIn t (u +ℤ pos i *ℤ negsuc m)) (sym (taken_many r s (negsuc m) n u v e false refl)) (record { least = omega (arith, ints); most = omega (arith, ints) }))
    (λ z f. some_down r s m u v h l z f)

pub all_taken : (r s : Span) (k : ℤ) (n : ℕ) (u v : ℤ) → IsIn r u → IsIn s v → most_iterations r s k ≡ suc n → Taken r s k n u v
all_taken r s k n u v h l m = by (is_single r && is_single s) refl where
  by : (b : Bool) → (is_single r && is_single s) ≡ b → Taken r s k n u v
  by true e = known r s k n u v h l m e
  by false e = spread k m
    where
      spread : (z : ℤ) → most_iterations r s z ≡ suc n → Taken r s z n u v
      spread (pos zero) t = absurd (omega (arith, t))
      spread (pos (suc c)) t = upward r s c n u v h l e
      spread (negsuc c) t = downward r s c n u v h l e
