-- How many iterations a FOR takes: up to the last number that is not past its last value.
use Rattle.std.proofs.Common.{◌∷◌, map, sym, ap, ap₂, ◌∙◌, ◌≡◌, ◌≢◌, ℕ, zero, suc, ◌+◌, ◌*◌, ◌/◌, ◌<◌, ◌≤◌, inl, inr, ℤ, pos, negsuc, ◌+ℤ◌, ◌-ℤ◌, ◌*ℤ◌, ◌<ℤ◌, unsigned_abs, refl, arith}
use Rattle.std.proofs.Math.Nat.{mul-le-mul_right, lt-div-mul-add}
use Rattle.std.proofs.lemmas.Bool.{cases_order}
use Rattle.std.proofs.lemmas.Int.{ints, by_lt_z}
use Rattle.std.specs.List.{range_with_len}
use Rattle.fb_model.specs.Names.{Name}
use Rattle.fb_model.specs.Values.{Values, One}
use Rattle.fb_model.specs.Language.{Outcome, Done, Trap, more, after, setting, iteration_count, iterations}
use Rattle.fb_model.specs.Counts.{Ends, numbers, with_each}
use Rattle.fb_words.proofs.Types.{lt_false}
use Rattle.fb_model.proofs.Iterations.{between_up, between_down}

-- what is further on than the last whole step is more than the way
further : (d n i : ℕ) → suc (d / suc n) ≤ i → d < i * suc n
further d n i h =
    let a : d < d / suc n * suc n + suc n = lt-div-mul-add (omega arith) in
    let b : suc (d / suc n) * suc n ≤ i * suc n = mul-le-mul_right (suc n) h in
    omega (arith, a, b)

past_up : (u v : ℤ) (n i : ℕ) → iteration_count u v (pos (suc n)) ≤ i → v <ℤ (u +ℤ pos i *ℤ pos (suc n))
past_up u v n i h =
    by_lt_z v u
    (λ lt. omega (arith, ints))
    (λ le.
    let e = rw (lt_false v u le) at h in
    let f = further (unsigned_abs (v -ℤ u)) n i e in
    let d : pos (unsigned_abs (v -ℤ u)) ≡ v -ℤ u = omega (arith, ints) in
    omega (arith, ints))

past_down : (u v : ℤ) (n i : ℕ) → iteration_count u v (negsuc n) ≤ i → (u +ℤ pos i *ℤ negsuc n) <ℤ v
past_down u v n i h =
    by_lt_z u v
    (λ lt. omega (arith, ints))
    (λ le.
    let e = rw (lt_false u v le) at h in
    let f = further (unsigned_abs (v -ℤ u)) n i e in
    let d : pos (unsigned_abs (v -ℤ u)) ≡ u -ℤ v = omega (arith, ints) in
    omega (arith, ints))

pub ends : (u v k : ℤ) → k ≢ pos 0 → Ends u v k (iteration_count u v k)
ends u v (pos zero) h = absurd (h refl)
ends u v (pos (suc n)) h =
    record {
      within = λ i below past. let b = between_up u v n i below in absurd (omega (arith, ints, past, b.most));
      beyond = λ i far. past_up u v n i far;
    }
ends u v (negsuc n) h =
    record {
      within = λ i below past. let b = between_down u v n i below in absurd (omega (arith, ints, past, b.least));
      beyond = λ i far. past_down u v n i far;
    }

-- two counts that end so are one
same_end : (u v k : ℤ) (n m : ℕ) → Ends u v k n → Ends u v k m → n ≡ m
same_end u v k n m a b = elim (cases_order n m) [
  | inl e ↦ e
  | inr q ↦ elim q [ inl lt ↦ absurd (b.within n lt (a.beyond n (omega arith))) | inr lt ↦ absurd (a.within m lt (b.beyond m (omega arith))) ]
]

pub only : (u v k : ℤ) (n : ℕ) → Ends u v k n → n ≡ iteration_count u v k
only u v (pos zero) n h = absurd (h.beyond n (omega arith))
only u v (pos (suc m)) n h = same_end u v (pos (suc m)) n (iteration_count u v (pos (suc m))) h (ends u v (pos (suc m)) (λ e. absurd cc))
only u v (negsuc m) n h = same_end u v (negsuc m) n (iteration_count u v (negsuc m)) h (ends u v (negsuc m) (λ e. absurd cc))

pub still : (u v : ℤ) → iteration_count u v (pos 0) ≡ 0
still u v = refl

-- ---- a iteration for each number

-- the numbers from the next one on
next_numbers : (u k : ℤ) (a n : ℕ) → map (λ i. u +ℤ pos i *ℤ k) (range_with_len (a + 1) n) ≡ map (λ i. (u +ℤ k) +ℤ pos i *ℤ k) (range_with_len a n)
next_numbers u k a zero = refl
next_numbers u k a (suc n) = let e : u +ℤ pos (a + 1) *ℤ k ≡ (u +ℤ k) +ℤ pos a *ℤ k = omega (arith, ints) in ap₂ (λ v vs. v ∷ vs) e (next_numbers u k (a + 1) n)

more_numbers : (u k : ℤ) (n : ℕ) → numbers u k (suc n) ≡ u ∷ numbers (u +ℤ k) k n
more_numbers u k n = let e : u +ℤ pos 0 *ℤ k ≡ u = omega (arith, ints) in ap₂ (λ v vs. v ∷ vs) e (next_numbers u k 0 n)

-- what goes on alike from all values ends alike
after_alike : (o : Outcome) (f g : Values → Outcome) → ((values : Values) → f values ≡ g values) → after o f ≡ after o g
after_alike (Done values n) f g h = ap (more n) (h values)
after_alike Trap f g h = refl

pub each_number : (body : Values → Outcome) (x : Name) (u k : ℤ) (n : ℕ) (values : Values) → iterations n body x u k values ≡ with_each body x (numbers u k n) values
each_number body x u k zero values = refl
each_number body x u k (suc n) values =
    ap (more 1) (after_alike (body (setting values x (One u))) (iterations n body x (u +ℤ k) k) (with_each body x (numbers (u +ℤ k) k n)) (each_number body x (u +ℤ k) k n))
    ∙ ap (λ vs. with_each body x vs values) (sym (more_numbers u k n))
