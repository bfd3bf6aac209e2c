-- Runs of FOR.
use Rattle.std.proofs.Common.{◌≡◌, ℕ, zero, suc, ◌+◌, ◌*◌, ◌≤◌, ℤ, pos, ◌+ℤ◌, ◌*ℤ◌, Bool, true, false, List, ◌∷◌, Some, None, refl, sym, ◌∙◌, ap, subst, arith}
use Rattle.std.specs.Prelude.{if◌then◌else◌}
use Rattle.std.specs.List.{AllByRecursion}
use Rattle.std.specs.Str.{bytes_eq}
use Rattle.std.proofs.lemmas.Int.{ints}
use Rattle.std.proofs.Math.Nat.{mul-le-mul_right}
use Rattle.std.proofs.lemmas.Bool.{eqb-true}
use Rattle.fb_model.specs.Names.{Name, is_in}
use Rattle.fb_model.specs.Values.{One, Values, numbers_of, number_of}
use Rattle.fb_model.specs.TypedText.{Term, constant, read, part, single, double}
use Rattle.fb_model.specs.Language.{Outcome, Done, Trap, more, after, setting, value_of, iteration_count, iterations}
use Rattle.fb_model.proofs.Lists.{same_name}
use Rattle.fb_model.specs.Spans.{Span}
use Rattle.fb_model.specs.Clear.{Spans, changed, Found, Clear, Leaves, is_idle, are_kept, reset, most_iterations, taken, left_with, looped}
use Rattle.fb_model.specs.Shapes.{IsIn, Lies, Shape, HasShape}
use Rattle.fb_model.specs.Counts.{Taken}
use Rattle.fb_model.proofs.Names.{at_itself, not_later}
use Rattle.fb_model.proofs.Narrowing.{changed_lies}
use Rattle.fb_model.proofs.Iterations.{iterations_most, all_taken}
use Rattle.fb_model.proofs.Rowed.{OnClear, on_if, on_body, Rowed, FoundRowed, changed_rowed, reset_rowed}
use Rattle.fb_model.proofs.Runs.{Runs, Good, weaker, one_more, set_fits, set_lies, set_same, reset_lies, reset_is, back}

next_from : (w k : ℤ) (i : ℕ) → w +ℤ pos (suc i) *ℤ k ≡ (w +ℤ k) +ℤ pos i *ℤ k
next_from w k i = omega (arith, ints)

first_from : (w k : ℤ) → w +ℤ pos 0 *ℤ k ≡ w
first_from w k = omega (arith, ints)

-- ---- iterations, whose body assigns xs and writes ys

module _ (shape : Shape) (rows base end : Spans) (xs ys : List Name) (x : Name) (own : Span) (m : ℕ) (k : ℤ) (body : Values → Outcome) (p : shape x ≡ None) (px : is_in x xs ≡ false)
    (b : Rowed shape rows base) (e : Rowed shape rows end) (r : (y : Name) → is_in y xs ≡ true → base y ≡ rows y) (kept : are_kept xs rows end ≡ true)
    (good : (values : Values) → HasShape shape values → Lies (changed x (λ z. own) base) values → Runs shape m end xs ys values (body values)) where
  -- the variables besides x lie where they lay before
  abbrev Around : Values → Type 0
  Around values = (y : Name) → bytes_eq x y ≡ false → AllByRecursion (IsIn (base y)) (numbers_of (values y))

  put_lies : (f : Span → Span) (w : ℤ) (values : Values) → values x ≡ One w → IsIn (f (base x)) w → Around values → Lies (changed x f base) values
  put_lies f w values is h around y = by (bytes_eq x y) refl where
    here : AllByRecursion (IsIn (f (base x))) (numbers_of (values x))
    here = subst (λ v. AllByRecursion (IsIn (f (base x))) (numbers_of v)) (sym is) (h, tt)

    by : (c : Bool) → bytes_eq x y ≡ c → AllByRecursion (IsIn (if c then f (base y) else base y)) (numbers_of (values y))
    by true s = subst (λ z. AllByRecursion (IsIn (f (base z))) (numbers_of (values z))) (same_name x y s) here
    by false s = around y s

  -- one iteration with w, and then what comes after it
  one_iteration : (n : ℕ) (t : Spans) (w : ℤ) (values : Values) (rest : Values → Outcome) → HasShape shape values → Around values → IsIn own w
      → ((next : Values) → HasShape shape next → Around next → next x ≡ One w → Runs shape n t (x ∷ xs) (x ∷ ys) next (rest next)) → Runs shape (1 + (m + n)) t (x ∷ xs) (x ∷ ys) values (more 1 (after (body (setting values x (One w))) rest))
  one_iteration n t w values rest fit around h go = by (body first) (good first (set_fits shape x w values p fit) (set_lies shape x (λ z. own) w base values h around)) where
    first : Values
    first = setting values x (One w)

    ends : (c : ℕ) (middle : Values) (o : Outcome) → Good shape m end xs ys first middle c → Runs shape n t (x ∷ xs) (x ∷ ys) middle o → Runs shape (1 + (m + n)) t (x ∷ xs) (x ∷ ys) values (more 1 (more c o))
    ends c middle Trap g l = l
    ends c middle (Done last d) g l =
        record {
          steps = omega (arith, g.steps, l.steps);
          lies = l.lies;
          fits = l.fits;
          still = λ y q f. l.still y q f ∙ (g.still y q (not_later x y xs f) ∙ set_same shape x (One w) values y xs f);
          same = λ y f. l.same y f ∙ (g.same y (not_later x y ys f) ∙ set_same shape x (One w) values y ys f);
        }

    by : (o : Outcome) → Runs shape m end xs ys first o → Runs shape (1 + (m + n)) t (x ∷ xs) (x ∷ ys) values (more 1 (after o rest))
    by Trap g = g
    by (Done middle c) g =
        ends c middle (rest middle) g
        (go middle g.fits
        (λ y f. back shape xs rows base end first middle b e r kept g.lies g.still y (subst (λ v. AllByRecursion (IsIn (base y)) (numbers_of v)) (sym (ap (λ z. if z then One w else values y) f)) (around y f)))
        (g.still x p px ∙ at_itself x (One w) (values x)))

  all_iterations : (j : ℕ) (w : ℤ) (values : Values) (f : Span → Span) → HasShape shape values → Around values → ((i : ℕ) → i ≤ j → IsIn own (w +ℤ pos i *ℤ k)) → IsIn (f (base x)) (w +ℤ pos j *ℤ k)
      → Runs shape (suc j * (1 + m)) (changed x f base) (x ∷ xs) (x ∷ ys) values (iterations (suc j) body x w k values)
  all_iterations zero w values f fit around h l =
      weaker shape (1 + (m + 0)) (suc zero * (1 + m)) (changed x f base) (changed x f base) (x ∷ xs) (x ∷ xs) (x ∷ ys) (x ∷ ys) values (iterations (suc zero) body x w k values) (omega arith) (λ y v i. i) (λ y i. i) (λ y i. i)
      (one_iteration 0 (changed x f base) w values (iterations zero body x (w +ℤ k) k) fit around (subst (IsIn own) (first_from w k) (h 0 (omega arith)))
      (λ next g a is. record { steps = omega arith; lies = put_lies f w next is (subst (IsIn (f (base x))) (first_from w k) l) a; fits = g; still = λ y q i. refl; same = λ y i. refl }))
  all_iterations (suc j) w values f fit around h l =
      weaker shape (1 + (m + suc j * (1 + m))) (suc (suc j) * (1 + m)) (changed x f base) (changed x f base) (x ∷ xs) (x ∷ xs) (x ∷ ys) (x ∷ ys) values (iterations (suc (suc j)) body x w k values) (omega arith) (λ y v i. i) (λ y i. i) (λ y i. i)
      (one_iteration (suc j * (1 + m)) (changed x f base) w values (iterations (suc j) body x (w +ℤ k) k) fit around (subst (IsIn own) (first_from w k) (h 0 (omega arith)))
      (λ next g a is. all_iterations j (w +ℤ k) next f g a (λ i below. subst (IsIn own) (next_from w k i) (h (suc i) (omega (arith, below)))) (subst (IsIn (f (base x))) (next_from w k j) l)))

-- a FOR is a step, and then its iterations
more_iterations : (shape : Shape) (j n m : ℕ) (t : Spans) (xs ys : List Name) (values : Values) (o : Outcome) → suc j ≤ suc n → Runs shape (suc j * (1 + m)) t xs ys values o → Runs shape (1 + suc n * (1 + m)) t xs ys values (more 1 o)
more_iterations shape j n m t xs ys values o few g =
    let l : suc j * (1 + m) ≤ suc n * (1 + m) = mul-le-mul_right (1 + m) few in
    weaker shape (1 + suc j * (1 + m)) (1 + suc n * (1 + m)) t t xs xs ys ys values (more 1 o) (omega (arith, l)) (λ y v i. i) (λ y i. i) (λ y i. i) (one_more shape 1 (suc j * (1 + m)) t xs ys values o g)

-- ---- a whole FOR

module _ (shape : Shape) (rows : Spans) (xs ys : List Name) (x : Name) (k : ℤ) (body : Values → Outcome) where
  -- no iteration changes nothing
  no_iteration : (j : ℕ) (u : ℤ) (n : ℕ) (s : Spans) (values : Values) → j ≡ 0 → 1 ≤ n → HasShape shape values → Lies s values → Runs shape n s (x ∷ xs) (x ∷ ys) values (more 1 (iterations j body x u k values))
  no_iteration zero u n s values z l fit lie = record { steps = omega (arith, l); lies = lie; fits = fit; still = λ y p e. refl; same = λ y e. refl }
  no_iteration (suc j) u n s values z l fit lie = absurd (omega (arith, z))

  -- and assigns not even its variable
  pub unassigned : (j : ℕ) (u : ℤ) (n : ℕ) (s : Spans) (zs ws : List Name) (values : Values) → j ≡ 0 → Runs shape n s zs ws values (more 1 (iterations j body x u k values)) → Runs shape n s xs ws values (more 1 (iterations j body x u k values))
  unassigned zero u n s zs ws values z g = record { steps = g.steps; lies = g.lies; fits = g.fits; still = λ y p e. refl; same = g.same }
  unassigned (suc j) u n s zs ws values z g = absurd (omega (arith, z))

  module _ (f : Spans → Found) (p : shape x ≡ None) (px : is_in x xs ≡ false) (rowed : (s : Spans) → Rowed shape rows s → FoundRowed shape rows (f s))
      (good : (s : Spans) (values : Values) → Rowed shape rows s → HasShape shape values → Lies s values → OnClear (λ t n. Runs shape n t xs ys values (body values)) (f s))
      (r s : Span) (u v : ℤ) (spans : Spans) (values : Values) (h : IsIn r u) (l : IsIn s v) (b : Rowed shape rows spans) (fit : HasShape shape values) (lie : Lies spans values) where
    -- from the range of the body's end
    some_iterations : (n : ℕ) (e : Spans) (m j : ℕ) → most_iterations r s k ≡ suc n → iteration_count u v k ≡ j → f (changed x (λ z. taken r s k (suc n)) (reset xs rows spans)) ≡ Clear e m → are_kept xs rows spans ≡ true → are_kept xs rows e ≡ true
        → Runs shape (1 + suc n * (1 + m)) (changed x (left_with r s k (suc n)) (reset xs rows spans)) (x ∷ xs) (x ∷ ys) values (more 1 (iterations j body x u k values))
    some_iterations n e m zero most z is kept held =
        let base : Spans = reset xs rows spans in
        let t : Taken r s k n u v = all_taken r s k n u v h l most in
        no_iteration zero u (1 + suc n * (1 + m)) (changed x (left_with r s k (suc n)) base) values refl (omega arith) fit
        (changed_lies shape values fit x (left_with r s k (suc n)) base p (reset_lies shape xs rows spans values kept lie) (λ a i. t.none a (number_of (values x)) z i))
    some_iterations n e m (suc j) most z is kept held =
        let base : Spans = reset xs rows spans in
        let own : Span = taken r s k (suc n) in
        let t : Taken r s k n u v = all_taken r s k n u v h l most in
        let start : Rowed shape rows (changed x (λ c. own) base) = changed_rowed shape rows x (λ c. own) base p (reset_rowed shape rows xs spans b) in
        let ends : Rowed shape rows e = subst (FoundRowed shape rows) is (rowed (changed x (λ c. own) base) start) in
        let few : suc j ≤ suc n = omega (arith, iterations_most r s k u v h l, z, most) in
        let from : Lies base values = reset_lies shape xs rows spans values kept lie in
        let g = all_iterations shape rows base e xs ys x own m k body p px (reset_rowed shape rows xs spans b) ends (reset_is shape xs rows spans) held
        (λ vs i q. subst (OnClear (λ d c. Runs shape c d xs ys vs (body vs))) is (good (changed x (λ c. own) base) vs start i q)) j u values (left_with r s k (suc n)) fit (λ y c. from y)
        (λ i below. t.own i (omega (arith, below, z))) (t.last j (base x) z) in
        more_iterations shape j n m (changed x (left_with r s k (suc n)) base) (x ∷ xs) (x ∷ ys) values (iterations (suc j) body x u k values) few g

    pub loop_runs : (n : ℕ) → most_iterations r s k ≡ n → OnClear (λ t m. Runs shape m t (x ∷ xs) (x ∷ ys) values (more 1 (iterations (iteration_count u v k) body x u k values))) (looped n xs rows f x r s k spans)
    loop_runs zero most = no_iteration (iteration_count u v k) u 1 spans values (omega (arith, iterations_most r s k u v h l, most)) (omega arith) fit lie
    loop_runs (suc n) most =
        on_if (are_kept xs rows spans) _ Leaves (λ t m. Runs shape m t (x ∷ xs) (x ∷ ys) values (more 1 (iterations (iteration_count u v k) body x u k values)))
        (λ kept. on_body (f (changed x (λ z. taken r s k (suc n)) (reset xs rows spans))) xs rows (λ e m. changed x (left_with r s k (suc n)) (reset xs rows spans)) (λ m. 1 + suc n * (1 + m))
        (λ t m. Runs shape m t (x ∷ xs) (x ∷ ys) values (more 1 (iterations (iteration_count u v k) body x u k values))) (λ e m is held. some_iterations n e m (iteration_count u v k) most refl is kept held))
        (λ a. tt)

-- a FOR that stands there without a iteration has none
pub idle_none : (plain : Bool) (e g : Term) (k : ℤ) (values : Values) (u v : ℤ) → is_idle plain e g k ≡ true → value_of e values ≡ Some u → value_of g values ≡ Some v → iteration_count u v k ≡ 0
idle_none true (constant a) (constant b) k values u v i p q =
    let s : a ≡ u = cc in
    let t : b ≡ v = cc in
    subst (λ c. iteration_count c v k ≡ 0) s (subst (λ c. iteration_count a c k ≡ 0) t (eqb-true (iteration_count a b k) 0 i))
idle_none true (constant a) (read y) k values u v i p q = cc
idle_none true (constant a) (part y low high j) k values u v i p q = cc
idle_none true (constant a) (single f c j) k values u v i p q = cc
idle_none true (constant a) (double f c j l) k values u v i p q = cc
idle_none true (read y) g k values u v i p q = cc
idle_none true (part y low high j) g k values u v i p q = cc
idle_none true (single f c j) g k values u v i p q = cc
idle_none true (double f c j l) g k values u v i p q = cc
idle_none false e g k values u v i p q = cc
