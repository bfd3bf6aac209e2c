-- Runs in pieces, as the loops of the program make them.
use Rattle.std.proofs.Common.{◌≡◌, ℕ, zero, suc, ◌+◌, ◌≤◌, ℤ, pos, ◌+ℤ◌, ◌*ℤ◌, ◌≤ℤ◌, int_le, ◌&&◌, Bool, true, false, Option, Some, refl, sym, ◌∙◌, ap, subst, arith, add_assoc, zero-add}
use Rattle.std.specs.Prelude.{if◌then◌else◌}
use Rattle.std.proofs.lemmas.Int.{ints}
use Rattle.fb_words.proofs.Types.{le_is}
use Rattle.fb_model.specs.Names.{Name}
use Rattle.fb_model.specs.Values.{One, Values}
use Rattle.fb_model.specs.Language.{Outcome, Done, Trap, more, after, with_value, setting, setting_part, iteration_count, iterations}
use Rattle.st_exec.specs.Runs.{EndsWithin}

more_zero : (o : Outcome) → more 0 o ≡ o
more_zero (Done values n) = ap (Done values) (zero-add n)
more_zero Trap = refl

more_more : (m n : ℕ) (o : Outcome) → more m (more n o) ≡ more (m + n) o
more_more m n (Done values k) = ap (Done values) (sym (add_assoc m n k))
more_more m n Trap = refl

pub within_more : (limit n : ℕ) (o : Outcome) → EndsWithin limit (more n o) → EndsWithin limit o
within_more limit n (Done values k) h = omega arith
within_more limit n Trap h = h

within_after : (limit n : ℕ) (o : Outcome) (f : Values → Outcome) → EndsWithin limit (more n (after o f)) → EndsWithin limit o
within_after limit n (Done values k) f h = within_two limit n k (f values) h
  where
    within_two : (limit n k : ℕ) (o : Outcome) → EndsWithin limit (more n (more k o)) → k ≤ limit
    within_two limit n k (Done after m) h = omega arith
    within_two limit n k Trap h = absurd h
within_after limit n Trap f h = h

-- so far n steps were taken, o comes next and then f
pub part_within : (limit n : ℕ) (o whole : Outcome) (f : Values → Outcome) → more n (after o f) ≡ whole → EndsWithin limit whole → EndsWithin limit o
part_within limit n o whole f e h = within_after limit n o f (subst (EndsWithin limit) (sym e) h)

-- the same after o has come to its end
pub one_more : (n m : ℕ) (o whole : Outcome) (f : Values → Outcome) (values : Values) → more n (after o f) ≡ whole → o ≡ Done values m → more (n + m) (f values) ≡ whole
one_more n m o whole f values e d = sym (more_more n m (f values)) ∙ ap (λ x. more n (after x f)) (sym d) ∙ e

done_within : (limit n : ℕ) (o : Outcome) → EndsWithin limit (more n o) → n ≤ limit
done_within limit n (Done values k) h = omega arith
done_within limit n Trap h = absurd h

steps_within : (limit n : ℕ) (o whole : Outcome) → more n o ≡ whole → EndsWithin limit whole → n ≤ limit
steps_within limit n o whole e h = done_within limit n o (subst (EndsWithin limit) (sym e) h)

-- ---- one statement

pub given_within : (limit : ℕ) (o : Option ℤ) (v : ℤ) (f : ℤ → Outcome) → o ≡ Some v → EndsWithin limit (with_value o f) → EndsWithin limit (f v)
given_within limit o v f e h = subst (λ p. EndsWithin limit (with_value p f)) e h

pub index_within : (limit n : ℕ) (values : Values) (x : Name) (low high k v : ℤ) → EndsWithin limit (more n (setting_part values x low high k v)) → (low ≤ℤ k) × (k ≤ℤ high)
index_within limit n values x low high k v h = by (int_le low k) (int_le k high) refl refl _ h where
  by : (b c : Bool) → int_le low k ≡ b → int_le k high ≡ c → (o : Outcome) → EndsWithin limit (more n (if b && c then o else Trap)) → (low ≤ℤ k) × (k ≤ℤ high)
  by true true e f o h = (le_is low k e, le_is k high f)
  by true false e f o h = absurd h
  by false true e f o h = absurd h
  by false false e f o h = absurd h

-- ---- iterations

after_at_least : (limit m r : ℕ) (o : Outcome) (f : Values → Outcome) → ((j : ℕ) (values : Values) → EndsWithin limit (more (m + j) (f values)) → m + j + r ≤ limit) → EndsWithin limit (more m (after o f)) → m + r ≤ limit
after_at_least limit m r (Done values j) f go h = let a = go j values (subst (EndsWithin limit) (more_more m j (f values)) h) in omega arith
after_at_least limit m r Trap f go h = absurd h

iterations_more : (limit m n : ℕ) (body : Values → Outcome) (x : Name) (v k : ℤ) (values : Values) → EndsWithin limit (more m (iterations n body x v k values)) → m + n ≤ limit
iterations_more limit m zero body x v k values h = h
iterations_more limit m (suc n) body x v k values h =
    let f = iterations n body x (v +ℤ k) k in
    let o = body (setting values x (One v)) in
    let g = subst (EndsWithin limit) (more_more m 1 (after o f)) h in
    let a : m + 1 + n ≤ limit = after_at_least limit (m + 1) n o f (λ j s r. iterations_more limit (m + 1 + j) n body x (v +ℤ k) k s r) g in
    omega (arith, a)

-- a FOR makes no more iterations than it takes steps
pub iterations_within : (limit n : ℕ) (body : Values → Outcome) (x : Name) (v k : ℤ) (values : Values) → EndsWithin limit (iterations n body x v k values) → n ≤ limit
iterations_within limit n body x v k values h =
    let a = iterations_more limit 0 n body x v k values (subst (EndsWithin limit) (sym (more_zero (iterations n body x v k values))) h) in omega (arith, a)

pub iterations_from : (e n : ℕ) (body : Values → Outcome) (x : Name) (v w k : ℤ) (values : Values) → e ≡ n → v ≡ w → more 0 (iterations e body x v k values) ≡ iterations n body x w k values
iterations_from e n body x v w k values p q = more_zero (iterations e body x v k values) ∙ ap (λ j. iterations j body x v k values) p ∙ ap (λ z. iterations n body x z k values) q

-- one iteration of a FOR, after m steps, with r iterations left and then one fewer
module _ (m r r' : ℕ) (x : Name) (body : Values → Outcome) (v w k : ℤ) (values put : Values) (whole : Outcome) (e : more m (iterations r body x v k values) ≡ whole) (left : r ≡ suc r') (same : w ≡ v) (now : put ≡ setting values x (One w)) where
  iteration_begun : more (m + 1) (after (body put) (iterations r' body x (v +ℤ k) k)) ≡ whole
  iteration_begun =
      ap (λ s. more (m + 1) (after (body s) (iterations r' body x (v +ℤ k) k))) (now ∙ ap (λ z. setting values x (One z)) same)
      ∙ sym (more_more m 1 (after (body (setting values x (One v))) (iterations r' body x (v +ℤ k) k)))
      ∙ ap (λ j. more m (iterations j body x v k values)) (sym left) ∙ e

  pub iteration_within : (limit : ℕ) → EndsWithin limit whole → EndsWithin limit (body put)
  iteration_within limit h = part_within limit (m + 1) (body put) whole (iterations r' body x (v +ℤ k) k) iteration_begun h

  pub iteration_done : (b : ℕ) (end : Values) (v' : ℤ) → body put ≡ Done end b → v' ≡ v +ℤ k → more (m + 1 + b) (iterations r' body x v' k end) ≡ whole
  iteration_done b end v' d q = ap (λ z. more (m + 1 + b) (iterations r' body x z k end)) q ∙ one_more (m + 1) b (body put) whole (iterations r' body x (v +ℤ k) k) end iteration_begun d

  pub iteration_steps : (limit b : ℕ) (end : Values) → EndsWithin limit whole → body put ≡ Done end b → m + 1 + b ≤ limit
  iteration_steps limit b end h d = steps_within limit (m + 1 + b) (iterations r' body x (v +ℤ k) k end) whole (iteration_done b end (v +ℤ k) d refl) h

pub iterations_end : (m r : ℕ) (x : Name) (body : Values → Outcome) (v k : ℤ) (values : Values) (whole : Outcome) → more m (iterations r body x v k values) ≡ whole → r ≡ 0 → whole ≡ Done values m
iterations_end m r x body v k values whole e z = sym e ∙ ap (λ j. more m (iterations j body x v k values)) z ∙ ap (Done values) (omega arith)

pub next_value : (v k : ℤ) (i : ℕ) → v +ℤ pos (i + 1) *ℤ k ≡ v +ℤ pos i *ℤ k +ℤ k
next_value v k i = omega (arith, ints)

-- the whole of a FOR, with its bounds in other words
pub same_whole : (first first' last last' step step' : ℤ) (body : Values → Outcome) (x : Name) (n : ℕ) (values : Values) → first' ≡ first → last' ≡ last → step' ≡ step → n ≡ iteration_count first' last' step'
    → iterations n body x first' step' values ≡ iterations (iteration_count first last step) body x first step values
same_whole first first' last last' step step' body x n values f l k e =
    ap (λ j. iterations j body x first' step' values) e
    ∙ ap (λ z. iterations (iteration_count z last' step') body x z step' values) f
    ∙ ap (λ z. iterations (iteration_count first z step') body x first step' values) l
    ∙ ap (λ z. iterations (iteration_count first last z) body x first z values) k
