-- A turn of a loop that reads items, after the items that were read before.
use Rattle.std.proofs.Common.{◌≡◌, ℕ, zero, suc, ◌+◌, ◌-◌, ◌<◌, ◌≤◌, Bool, true, false, List, [], ◌∷◌, ◌++◌, length, Ok, Err, refl, sym, ap, ◌∙◌, arith, append_assoc}
use Rattle.std.proofs.lemmas.List.{append-nil}
use Rattle.fb_words.specs.declared.mark.Mark.{Mark}
use Rattle.fb_read.specs.declared.stop.Stop.{Stop}
use Rattle.fb_read.specs.declared.stop.Stop.TheVariants.{Memory, Syntax, TooDeep}
use Rattle.fb_read.specs.Answers.{Fails}
use Rattle.fb_model.specs.Tokens.{Token}
use Rattle.fb_read.specs.Reading.{syntax, too_deep, Answer, Read, ◌>>=◌, next_is, after, many_at, while_step, while_at, separated_at}

-- what was read before, and what is still read
abbrev pub with_front : {A B : Type 0} → (A → B) → Answer A → Answer B
with_front front read = read >>= λ x. Ok (front x.0, x.1)

regroup : {A : Type 0} (front : List A) (x : A) (r : Answer (List A)) → with_front (λ xs. front ++ xs) (r >>= λ xs. Ok (x ∷ xs.0, xs.1)) ≡ with_front (λ xs. (front ++ x ∷ []) ++ xs) r
regroup front x (Ok y) = ap (λ xs. Ok (xs, y.1)) (let e : front ++ (x ∷ y.0) ≡ (front ++ x ∷ []) ++ y.0 = simp append_assoc in e)
regroup front x (Err e) = refl

module _ {A : Type 0} (close : Mark) (item : Read A) (front : List A) (n i : ℕ) (ts : List Token) (total : Answer (List A))
    (so_far : with_front (λ xs. front ++ xs) (many_at close item (n - i) ts) ≡ total) where
  pub many_goes_on : (x : A) (mid : List Token) → i < n → next_is close ts ≡ false → item ts ≡ Ok (x, mid) → with_front (λ xs. (front ++ x ∷ []) ++ xs) (many_at close item (n - (i + 1)) mid) ≡ total
  unfolding many_at
  many_goes_on x mid lt b h =
      let k : n - i ≡ suc (n - (i + 1)) = omega arith in
      let one : with_front (λ xs. front ++ xs) (many_at close item (n - i) ts) ≡ with_front (λ xs. (front ++ x ∷ []) ++ xs) (many_at close item (n - (i + 1)) mid) =
      rw (k, b, h) (regroup front x (many_at close item (n - (i + 1)) mid)) in
      sym one ∙ so_far

  pub many_fails : (e : Stop) → i < n → next_is close ts ≡ false → Fails e (item ts) → Fails e total
  unfolding many_at
  many_fails Memory lt b h = tt
  many_fails (Syntax left) lt b h =
      let k : n - i ≡ suc (n - (i + 1)) = omega arith in
      let one : with_front (λ xs. front ++ xs) (many_at close item (n - i) ts) ≡ Err (syntax left) = rw (k, b, h) refl in
      sym so_far ∙ one
  many_fails (TooDeep left) lt b h =
      let k : n - i ≡ suc (n - (i + 1)) = omega arith in
      let one : with_front (λ xs. front ++ xs) (many_at close item (n - i) ts) ≡ Err (too_deep left) = rw (k, b, h) refl in
      sym so_far ∙ one

  pub many_stops : i < n → next_is close ts ≡ true → total ≡ Ok (front, ts)
  unfolding many_at
  many_stops lt b =
      let k : n - i ≡ suc (n - (i + 1)) = omega arith in
      let one : with_front (λ xs. front ++ xs) (many_at close item (n - i) ts) ≡ Ok (front, ts) = rw (k, b) (ap (λ xs. Ok (xs, ts)) (append-nil front)) in
      sym so_far ∙ one

  pub many_done : n ≤ i → total ≡ Err (syntax (length ts))
  unfolding many_at
  many_done le =
      let k : n - i ≡ 0 = omega arith in
      let one : with_front (λ xs. front ++ xs) (many_at close item (n - i) ts) ≡ Err (syntax (length ts)) = rw k refl in
      sym so_far ∙ one

module _ {A : Type 0} (begins : List Token → Bool) (item : Read A) (front : List A) (n i : ℕ) (ts : List Token) (total : Answer (List A))
    (so_far : with_front (λ xs. front ++ xs) (while_at begins item (n - i) ts) ≡ total) where
  pub while_goes_on : (x : A) (mid : List Token) → i < n → begins ts ≡ true → item ts ≡ Ok (x, mid) → with_front (λ xs. (front ++ x ∷ []) ++ xs) (while_at begins item (n - (i + 1)) mid) ≡ total
  unfolding while_at
  while_goes_on x mid lt b h =
      let k : n - i ≡ suc (n - (i + 1)) = omega arith in
      let one : with_front (λ xs. front ++ xs) (while_at begins item (n - i) ts) ≡ with_front (λ xs. (front ++ x ∷ []) ++ xs) (while_at begins item (n - (i + 1)) mid) =
      rw (k, b, h) (regroup front x (while_at begins item (n - (i + 1)) mid)) in
      sym one ∙ so_far

  pub while_fails : (e : Stop) → i < n → begins ts ≡ true → Fails e (item ts) → Fails e total
  unfolding while_at
  while_fails Memory lt b h = tt
  while_fails (Syntax left) lt b h =
      let k : n - i ≡ suc (n - (i + 1)) = omega arith in
      let one : with_front (λ xs. front ++ xs) (while_at begins item (n - i) ts) ≡ Err (syntax left) = rw (k, b, h) refl in
      sym so_far ∙ one
  while_fails (TooDeep left) lt b h =
      let k : n - i ≡ suc (n - (i + 1)) = omega arith in
      let one : with_front (λ xs. front ++ xs) (while_at begins item (n - i) ts) ≡ Err (too_deep left) = rw (k, b, h) refl in
      sym so_far ∙ one

  pub while_stops : begins ts ≡ false → total ≡ Ok (front, ts)
  unfolding while_at
  while_stops b = sym so_far ∙ ap (with_front (λ xs. front ++ xs)) (stopped (n - i)) ∙ ap (λ xs. Ok (xs, ts)) (append-nil front) where
    stopped : (m : ℕ) → while_at begins item m ts ≡ Ok ([], ts)
    stopped zero = refl
    stopped (suc m) = ap (λ q. while_step item (while_at begins item m) q ts) b

  pub while_done : n ≤ i → total ≡ Ok (front, ts)
  unfolding while_at
  while_done le =
      let k : n - i ≡ 0 = omega arith in
      let one : with_front (λ xs. front ++ xs) (while_at begins item (n - i) ts) ≡ Ok (front, ts) = rw k (ap (λ xs. Ok (xs, ts)) (append-nil front)) in
      sym so_far ∙ one

module _ {A : Type 0} (separator : Mark) (item : Read A) (front : List A) (n i : ℕ) (ts : List Token) (total : Answer (List A))
    (so_far : with_front (λ xs. front ++ xs) (separated_at separator item (n - i) ts) ≡ total) where
  pub separated_goes_on : (x : A) (mid : List Token) → i < n → item ts ≡ Ok (x, mid) → next_is separator mid ≡ true → with_front (λ xs. (front ++ x ∷ []) ++ xs) (separated_at separator item (n - (i + 1)) (after mid)) ≡ total
  unfolding separated_at
  separated_goes_on x mid lt h b =
      let k : n - i ≡ suc (n - (i + 1)) = omega arith in
      let one : with_front (λ xs. front ++ xs) (separated_at separator item (n - i) ts) ≡ with_front (λ xs. (front ++ x ∷ []) ++ xs) (separated_at separator item (n - (i + 1)) (after mid)) =
      rw (k, h, b) (regroup front x (separated_at separator item (n - (i + 1)) (after mid))) in
      sym one ∙ so_far

  pub separated_stops : (x : A) (mid : List Token) → i < n → item ts ≡ Ok (x, mid) → next_is separator mid ≡ false → total ≡ Ok (front ++ x ∷ [], mid)
  unfolding separated_at
  separated_stops x mid lt h b =
      let k : n - i ≡ suc (n - (i + 1)) = omega arith in
      let one : with_front (λ xs. front ++ xs) (separated_at separator item (n - i) ts) ≡ Ok (front ++ x ∷ [], mid) = rw (k, h, b) refl in
      sym so_far ∙ one

  pub separated_fails : (e : Stop) → i < n → Fails e (item ts) → Fails e total
  unfolding separated_at
  separated_fails Memory lt h = tt
  separated_fails (Syntax left) lt h =
      let k : n - i ≡ suc (n - (i + 1)) = omega arith in
      let one : with_front (λ xs. front ++ xs) (separated_at separator item (n - i) ts) ≡ Err (syntax left) = rw (k, h) refl in
      sym so_far ∙ one
  separated_fails (TooDeep left) lt h =
      let k : n - i ≡ suc (n - (i + 1)) = omega arith in
      let one : with_front (λ xs. front ++ xs) (separated_at separator item (n - i) ts) ≡ Err (too_deep left) = rw (k, h) refl in
      sym so_far ∙ one

  pub separated_done : n ≤ i → total ≡ Err (syntax (length ts))
  unfolding separated_at
  separated_done le =
      let k : n - i ≡ 0 = omega arith in
      let one : with_front (λ xs. front ++ xs) (separated_at separator item (n - i) ts) ≡ Err (syntax (length ts)) = rw k refl in
      sym so_far ∙ one
