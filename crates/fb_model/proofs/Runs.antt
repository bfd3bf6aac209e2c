-- Runs that are done in time, with values in ranges, and that leave the other variables.
use Rattle.std.proofs.Common.{◌≡◌, ℕ, zero, suc, ◌+◌, ◌≤◌, ℤ, ◌-ℤ◌, ◌≤ℤ◌, unsigned_abs, Bool, true, false, ◌||◌, List, [], ◌∷◌, ◌++◌, length, Option, Some, None, slice_set, refl, sym, ◌∙◌, ap, subst, arith}
use Rattle.std.specs.Prelude.{if◌then◌else◌}
use Rattle.std.specs.List.{AllByRecursion}
use Rattle.std.specs.Str.{bytes_eq}
use Rattle.fb_model.specs.Names.{Name, is_in}
use Rattle.fb_model.specs.Values.{Value, One, Many, Values, numbers_of}
use Rattle.fb_model.specs.Language.{Outcome, Done, Trap, more, after, setting, setting_part}
use Rattle.fb_model.proofs.Lists.{same_name, all_weaker}
use Rattle.fb_model.specs.Spans.{Span, within}
use Rattle.fb_model.specs.Clear.{Spans, changed, are_kept, reset}
use Rattle.fb_model.specs.Shapes.{IsIn, Lies, Shape, HasForm, HasShape}
use Rattle.fb_words.proofs.Types.{le_true}
use Rattle.fb_model.proofs.Results.{and_left, and_right, within_is}
use Rattle.fb_model.proofs.Names.{by_name, not_first, not_front, not_back}
use Rattle.fb_model.proofs.Rowed.{Rowed}

-- what is in none of these is in none of those
abbrev pub Sub : List Name → List Name → Type 0
Sub xs ys = (y : Name) → is_in y ys ≡ false → is_in y xs ≡ false

pub not_both : (y : Name) (xs ys : List Name) → is_in y xs ≡ false → is_in y ys ≡ false → is_in y (xs ++ ys) ≡ false
not_both y [] ys h k = k
not_both y (x ∷ xs) ys h k = by (bytes_eq y x) h (λ g. not_both y xs ys g k) where
  by : (b : Bool) → (b || is_in y xs) ≡ false → (is_in y xs ≡ false → is_in y (xs ++ ys) ≡ false) → (b || is_in y (xs ++ ys)) ≡ false
  by true e next = e
  by false e next = next e

-- all numbers of a range lie in another
abbrev pub Wider : Spans → Spans → Type 0
Wider s t = (x : Name) (v : ℤ) → IsIn (s x) v → IsIn (t x) v

pub lies_wider : (s t : Spans) (values : Values) → Wider s t → Lies s values → Lies t values
lies_wider s t values w h x = all_weaker (IsIn (s x)) (IsIn (t x)) (numbers_of (values x)) (w x) (h x)

module _ (shape : Shape) where
  -- done within n steps, with values in the ranges; variables that are not among the first names keep their values if they are plain, and those not among the second in any case
  pub record Good (n : ℕ) (end : Spans) (xs ys : List Name) (before : Values) (after : Values) (m : ℕ) : Type 0 where
    pub steps : m ≤ n
    pub lies : Lies end after
    pub fits : HasShape shape after
    pub still : (y : Name) → shape y ≡ None → is_in y xs ≡ false → after y ≡ before y
    pub same : (y : Name) → is_in y ys ≡ false → after y ≡ before y

  abbrev pub Runs : ℕ → Spans → List Name → List Name → Values → Outcome → Type 0
  Runs n end xs ys before (Done after m) = Good n end xs ys before after m
  Runs n end xs ys before Trap = ⊥

  pub weaker : (n n' : ℕ) (s t : Spans) (xs xs' ys ys' : List Name) (before : Values) (o : Outcome) → n ≤ n' → Wider s t → Sub xs xs' → Sub ys ys' → Runs n s xs ys before o → Runs n' t xs' ys' before o
  weaker n n' s t xs xs' ys ys' before Trap l w a b g = g
  weaker n n' s t xs xs' ys ys' before (Done values m) l w a b g =
      record { steps = omega (arith, l, g.steps); lies = lies_wider s t values w g.lies; fits = g.fits; still = λ y p e. g.still y p (a y e); same = λ y e. g.same y (b y e) }

  pub one_more : (k n : ℕ) (s : Spans) (xs ys : List Name) (before : Values) (o : Outcome) → Runs n s xs ys before o → Runs (k + n) s xs ys before (more k o)
  one_more k n s xs ys before Trap g = g
  one_more k n s xs ys before (Done values m) g = record { steps = omega (arith, g.steps); lies = g.lies; fits = g.fits; still = g.still; same = g.same }

  -- a run that goes on from where another was done
  goes_on : (n m k : ℕ) (s : Spans) (xs xs' ys ys' zs ws : List Name) (before middle : Values) (o : Outcome) → k ≤ n → Sub xs zs → Sub xs' zs → Sub ys ws → Sub ys' ws
      → ((y : Name) → shape y ≡ None → is_in y xs ≡ false → middle y ≡ before y) → ((y : Name) → is_in y ys ≡ false → middle y ≡ before y) → Runs m s xs' ys' middle o → Runs (n + m) s zs ws before (more k o)
  goes_on n m k s xs xs' ys ys' zs ws before middle Trap l a b c d p q g = g
  goes_on n m k s xs xs' ys ys' zs ws before middle (Done values j) l a b c d p q g =
      record {
        steps = omega (arith, l, g.steps);
        lies = g.lies;
        fits = g.fits;
        still = λ y e f. g.still y e (b y f) ∙ p y e (a y f);
        same = λ y f. g.same y (d y f) ∙ q y (c y f);
      }

  pub one_after : (n m : ℕ) (s t : Spans) (xs xs' ys ys' : List Name) (before : Values) (o : Outcome) (f : Values → Outcome) → Runs n s xs ys before o
      → ((values : Values) → HasShape shape values → Lies s values → Runs m t xs' ys' values (f values)) → Runs (n + m) t (xs ++ xs') (ys ++ ys') before (after o f)
  one_after n m s t xs xs' ys ys' before Trap f g go = g
  one_after n m s t xs xs' ys ys' before (Done values k) f g go =
      goes_on n m k t xs xs' ys ys' (xs ++ xs') (ys ++ ys') before values (f values) g.steps (λ y e. not_front y xs xs' e) (λ y e. not_back y xs xs' e) (λ y e. not_front y ys ys' e) (λ y e. not_back y ys ys' e) g.still g.same
      (go values g.fits g.lies)

  -- ---- assignments

  form_one : (form : Option (ℤ × ℤ)) (v : ℤ) → form ≡ None → HasForm form (One v)
  form_one None v e = tt
  form_one (Some b) v e = cc

  pub set_fits : (x : Name) (v : ℤ) (values : Values) → shape x ≡ None → HasShape shape values → HasShape shape (setting values x (One v))
  set_fits x v values p fit y = by_name (HasForm (shape y)) x y (One v) (values y) (λ s. form_one (shape y) v (ap shape (sym s) ∙ p)) (λ s. fit y)

  -- one variable's new value lies in its new range, and the others as before
  pub set_lies : (x : Name) (f : Span → Span) (v : ℤ) (spans : Spans) (values : Values) → IsIn (f (spans x)) v → ((y : Name) → bytes_eq x y ≡ false → AllByRecursion (IsIn (spans y)) (numbers_of (values y))) → Lies (changed x f spans) (setting values x (One v))
  set_lies x f v spans values h lie y = by (bytes_eq x y) refl where
    by : (b : Bool) → bytes_eq x y ≡ b → AllByRecursion (IsIn (if b then f (spans y) else spans y)) (numbers_of (if b then One v else values y))
    by true e = (subst (λ z. IsIn (f (spans z)) v) (same_name x y e) h, tt)
    by false e = lie y e

  pub set_same : (x : Name) (v : Value) (values : Values) (y : Name) (xs : List Name) → is_in y (x ∷ xs) ≡ false → setting values x v y ≡ values y
  set_same x v values y xs h = ap (λ b. if b then v else values y) (not_first x y xs h)

  pub set_runs : (x : Name) (r : Span) (v : ℤ) (spans : Spans) (values : Values) → shape x ≡ None → HasShape shape values → Lies spans values → IsIn r v → Runs 1 (changed x (λ b. r) spans) (x ∷ []) (x ∷ []) values (Done (setting values x (One v)) 1)
  set_runs x r v spans values p fit lie h =
      record {
        steps = omega arith;
        lies = set_lies x (λ b. r) v spans values h (λ y e. lie y);
        fits = set_fits x v values p fit;
        still = λ y q e. set_same x (One v) values y [] e;
        same = λ y e. set_same x (One v) values y [] e;
      }

  -- ---- elements

  all_set : (r : Span) (vs : List ℤ) (n : ℕ) (v : ℤ) → AllByRecursion (IsIn r) vs → IsIn r v → AllByRecursion (IsIn r) (slice_set vs n v)
  all_set r [] n v h l = tt
  all_set r (u ∷ vs) zero v h l = (l, h.1)
  all_set r (u ∷ vs) (suc n) v h l = (h.0, all_set r vs n v h.1 l)

  long_set : (vs : List ℤ) (n : ℕ) (v : ℤ) → length (slice_set vs n v) ≡ length vs
  long_set [] n v = refl
  long_set (u ∷ vs) zero v = refl
  long_set (u ∷ vs) (suc n) v = ap suc (long_set vs n v)

  form_many : (form : Option (ℤ × ℤ)) (low high : ℤ) (value : Value) (n : ℕ) (v : ℤ) → form ≡ Some (low, high) → HasForm form value → HasForm form (Many (slice_set (numbers_of value) n v))
  form_many None low high value n v e h = cc
  form_many (Some b) low high (One u) n v e h = absurd h
  form_many (Some b) low high (Many vs) n v e h = long_set vs n v ∙ h

  pub part_runs : (x : Name) (low high k v : ℤ) (spans : Spans) (values : Values) → shape x ≡ Some (low, high) → HasShape shape values → Lies spans values → low ≤ℤ k → k ≤ℤ high → IsIn (spans x) v
      → Runs 1 spans [] (x ∷ []) values (more 1 (setting_part values x low high k v))
  part_runs x low high k v spans values p fit lie a b h =
      let new : Value = Many (slice_set (numbers_of (values x)) (unsigned_abs (k -ℤ low)) v) in
      rw (le_true low k a, le_true k high b)
      (record {
        steps = omega arith;
        lies = λ y. by_name (λ w. AllByRecursion (IsIn (spans y)) (numbers_of w)) x y new (values y) (λ s. subst (λ z. AllByRecursion (IsIn (spans z)) (numbers_of new)) s (all_set (spans x) (numbers_of (values x)) _ v (lie x) h)) (λ s. lie y);
        fits = λ y. by_name (HasForm (shape y)) x y new (values y) (λ s. subst (λ z. HasForm (shape z) new) s (form_many (shape x) low high (values x) _ v p (fit x))) (λ s. fit y);
        still = λ y q e. by_name (λ w. w ≡ values y) x y new (values y) (λ s. absurd (let f : shape x ≡ shape y = ap shape s in cc)) (λ s. refl);
        same = λ y e. set_same x new values y [] e;
      })

  -- ---- rows

  -- a kept variable's range lies in its row
  kept_row : (xs : List Name) (rows end : Spans) (y : Name) → are_kept xs rows end ≡ true → is_in y xs ≡ true → within (end y) (rows y) ≡ true
  kept_row [] rows end y k h = cc
  kept_row (x ∷ xs) rows end y k h = by (bytes_eq y x) refl h (kept_row xs rows end y (and_right (within (end x) (rows x)) _ k)) where
    by : (b : Bool) → bytes_eq y x ≡ b → (b || is_in y xs) ≡ true → (is_in y xs ≡ true → within (end y) (rows y) ≡ true) → within (end y) (rows y) ≡ true
    by true e h next = subst (λ z. within (end z) (rows z) ≡ true) (sym (same_name y x e)) (and_left _ _ k)
    by false e h next = next h

  in_row : (xs : List Name) (rows end : Spans) (y : Name) (vs : List ℤ) → are_kept xs rows end ≡ true → is_in y xs ≡ true → AllByRecursion (IsIn (end y)) vs → AllByRecursion (IsIn (rows y)) vs
  in_row xs rows end y vs k h l = all_weaker (IsIn (end y)) (IsIn (rows y)) vs (λ v i. within_is (end y) (rows y) v (kept_row xs rows end y k h) i) l

  pub reset_lies : (xs : List Name) (rows spans : Spans) (values : Values) → are_kept xs rows spans ≡ true → Lies spans values → Lies (reset xs rows spans) values
  reset_lies xs rows spans values k lie y = by (is_in y xs) refl where
    by : (b : Bool) → is_in y xs ≡ b → AllByRecursion (IsIn (if b then rows y else spans y)) (numbers_of (values y))
    by true e = in_row xs rows spans y (numbers_of (values y)) k e (lie y)
    by false e = lie y

  pub reset_is : (xs : List Name) (rows spans : Spans) (y : Name) → is_in y xs ≡ true → reset xs rows spans y ≡ rows y
  reset_is xs rows spans y e = ap (λ b. if b then rows y else spans y) e

  -- where assigned variables are back in their rows and the others are the same, a variable lies where it lay before
  pub back : (xs : List Name) (rows base end : Spans) (before after : Values) → Rowed shape rows base → Rowed shape rows end → ((y : Name) → is_in y xs ≡ true → base y ≡ rows y) → are_kept xs rows end ≡ true → Lies end after
      → ((y : Name) → shape y ≡ None → is_in y xs ≡ false → after y ≡ before y) → (y : Name) → AllByRecursion (IsIn (base y)) (numbers_of (before y)) → AllByRecursion (IsIn (base y)) (numbers_of (after y))
  back xs rows base end before after b e r k lie still y h = by (shape y) refl where
    plain : (c : Bool) → is_in y xs ≡ c → shape y ≡ None → AllByRecursion (IsIn (base y)) (numbers_of (after y))
    plain true i p = subst (λ s. AllByRecursion (IsIn s) (numbers_of (after y))) (sym (r y i)) (in_row xs rows end y (numbers_of (after y)) k i (lie y))
    plain false i p = subst (λ v. AllByRecursion (IsIn (base y)) (numbers_of v)) (sym (still y p i)) h

    by : (form : Option (ℤ × ℤ)) → shape y ≡ form → AllByRecursion (IsIn (base y)) (numbers_of (after y))
    by None p = plain (is_in y xs) refl p
    by (Some bounds) p = subst (λ s. AllByRecursion (IsIn s) (numbers_of (after y))) (e y bounds p ∙ sym (b y bounds p)) (lie y)
