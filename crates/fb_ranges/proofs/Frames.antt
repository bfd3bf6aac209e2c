-- What statements leave as it is.
use Rattle.std.proofs.Common.{◌≡◌, ℕ, zero, suc, ℤ, pos, negsuc, Bool, true, false, List, [], ◌∷◌, ◌++◌, refl, sym, ap, ap₂, subst, ◌∙◌, arith}
use Rattle.std.proofs.lemmas.Bool.{eqb-true}
use Rattle.std.proofs.lemmas.List.{append_assoc}
use Rattle.std.specs.Prelude.{if◌then◌else◌}
use Rattle.fb_model.specs.Names.{Name}
use Rattle.fb_model.specs.TypedText.{Term, constant, read, part, single, double, Command, set, set_part, choose, match_on, count, Commands, done, then_do, Choices, no_choice, choice, Cases, no_case, a_case}
use Rattle.fb_model.specs.Language.{iteration_count}
use Rattle.fb_model.specs.Spans.{Span, span, joined}
use Rattle.fb_model.specs.Clear.{Spans, changed, narrowed, is_idle, assigned_one, assigned, assigned_choices, assigned_cases, reset, most_iterations, left_with}
use Rattle.fb_model.proofs.Names.{not_first, not_later, not_front, not_back}
use Rattle.fb_model.specs.Asking.{Asked, point, range_in, asked_loop, ask_one, ask, ask_choices, ask_cases}
use Rattle.fb_ranges.specs.Meeting.{Besides}
use Rattle.fb_ranges.proofs.Covers.{joined_same, narrowed_cover}

-- one thing after another
besides_on : (xs ys : List Name) (s t u : Spans) → Besides xs s t → Besides ys t u → Besides (xs ++ ys) s u
besides_on xs ys s t u h k = λ y out. k y (not_back y xs ys out) ∙ h y (not_front y xs ys out)

-- two ways, from ranges that make up those before
besides_both : (xs ys : List Name) (s t u p q : Spans) → ((y : Name) → joined (t y) (u y) ≡ s y) → Besides xs t p → Besides ys u q → Besides (xs ++ ys) s (λ x. joined (p x) (q x))
besides_both xs ys s t u p q cover h k = λ y out. ap₂ joined (h y (not_front y xs ys out)) (k y (not_back y xs ys out)) ∙ cover y

loop_besides : (n : ℕ) (xs : List Name) (rows : Spans) (f : Asked → Asked) (x : Name) (r s : Span) (k : ℤ) (a : Asked) → Besides (x ∷ xs) a.spans (asked_loop n xs rows f x r s k a).spans
loop_besides zero xs rows f x r s k a = λ y out. refl
loop_besides (suc n) xs rows f x r s k a = λ y out.
    ap (λ b. if b then left_with r s k (suc n) (reset xs rows a.spans y) else reset xs rows a.spans y) (not_first x y xs out)
    ∙ ap (λ b. if b then rows y else a.spans y) (not_later x y xs out)

loop_none : (n : ℕ) (xs : List Name) (rows : Spans) (f : Asked → Asked) (x : Name) (r s : Span) (k : ℤ) (a : Asked) → n ≡ 0 → Besides xs a.spans (asked_loop n xs rows f x r s k a).spans
loop_none zero xs rows f x r s k a e = λ y out. refl
loop_none (suc n) xs rows f x r s k a e = absurd (omega (arith, e))

most_between : (a b k : ℤ) → most_iterations (span a a) (span b b) k ≡ iteration_count a b k
most_between a b (pos n) = refl
most_between a b (negsuc n) = refl

-- a FOR
count_besides : (x : Name) (e g : Term) (k : ℤ) (plain : Bool) (xs : List Name) (rows : Spans) (f : Asked → Asked) (a : Asked)
    → Besides (if is_idle plain e g k then xs else x ∷ xs) a.spans (asked_loop (most_iterations (range_in e a.spans) (range_in g a.spans) k) xs rows f x (range_in e a.spans) (range_in g a.spans) k a).spans
count_besides x e g k plain xs rows f a = by (is_idle plain e g k) refl where
  end : Spans
  end = (asked_loop (most_iterations (range_in e a.spans) (range_in g a.spans) k) xs rows f x (range_in e a.spans) (range_in g a.spans) k a).spans

  none : (plain : Bool) (e g : Term) → is_idle plain e g k ≡ true → Besides xs a.spans (asked_loop (most_iterations (range_in e a.spans) (range_in g a.spans) k) xs rows f x (range_in e a.spans) (range_in g a.spans) k a).spans
  none true (constant b) (constant c) h = loop_none (most_iterations (span b b) (span c c) k) xs rows f x (span b b) (span c c) k a (most_between b c k ∙ eqb-true (iteration_count b c k) 0 h)
  none true (constant b) (read z) h = cc
  none true (constant b) (part z low high i) h = cc
  none true (constant b) (single o c i) h = cc
  none true (constant b) (double o c i j) h = cc
  none true (read z) g h = cc
  none true (part z low high i) g h = cc
  none true (single o c i) g h = cc
  none true (double o c i j) g h = cc
  none false e g h = cc

  by : (b : Bool) → is_idle plain e g k ≡ b → Besides (if b then xs else x ∷ xs) a.spans end
  by true h = none plain e g h
  by false h = loop_besides (most_iterations (range_in e a.spans) (range_in g a.spans) k) xs rows f x (range_in e a.spans) (range_in g a.spans) k a

set_besides : (x : Name) (s : Spans) (r : Span) → Besides (x ∷ []) s (changed x (λ b. r) s)
set_besides x s r y out = ap (λ b. if b then r else s y) (not_first x y [] out)

mutual
  one_besides : (rows : Spans) (c : Command) (a : Asked) → Besides (assigned_one c) a.spans (ask_one rows c a).spans
  one_besides rows (set x e) a = set_besides x a.spans (range_in e a.spans)
  one_besides rows (set_part x low high i e) a = λ y out. refl
  one_besides rows (choose choices other) a = choices_besides rows choices (ask rows other) (assigned other) (λ b. all_besides rows other b) a
  one_besides rows (match_on e cases other) a = cases_besides rows cases (ask rows other) (assigned other) (λ b. all_besides rows other b) a
  one_besides rows (count x kind e g k plain body) a = count_besides x e g k plain (assigned body) rows (ask rows body) a

  -- the ranges of other variables than these are as before
  pub all_besides : (rows : Spans) (c : Commands) (a : Asked) → Besides (assigned c) a.spans (ask rows c a).spans
  all_besides rows done a = λ y out. refl
  all_besides rows (then_do c cs) a = besides_on (assigned_one c) (assigned cs) a.spans (ask_one rows c a).spans (ask rows cs (ask_one rows c a)).spans (one_besides rows c a) (all_besides rows cs (ask_one rows c a))

  choices_besides : (rows : Spans) (choices : Choices) (asks : Asked → Asked) (ys : List Name) → ((b : Asked) → Besides ys b.spans (asks b).spans) → (a : Asked) → Besides (assigned_choices choices ++ ys) a.spans (ask_choices rows choices asks a).spans
  choices_besides rows no_choice asks ys h a = h a
  choices_besides rows (choice e body rest) asks ys h a =
      let begin = point (narrowed e true a.spans) a.rows in
      let others = point (narrowed e false a.spans) (ask rows body begin).rows in
      subst (λ (xs : List Name). Besides xs a.spans (ask_choices rows (choice e body rest) asks a).spans) (sym (append_assoc (assigned body) (assigned_choices rest) ys))
      (besides_both (assigned body) (assigned_choices rest ++ ys) a.spans begin.spans others.spans (ask rows body begin).spans (ask_choices rows rest asks others).spans
      (narrowed_cover e a.spans) (all_besides rows body begin) (choices_besides rows rest asks ys h others))

  cases_besides : (rows : Spans) (cases : Cases) (asks : Asked → Asked) (ys : List Name) → ((b : Asked) → Besides ys b.spans (asks b).spans) → (a : Asked) → Besides (assigned_cases cases ++ ys) a.spans (ask_cases rows cases asks a).spans
  cases_besides rows no_case asks ys h a = h a
  cases_besides rows (a_case labels body rest) asks ys h a =
      let others = point a.spans (ask rows body a).rows in
      subst (λ (xs : List Name). Besides xs a.spans (ask_cases rows (a_case labels body rest) asks a).spans) (sym (append_assoc (assigned body) (assigned_cases rest) ys))
      (besides_both (assigned body) (assigned_cases rest ++ ys) a.spans a.spans a.spans (ask rows body a).spans (ask_cases rows rest asks others).spans
      (λ y. joined_same (a.spans y)) (all_besides rows body a) (cases_besides rows rest asks ys h others))
