-- What is asked does not depend on the rows that are enlarged.
use Rattle.std.proofs.Common.{◌≡◌, ℕ, zero, suc, ℤ, Bool, true, false, List, [], ◌∷◌, refl, sym, ap, ap₂, subst, ◌∙◌}
use Rattle.std.specs.Prelude.{if◌then◌else◌}
use Rattle.std.specs.Str.{bytes_eq}
use Rattle.fb_model.specs.Names.{Name}
use Rattle.fb_model.specs.TypedText.{Term, Command, set, set_part, choose, match_on, count, Commands, done, then_do, Choices, no_choice, choice, Cases, no_case, a_case}
use Rattle.fb_model.specs.Spans.{Span, joined}
use Rattle.fb_model.specs.Clear.{Spans, changed, narrowed, assigned, reset, most_iterations, taken, left_with}
use Rattle.fb_model.specs.Asking.{Asked, point, range_in, asking, asking_all, asked_loop, ask_one, ask, ask_choices, ask_cases, grown}
use Rattle.fb_model_laws.proofs.Growing.{grown_grows}
use Rattle.fb_ranges.specs.Settling.{held}
use Rattle.fb_ranges.proofs.Covers.{joined_again, joined_turned, joined_within}
use Rattle.fb_ranges.proofs.Settling.{held_hold}

-- one table has been enlarged from u by what another has been enlarged by from v
abbrev pub Even : Spans → Spans → Spans → Spans → Type 0
Even u v p q = (x : Name) → joined (p x) (v x) ≡ joined (u x) (q x)

-- a range is joined to both
joined_even : (u v p q r : Span) → joined p v ≡ joined u q → joined (joined p r) v ≡ joined u (joined q r)
joined_even u v p q r h =
    sym (joined_again p r v)
    ∙ ap (joined p) (joined_turned r v)
    ∙ joined_again p v r
    ∙ ap (λ s. joined s r) h
    ∙ sym (joined_again u q r)

asking_even : (u v p q : Spans) (x : Name) (r : Span) → Even u v p q → Even u v (asking x r p) (asking x r q)
asking_even u v p q x r h = λ y. by y (bytes_eq x y) where
  by : (y : Name) (b : Bool) → joined (if b then joined (p y) r else p y) (v y) ≡ joined (u y) (if b then joined (q y) r else q y)
  by y true = joined_even (u y) (v y) (p y) (q y) r (h y)
  by y false = h y

all_even : (u v p q : Spans) (xs : List Name) (s : Spans) → Even u v p q → Even u v (asking_all xs s p) (asking_all xs s q)
all_even u v p q [] s h = h
all_even u v p q (x ∷ xs) s h = all_even u v (asking x (s x) p) (asking x (s x) q) xs s (asking_even u v p q x (s x) h)

-- the ranges are the same, and the tables even
abbrev pub Alike : Spans → Spans → Asked → Asked → Type 0
Alike u v a b = (a.spans ≡ b.spans) × Even u v a.rows b.rows

abbrev pub Steady : Spans → Spans → (Asked → Asked) → Type 0
Steady u v f = (a b : Asked) → Alike u v a b → Alike u v (f a) (f b)

asked_even : (u v : Spans) (xs : List Name) (a b : Asked) → Alike u v a b → Even u v (asking_all xs a.spans a.rows) (asking_all xs b.spans b.rows)
asked_even u v xs a b h = subst (λ (s : Spans). Even u v (asking_all xs a.spans a.rows) (asking_all xs s b.rows)) h.0 (all_even u v a.rows b.rows xs a.spans h.1)

loop_alike : (u v : Spans) (n : ℕ) (xs : List Name) (rows : Spans) (f : Asked → Asked) (x : Name) (r s : Span) (k : ℤ) → Steady u v f → Steady u v (asked_loop n xs rows f x r s k)
loop_alike u v zero xs rows f x r s k steady a b h = h
loop_alike u v (suc n) xs rows f x r s k steady a b h =
    let own = λ (t : Spans). changed x (λ b. taken r s k (suc n)) (reset xs rows t) in
    let left = λ (t : Spans). changed x (left_with r s k (suc n)) (reset xs rows t) in
    let begin = point (own a.spans) (asking_all xs a.spans a.rows) in
    let other = point (own b.spans) (asking_all xs b.spans b.rows) in
    (ap left h.0, asked_even u v xs (f begin) (f other) (steady begin other (ap own h.0, asked_even u v xs a b h)))

-- a FOR, whose bounds have the same ranges
count_alike : (u v : Spans) (x : Name) (e g : Term) (k : ℤ) (xs : List Name) (rows : Spans) (f : Asked → Asked) → Steady u v f
    → Steady u v (λ a. asked_loop (most_iterations (range_in e a.spans) (range_in g a.spans) k) xs rows f x (range_in e a.spans) (range_in g a.spans) k a)
count_alike u v x e g k xs rows f steady a b h =
    let looped = λ (t : Spans) (c : Asked). asked_loop (most_iterations (range_in e t) (range_in g t) k) xs rows f x (range_in e t) (range_in g t) k c in
    subst (λ (t : Spans). Alike u v (looped a.spans a) (looped t b)) h.0 (loop_alike u v (most_iterations (range_in e a.spans) (range_in g a.spans) k) xs rows f x (range_in e a.spans) (range_in g a.spans) k steady a b h)

mutual
  one_alike : (u v rows : Spans) (c : Command) → Steady u v (ask_one rows c)
  one_alike u v rows (set x e) a b h = (ap (λ (s : Spans). changed x (λ b. range_in e s) s) h.0, h.1)
  one_alike u v rows (set_part x low high i e) a b h =
      (h.0, subst (λ (s : Spans). Even u v (asking x (range_in e a.spans) a.rows) (asking x (range_in e s) b.rows)) h.0 (asking_even u v a.rows b.rows x (range_in e a.spans) h.1))
  one_alike u v rows (choose choices other) a b h = choices_alike u v rows choices (ask rows other) (λ c d. all_alike u v rows other c d) a b h
  one_alike u v rows (match_on e cases other) a b h = cases_alike u v rows cases (ask rows other) (λ c d. all_alike u v rows other c d) a b h
  one_alike u v rows (count x kind e g k plain body) a b h = count_alike u v x e g k (assigned body) rows (ask rows body) (λ c d. all_alike u v rows body c d) a b h

  all_alike : (u v rows : Spans) (c : Commands) → Steady u v (ask rows c)
  all_alike u v rows done a b h = h
  all_alike u v rows (then_do c cs) a b h = all_alike u v rows cs (ask_one rows c a) (ask_one rows c b) (one_alike u v rows c a b h)

  choices_alike : (u v rows : Spans) (choices : Choices) (other : Asked → Asked) → Steady u v other → Steady u v (ask_choices rows choices other)
  choices_alike u v rows no_choice other steady a b h = steady a b h
  choices_alike u v rows (choice e body rest) other steady a b h =
      let way = λ (c : Asked). ask rows body (point (narrowed e true c.spans) c.rows) in
      let others = λ (c : Asked). point (narrowed e false c.spans) (way c).rows in
      let first = all_alike u v rows body (point (narrowed e true a.spans) a.rows) (point (narrowed e true b.spans) b.rows) (ap (narrowed e true) h.0, h.1) in
      let next = choices_alike u v rows rest other steady (others a) (others b) (ap (narrowed e false) h.0, first.1) in
      (ap₂ (λ (s t : Spans). λ x. joined (s x) (t x)) first.0 next.0, next.1)

  cases_alike : (u v rows : Spans) (cases : Cases) (other : Asked → Asked) → Steady u v other → Steady u v (ask_cases rows cases other)
  cases_alike u v rows no_case other steady a b h = steady a b h
  cases_alike u v rows (a_case labels body rest) other steady a b h =
      let others = λ (c : Asked). point c.spans (ask rows body c).rows in
      let first = all_alike u v rows body a b h in
      let next = cases_alike u v rows rest other steady (others a) (others b) (h.0, first.1) in
      (ap₂ (λ (s t : Spans). λ x. joined (s x) (t x)) first.0 next.0, next.1)

-- what an algorithm asks is joined to the rows of any table as to those that it goes by
pub grown_alike : (rows asked : Spans) (c : Commands) → Even asked rows (let end = ask rows c (point rows asked) in asking_all (assigned c) end.spans end.rows) (grown rows c)
grown_alike rows asked c =
    asked_even asked rows (assigned c) (ask rows c (point rows asked)) (ask rows c (point rows rows)) (all_alike asked rows rows c (point rows asked) (point rows rows) (refl, λ x. refl))

-- so it is of rows and what is asked of them
pub grown_held : (rows old new : Spans) (c : Commands) (x : Name) → held rows new ≡ (let end = ask rows c (point rows (held rows old)) in asking_all (assigned c) end.spans end.rows) → joined (new x) (rows x) ≡ joined (old x) (grown rows c x)
grown_held rows old new c x h =
    let g = grown rows c x in
    let lies : joined g (rows x) ≡ g = joined_within (rows x) g (grown_grows rows c x) in
    joined_turned (new x) (rows x)
    ∙ sym (held_hold rows new x)
    ∙ ap (λ (s : Spans). joined (s x) (rows x)) h
    ∙ grown_alike rows (held rows old) c x
    ∙ ap (λ r. joined r g) (joined_turned (rows x) (old x))
    ∙ sym (joined_again (old x) (rows x) g)
    ∙ ap (joined (old x)) (joined_turned (rows x) g ∙ lies)
