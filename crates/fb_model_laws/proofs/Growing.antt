-- Rows only grow.
use Rattle.std.proofs.Common.{◌≡◌, ℕ, zero, suc, ℤ, Bool, true, false, List, [], ◌∷◌}
use Rattle.std.specs.Prelude.{if◌then◌else◌}
use Rattle.std.specs.Str.{bytes_eq}
use Rattle.fb_model.specs.Names.{Name}
use Rattle.fb_model.specs.TypedText.{Command, set, set_part, choose, match_on, count, done, then_do, Choices, no_choice, choice, Cases, no_case, a_case}
use Rattle.fb_model.specs.Language.{Algorithm}
use Rattle.fb_model.specs.Spans.{Span, within, joined}
use Rattle.fb_model.specs.Clear.{Spans, changed, narrowed, assigned, reset, most_iterations, taken}
use Rattle.fb_model.specs.Asking.{Asked, point, range_in, asking, asking_all, asked_loop, ask_one, ask, ask_choices, ask_cases, grown}
use Rattle.fb_model_laws.proofs.Ranging.{within_same, within_on, within_joined}

-- each row lies in the one that it has grown to
abbrev pub Grows : Spans → Spans → Type 0
Grows rows more = (x : Name) → within (rows x) (more x) ≡ true

pub grows_on : (p q r : Spans) → Grows p q → Grows q r → Grows p r
grows_on p q r h k x = within_on (p x) (q x) (r x) (h x) (k x)

pub asking_grows : (x : Name) (r : Span) (rows : Spans) → Grows rows (asking x r rows)
asking_grows x r rows y = by (bytes_eq x y) where
  by : (b : Bool) → within (rows y) (if b then joined (rows y) r else rows y) ≡ true
  by true = within_joined (rows y) r
  by false = within_same (rows y)

pub asking_all_grows : (xs : List Name) (spans rows : Spans) → Grows rows (asking_all xs spans rows)
asking_all_grows [] spans rows = λ x. within_same (rows x)
asking_all_grows (x ∷ xs) spans rows = grows_on rows (asking x (spans x) rows) (asking_all xs spans (asking x (spans x) rows)) (asking_grows x (spans x) rows) (asking_all_grows xs spans (asking x (spans x) rows))

pub loop_grows : (n : ℕ) (xs : List Name) (rows : Spans) (f : Asked → Asked) (x : Name) (r s : Span) (k : ℤ) → ((b : Asked) → Grows b.rows (f b).rows) → (a : Asked) → Grows a.rows (asked_loop n xs rows f x r s k a).rows
loop_grows zero xs rows f x r s k h a = λ y. within_same (a.rows y)
loop_grows (suc n) xs rows f x r s k h a =
    let begin = point (changed x (λ b. taken r s k (suc n)) (reset xs rows a.spans)) (asking_all xs a.spans a.rows) in
    grows_on a.rows begin.rows (asking_all xs (f begin).spans (f begin).rows) (asking_all_grows xs a.spans a.rows)
    (grows_on begin.rows (f begin).rows (asking_all xs (f begin).spans (f begin).rows) (h begin) (asking_all_grows xs (f begin).spans (f begin).rows))

mutual
  pub one_grows : (rows : Spans) (c : Command) (a : Asked) → Grows a.rows (ask_one rows c a).rows
  one_grows rows (set x e) a = λ y. within_same (a.rows y)
  one_grows rows (set_part x low high i e) a = asking_grows x (range_in e a.spans) a.rows
  one_grows rows (choose choices other) a = choices_grow rows choices (ask rows other) (λ b. all_grows rows other b) a
  one_grows rows (match_on e cases other) a = cases_grow rows cases (ask rows other) (λ b. all_grows rows other b) a
  one_grows rows (count x kind e g k plain body) a =
      let r = range_in e a.spans in let s = range_in g a.spans in loop_grows (most_iterations r s k) (assigned body) rows (ask rows body) x r s k (λ b. all_grows rows body b) a

  pub all_grows : (rows : Spans) (c : Algorithm) (a : Asked) → Grows a.rows (ask rows c a).rows
  all_grows rows done a = λ y. within_same (a.rows y)
  all_grows rows (then_do c cs) a = grows_on a.rows (ask_one rows c a).rows (ask rows cs (ask_one rows c a)).rows (one_grows rows c a) (all_grows rows cs (ask_one rows c a))

  pub choices_grow : (rows : Spans) (choices : Choices) (asks : Asked → Asked) → ((b : Asked) → Grows b.rows (asks b).rows) → (a : Asked) → Grows a.rows (ask_choices rows choices asks a).rows
  choices_grow rows no_choice asks h a = h a
  choices_grow rows (choice e body rest) asks h a =
      let way = ask rows body (point (narrowed e true a.spans) a.rows) in
      let begin = point (narrowed e false a.spans) way.rows in
      grows_on a.rows way.rows (ask_choices rows rest asks begin).rows (all_grows rows body (point (narrowed e true a.spans) a.rows)) (choices_grow rows rest asks h begin)

  pub cases_grow : (rows : Spans) (cases : Cases) (asks : Asked → Asked) → ((b : Asked) → Grows b.rows (asks b).rows) → (a : Asked) → Grows a.rows (ask_cases rows cases asks a).rows
  cases_grow rows no_case asks h a = h a
  cases_grow rows (a_case labels body rest) asks h a =
      let way = ask rows body a in
      let begin = point a.spans way.rows in
      grows_on a.rows way.rows (ask_cases rows rest asks begin).rows (all_grows rows body a) (cases_grow rows rest asks h begin)

pub grown_grows : (rows : Spans) (c : Algorithm) (x : Name) → within (rows x) (grown rows c x) ≡ true
grown_grows rows c =
    let end = ask rows c (point rows rows) in
    grows_on rows end.rows (asking_all (assigned c) end.spans end.rows) (all_grows rows c (point rows rows)) (asking_all_grows (assigned c) end.spans end.rows)
