-- What an algorithm asks of rows: by how much they are enlarged to hold what it makes of the values in them.
-- This project's profile: where a check would refuse since a value may leave its row, the row is asked to hold it. A division at fault counts
-- as its whole type there; an index at fault is passed over, its element read or asked for as at any index.
use Rattle.std.specs.Prelude.{ℕ, zero, suc, ℤ, true, false, List, [], ◌∷◌}
use Rattle.std.specs.Option.{unwrap_or}
use Rattle.fb_model.specs.Names.{Name}
use Rattle.fb_model.specs.TypedText.{Term, constant, read, part, single, double, Command, set, set_part, choose, match_on, count, done, then_do, Choices, no_choice, choice, Cases, no_case, a_case}
use Rattle.fb_model.specs.Language.{Algorithm}
use Rattle.fb_model.specs.Spans.{Span, span, whole, joined, range_one, range_two}
use Rattle.fb_model.specs.Clear.{Spans, changed, narrowed, assigned, reset, most_iterations, taken, left_with}

-- the range of an expression whatever its divisors and indices are: a division at fault counts as its whole type, an element as its array's row
abbrev pub range_in : Term → Spans → Span
range_in (constant k) spans = span k k
range_in (read x) spans = spans x
range_in (part x low high i) spans = spans x
range_in (single f a e) spans = unwrap_or (range_one f a (range_in e spans)) (whole a)
range_in (double f a e g) spans = unwrap_or (range_two f a (range_in e spans) (range_in g spans)) (whole a)

-- the ranges of variables at a point, and the rows enlarged by what was asked up to there
pub record Asked : Type 0 where
  pub spans : Spans
  pub rows : Spans

abbrev pub point : Spans → Spans → Asked
point spans rows = record { spans = spans; rows = rows }

-- a row is asked to hold a range too
abbrev pub asking : Name → Span → Spans → Spans
asking x r rows = changed x (λ b. joined b r) rows

-- the rows of these variables are asked to hold what the variables have
abbrev pub asking_all : List Name → Spans → Spans → Spans
asking_all [] spans rows = rows
asking_all (x ∷ xs) spans rows = asking_all xs spans (asking x (spans x) rows)

-- one way or others: each variable in the smallest range that holds both; what the one asked, the others began with
abbrev pub met : Asked → Asked → Asked
met way others = point (λ x. joined (way.spans x) (others.spans x)) others.rows

-- a FOR of n iterations at most, whose body asks by f and assigns these: they have their rows before each iteration and after all of them, so that the
-- rows are asked to hold what they have before the first iteration, and at an iteration's end; without iterations nothing is asked
abbrev pub asked_loop : ℕ → List Name → Spans → (Asked → Asked) → Name → Span → Span → ℤ → Asked → Asked
asked_loop zero xs rows f x r s k a = a
asked_loop (suc n) xs rows f x r s k a =
    let begin = reset xs rows a.spans in
    let end = f (point (changed x (λ b. taken r s k (suc n)) begin) (asking_all xs a.spans a.rows)) in
    point (changed x (left_with r s k (suc n)) begin) (asking_all xs end.spans end.rows)

-- what a statement makes of ranges and asks of rows, in the order of the text; the rows that it goes by stay those given
abbrev mutual
  pub ask_one : Spans → Command → Asked → Asked
  ask_one rows (set x e) a = point (changed x (λ b. range_in e a.spans) a.spans) a.rows
  ask_one rows (set_part x low high i e) a = point a.spans (asking x (range_in e a.spans) a.rows)
  ask_one rows (choose choices other) a = ask_choices rows choices (ask rows other) a
  ask_one rows (match_on e cases other) a = ask_cases rows cases (ask rows other) a
  ask_one rows (count x kind e g k plain body) a =
      let r = range_in e a.spans in let s = range_in g a.spans in asked_loop (most_iterations r s k) (assigned body) rows (ask rows body) x r s k a

  pub ask : Spans → Algorithm → Asked → Asked
  ask rows done a = a
  ask rows (then_do c cs) a = ask rows cs (ask_one rows c a)

  -- each condition where the earlier ones are false; other is what comes where all are
  pub ask_choices : Spans → Choices → (Asked → Asked) → Asked → Asked
  ask_choices rows no_choice other a = other a
  ask_choices rows (choice e body rest) other a =
      let way = ask rows body (point (narrowed e true a.spans) a.rows) in met way (ask_choices rows rest other (point (narrowed e false a.spans) way.rows))

  -- a CASE narrows nothing
  pub ask_cases : Spans → Cases → (Asked → Asked) → Asked → Asked
  ask_cases rows no_case other a = other a
  ask_cases rows (a_case labels body rest) other a = let way = ask rows body a in met way (ask_cases rows rest other (point a.spans way.rows))

-- the rows enlarged by what an algorithm asks that begins with them; each variable that it assigns has to lie in its row at the end
abbrev pub grown : Spans → Algorithm → Spans
grown rows a = let end = ask rows a (point rows rows) in asking_all (assigned a) end.spans end.rows
