-- The most that algorithms spend whose variables lie in their rows.
-- This project's profile; the statements are those of IEC 61131-3 edition 3, 7.3.3.
use Rattle.std.specs.Prelude.{ℕ, ◌+◌, ◌*◌, max, length, true, false, Option, Some, None}
use Rattle.fb_prices.specs.declared.primitive.Primitive.TheVariants as p
use Rattle.fb_model.specs.TypedText.{Command, set, set_part, choose, match_on, count, done, then_do, Choices, no_choice, choice, Cases, no_case, a_case}
use Rattle.fb_model.specs.Language.{Algorithm}
use Rattle.fb_model.specs.Clear.{Spans, Found, Clear, Leaves, Traps, changed, reset, assigned, range_of, narrowed, most_iterations, taken, examine_one}
use Rattle.fb_model_work.specs.Spending.{Prices, in_term, where_some}

-- what comes after a statement that is clear
abbrev pub where_clear : Found → (Spans → ℕ) → ℕ
where_clear (Clear spans n) f = f spans
where_clear Leaves f = 0
where_clear Traps f = 0

-- what statements spend at most from values in these ranges, under the rows of the variables
abbrev mutual
  pub most_one : Prices → Spans → Command → Spans → ℕ
  most_one prices rows (set x e) spans = prices p.Assign + in_term prices e
  most_one prices rows (set_part x low high i e) spans = prices p.AssignElement + (in_term prices i + in_term prices e)
  most_one prices rows (choose choices other) spans = prices p.If + most_choices prices rows choices (most_all prices rows other) spans
  most_one prices rows (match_on e cases other) spans = prices p.Case + (in_term prices e + most_cases prices rows cases (most_all prices rows other spans) spans)
  -- each iteration from the rows of what the body assigns
  most_one prices rows (count x a e g k plain body) spans =
      prices p.For
      + ((in_term prices e + in_term prices g)
      + where_some (range_of e spans) (λ r. where_some (range_of g spans) (λ s.
      let n = most_iterations r s k in
      n * (prices p.Iteration + most_all prices rows body (changed x (λ b. taken r s k n) (reset (assigned body) rows spans))))))

  pub most_all : Prices → Spans → Algorithm → Spans → ℕ
  most_all prices rows done spans = 0
  most_all prices rows (then_do c cs) spans = most_one prices rows c spans + where_clear (examine_one rows c spans) (most_all prices rows cs)

  -- each condition where the earlier ones are false, and the dearer of what is done there and what comes after
  pub most_choices : Prices → Spans → Choices → (Spans → ℕ) → Spans → ℕ
  most_choices prices rows no_choice other spans = other spans
  most_choices prices rows (choice e body rest) other spans =
      (prices p.Branch + in_term prices e) + max (most_all prices rows body (narrowed e true spans)) (most_choices prices rows rest other (narrowed e false spans))

  pub most_cases : Prices → Spans → Cases → ℕ → Spans → ℕ
  most_cases prices rows no_case other spans = other
  most_cases prices rows (a_case labels body rest) other spans =
      (prices p.Arm + prices p.Label * length labels) + max (most_all prices rows body spans) (most_cases prices rows rest other spans)

-- what an algorithm spends at most
abbrev pub most : Prices → Spans → Algorithm → ℕ
most prices rows a = most_all prices rows a rows

abbrev pub most_of : Prices → Spans → Option Algorithm → ℕ
most_of prices rows None = 0
most_of prices rows (Some a) = prices p.Call + most prices rows a
