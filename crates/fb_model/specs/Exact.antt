-- What it means that a range is the smallest that holds the exact results of an operation, before they are brought into a type.
use Rattle.std.specs.Prelude.{◌≡◌, ℤ, pos, ◌≤ℤ◌, unsigned_abs, false, Option, Some}
use Rattle.fb_model.specs.Language.{quotient}
use Rattle.fb_model.specs.Spans.{Span, holds_zero}
use Rattle.fb_model.specs.Shapes.{IsIn}

-- a number without its sign
abbrev pub size_of : ℤ → ℤ
size_of x = pos (unsigned_abs x)

-- some number lies in it
abbrev pub IsFilled : Span → Type 0
IsFilled r = r.low ≤ℤ r.high

-- ---- all results lie in the range

abbrev pub HoldsOne : (ℤ → ℤ) → (Span → Span) → Type 0
HoldsOne f range = (r : Span) (x : ℤ) → IsIn r x → IsIn (range r) (f x)

-- for two operands in ranges
abbrev pub HoldsTwo : (ℤ → ℤ → ℤ) → (Span → Span → Span) → Type 0
HoldsTwo f range = (r s : Span) (x y : ℤ) → IsIn r x → IsIn s y → IsIn (range r s) (f x y)

-- where the divisor's range holds no 0, there is a quotient
abbrev pub HoldsQuotients : (Span → Span → Span) → Type 0
HoldsQuotients range = (r s : Span) (x y : ℤ) → holds_zero s ≡ false → IsIn r x → IsIn s y → (z : ℤ) × (quotient x y ≡ Some z) × IsIn (range r s) z

-- ---- and its ends are results

-- an operand in a range gives the end
pub record OneReaches (f : ℤ → ℤ) (r : Span) (end : ℤ) : Type 0 where
  pub operand : ℤ
  pub lies : IsIn r operand
  pub gives : f operand ≡ end

-- operands in ranges give the end
pub record TwoReach (f : ℤ → ℤ → Option ℤ) (r s : Span) (end : ℤ) : Type 0 where
  pub left : ℤ
  pub right : ℤ
  pub left_lies : IsIn r left
  pub right_lies : IsIn s right
  pub gives : f left right ≡ Some end

-- for each range that holds a number
abbrev pub ReachesOne : (ℤ → ℤ) → (Span → Span) → Type 0
ReachesOne f range = (r : Span) → IsFilled r → OneReaches f r (range r).low × OneReaches f r (range r).high

-- for two such ranges
abbrev pub ReachesTwo : (ℤ → ℤ → ℤ) → (Span → Span → Span) → Type 0
ReachesTwo f range = (r s : Span) → IsFilled r → IsFilled s → TwoReach (λ x y. Some (f x y)) r s (range r s).low × TwoReach (λ x y. Some (f x y)) r s (range r s).high

-- for two such ranges, the second one without 0
abbrev pub ReachesQuotients : (Span → Span → Span) → Type 0
ReachesQuotients range = (r s : Span) → holds_zero s ≡ false → IsFilled r → IsFilled s → TwoReach quotient r s (range r s).low × TwoReach quotient r s (range r s).high
