-- Ranges of numbers, and the smallest ranges that hold what operations give.
-- This project's profile; the operations are those of IEC 61131-3 edition 3, 7.3.2 and 6.6.2.5.
use Rattle.std.specs.Prelude.{◌-◌, max, ℤ, pos, neg_ℤ, ◌+ℤ◌, ◌-ℤ◌, ◌*ℤ◌, unsigned_abs, int_le, int_div, Bool, ◌&&◌, Option, None, Some, if◌then◌else◌}
use Rattle.std.specs.Int.{int_min, int_max}
use Rattle.fb_words.specs.declared.elem_type.ElemType.{ElemType}
use Rattle.fb_words.specs.declared.elem_type.ElemType.TheVariants as t
use Rattle.fb_words.specs.declared.operator.Operator.TheVariants as o
use Rattle.fb_words.specs.declared.operator.Operation.{Operation}
use Rattle.fb_words.specs.declared.operator.Operation.TheVariants.{Infix, Negate, Not, Abs, Min, Max, Convert}
use Rattle.fb_model.specs.Values.{lowest, highest}

-- the numbers from one to another
pub record Span : Type 0 where
  pub low : ℤ
  pub high : ℤ

abbrev pub span : ℤ → ℤ → Span
span a b = record { low = a; high = b }

-- a range lies in another
abbrev pub within : Span → Span → Bool
within r s = int_le s.low r.low && int_le r.high s.high

-- the smallest range that holds both
abbrev pub joined : Span → Span → Span
joined r s = span (int_min r.low s.low) (int_max r.high s.high)

-- the numbers of a type
abbrev pub whole : ElemType → Span
whole a = span (lowest a) (highest a)

-- the truth values
abbrev pub truth : Span
truth = span (pos 0) (pos 1)

-- a range that leaves the type becomes the whole type
abbrev pub fitted : ElemType → Span → Span
fitted a r = if within r (whole a) then r else whole a

-- 0 lies in it
abbrev pub holds_zero : Span → Bool
holds_zero r = int_le r.low (pos 0) && int_le (pos 0) r.high

-- ---- operations

-- the numbers with the other sign
abbrev pub opposites : Span → Span
opposites r = span (neg_ℤ r.high) (neg_ℤ r.low)

-- the sums
abbrev pub sums : Span → Span → Span
sums r s = span (r.low +ℤ s.low) (r.high +ℤ s.high)

-- the differences
abbrev pub differences : Span → Span → Span
differences r s = span (r.low -ℤ s.high) (r.high -ℤ s.low)

-- the lesser ones of two numbers
abbrev pub minima : Span → Span → Span
minima r s = span (int_min r.low s.low) (int_min r.high s.high)

-- the greater ones of two numbers
abbrev pub maxima : Span → Span → Span
maxima r s = span (int_max r.low s.low) (int_max r.high s.high)

-- the smallest range that holds an operation's results at the four corners
abbrev pub corners : (ℤ → ℤ → ℤ) → Span → Span → Span
corners f r s =
    span
    (int_min (int_min (f r.low s.low) (f r.low s.high)) (int_min (f r.high s.low) (f r.high s.high)))
    (int_max (int_max (f r.low s.low) (f r.low s.high)) (int_max (f r.high s.low) (f r.high s.high)))

-- the sizes of the numbers
abbrev pub sizes : Span → Span
sizes r =
    if int_le (pos 0) r.low
    then r
    else if int_le r.high (pos 0) then span (neg_ℤ r.high) (neg_ℤ r.low) else span (pos 0) (int_max (neg_ℤ r.low) r.high)

-- what is left of a division: less in size than the divisor, no more than the dividend, and of its sign
abbrev pub rests : Span → Span → Span
rests r s =
    let most = pos (max (unsigned_abs s.low) (unsigned_abs s.high) - 1) in
    span (neg_ℤ (int_min most (int_max (pos 0) (neg_ℤ r.low)))) (int_min most (int_max (pos 0) r.high))

-- the results of an operation on one operand, in the type that they have; none where it takes no single operand.
-- A truth value is 0 or 1 whatever its range says, so that these two are joined to it
abbrev pub range_one : Operation → ElemType → Span → Option Span
range_one Negate a r = Some (fitted a (opposites r))
range_one Abs a r = Some (fitted a (sizes r))
range_one (Convert t.Bool to) a r = Some (fitted to (joined truth r))
range_one (Convert from to) a r = Some (fitted to r)
range_one Not a r = Some truth
range_one operation a r = None

-- the results of an operation on two operands; none where a divisor may be zero, or where it does not take two
abbrev pub range_two : Operation → ElemType → Span → Span → Option Span
range_two (Infix o.Plus) a r s = Some (fitted a (sums r s))
range_two (Infix o.Minus) a r s = Some (fitted a (differences r s))
range_two (Infix o.Times) a r s = Some (fitted a (corners ◌*ℤ◌ r s))
range_two (Infix o.Over) a r s = if holds_zero s then None else Some (fitted a (corners int_div r s))
range_two (Infix o.Modulo) a r s = Some (fitted a (rests r s))
range_two (Infix relation) a r s = Some truth
range_two Min a r s = Some (minima r s)
range_two Max a r s = Some (maxima r s)
range_two operation a r s = None
