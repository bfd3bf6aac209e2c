-- Ranges are the smallest that hold the exact results: their ends are results.
use Rattle.std.proofs.Common.{◌≡◌, zero, suc, ℤ, pos, negsuc, neg_ℤ, ◌+ℤ◌, ◌-ℤ◌, ◌≤ℤ◌, ◌<ℤ◌, int_div, false, Option, Some, refl, sym, ◌∙◌, ap, subst, arith}
use Rattle.std.specs.Int.{int_min, int_max}
use Rattle.std.proofs.lemmas.Int.{ints, clamps, by_lt_z}
use Rattle.fb_model.specs.Language.{quotient, remainder, least, greatest}
use Rattle.fb_model.specs.Spans.{Span, span, holds_zero, corners, opposites, sums, differences, minima, maxima, sizes, rests}
use Rattle.fb_model.specs.Shapes.{IsIn}
use Rattle.fb_model.specs.Exact.{size_of, IsFilled, HoldsTwo, HoldsQuotients, OneReaches, TwoReach, ReachesOne, ReachesTwo, ReachesQuotients}
use Rattle.fb_words.proofs.Types.{le_true, le_false}
use Rattle.fb_model.proofs.Results.{nonzero, quotient_lies, remainder_lies}

at_low : (r : Span) → IsFilled r → IsIn r r.low
at_low r h = record { least = omega (arith, ints); most = h }

at_high : (r : Span) → IsFilled r → IsIn r r.high
at_high r h = record { least = h; most = omega (arith, ints) }

-- ---- one operand

reach_one : (f : ℤ → ℤ) (r : Span) (x e : ℤ) → IsIn r x → f x ≡ e → OneReaches f r e
reach_one f r x e h g = record { operand = x; lies = h; gives = g }

pub opposites_reached : ReachesOne neg_ℤ opposites
opposites_reached r h = (reach_one neg_ℤ r r.high _ (at_high r h) refl, reach_one neg_ℤ r r.low _ (at_low r h) refl)

-- both ends of a range are reached
abbrev BothReached : Span → Span → Type 0
BothReached r t = OneReaches size_of r t.low × OneReaches size_of r t.high

farther : (r : Span) → r.low <ℤ pos 0 → pos 0 <ℤ r.high → OneReaches size_of r (int_max (neg_ℤ r.low) r.high)
farther r a b =
    let h : r.low ≤ℤ r.high = omega (arith, ints) in
    by_lt_z (neg_ℤ r.low) r.high
    (λ p. reach_one size_of r r.high _ (at_high r h) (omega (arith, ints, clamps)))
    (λ p. reach_one size_of r r.low _ (at_low r h) (omega (arith, ints, clamps)))

pub sizes_reached : ReachesOne size_of sizes
sizes_reached r h =
    by_lt_z r.low (pos 0)
    (λ below.
    by_lt_z (pos 0) r.high
    (λ above.
    subst (BothReached r) (sym (astride below above))
    (reach_one size_of r (pos 0) (pos 0) (record { least = omega (arith, ints); most = omega (arith, ints) }) refl, farther r below above))
    (λ p.
    subst (BothReached r) (sym (under below p))
    (reach_one size_of r r.high (neg_ℤ r.high) (at_high r h) (omega (arith, ints)), reach_one size_of r r.low (neg_ℤ r.low) (at_low r h) (omega (arith, ints)))))
    (λ p. subst (BothReached r) (sym (over p)) (reach_one size_of r r.low r.low (at_low r h) (omega (arith, ints)), reach_one size_of r r.high r.high (at_high r h) (omega (arith, ints))))
  where
    over : pos 0 ≤ℤ r.low → sizes r ≡ r
    over p = rw (le_true (pos 0) r.low p) refl

    under : r.low <ℤ pos 0 → r.high ≤ℤ pos 0 → sizes r ≡ span (neg_ℤ r.high) (neg_ℤ r.low)
    under p q = rw (le_false (pos 0) r.low p, le_true r.high (pos 0) q) refl

    astride : r.low <ℤ pos 0 → pos 0 <ℤ r.high → sizes r ≡ span (pos 0) (int_max (neg_ℤ r.low) r.high)
    astride p q = rw (le_false (pos 0) r.low p, le_false r.high (pos 0) q) refl

-- ---- two operands

reach_two : (f : ℤ → ℤ → Option ℤ) (r s : Span) (x y e : ℤ) → IsIn r x → IsIn s y → f x y ≡ Some e → TwoReach f r s e
reach_two f r s x y e h k g = record { left = x; right = y; left_lies = h; right_lies = k; gives = g }

pub sums_reached : ReachesTwo ◌+ℤ◌ sums
sums_reached r s h k = (reach_two _ r s r.low s.low _ (at_low r h) (at_low s k) refl, reach_two _ r s r.high s.high _ (at_high r h) (at_high s k) refl)

pub differences_reached : ReachesTwo ◌-ℤ◌ differences
differences_reached r s h k = (reach_two _ r s r.low s.high _ (at_low r h) (at_high s k) refl, reach_two _ r s r.high s.low _ (at_high r h) (at_low s k) refl)

least_is : (a b : ℤ) → least a b ≡ int_min a b
least_is a b = by_lt_z b a (λ p. rw (le_false a b p) (omega (arith, ints, clamps))) (λ p. rw (le_true a b p) (omega (arith, ints, clamps)))

greatest_is : (a b : ℤ) → greatest a b ≡ int_max a b
greatest_is a b = by_lt_z b a (λ p. rw (le_false a b p) (omega (arith, ints, clamps))) (λ p. rw (le_true a b p) (omega (arith, ints, clamps)))

pub minima_reached : ReachesTwo least minima
minima_reached r s h k =
    (reach_two _ r s r.low s.low _ (at_low r h) (at_low s k) (ap (λ z. Some z) (least_is r.low s.low)), reach_two _ r s r.high s.high _ (at_high r h) (at_high s k) (ap (λ z. Some z) (least_is r.high s.high)))

pub maxima_reached : ReachesTwo greatest maxima
maxima_reached r s h k =
    (reach_two _ r s r.low s.low _ (at_low r h) (at_low s k) (ap (λ z. Some z) (greatest_is r.low s.low)), reach_two _ r s r.high s.high _ (at_high r h) (at_high s k) (ap (λ z. Some z) (greatest_is r.high s.high)))

-- ---- corners

either_min : (P : ℤ → Type 0) (a b : ℤ) → P a → P b → P (int_min a b)
either_min P a b p q = by_lt_z a b (λ l. let e : a ≡ int_min a b = omega (arith, ints, clamps) in subst P e p) (λ l. let e : b ≡ int_min a b = omega (arith, ints, clamps) in subst P e q)

either_max : (P : ℤ → Type 0) (a b : ℤ) → P a → P b → P (int_max a b)
either_max P a b p q = by_lt_z a b (λ l. let e : b ≡ int_max a b = omega (arith, ints, clamps) in subst P e q) (λ l. let e : a ≡ int_max a b = omega (arith, ints, clamps) in subst P e p)

pub corners_reached : (f : ℤ → ℤ → ℤ) → ReachesTwo f (corners f)
corners_reached f r s h k =
    let P : ℤ → Type 0 = λ e. TwoReach (λ x y. Some (f x y)) r s e in
    let a : TwoReach (λ x y. Some (f x y)) r s (f r.low s.low) = reach_two (λ x y. Some (f x y)) r s r.low s.low _ (at_low r h) (at_low s k) refl in
    let b : TwoReach (λ x y. Some (f x y)) r s (f r.low s.high) = reach_two (λ x y. Some (f x y)) r s r.low s.high _ (at_low r h) (at_high s k) refl in
    let c : TwoReach (λ x y. Some (f x y)) r s (f r.high s.low) = reach_two (λ x y. Some (f x y)) r s r.high s.low _ (at_high r h) (at_low s k) refl in
    let d : TwoReach (λ x y. Some (f x y)) r s (f r.high s.high) = reach_two (λ x y. Some (f x y)) r s r.high s.high _ (at_high r h) (at_high s k) refl in
    (either_min P _ _ (either_min P _ _ a b) (either_min P _ _ c d), either_max P _ _ (either_max P _ _ a b) (either_max P _ _ c d))

-- ---- quotients

is_quotient : (x y : ℤ) → (y ≡ pos 0 → ⊥) → quotient x y ≡ Some (int_div x y)
is_quotient x (pos zero) n = absurd (n refl)
is_quotient x (pos (suc y)) n = refl
is_quotient x (negsuc y) n = refl

pub quotients_lie : HoldsQuotients (corners int_div)
quotients_lie r s x y z h k = (int_div x y, is_quotient x y (nonzero s y z k), quotient_lies r s x y z h k)

as_quotient : (r s : Span) (e : ℤ) → holds_zero s ≡ false → TwoReach (λ x y. Some (int_div x y)) r s e → TwoReach quotient r s e
as_quotient r s e z t = reach_two quotient r s t.left t.right e t.left_lies t.right_lies (is_quotient t.left t.right (nonzero s t.right z t.right_lies) ∙ t.gives)

pub quotients_reached : ReachesQuotients (corners int_div)
quotients_reached r s z h k = let c = corners_reached int_div r s h k in (as_quotient r s _ z c.0, as_quotient r s _ z c.1)

pub rests_lie : HoldsTwo remainder rests
rests_lie r s x y h k = remainder_lies r s x y h k _ refl
