-- Arithmetic on ranges: the results of operations lie in the ranges that the definitions give.
use Rattle.std.proofs.Common.{◌≡◌, ℕ, zero, suc, ◌+◌, ◌-◌, ◌*◌, ◌/◌, ◌%◌, ◌<◌, ◌≤◌, max, ℤ, pos, negsuc, neg_ℤ, ◌+ℤ◌, ◌-ℤ◌, ◌*ℤ◌, ◌≤ℤ◌, ◌<ℤ◌, unsigned_abs, int_le, int_div, Bool, true, false, ◌&&◌, Option, Some, None, IfSome, refl, arith, ◌⊎◌, inl, inr}
use Rattle.std.specs.Prelude.{if◌then◌else◌}
use Rattle.std.proofs.Math.Nat.{mul-le-mul_right, mul-div-le, mod-lt, mod-le}
use Rattle.std.specs.Int.{int_min, int_max}
use Rattle.std.proofs.lemmas.Nat.{le-div}
use Rattle.std.proofs.lemmas.Int.{ints, clamps, by_lt_z}
use borrow.Author.Differences.{up, down}
use Rattle.fb_words.specs.declared.elem_type.ElemType.{ElemType}
use Rattle.fb_words.specs.declared.elem_type.ElemType.TheVariants as t
use Rattle.fb_words.specs.declared.operator.Operator.TheVariants as o
use Rattle.fb_words.specs.declared.operator.Operation.{Operation}
use Rattle.fb_words.specs.declared.operator.Operation.TheVariants.{Infix, Negate, Not, Abs, Min, Max, Limit, Convert}
use Rattle.fb_model.specs.Language.{wrapped, bit, is_zero, remainder, least, greatest, on_one, on_two}
use Rattle.fb_model.specs.Spans.{Span, span, within, joined, whole, truth, fitted, holds_zero, corners, sizes, range_one, range_two}
use Rattle.fb_model.specs.Shapes.{IsIn}
use Rattle.fb_words.proofs.Types.{le_true, le_false, wrapped_fits, wrapped_same, le_is}

-- ---- products

mul_up : (x y : ℤ) (m : ℕ) → x ≤ℤ y → (x *ℤ pos m) ≤ℤ (y *ℤ pos m)
mul_up x y m h =
    let e : up x + down y ≤ up y + down x = omega (arith, ints) in
    let q : (up x + down y) * m ≤ (up y + down x) * m = mul-le-mul_right m e in
    omega (arith, ints)

mul_down : (x y : ℤ) (m : ℕ) → x ≤ℤ y → (y *ℤ negsuc m) ≤ℤ (x *ℤ negsuc m)
mul_down x y m h =
    let e : up x + down y ≤ up y + down x = omega (arith, ints) in
    let q : (up x + down y) * suc m ≤ (up y + down x) * suc m = mul-le-mul_right (suc m) e in
    omega (arith, ints)

-- v lies between a and b
pub record Amid (a b v : ℤ) : Type 0 where
  pub above : int_min a b ≤ℤ v
  pub below : v ≤ℤ int_max a b

amid_up : (a b v : ℤ) → a ≤ℤ v → v ≤ℤ b → Amid a b v
amid_up a b v h k = record { above = omega (arith, ints, clamps); below = omega (arith, ints, clamps) }

amid_down : (a b v : ℤ) → b ≤ℤ v → v ≤ℤ a → Amid a b v
amid_down a b v h k = record { above = omega (arith, ints, clamps); below = omega (arith, ints, clamps) }

pub mul_left : (a b u v : ℤ) → a ≤ℤ u → u ≤ℤ b → Amid (a *ℤ v) (b *ℤ v) (u *ℤ v)
mul_left a b u (pos m) h k = amid_up _ _ _ (mul_up a u m h) (mul_up u b m k)
mul_left a b u (negsuc m) h k = amid_down _ _ _ (mul_down u b m k) (mul_down a u m h)

mul_comm : (a b : ℤ) → a *ℤ b ≡ b *ℤ a
mul_comm a b = omega (arith, ints)

pub mul_right : (a b u v : ℤ) → a ≤ℤ u → u ≤ℤ b → Amid (v *ℤ a) (v *ℤ b) (v *ℤ u)
mul_right a b u v h k = rw (mul_comm v a, mul_comm v b, mul_comm v u) (mul_left a b u v h k)

-- from edges to corners: f u v is between f a v and f b v, and those between the corners
from_edges : (p q r s e f w : ℤ) → Amid p q e → Amid r s f → Amid e f w → (int_min (int_min p q) (int_min r s) ≤ℤ w) × (w ≤ℤ int_max (int_max p q) (int_max r s))
from_edges p q r s e f w h k l = (omega (arith, ints, clamps), omega (arith, ints, clamps))

pub product_lies : (r s : Span) (u v : ℤ) → IsIn r u → IsIn s v → IsIn (corners ◌*ℤ◌ r s) (u *ℤ v)
product_lies r s u v h k =
    let w = from_edges _ _ _ _ _ _ _ (mul_right s.low s.high v r.low k.least k.most) (mul_right s.low s.high v r.high k.least k.most) (mul_left r.low r.high u v h.least h.most) in
    record { least = w.0; most = w.1 }

-- ---- quotients

pub div_up : (a b d : ℕ) → a ≤ b → a / suc d ≤ b / suc d
div_up a b d h = let m = mul-div-le a (suc d) in let e : (a / suc d) * suc d ≤ b = omega arith in le-div (a / suc d) b (suc d) (omega arith) e

div_by : (a c d : ℕ) → c ≤ d → a / suc d ≤ a / suc c
div_by a c d h =
    let m = mul-div-le a (suc d) in
    let q = mul-le-mul_right (a / suc d) (let l : suc c ≤ suc d = omega arith in l) in
    let e : (a / suc d) * suc c ≤ a = omega arith in
    le-div (a / suc d) a (suc c) (omega arith) e

-- a larger dividend
quot_up : (x y : ℤ) (d : ℕ) → x ≤ℤ y → int_div x (pos (suc d)) ≤ℤ int_div y (pos (suc d))
quot_up (pos a) (pos b) d h = let l : a ≤ b = omega (arith, ints) in let q = div_up a b d l in omega (arith, ints)
quot_up (pos a) (negsuc b) d h = absurd (omega (arith, ints))
quot_up (negsuc a) (pos b) d h = omega (arith, ints)
quot_up (negsuc a) (negsuc b) d h = let l : suc b ≤ suc a = omega (arith, ints) in let q = div_up (suc b) (suc a) d l in omega (arith, ints)

quot_down : (x y : ℤ) (d : ℕ) → x ≤ℤ y → int_div y (negsuc d) ≤ℤ int_div x (negsuc d)
quot_down (pos a) (pos b) d h = let l : a ≤ b = omega (arith, ints) in let q = div_up a b d l in omega (arith, ints)
quot_down (pos a) (negsuc b) d h = absurd (omega (arith, ints))
quot_down (negsuc a) (pos b) d h = omega (arith, ints)
quot_down (negsuc a) (negsuc b) d h = let l : suc b ≤ suc a = omega (arith, ints) in let q = div_up (suc b) (suc a) d l in omega (arith, ints)

-- a larger divisor of one sign
quot_pos : (x : ℤ) (c v d : ℕ) → c ≤ v → v ≤ d → Amid (int_div x (pos (suc c))) (int_div x (pos (suc d))) (int_div x (pos (suc v)))
quot_pos (pos a) c v d h k = let p = div_by a c v h in let q = div_by a v d k in amid_down _ _ _ (omega (arith, ints)) (omega (arith, ints))
quot_pos (negsuc a) c v d h k = let p = div_by (suc a) c v h in let q = div_by (suc a) v d k in amid_up _ _ _ (omega (arith, ints)) (omega (arith, ints))

quot_neg : (x : ℤ) (c v d : ℕ) → d ≤ v → v ≤ c → Amid (int_div x (negsuc c)) (int_div x (negsuc d)) (int_div x (negsuc v))
quot_neg (pos a) c v d h k = let p = div_by a d v h in let q = div_by a v c k in amid_down _ _ _ (omega (arith, ints)) (omega (arith, ints))
quot_neg (negsuc a) c v d h k = let p = div_by (suc a) d v h in let q = div_by (suc a) v c k in amid_up _ _ _ (omega (arith, ints)) (omega (arith, ints))

quot_right_pos : (x l v h : ℤ) → pos 0 <ℤ l → l ≤ℤ v → v ≤ℤ h → Amid (int_div x l) (int_div x h) (int_div x v)
quot_right_pos x (pos (suc c)) (pos (suc v)) (pos (suc d)) p a b = quot_pos x c v d (omega (arith, ints)) (omega (arith, ints))
quot_right_pos x l v h p a b = absurd (omega (arith, ints))

quot_right_neg : (x l v h : ℤ) → h <ℤ pos 0 → l ≤ℤ v → v ≤ℤ h → Amid (int_div x l) (int_div x h) (int_div x v)
quot_right_neg x (negsuc c) (negsuc v) (negsuc d) p a b = quot_neg x c v d (omega (arith, ints)) (omega (arith, ints))
quot_right_neg x l v h p a b = absurd (omega (arith, ints))

quot_left_pos : (a b u v : ℤ) → pos 0 <ℤ v → a ≤ℤ u → u ≤ℤ b → Amid (int_div a v) (int_div b v) (int_div u v)
quot_left_pos a b u (pos (suc d)) p h k = amid_up _ _ _ (quot_up a u d h) (quot_up u b d k)
quot_left_pos a b u v p h k = absurd (omega (arith, ints))

quot_left_neg : (a b u v : ℤ) → v <ℤ pos 0 → a ≤ℤ u → u ≤ℤ b → Amid (int_div a v) (int_div b v) (int_div u v)
quot_left_neg a b u (negsuc d) p h k = amid_down _ _ _ (quot_down u b d k) (quot_down a u d h)
quot_left_neg a b u v p h k = absurd (omega (arith, ints))

quotient_pos : (r s : Span) (u v : ℤ) → pos 0 <ℤ s.low → IsIn r u → IsIn s v → IsIn (corners int_div r s) (int_div u v)
quotient_pos r s u v p h k =
    let vp : pos 0 <ℤ v = omega (arith, ints) in
    let w = from_edges _ _ _ _ _ _ _ (quot_right_pos r.low s.low v s.high p k.least k.most) (quot_right_pos r.high s.low v s.high p k.least k.most) (quot_left_pos r.low r.high u v vp h.least h.most) in
    record { least = w.0; most = w.1 }

quotient_neg : (r s : Span) (u v : ℤ) → s.high <ℤ pos 0 → IsIn r u → IsIn s v → IsIn (corners int_div r s) (int_div u v)
quotient_neg r s u v p h k =
    let vp : v <ℤ pos 0 = omega (arith, ints) in
    let w = from_edges _ _ _ _ _ _ _ (quot_right_neg r.low s.low v s.high p k.least k.most) (quot_right_neg r.high s.low v s.high p k.least k.most) (quot_left_neg r.low r.high u v vp h.least h.most) in
    record { least = w.0; most = w.1 }

-- without zero a range lies on one side of it
one_sign : (s : Span) → holds_zero s ≡ false → (pos 0 <ℤ s.low) ⊎ (s.high <ℤ pos 0)
one_sign s z = by_lt_z (pos 0) s.low (λ p. inl p) (λ p. by_lt_z s.high (pos 0) (λ q. inr q) (λ q. absurd (both p q)))
  where
    both : s.low ≤ℤ pos 0 → pos 0 ≤ℤ s.high → ⊥
    both p q = let a = le_true s.low (pos 0) p in let b = le_true (pos 0) s.high q in let e : holds_zero s ≡ true = rw (a, b) in cc

pub quotient_lies : (r s : Span) (u v : ℤ) → holds_zero s ≡ false → IsIn r u → IsIn s v → IsIn (corners int_div r s) (int_div u v)
quotient_lies r s u v z h k = elim (one_sign s z) [ inl p ↦ quotient_pos r s u v p h k | inr p ↦ quotient_neg r s u v p h k ]

pub nonzero : (s : Span) (v : ℤ) → holds_zero s ≡ false → IsIn s v → v ≡ pos 0 → ⊥
nonzero s v z k e = elim (one_sign s z) [ inl p ↦ omega (arith, ints) | inr p ↦ omega (arith, ints) ]

-- ---- remainders

-- the remainder's size is below m and no more than the dividend's
rem_pos : (a d m : ℕ) → suc d ≤ m → (a % suc d ≤ m - 1) × (a % suc d ≤ a)
rem_pos a d m h = let p = mod-lt a (let z : 0 < suc d = omega arith in z) in (omega arith, mod-le a (suc d))

pub remainder_lies : (r s : Span) (u v : ℤ) → IsIn r u → IsIn s v → (m : ℕ) → m ≡ max (unsigned_abs s.low) (unsigned_abs s.high) → IsIn (span (neg_ℤ (int_min (pos (m - 1)) (int_max (pos 0) (neg_ℤ r.low)))) (int_min (pos (m - 1)) (int_max (pos 0) r.high))) (remainder u v)
remainder_lies r s u (pos zero) h k m e = record { least = omega (arith, ints, clamps); most = omega (arith, ints, clamps) }
remainder_lies r s (pos a) (pos (suc d)) h k m e =
    let l : suc d ≤ m = omega (arith, ints) in
    let p = rem_pos a d m l in
    record { least = omega (arith, ints, clamps); most = omega (arith, ints, clamps) }
remainder_lies r s (negsuc a) (pos (suc d)) h k m e =
    let l : suc d ≤ m = omega (arith, ints) in
    let p = rem_pos (suc a) d m l in
    record { least = omega (arith, ints, clamps); most = omega (arith, ints, clamps) }
remainder_lies r s (pos a) (negsuc d) h k m e =
    let l : suc d ≤ m = omega (arith, ints) in
    let p = rem_pos a d m l in
    record { least = omega (arith, ints, clamps); most = omega (arith, ints, clamps) }
remainder_lies r s (negsuc a) (negsuc d) h k m e =
    let l : suc d ≤ m = omega (arith, ints) in
    let p = rem_pos (suc a) d m l in
    record { least = omega (arith, ints, clamps); most = omega (arith, ints, clamps) }

-- ---- ranges in ranges

pub and_left : (a b : Bool) → a && b ≡ true → a ≡ true
and_left true b e = refl
and_left false b e = e

pub and_right : (a b : Bool) → a && b ≡ true → b ≡ true
and_right true b e = e
and_right false b e = cc

pub within_is : (r s : Span) (v : ℤ) → within r s ≡ true → IsIn r v → IsIn s v
within_is r s v e h =
    let a = le_is s.low r.low (and_left _ _ e) in
    let b = le_is r.high s.high (and_right (int_le s.low r.low) _ e) in
    record { least = omega (arith, ints); most = omega (arith, ints) }

-- ---- types

lies_fitted : (a : ElemType) (r : Span) (z : ℤ) → IsIn r z → (b : Bool) → within r (whole a) ≡ b → IsIn (if b then r else whole a) (wrapped a z)
lies_fitted a r z h true e =
    let w = within_is r (whole a) z e h in
    let q = wrapped_same a z w.least w.most in
    record { least = omega (arith, ints); most = omega (arith, ints) }
lies_fitted a r z h false e = let w = wrapped_fits a z in record { least = w.least; most = w.most }

pub fitted_lies : (a : ElemType) (r : Span) (z : ℤ) → IsIn r z → IsIn (fitted a r) (wrapped a z)
fitted_lies a r z h = lies_fitted a r z h _ refl

pub joined_left : (r s : Span) (v : ℤ) → IsIn r v → IsIn (joined r s) v
joined_left r s v h = record { least = omega (arith, ints, clamps); most = omega (arith, ints, clamps) }

pub joined_right : (r s : Span) (v : ℤ) → IsIn s v → IsIn (joined r s) v
joined_right r s v h = record { least = omega (arith, ints, clamps); most = omega (arith, ints, clamps) }

pub bit_lies : (b : Bool) → IsIn truth (bit b)
bit_lies true = record { least = omega (arith, ints); most = omega (arith, ints) }
bit_lies false = record { least = omega (arith, ints); most = omega (arith, ints) }

-- ---- operations

-- a value that is there and lies in the range
abbrev pub LiesIn : Span → Option ℤ → Type 0
LiesIn r None = ⊥
LiesIn r (Some v) = IsIn r v

pub negated_lies : (r : Span) (v : ℤ) → IsIn r v → IsIn (span (neg_ℤ r.high) (neg_ℤ r.low)) (neg_ℤ v)
negated_lies r v h = record { least = omega (arith, ints); most = omega (arith, ints) }

pub sizes_lie : (r : Span) (v : ℤ) → IsIn r v → IsIn (sizes r) (pos (unsigned_abs v))
sizes_lie r v h =
    by_lt_z r.low (pos 0)
    (λ below.
    by_lt_z (pos 0) r.high
    (λ above. rw (le_false (pos 0) r.low below, le_false r.high (pos 0) above) (record { least = omega (arith, ints); most = omega (arith, ints, clamps) }))
    (λ p. rw (le_false (pos 0) r.low below, le_true r.high (pos 0) p) (record { least = omega (arith, ints); most = omega (arith, ints) })))
    (λ p. rw (le_true (pos 0) r.low p) (record { least = omega (arith, ints); most = omega (arith, ints) }))

pub sum_lies : (r s : Span) (u v : ℤ) → IsIn r u → IsIn s v → IsIn (span (r.low +ℤ s.low) (r.high +ℤ s.high)) (u +ℤ v)
sum_lies r s u v h k = record { least = omega (arith, ints); most = omega (arith, ints) }

pub difference_lies : (r s : Span) (u v : ℤ) → IsIn r u → IsIn s v → IsIn (span (r.low -ℤ s.high) (r.high -ℤ s.low)) (u -ℤ v)
difference_lies r s u v h k = record { least = omega (arith, ints); most = omega (arith, ints) }

pub least_lies : (r s : Span) (u v : ℤ) → IsIn r u → IsIn s v → IsIn (span (int_min r.low s.low) (int_min r.high s.high)) (least u v)
least_lies r s u v h k =
    by_lt_z v u
    (λ p. rw (le_false u v p) (record { least = omega (arith, ints, clamps); most = omega (arith, ints, clamps) }))
    (λ p. rw (le_true u v p) (record { least = omega (arith, ints, clamps); most = omega (arith, ints, clamps) }))

pub greatest_lies : (r s : Span) (u v : ℤ) → IsIn r u → IsIn s v → IsIn (span (int_max r.low s.low) (int_max r.high s.high)) (greatest u v)
greatest_lies r s u v h k =
    by_lt_z v u
    (λ p. rw (le_false u v p) (record { least = omega (arith, ints, clamps); most = omega (arith, ints, clamps) }))
    (λ p. rw (le_true u v p) (record { least = omega (arith, ints, clamps); most = omega (arith, ints, clamps) }))

quotient_in : (a : ElemType) (e : Span) (u v : ℤ) → (v ≡ pos 0 → ⊥) → IsIn e (int_div u v) → LiesIn (fitted a e) (on_two (Infix o.Over) a u v)
quotient_in a e u (pos zero) n l = absurd (n refl)
quotient_in a e u (pos (suc v)) n l = fitted_lies a e _ l
quotient_in a e u (negsuc v) n l = fitted_lies a e _ l

over_lies : (a : ElemType) (r s : Span) (u v : ℤ) → IsIn r u → IsIn s v → (b : Bool) → holds_zero s ≡ b → IfSome (if b then None else Some (fitted a (corners int_div r s))) (λ e. LiesIn e (on_two (Infix o.Over) a u v))
over_lies a r s u v h k true z = tt
over_lies a r s u v h k false z = quotient_in a (corners int_div r s) u v (nonzero s v z k) (quotient_lies r s u v z h k)

-- what an operation on one operand gives lies in the range that is said
pub one_lies : (f : Operation) (a : ElemType) (r : Span) (v : ℤ) → IsIn r v → IfSome (range_one f a r) (λ e. LiesIn e (on_one f a v))
one_lies Negate a r v h = fitted_lies a _ _ (negated_lies r v h)
one_lies Not a r v h = bit_lies (is_zero v)
one_lies Abs a r v h = fitted_lies a _ _ (sizes_lie r v h)
one_lies (Convert t.Bool to) a r v h = fitted_lies to _ v (joined_right truth r v h)
one_lies (Convert t.Sint to) a r v h = fitted_lies to r v h
one_lies (Convert t.Int to) a r v h = fitted_lies to r v h
one_lies (Convert t.Dint to) a r v h = fitted_lies to r v h
one_lies (Convert t.Lint to) a r v h = fitted_lies to r v h
one_lies (Convert t.Usint to) a r v h = fitted_lies to r v h
one_lies (Convert t.Uint to) a r v h = fitted_lies to r v h
one_lies (Convert t.Udint to) a r v h = fitted_lies to r v h
one_lies (Convert t.Time to) a r v h = fitted_lies to r v h
one_lies (Infix f) a r v h = tt
one_lies Min a r v h = tt
one_lies Max a r v h = tt
one_lies Limit a r v h = tt

-- and on two
pub two_lies : (f : Operation) (a : ElemType) (r s : Span) (u v : ℤ) → IsIn r u → IsIn s v → IfSome (range_two f a r s) (λ e. LiesIn e (on_two f a u v))
two_lies (Infix o.Plus) a r s u v h k = fitted_lies a _ _ (sum_lies r s u v h k)
two_lies (Infix o.Minus) a r s u v h k = fitted_lies a _ _ (difference_lies r s u v h k)
two_lies (Infix o.Times) a r s u v h k = fitted_lies a _ _ (product_lies r s u v h k)
two_lies (Infix o.Over) a r s u v h k = over_lies a r s u v h k (holds_zero s) refl
two_lies (Infix o.Modulo) a r s u v h k = fitted_lies a _ _ (remainder_lies r s u v h k _ refl)
two_lies (Infix o.Less) a r s u v h k = bit_lies _
two_lies (Infix o.Greater) a r s u v h k = bit_lies _
two_lies (Infix o.LessEqual) a r s u v h k = bit_lies _
two_lies (Infix o.GreaterEqual) a r s u v h k = bit_lies _
two_lies (Infix o.Equal) a r s u v h k = bit_lies _
two_lies (Infix o.NotEqual) a r s u v h k = bit_lies _
two_lies (Infix o.And) a r s u v h k = bit_lies _
two_lies (Infix o.Or) a r s u v h k = bit_lies _
two_lies (Infix o.Xor) a r s u v h k = bit_lies _
two_lies Min a r s u v h k = least_lies r s u v h k
two_lies Max a r s u v h k = greatest_lies r s u v h k
two_lies Negate a r s u v h k = tt
two_lies Not a r s u v h k = tt
two_lies Abs a r s u v h k = tt
two_lies Limit a r s u v h k = tt
two_lies (Convert from to) a r s u v h k = tt
