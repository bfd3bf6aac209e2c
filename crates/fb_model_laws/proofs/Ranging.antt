-- Ranges of expressions, and ranges that lie in others.
use Rattle.std.proofs.Common.{◌≡◌, int_le, Bool, true, false, ◌&&◌, Option, Some, None, refl, ap, ap₂, subst, ◌∙◌, arith}
use Rattle.std.specs.Prelude.{if◌then◌else◌}
use Rattle.std.specs.Option.{unwrap_or}
use Rattle.std.proofs.lemmas.Int.{ints, clamps}
use Rattle.fb_words.specs.declared.elem_type.ElemType.{ElemType}
use Rattle.fb_words.specs.declared.operator.Operation.{Operation}
use Rattle.fb_words.proofs.Types.{le_is, le_true}
use Rattle.fb_model.specs.TypedText.{Term, constant, read, part, single, double}
use Rattle.fb_model.specs.Language.{given}
use Rattle.fb_model.specs.Spans.{Span, span, whole, within, joined, range_one, range_two}
use Rattle.fb_model.specs.Clear.{Spans, Found, Traps, range_of, with_range}
use Rattle.fb_model.proofs.Results.{and_left, and_right}
use Rattle.fb_model.specs.Asking.{range_in}

one_is : (f : Operation) (a : ElemType) (o : Option Span) (p r : Span) → ((q : Span) → o ≡ Some q → p ≡ q) → given o (range_one f a) ≡ Some r → unwrap_or (range_one f a p) (whole a) ≡ r
one_is f a None p r h e = cc
one_is f a (Some q) p r h e = ap (λ z. unwrap_or (range_one f a z) (whole a)) (h q refl) ∙ ap (λ o. unwrap_or o (whole a)) e

two_is : (f : Operation) (a : ElemType) (o u : Option Span) (p v r : Span) → ((q : Span) → o ≡ Some q → p ≡ q) → ((q : Span) → u ≡ Some q → v ≡ q) → given o (λ q. given u (range_two f a q)) ≡ Some r → unwrap_or (range_two f a p v) (whole a) ≡ r
two_is f a None u p v r h k e = cc
two_is f a (Some q) None p v r h k e = cc
two_is f a (Some q) (Some w) p v r h k e = ap₂ (λ y z. unwrap_or (range_two f a y z) (whole a)) (h q refl) (k w refl) ∙ ap (λ o. unwrap_or o (whole a)) e

part_is : (o : Option Span) (bounds s r : Span) → given o (λ q. if within q bounds then Some s else None) ≡ Some r → s ≡ r
part_is None bounds s r e = cc
part_is (Some q) bounds s r e = by (within q bounds) e where
  by : (b : Bool) → (if b then Some s else None) ≡ Some r → s ≡ r
  by true h = cc
  by false h = cc

-- where a range is found, it is that
pub range_is : (e : Term) (spans : Spans) (r : Span) → range_of e spans ≡ Some r → range_in e spans ≡ r
range_is (constant k) spans r h = cc
range_is (read x) spans r h = cc
range_is (part x low high i) spans r h = part_is (range_of i spans) (span low high) (spans x) r h
range_is (single f a e) spans r h = one_is f a (range_of e spans) (range_in e spans) r (range_is e spans) h
range_is (double f a e g) spans r h = two_is f a (range_of e spans) (range_of g spans) (range_in e spans) (range_in g spans) r (range_is e spans) (range_is g spans) h

-- what holds of traps, and with the range of an expression, holds whether it has a range or not
pub ranged : (P : Found → Type 0) (e : Term) (spans : Spans) (f : Span → Found) → P Traps → P (f (range_in e spans)) → P (with_range (range_of e spans) f)
ranged P e spans f traps h = by (range_of e spans) refl where
  by : (o : Option Span) → range_of e spans ≡ o → P (with_range o f)
  by None k = traps
  by (Some r) k = subst (λ (q : Span). P (f q)) (range_is e spans r k) h

-- ---- ranges in others

pub within_same : (r : Span) → within r r ≡ true
within_same r = ap₂ ◌&&◌ (le_true r.low r.low (omega (arith, ints))) (le_true r.high r.high (omega (arith, ints)))

pub within_on : (r s u : Span) → within r s ≡ true → within s u ≡ true → within r u ≡ true
within_on r s u h k =
    let a = le_is s.low r.low (and_left _ _ h) in
    let b = le_is r.high s.high (and_right (int_le s.low r.low) _ h) in
    let c = le_is u.low s.low (and_left _ _ k) in
    let d = le_is s.high u.high (and_right (int_le u.low s.low) _ k) in
    ap₂ ◌&&◌ (le_true u.low r.low (omega (arith, ints, a, c))) (le_true r.high u.high (omega (arith, ints, b, d)))

pub within_joined : (r s : Span) → within r (joined r s) ≡ true
within_joined r s = ap₂ ◌&&◌ (le_true (joined r s).low r.low (omega (arith, ints, clamps))) (le_true r.high (joined r s).high (omega (arith, ints, clamps)))

pub within_other : (r s : Span) → within s (joined r s) ≡ true
within_other r s = ap₂ ◌&&◌ (le_true (joined r s).low s.low (omega (arith, ints, clamps))) (le_true s.high (joined r s).high (omega (arith, ints, clamps)))
