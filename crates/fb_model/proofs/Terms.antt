-- The values of expressions lie in their ranges.
use Rattle.std.proofs.Common.{◌≡◌, ℕ, zero, suc, ◌<◌, ℤ, ◌-ℤ◌, ◌≤ℤ◌, unsigned_abs, Bool, true, false, not, List, [], ◌∷◌, length, Option, Some, None, IfSome, slice_get, refl, sym, ◌∙◌, ap, subst, arith}
use Rattle.std.specs.Prelude.{if◌then◌else◌}
use Rattle.std.specs.List.{AllByRecursion}
use Rattle.std.proofs.lemmas.Int.{ints}
use Rattle.fb_model.specs.Values.{Value, One, Many, Values, numbers_of, number_of}
use Rattle.fb_model.specs.BlockTyping.{extent}
use Rattle.fb_model.specs.TypedText.{Term, constant, read, part, single, double}
use Rattle.fb_model.specs.Language.{Guard, given, element_at, on_one, on_two, value_of, holds, is_zero}
use Rattle.fb_model.specs.Spans.{Span, span, within, range_one, range_two}
use Rattle.fb_model.specs.Clear.{Spans, range_of, guard_range}
use Rattle.fb_model.specs.Shapes.{IsIn, Lies, Shape, HasForm, HasShape, TermFits}
use Rattle.fb_words.proofs.Types.{le_true}
use Rattle.fb_model.proofs.Results.{LiesIn, one_lies, two_lies, within_is}

-- ---- options

pub bind : {A B : Type 0} (o : Option A) (f : A → Option B) (P : A → Type 0) (Q : B → Type 0) → IfSome o P → ((a : A) → P a → IfSome (f a) Q) → IfSome (given o f) Q
bind None f P Q h go = tt
bind (Some a) f P Q h go = go a h

-- an operation on a value that is there
on_value : (r : Span) (o : Option ℤ) (f : ℤ → Option ℤ) (e : Option Span) → LiesIn r o → ((v : ℤ) → IsIn r v → IfSome e (λ s. LiesIn s (f v))) → IfSome e (λ s. LiesIn s (given o f))
on_value r None f e h go = absurd h
on_value r (Some v) f e h go = go v h

-- ---- variables

-- the number of a plain variable
pub plain_lies : (form : Option (ℤ × ℤ)) (r : Span) (value : Value) → form ≡ None → HasForm form value → AllByRecursion (IsIn r) (numbers_of value) → IsIn r (number_of value)
plain_lies None r (One v) e h l = l.0
plain_lies None r (Many vs) e h l = absurd h
plain_lies (Some b) r value e h l = cc

there : (r : Span) (vs : List ℤ) (n : ℕ) → AllByRecursion (IsIn r) vs → n < length vs → LiesIn r (slice_get vs n)
there r [] n h l = absurd (omega arith)
there r (v ∷ vs) zero h l = h.0
there r (v ∷ vs) (suc n) h l = there r vs n h.1 (omega arith)

-- an array has as many elements as its bounds say
pub long : (form : Option (ℤ × ℤ)) (low high : ℤ) (value : Value) → form ≡ Some (low, high) → HasForm form value → length (numbers_of value) ≡ extent (low, high)
long None low high value e h = cc
long (Some b) low high (One v) e h = absurd h
long (Some b) low high (Many vs) e h = h ∙ ap (λ o. elim o [ None ↦ 0 | Some c ↦ extent c ]) e

pub near : (low high k : ℤ) → low ≤ℤ k → k ≤ℤ high → unsigned_abs (k -ℤ low) < extent (low, high)
near low high k h l = omega (arith, ints)

element_lies : (form : Option (ℤ × ℤ)) (r : Span) (low high k : ℤ) (value : Value) → form ≡ Some (low, high) → HasForm form value → AllByRecursion (IsIn r) (numbers_of value) → low ≤ℤ k → k ≤ℤ high
    → LiesIn r (element_at low high (numbers_of value) k)
element_lies form r low high k value e h l a b =
    let room : unsigned_abs (k -ℤ low) < length (numbers_of value) = subst (λ n. unsigned_abs (k -ℤ low) < n) (sym (long form low high value e h)) (near low high k a b) in
    rw (le_true low k a, le_true k high b) (there r (numbers_of value) (unsigned_abs (k -ℤ low)) l room)

part_lies : (form : Option (ℤ × ℤ)) (r s : Span) (low high : ℤ) (o : Option ℤ) (value : Value) → form ≡ Some (low, high) → HasForm form value → AllByRecursion (IsIn s) (numbers_of value) → LiesIn r o
    → (b : Bool) → within r (span low high) ≡ b → IfSome (if b then Some s else None) (λ e. LiesIn e (given o (element_at low high (numbers_of value))))
part_lies form r s low high None value e h l i b w = absurd i
part_lies form r s low high (Some k) value e h l i true w = let m = within_is r (span low high) k w i in element_lies form s low high k value e h l m.least m.most
part_lies form r s low high (Some k) value e h l i false w = tt

-- ---- expressions

module _ (shape : Shape) (spans : Spans) (values : Values) (fit : HasShape shape values) (lie : Lies spans values) where
  pub term_lies : (e : Term) → TermFits shape e → IfSome (range_of e spans) (λ r. LiesIn r (value_of e values))
  term_lies (constant k) h = record { least = omega (arith, ints); most = omega (arith, ints) }
  term_lies (read x) h = plain_lies (shape x) (spans x) (values x) h (fit x) (lie x)
  term_lies (part x low high i) h =
      bind (range_of i spans) _ (λ r. LiesIn r (value_of i values)) _ (term_lies i h.1)
      (λ r l. part_lies (shape x) r (spans x) low high (value_of i values) (values x) h.0 (fit x) (lie x) l (within r (span low high)) refl)
  term_lies (single f a e) h =
      bind (range_of e spans) _ (λ r. LiesIn r (value_of e values)) _ (term_lies e h)
      (λ r l. on_value r (value_of e values) (on_one f a) (range_one f a r) l (λ v m. one_lies f a r v m))
  term_lies (double f a e g) h =
      bind (range_of e spans) _ (λ r. LiesIn r (value_of e values)) _ (term_lies e h.0)
      (λ r l. bind (range_of g spans) _ (λ s. LiesIn s (value_of g values)) _ (term_lies g h.1)
      (λ s m. on_value r (value_of e values) (λ x. given (value_of g values) (on_two f a x)) (range_two f a r s) l
      (λ u j. on_value s (value_of g values) (on_two f a u) (range_two f a r s) m (λ v k. two_lies f a r s u v j k))))

-- a value that is there, and lies in the range
value_there : (r : Span) (o : Option ℤ) → LiesIn r o → (v : ℤ) × (o ≡ Some v) × IsIn r v
value_there r None h = absurd h
value_there r (Some v) h = (v, refl, h)

pub value_in_range : (e : Term) (spans : Spans) (shape : Shape) (r : Span) (values : Values) → range_of e spans ≡ Some r → TermFits shape e → HasShape shape values → Lies spans values → (v : ℤ) × (value_of e values ≡ Some v) × IsIn r v
value_in_range e spans shape r values is h fit lie = value_there r (value_of e values) (subst (λ o. IfSome o (λ s. LiesIn s (value_of e values))) is (term_lies shape spans values fit lie e h))

pub guard_answers : (rows : Spans) (shape : Shape) (g : Guard) (r : Span) (values : Values) → guard_range rows g ≡ Some r → TermFits shape g → HasShape shape values → Lies rows values → (b : Bool) × (holds g values ≡ Some b)
unfolding holds
guard_answers rows shape g r values is h fit lie =
    let v = value_in_range g rows shape r values is h fit lie in
    (not (is_zero v.0), ap (λ o. given o (λ w. Some (not (is_zero w)))) v.1)
