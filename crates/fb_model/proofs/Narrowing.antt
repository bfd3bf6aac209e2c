-- What a condition says of its variables: values for which it holds lie in the narrower ranges.
use Rattle.std.proofs.Common.{◌≡◌, ℤ, pos, ◌+ℤ◌, ◌-ℤ◌, ◌≤ℤ◌, ◌<ℤ◌, int_lt, int_le, Bool, true, false, not, ◌&&◌, ◌||◌, Option, Some, None, refl, ◌∙◌, ap, subst, arith, ◌⊎◌, inl, inr}
use Rattle.std.specs.Prelude.{if◌then◌else◌}
use Rattle.std.specs.Int.{int_min, int_max}
use Rattle.std.specs.List.{AllByRecursion}
use Rattle.std.proofs.lemmas.Int.{ints, clamps, by_lt_z}
use Rattle.fb_words.specs.declared.elem_type.ElemType.{ElemType}
use Rattle.fb_words.specs.declared.operator.Operator.{Operator}
use Rattle.fb_words.specs.declared.operator.Operator.TheVariants as o
use Rattle.fb_words.specs.declared.operator.Operation.TheVariants.{Infix, Negate, Not, Abs, Min, Max, Limit, Convert}
use Rattle.fb_model.specs.Names.{Name}
use Rattle.fb_model.specs.Values.{Value, One, Many, Values, numbers_of, number_of}
use Rattle.fb_model.specs.TypedText.{Term, constant, read, part, single, double}
use Rattle.fb_model.specs.Language.{given, bit, is_zero, on_one, on_two, value_of}
use Rattle.fb_model.specs.Spans.{Span, span}
use Rattle.fb_model.specs.Clear.{Spans, changed, cut, at_most, at_least, just, without, meets, opposite, mirrored, is_truth, related, narrowed}
use Rattle.fb_model.specs.Shapes.{IsIn, Lies, Shape, HasForm, HasShape, TermFits}
use Rattle.fb_words.proofs.Types.{lt_true, lt_false, le_true, le_is}
use Rattle.fb_model.proofs.Results.{and_left, and_right}
use Rattle.fb_model.proofs.Names.{by_name, or_left, or_right}
use Rattle.fb_model.proofs.Terms.{plain_lies}

-- ---- tests as orders

lt_is : (a b : ℤ) → int_lt a b ≡ true → a <ℤ b
lt_is a b e = by_lt_z a b (λ p. p) (λ p. absurd (let q = lt_false a b p in cc))

pub not_lt_is : (a b : ℤ) → int_lt a b ≡ false → b ≤ℤ a
not_lt_is a b e = by_lt_z a b (λ p. absurd (let q = lt_true a b p in cc)) (λ p. p)

pub not_le_is : (a b : ℤ) → int_le a b ≡ false → b <ℤ a
not_le_is a b e = by_lt_z b a (λ p. p) (λ p. absurd (let q = le_true a b p in cc))

-- ---- cuts

cut_lies : (c r : Span) (v : ℤ) → IsIn r v → IsIn c v → IsIn (cut c r) v
cut_lies c r v h k = by (int_le c.low c.high) where
  by : (b : Bool) → IsIn (if b then c else r) v
  by true = k
  by false = h

at_most_lies : (k : ℤ) (r : Span) (v : ℤ) → IsIn r v → v ≤ℤ k → IsIn (at_most k r) v
at_most_lies k r v h l = cut_lies _ r v h (record { least = h.least; most = omega (arith, ints, clamps) })

at_least_lies : (k : ℤ) (r : Span) (v : ℤ) → IsIn r v → k ≤ℤ v → IsIn (at_least k r) v
at_least_lies k r v h l = cut_lies _ r v h (record { least = omega (arith, ints, clamps); most = h.most })

just_lies : (k : ℤ) (r : Span) (v : ℤ) → IsIn r v → (int_le v k && int_le k v) ≡ true → IsIn (just k r) v
just_lies k r v h e =
    let a = le_is v k (and_left _ _ e) in
    let b = le_is k v (and_right (int_le v k) _ e) in
    cut_lies (span (int_max r.low k) (int_min r.high k)) r v h (record { least = omega (arith, ints, clamps); most = omega (arith, ints, clamps) })

-- two numbers differ
differ : (v k : ℤ) → (int_le v k && int_le k v) ≡ false → (v <ℤ k) ⊎ (k <ℤ v)
differ v k e = by_lt_z v k (λ p. inl p) (λ p. by_lt_z k v (λ q. inr q) (λ q. absurd (let a = le_true v k q in let b = le_true k v p in let c : (int_le v k && int_le k v) ≡ true = rw (a, b) in cc)))

low_without : (a k v : ℤ) → a ≤ℤ v → (v <ℤ k) ⊎ (k <ℤ v) → (b : Bool) → (int_le a k && int_le k a) ≡ b → (if b then a +ℤ pos 1 else a) ≤ℤ v
low_without a k v h d true e =
    let p = le_is a k (and_left _ _ e) in
    let q = le_is k a (and_right (int_le a k) _ e) in
    elim d [ inl l ↦ omega (arith, ints) | inr l ↦ omega (arith, ints) ]
low_without a k v h d false e = h

high_without : (a k v : ℤ) → v ≤ℤ a → (v <ℤ k) ⊎ (k <ℤ v) → (b : Bool) → (int_le a k && int_le k a) ≡ b → v ≤ℤ (if b then a -ℤ pos 1 else a)
high_without a k v h d true e =
    let p = le_is a k (and_left _ _ e) in
    let q = le_is k a (and_right (int_le a k) _ e) in
    elim d [ inl l ↦ omega (arith, ints) | inr l ↦ omega (arith, ints) ]
high_without a k v h d false e = h

without_lies : (k : ℤ) (r : Span) (v : ℤ) → IsIn r v → (int_le v k && int_le k v) ≡ false → IsIn (without k r) v
without_lies k r v h e =
    let d = differ v k e in
    cut_lies _ r v h (record { least = low_without r.low k v h.least d _ refl; most = high_without r.high k v h.most d _ refl })

-- ---- relations

-- what a truth value says
said : (c b : Bool) (w : ℤ) → Some (bit c) ≡ Some w → is_zero w ≡ not b → c ≡ b
said c b w e z = by c b (subst (λ v. is_zero v ≡ not b) (let s : w ≡ bit c = cc in s) z) where
  by : (c b : Bool) → is_zero (bit c) ≡ not b → c ≡ b
  by true true e = refl
  by true false e = cc
  by false true e = cc
  by false false e = refl

unsaid : (c b : Bool) → not c ≡ b → c ≡ not b
unsaid true b e = ap not e
unsaid false b e = ap not e

and_turned : (a b : Bool) → (a && b) ≡ (b && a)
and_turned true true = refl
and_turned true false = refl
and_turned false true = refl
and_turned false false = refl

-- a number that is in a relation to k lies in the range that it meets, or in that of the opposite
meets_lies : (f : Operator) (a : ElemType) (b : Bool) (u k : ℤ) (r : Span) (w : ℤ) → on_two (Infix f) a u k ≡ Some w → is_zero w ≡ not b → IsIn r u → IsIn (meets (if b then f else opposite f) k r) u
meets_lies o.Less a true u k r w e z h = at_most_lies (k -ℤ pos 1) r u h (let p = lt_is u k (said _ true w e z) in omega (arith, ints))
meets_lies o.Less a false u k r w e z h = at_least_lies k r u h (not_lt_is u k (said _ false w e z))
meets_lies o.LessEqual a true u k r w e z h = at_most_lies k r u h (le_is u k (said _ true w e z))
meets_lies o.LessEqual a false u k r w e z h = at_least_lies (k +ℤ pos 1) r u h (let p = not_le_is u k (said _ false w e z) in omega (arith, ints))
meets_lies o.Greater a true u k r w e z h = at_least_lies (k +ℤ pos 1) r u h (let p = lt_is k u (said _ true w e z) in omega (arith, ints))
meets_lies o.Greater a false u k r w e z h = at_most_lies k r u h (not_lt_is k u (said _ false w e z))
meets_lies o.GreaterEqual a true u k r w e z h = at_least_lies k r u h (le_is k u (said _ true w e z))
meets_lies o.GreaterEqual a false u k r w e z h = at_most_lies (k -ℤ pos 1) r u h (let p = not_le_is k u (said _ false w e z) in omega (arith, ints))
meets_lies o.Equal a true u k r w e z h = just_lies k r u h (said _ true w e z)
meets_lies o.Equal a false u k r w e z h = without_lies k r u h (said _ false w e z)
meets_lies o.NotEqual a true u k r w e z h = without_lies k r u h (unsaid _ true (said _ true w e z))
meets_lies o.NotEqual a false u k r w e z h = just_lies k r u h (unsaid _ false (said _ false w e z))
meets_lies o.Or a true u k r w e z h = h
meets_lies o.Or a false u k r w e z h = h
meets_lies o.Xor a true u k r w e z h = h
meets_lies o.Xor a false u k r w e z h = h
meets_lies o.And a true u k r w e z h = h
meets_lies o.And a false u k r w e z h = h
meets_lies o.Plus a true u k r w e z h = h
meets_lies o.Plus a false u k r w e z h = h
meets_lies o.Minus a true u k r w e z h = h
meets_lies o.Minus a false u k r w e z h = h
meets_lies o.Times a true u k r w e z h = h
meets_lies o.Times a false u k r w e z h = h
meets_lies o.Over a true u k r w e z h = h
meets_lies o.Over a false u k r w e z h = h
meets_lies o.Modulo a true u k r w e z h = h
meets_lies o.Modulo a false u k r w e z h = h

-- the same from the other side
turned_lies : (f : Operator) (a : ElemType) (b : Bool) (u k : ℤ) (r : Span) (w : ℤ) → on_two (Infix f) a k u ≡ Some w → is_zero w ≡ not b → IsIn r u → IsIn (meets (mirrored (if b then f else opposite f)) k r) u
turned_lies o.Less a true u k r w e z h = meets_lies o.Greater a true u k r w e z h
turned_lies o.Less a false u k r w e z h = meets_lies o.Greater a false u k r w e z h
turned_lies o.LessEqual a true u k r w e z h = meets_lies o.GreaterEqual a true u k r w e z h
turned_lies o.LessEqual a false u k r w e z h = meets_lies o.GreaterEqual a false u k r w e z h
turned_lies o.Greater a true u k r w e z h = meets_lies o.Less a true u k r w e z h
turned_lies o.Greater a false u k r w e z h = meets_lies o.Less a false u k r w e z h
turned_lies o.GreaterEqual a true u k r w e z h = meets_lies o.LessEqual a true u k r w e z h
turned_lies o.GreaterEqual a false u k r w e z h = meets_lies o.LessEqual a false u k r w e z h
turned_lies o.Equal a true u k r w e z h = just_lies k r u h (and_turned (int_le u k) (int_le k u) ∙ said _ true w e z)
turned_lies o.Equal a false u k r w e z h = without_lies k r u h (and_turned (int_le u k) (int_le k u) ∙ said _ false w e z)
turned_lies o.NotEqual a true u k r w e z h = without_lies k r u h (and_turned (int_le u k) (int_le k u) ∙ unsaid _ true (said _ true w e z))
turned_lies o.NotEqual a false u k r w e z h = just_lies k r u h (and_turned (int_le u k) (int_le k u) ∙ unsaid _ false (said _ false w e z))
turned_lies o.Or a true u k r w e z h = h
turned_lies o.Or a false u k r w e z h = h
turned_lies o.Xor a true u k r w e z h = h
turned_lies o.Xor a false u k r w e z h = h
turned_lies o.And a true u k r w e z h = h
turned_lies o.And a false u k r w e z h = h
turned_lies o.Plus a true u k r w e z h = h
turned_lies o.Plus a false u k r w e z h = h
turned_lies o.Minus a true u k r w e z h = h
turned_lies o.Minus a false u k r w e z h = h
turned_lies o.Times a true u k r w e z h = h
turned_lies o.Times a false u k r w e z h = h
turned_lies o.Over a true u k r w e z h = h
turned_lies o.Over a false u k r w e z h = h
turned_lies o.Modulo a true u k r w e z h = h
turned_lies o.Modulo a false u k r w e z h = h

-- ---- conditions

-- the values of both operands
record Sides (p q : Option ℤ) (f : ℤ → ℤ → Option ℤ) (w : ℤ) : Type 0 where
  left : ℤ
  right : ℤ
  left_is : p ≡ Some left
  right_is : q ≡ Some right
  value : f left right ≡ Some w

sides : (p q : Option ℤ) (f : ℤ → ℤ → Option ℤ) (w : ℤ) → given p (λ x. given q (f x)) ≡ Some w → Sides p q f w
sides None q f w e = cc
sides (Some u) None f w e = cc
sides (Some u) (Some v) f w e = record { left = u; right = v; left_is = refl; right_is = refl; value = e }

one_side : (p : Option ℤ) (f : ℤ → Option ℤ) (w : ℤ) → given p f ≡ Some w → (x : ℤ) × (p ≡ Some x) × (f x ≡ Some w)
one_side None f w e = cc
one_side (Some u) f w e = (u, refl, e)

untrue : (a : Bool) → not a ≡ true → a ≡ false
untrue true t = cc
untrue false t = refl

unfalse : (a : Bool) → not a ≡ false → a ≡ true
unfalse true t = refl
unfalse false t = cc

twice : (a b : Bool) → a ≡ b → a ≡ not (not b)
twice a true t = t
twice a false t = t

-- a plain variable's number
pub plain_all : (form : Option (ℤ × ℤ)) (r : Span) (value : Value) → form ≡ None → HasForm form value → IsIn r (number_of value) → AllByRecursion (IsIn r) (numbers_of value)
plain_all None r (One v) e h l = (l, tt)
plain_all None r (Many vs) e h l = absurd h
plain_all (Some b) r value e h l = cc

module _ (shape : Shape) (values : Values) (fit : HasShape shape values) where
  -- another range for a plain variable
  pub changed_lies : (x : Name) (f : Span → Span) (spans : Spans) → shape x ≡ None → Lies spans values → ((r : Span) → IsIn r (number_of (values x)) → IsIn (f r) (number_of (values x))) → Lies (changed x f spans) values
  changed_lies x f spans p lie go y =
      by_name (λ r. AllByRecursion (IsIn r) (numbers_of (values y))) x y (f (spans y)) (spans y)
      (λ s. subst (λ z. AllByRecursion (IsIn (f (spans z))) (numbers_of (values z))) s (plain_all (shape x) (f (spans x)) (values x) p (fit x) (go (spans x) (plain_lies (shape x) (spans x) (values x) p (fit x) (lie x)))))
      (λ s. lie y)

  related_lies : (f : Operator) (a : ElemType) (b : Bool) (e g : Term) (spans : Spans) (w : ℤ) → TermFits shape e → TermFits shape g → value_of (double (Infix f) a e g) values ≡ Some w → is_zero w ≡ not b → Lies spans values
      → Lies (related (if b then f else opposite f) e g spans) values
  related_lies f a b (read x) (constant k) spans w p q e z lie = changed_lies x (meets (if b then f else opposite f) k) spans p lie (λ r h. meets_lies f a b (number_of (values x)) k r w e z h)
  related_lies f a b (constant k) (read x) spans w p q e z lie = changed_lies x (meets (mirrored (if b then f else opposite f)) k) spans q lie (λ r h. turned_lies f a b (number_of (values x)) k r w e z h)
  related_lies f a b (read x) (read y) spans w p q e z lie = lie
  related_lies f a b (read x) (part y low high i) spans w p q e z lie = lie
  related_lies f a b (read x) (single g c i) spans w p q e z lie = lie
  related_lies f a b (read x) (double g c i j) spans w p q e z lie = lie
  related_lies f a b (constant k) (constant l) spans w p q e z lie = lie
  related_lies f a b (constant k) (part y low high i) spans w p q e z lie = lie
  related_lies f a b (constant k) (single g c i) spans w p q e z lie = lie
  related_lies f a b (constant k) (double g c i j) spans w p q e z lie = lie
  related_lies f a b (part y low high i) g spans w p q e z lie = lie
  related_lies f a b (single h c i) g spans w p q e z lie = lie
  related_lies f a b (double h c i j) g spans w p q e z lie = lie

  typed_lies : (f : Operator) (a : ElemType) (b : Bool) (e g : Term) (spans : Spans) (w : ℤ) → TermFits shape e → TermFits shape g → value_of (double (Infix f) a e g) values ≡ Some w → is_zero w ≡ not b → Lies spans values
      → Lies (if is_truth a then spans else related (if b then f else opposite f) e g spans) values
  typed_lies f a b e g spans w p q v z lie = by (is_truth a) where
    by : (c : Bool) → Lies (if c then spans else related (if b then f else opposite f) e g spans) values
    by true = lie
    by false = related_lies f a b e g spans w p q v z lie

  -- values for which a condition is true, or false, lie in the ranges that are narrowed so
  pub narrowed_lies : (e : Term) (b : Bool) (spans : Spans) (w : ℤ) → TermFits shape e → value_of e values ≡ Some w → is_zero w ≡ not b → Lies spans values → Lies (narrowed e b spans) values
  narrowed_lies (constant k) b spans w h e z lie = lie
  narrowed_lies (read x) b spans w h e z lie = lie
  narrowed_lies (part x low high i) b spans w h e z lie = lie
  narrowed_lies (single Not a g) b spans w h e z lie =
      let d = one_side (value_of g values) (on_one Not a) w e in
      narrowed_lies g (not b) spans d.0 h d.1 (twice (is_zero d.0) b (said (is_zero d.0) b w d.2 z)) lie
  narrowed_lies (single (Infix f) a g) b spans w h e z lie = lie
  narrowed_lies (single Negate a g) b spans w h e z lie = lie
  narrowed_lies (single Abs a g) b spans w h e z lie = lie
  narrowed_lies (single Min a g) b spans w h e z lie = lie
  narrowed_lies (single Max a g) b spans w h e z lie = lie
  narrowed_lies (single Limit a g) b spans w h e z lie = lie
  narrowed_lies (single (Convert from to) a g) b spans w h e z lie = lie
  narrowed_lies (double (Infix o.And) a e g) true spans w h v z lie =
      let d = sides (value_of e values) (value_of g values) (on_two (Infix o.And) a) w v in
      let s = said (not (is_zero d.left) && not (is_zero d.right)) true w d.value z in
      narrowed_lies g true (narrowed e true spans) d.right h.1 d.right_is (untrue (is_zero d.right) (and_right (not (is_zero d.left)) _ s))
      (narrowed_lies e true spans d.left h.0 d.left_is (untrue (is_zero d.left) (and_left _ _ s)) lie)
  narrowed_lies (double (Infix o.Or) a e g) false spans w h v z lie =
      let d = sides (value_of e values) (value_of g values) (on_two (Infix o.Or) a) w v in
      let s = said (not (is_zero d.left) || not (is_zero d.right)) false w d.value z in
      narrowed_lies g false (narrowed e false spans) d.right h.1 d.right_is (unfalse (is_zero d.right) (or_right (not (is_zero d.left)) _ s))
      (narrowed_lies e false spans d.left h.0 d.left_is (unfalse (is_zero d.left) (or_left _ _ s)) lie)
  narrowed_lies (double (Infix o.And) a e g) false spans w h v z lie = typed_lies o.And a false e g spans w h.0 h.1 v z lie
  narrowed_lies (double (Infix o.Or) a e g) true spans w h v z lie = typed_lies o.Or a true e g spans w h.0 h.1 v z lie
  narrowed_lies (double (Infix o.Xor) a e g) b spans w h v z lie = typed_lies o.Xor a b e g spans w h.0 h.1 v z lie
  narrowed_lies (double (Infix o.Equal) a e g) b spans w h v z lie = typed_lies o.Equal a b e g spans w h.0 h.1 v z lie
  narrowed_lies (double (Infix o.NotEqual) a e g) b spans w h v z lie = typed_lies o.NotEqual a b e g spans w h.0 h.1 v z lie
  narrowed_lies (double (Infix o.Less) a e g) b spans w h v z lie = typed_lies o.Less a b e g spans w h.0 h.1 v z lie
  narrowed_lies (double (Infix o.Greater) a e g) b spans w h v z lie = typed_lies o.Greater a b e g spans w h.0 h.1 v z lie
  narrowed_lies (double (Infix o.LessEqual) a e g) b spans w h v z lie = typed_lies o.LessEqual a b e g spans w h.0 h.1 v z lie
  narrowed_lies (double (Infix o.GreaterEqual) a e g) b spans w h v z lie = typed_lies o.GreaterEqual a b e g spans w h.0 h.1 v z lie
  narrowed_lies (double (Infix o.Plus) a e g) b spans w h v z lie = typed_lies o.Plus a b e g spans w h.0 h.1 v z lie
  narrowed_lies (double (Infix o.Minus) a e g) b spans w h v z lie = typed_lies o.Minus a b e g spans w h.0 h.1 v z lie
  narrowed_lies (double (Infix o.Times) a e g) b spans w h v z lie = typed_lies o.Times a b e g spans w h.0 h.1 v z lie
  narrowed_lies (double (Infix o.Over) a e g) b spans w h v z lie = typed_lies o.Over a b e g spans w h.0 h.1 v z lie
  narrowed_lies (double (Infix o.Modulo) a e g) b spans w h v z lie = typed_lies o.Modulo a b e g spans w h.0 h.1 v z lie
  narrowed_lies (double Negate a e g) b spans w h v z lie = lie
  narrowed_lies (double Not a e g) b spans w h v z lie = lie
  narrowed_lies (double Abs a e g) b spans w h v z lie = lie
  narrowed_lies (double Min a e g) b spans w h v z lie = lie
  narrowed_lies (double Max a e g) b spans w h v z lie = lie
  narrowed_lies (double Limit a e g) b spans w h v z lie = lie
  narrowed_lies (double (Convert from to) a e g) b spans w h v z lie = lie

-- the law's order of premises
pub narrowing : (e : Term) (b : Bool) (spans : Spans) (shape : Shape) (values : Values) (v : ℤ) → TermFits shape e → HasShape shape values → Lies spans values → value_of e values ≡ Some v → is_zero v ≡ not b → Lies (narrowed e b spans) values
narrowing e b spans shape values v h fit lie is z = narrowed_lies shape values fit e b spans v h is z lie
