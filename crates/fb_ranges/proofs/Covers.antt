-- The ranges where a condition is true and those where it is false make up the ranges before.
use Rattle.std.proofs.Common.{◌≡◌, ℤ, pos, ◌+ℤ◌, ◌-ℤ◌, int_le, Bool, true, false, not, ◌&&◌, [], ◌++◌, refl, sym, ap, ap₂, ◌∙◌, arith}
use Rattle.std.specs.Prelude.{if◌then◌else◌}
use Rattle.std.specs.Str.{bytes_eq}
use Rattle.std.proofs.lemmas.Int.{ints, clamps}
use Rattle.std.proofs.lemmas.Bool.{and_parts}
use Rattle.std.specs.Int.{int_min, int_max}
use Rattle.fb_words.specs.declared.elem_type.ElemType.{ElemType}
use Rattle.fb_words.specs.declared.operator.Operator.{Operator}
use Rattle.fb_words.specs.declared.operator.Operator.TheVariants as o
use Rattle.fb_words.specs.declared.operator.Operation.TheVariants.{Infix, Negate, Not, Abs, Min, Max, Limit, Convert}
use Rattle.fb_model.specs.Names.{Name, is_in}
use Rattle.fb_model.specs.TypedText.{Term, constant, read, part, single, double}
use Rattle.fb_model.specs.Spans.{Span, span, joined, within}
use Rattle.fb_model.specs.Clear.{Spans, changed, cut, at_most, at_least, just, without, meets, opposite, mirrored, is_truth, related, narrowed}
use Rattle.fb_model.proofs.Names.{not_first, not_front, not_back}
use Rattle.fb_model.proofs.Results.{and_left, and_right}
use Rattle.fb_words.proofs.Types.{le_is}
use Rattle.fb_ranges.specs.Narrowing.{read_in}

-- ---- smallest ranges that hold two

pub joined_same : (r : Span) → joined r r ≡ r
joined_same r = ap₂ span (omega (arith, ints, clamps)) (omega (arith, ints, clamps))

pub joined_turned : (r s : Span) → joined r s ≡ joined s r
joined_turned r s = ap₂ span (omega (arith, ints, clamps)) (omega (arith, ints, clamps))

pub joined_again : (r s u : Span) → joined r (joined s u) ≡ joined (joined r s) u
joined_again r s u = ap₂ span (omega (arith, ints, clamps)) (omega (arith, ints, clamps))

pub joined_twice : (r s : Span) → joined (joined r s) s ≡ joined r s
joined_twice r s = ap₂ span (omega (arith, ints, clamps)) (omega (arith, ints, clamps))

-- a range in one that lies in another
joined_in : (r s u : Span) → joined r s ≡ r → joined s u ≡ s → joined r u ≡ r
joined_in r s u h k = ap (λ x. joined x u) (sym h) ∙ sym (joined_again r s u) ∙ ap (joined r) k ∙ h

-- it is the larger one
pub joined_within : (r s : Span) → within r s ≡ true → joined s r ≡ s
joined_within r s h =
    let low = le_is s.low r.low (and_left _ _ h) in
    let high = le_is r.high s.high (and_right (int_le s.low r.low) _ h) in
    ap₂ span (omega (arith, ints, clamps, low)) (omega (arith, ints, clamps, high))

-- ---- cuts

cut_in : (c r : Span) → joined r c ≡ r → joined r (cut c r) ≡ r
cut_in c r h = by (int_le c.low c.high) where
  by : (b : Bool) → joined r (if b then c else r) ≡ r
  by true = h
  by false = joined_same r

cuts_cover : (c d r : Span) → joined r c ≡ r → joined r d ≡ r → joined c d ≡ r → joined (cut c r) (cut d r) ≡ r
cuts_cover c d r h k all = by (int_le c.low c.high) (int_le d.low d.high) where
  by : (a b : Bool) → joined (if a then c else r) (if b then d else r) ≡ r
  by true true = all
  by true false = joined_turned c r ∙ h
  by false true = k
  by false false = joined_same r

module _ (k : ℤ) (r : Span) where
  most_in : joined r (span r.low (int_min r.high k)) ≡ r
  most_in = ap₂ span (omega (arith, ints, clamps)) (omega (arith, ints, clamps))

  least_in : joined r (span (int_max r.low k) r.high) ≡ r
  least_in = ap₂ span (omega (arith, ints, clamps)) (omega (arith, ints, clamps))

  just_in : joined r (span (int_max r.low k) (int_min r.high k)) ≡ r
  just_in = ap₂ span (omega (arith, ints, clamps)) (omega (arith, ints, clamps))

  low_in : (b : Bool) → int_min r.low (if b then r.low +ℤ pos 1 else r.low) ≡ r.low
  low_in true = omega (arith, ints, clamps)
  low_in false = omega (arith, ints, clamps)

  high_in : (b : Bool) → int_max r.high (if b then r.high -ℤ pos 1 else r.high) ≡ r.high
  high_in true = omega (arith, ints, clamps)
  high_in false = omega (arith, ints, clamps)

  without_in : joined r (span (if int_le r.low k && int_le k r.low then r.low +ℤ pos 1 else r.low) (if int_le r.high k && int_le k r.high then r.high -ℤ pos 1 else r.high)) ≡ r
  without_in = ap₂ span (low_in (int_le r.low k && int_le k r.low)) (high_in (int_le r.high k && int_le k r.high))

  low_covers : (b : Bool) → (int_le r.low k && int_le k r.low) ≡ b → int_min (int_max r.low k) (if b then r.low +ℤ pos 1 else r.low) ≡ r.low
  low_covers true h =
      let p = and_parts (int_le r.low k) (int_le k r.low) h in
      let a = le_is r.low k p.0 in
      let b = le_is k r.low p.1 in
      omega (arith, ints, clamps, a, b)
  low_covers false h = omega (arith, ints, clamps)

  high_covers : (b : Bool) → (int_le r.high k && int_le k r.high) ≡ b → int_max (int_min r.high k) (if b then r.high -ℤ pos 1 else r.high) ≡ r.high
  high_covers true h =
      let p = and_parts (int_le r.high k) (int_le k r.high) h in
      let a = le_is r.high k p.0 in
      let b = le_is k r.high p.1 in
      omega (arith, ints, clamps, a, b)
  high_covers false h = omega (arith, ints, clamps)

  just_covers : joined (just k r) (without k r) ≡ r
  just_covers =
      cuts_cover (span (int_max r.low k) (int_min r.high k)) (span (if int_le r.low k && int_le k r.low then r.low +ℤ pos 1 else r.low) (if int_le r.high k && int_le k r.high then r.high -ℤ pos 1 else r.high)) r
      just_in without_in
      (ap₂ span (low_covers (int_le r.low k && int_le k r.low) refl) (high_covers (int_le r.high k && int_le k r.high) refl))

most_covers : (k m : ℤ) (r : Span) → m ≡ k +ℤ pos 1 → joined (at_most k r) (at_least m r) ≡ r
most_covers k m r e =
    cuts_cover (span r.low (int_min r.high k)) (span (int_max r.low m) r.high) r (most_in k r) (least_in m r)
    (ap₂ span (omega (arith, ints, clamps)) (omega (arith, ints, clamps)))

-- a relation and its opposite
meets_cover : (f : Operator) (k : ℤ) (r : Span) → joined (meets f k r) (meets (opposite f) k r) ≡ r
meets_cover o.Less k r = most_covers (k -ℤ pos 1) k r (omega (arith, ints))
meets_cover o.LessEqual k r = most_covers k (k +ℤ pos 1) r refl
meets_cover o.Greater k r = joined_turned (at_least (k +ℤ pos 1) r) (at_most k r) ∙ most_covers k (k +ℤ pos 1) r refl
meets_cover o.GreaterEqual k r = joined_turned (at_least k r) (at_most (k -ℤ pos 1) r) ∙ most_covers (k -ℤ pos 1) k r (omega (arith, ints))
meets_cover o.Equal k r = just_covers k r
meets_cover o.NotEqual k r = joined_turned (without k r) (just k r) ∙ just_covers k r
meets_cover o.Or k r = joined_same r
meets_cover o.Xor k r = joined_same r
meets_cover o.And k r = joined_same r
meets_cover o.Plus k r = joined_same r
meets_cover o.Minus k r = joined_same r
meets_cover o.Times k r = joined_same r
meets_cover o.Over k r = joined_same r
meets_cover o.Modulo k r = joined_same r

meets_in : (f : Operator) (k : ℤ) (r : Span) → joined r (meets f k r) ≡ r
meets_in o.Less k r = cut_in (span r.low (int_min r.high (k -ℤ pos 1))) r (most_in (k -ℤ pos 1) r)
meets_in o.LessEqual k r = cut_in (span r.low (int_min r.high k)) r (most_in k r)
meets_in o.Greater k r = cut_in (span (int_max r.low (k +ℤ pos 1)) r.high) r (least_in (k +ℤ pos 1) r)
meets_in o.GreaterEqual k r = cut_in (span (int_max r.low k) r.high) r (least_in k r)
meets_in o.Equal k r = cut_in (span (int_max r.low k) (int_min r.high k)) r (just_in k r)
meets_in o.NotEqual k r = cut_in (span (if int_le r.low k && int_le k r.low then r.low +ℤ pos 1 else r.low) (if int_le r.high k && int_le k r.high then r.high -ℤ pos 1 else r.high)) r (without_in k r)
meets_in o.Or k r = joined_same r
meets_in o.Xor k r = joined_same r
meets_in o.And k r = joined_same r
meets_in o.Plus k r = joined_same r
meets_in o.Minus k r = joined_same r
meets_in o.Times k r = joined_same r
meets_in o.Over k r = joined_same r
meets_in o.Modulo k r = joined_same r

-- the opposite from the other side
mirrored_opposite : (f : Operator) → mirrored (opposite f) ≡ opposite (mirrored f)
mirrored_opposite o.Less = refl
mirrored_opposite o.LessEqual = refl
mirrored_opposite o.Greater = refl
mirrored_opposite o.GreaterEqual = refl
mirrored_opposite o.Equal = refl
mirrored_opposite o.NotEqual = refl
mirrored_opposite o.Or = refl
mirrored_opposite o.Xor = refl
mirrored_opposite o.And = refl
mirrored_opposite o.Plus = refl
mirrored_opposite o.Minus = refl
mirrored_opposite o.Times = refl
mirrored_opposite o.Over = refl
mirrored_opposite o.Modulo = refl

-- ---- relations

changed_is : (P : Span → Type 0) (x y : Name) (f : Span → Span) (s : Spans) → P (f (s y)) → P (s y) → P (changed x f s y)
changed_is P x y f s h k = by (bytes_eq x y) where
  by : (b : Bool) → P (if b then f (s y) else s y)
  by true = h
  by false = k

changed_cover : (x y : Name) (f g : Span → Span) (s : Spans) → joined (f (s y)) (g (s y)) ≡ s y → joined (changed x f s y) (changed x g s y) ≡ s y
changed_cover x y f g s h = by (bytes_eq x y) where
  by : (b : Bool) → joined (if b then f (s y) else s y) (if b then g (s y) else s y) ≡ s y
  by true = h
  by false = joined_same (s y)

related_in : (f : Operator) (e g : Term) (s : Spans) (y : Name) → joined (s y) (related f e g s y) ≡ s y
related_in f (read x) (constant k) s y = changed_is (λ r. joined (s y) r ≡ s y) x y (meets f k) s (meets_in f k (s y)) (joined_same (s y))
related_in f (constant k) (read x) s y = changed_is (λ r. joined (s y) r ≡ s y) x y (meets (mirrored f) k) s (meets_in (mirrored f) k (s y)) (joined_same (s y))
related_in f (constant k) (constant m) s y = joined_same (s y)
related_in f (constant k) (part x low high i) s y = joined_same (s y)
related_in f (constant k) (single h a e) s y = joined_same (s y)
related_in f (constant k) (double h a e g) s y = joined_same (s y)
related_in f (read x) (read z) s y = joined_same (s y)
related_in f (read x) (part z low high i) s y = joined_same (s y)
related_in f (read x) (single h a e) s y = joined_same (s y)
related_in f (read x) (double h a e g) s y = joined_same (s y)
related_in f (part x low high i) g s y = joined_same (s y)
related_in f (single h a e) g s y = joined_same (s y)
related_in f (double h a e e') g s y = joined_same (s y)

related_cover : (f : Operator) (e g : Term) (s : Spans) (y : Name) → joined (related f e g s y) (related (opposite f) e g s y) ≡ s y
related_cover f (read x) (constant k) s y = changed_cover x y (meets f k) (meets (opposite f) k) s (meets_cover f k (s y))
related_cover f (constant k) (read x) s y =
    changed_cover x y (meets (mirrored f) k) (meets (mirrored (opposite f)) k) s
    (ap (λ h. joined (meets (mirrored f) k (s y)) (meets h k (s y))) (mirrored_opposite f) ∙ meets_cover (mirrored f) k (s y))
related_cover f (constant k) (constant m) s y = joined_same (s y)
related_cover f (constant k) (part x low high i) s y = joined_same (s y)
related_cover f (constant k) (single h a e) s y = joined_same (s y)
related_cover f (constant k) (double h a e g) s y = joined_same (s y)
related_cover f (read x) (read z) s y = joined_same (s y)
related_cover f (read x) (part z low high i) s y = joined_same (s y)
related_cover f (read x) (single h a e) s y = joined_same (s y)
related_cover f (read x) (double h a e g) s y = joined_same (s y)
related_cover f (part x low high i) g s y = joined_same (s y)
related_cover f (single h a e) g s y = joined_same (s y)
related_cover f (double h a e e') g s y = joined_same (s y)

related_besides : (f : Operator) (e g : Term) (s : Spans) (y : Name) → is_in y (read_in e) ≡ false → is_in y (read_in g) ≡ false → related f e g s y ≡ s y
related_besides f (read x) (constant k) s y h i = ap (λ b. if b then meets f k (s y) else s y) (not_first x y [] h)
related_besides f (constant k) (read x) s y h i = ap (λ b. if b then meets (mirrored f) k (s y) else s y) (not_first x y [] i)
related_besides f (constant k) (constant m) s y h i = refl
related_besides f (constant k) (part x low high j) s y h i = refl
related_besides f (constant k) (single p a e) s y h i = refl
related_besides f (constant k) (double p a e g) s y h i = refl
related_besides f (read x) (read z) s y h i = refl
related_besides f (read x) (part z low high j) s y h i = refl
related_besides f (read x) (single p a e) s y h i = refl
related_besides f (read x) (double p a e g) s y h i = refl
related_besides f (part x low high j) g s y h i = refl
related_besides f (single p a e) g s y h i = refl
related_besides f (double p a e e') g s y h i = refl

-- ---- conditions

-- what a relation of some type says
abbrev typed : Operator → ElemType → Bool → Term → Term → Spans → Spans
typed f a b e g s = if is_truth a then s else related (if b then f else opposite f) e g s

module _ (f : Operator) (a : ElemType) (e g : Term) (s : Spans) (y : Name) where
  typed_in : (b : Bool) → joined (s y) (typed f a b e g s y) ≡ s y
  typed_in b = by (is_truth a) where
    by : (c : Bool) → joined (s y) ((if c then s else related (if b then f else opposite f) e g s) y) ≡ s y
    by true = joined_same (s y)
    by false = related_in (if b then f else opposite f) e g s y

  typed_cover : joined (typed f a true e g s y) (typed f a false e g s y) ≡ s y
  typed_cover = by (is_truth a) where
    by : (c : Bool) → joined ((if c then s else related f e g s) y) ((if c then s else related (opposite f) e g s) y) ≡ s y
    by true = joined_same (s y)
    by false = related_cover f e g s y

  typed_besides : (b : Bool) → is_in y (read_in e ++ read_in g) ≡ false → typed f a b e g s y ≡ s y
  typed_besides b h = by (is_truth a) where
    by : (c : Bool) → (if c then s else related (if b then f else opposite f) e g s) y ≡ s y
    by true = refl
    by false = related_besides (if b then f else opposite f) e g s y (not_front y (read_in e) (read_in g) h) (not_back y (read_in e) (read_in g) h)

-- narrowed ranges lie in those before
pub narrowed_in : (e : Term) (b : Bool) (s : Spans) (y : Name) → joined (s y) (narrowed e b s y) ≡ s y
narrowed_in (single Not a e) b s y = narrowed_in e (not b) s y
narrowed_in (double (Infix o.And) a e g) true s y = joined_in (s y) (narrowed e true s y) (narrowed g true (narrowed e true s) y) (narrowed_in e true s y) (narrowed_in g true (narrowed e true s) y)
narrowed_in (double (Infix o.Or) a e g) false s y = joined_in (s y) (narrowed e false s y) (narrowed g false (narrowed e false s) y) (narrowed_in e false s y) (narrowed_in g false (narrowed e false s) y)
narrowed_in (double (Infix o.And) a e g) false s y = typed_in o.And a e g s y false
narrowed_in (double (Infix o.Or) a e g) true s y = typed_in o.Or a e g s y true
narrowed_in (double (Infix o.Xor) a e g) b s y = typed_in o.Xor a e g s y b
narrowed_in (double (Infix o.Equal) a e g) b s y = typed_in o.Equal a e g s y b
narrowed_in (double (Infix o.NotEqual) a e g) b s y = typed_in o.NotEqual a e g s y b
narrowed_in (double (Infix o.Less) a e g) b s y = typed_in o.Less a e g s y b
narrowed_in (double (Infix o.Greater) a e g) b s y = typed_in o.Greater a e g s y b
narrowed_in (double (Infix o.LessEqual) a e g) b s y = typed_in o.LessEqual a e g s y b
narrowed_in (double (Infix o.GreaterEqual) a e g) b s y = typed_in o.GreaterEqual a e g s y b
narrowed_in (double (Infix o.Plus) a e g) b s y = typed_in o.Plus a e g s y b
narrowed_in (double (Infix o.Minus) a e g) b s y = typed_in o.Minus a e g s y b
narrowed_in (double (Infix o.Times) a e g) b s y = typed_in o.Times a e g s y b
narrowed_in (double (Infix o.Over) a e g) b s y = typed_in o.Over a e g s y b
narrowed_in (double (Infix o.Modulo) a e g) b s y = typed_in o.Modulo a e g s y b
narrowed_in (constant k) b s y = joined_same (s y)
narrowed_in (read x) b s y = joined_same (s y)
narrowed_in (part x low high i) b s y = joined_same (s y)
narrowed_in (single (Infix f) a e) b s y = joined_same (s y)
narrowed_in (single Negate a e) b s y = joined_same (s y)
narrowed_in (single Abs a e) b s y = joined_same (s y)
narrowed_in (single Min a e) b s y = joined_same (s y)
narrowed_in (single Max a e) b s y = joined_same (s y)
narrowed_in (single Limit a e) b s y = joined_same (s y)
narrowed_in (single (Convert from to) a e) b s y = joined_same (s y)
narrowed_in (double Negate a e g) b s y = joined_same (s y)
narrowed_in (double Not a e g) b s y = joined_same (s y)
narrowed_in (double Abs a e g) b s y = joined_same (s y)
narrowed_in (double Min a e g) b s y = joined_same (s y)
narrowed_in (double Max a e g) b s y = joined_same (s y)
narrowed_in (double Limit a e g) b s y = joined_same (s y)
narrowed_in (double (Convert from to) a e g) b s y = joined_same (s y)

-- where a condition is true, and where it is false
pub narrowed_cover : (e : Term) (s : Spans) (y : Name) → joined (narrowed e true s y) (narrowed e false s y) ≡ s y
narrowed_cover (single Not a e) s y = joined_turned (narrowed e false s y) (narrowed e true s y) ∙ narrowed_cover e s y
narrowed_cover (double (Infix o.And) a e g) s y =
    let n = narrowed g true (narrowed e true s) y in
    let t = typed o.And a false e g s y in
    let same : t ≡ s y = sym (joined_same t) ∙ typed_cover o.And a e g s y in
    ap (joined n) same ∙ joined_turned n (s y) ∙ narrowed_in (double (Infix o.And) a e g) true s y
narrowed_cover (double (Infix o.Or) a e g) s y =
    let n = narrowed g false (narrowed e false s) y in
    let t = typed o.Or a true e g s y in
    let same : t ≡ s y = sym (joined_same t) ∙ typed_cover o.Or a e g s y in
    ap (λ r. joined r n) same ∙ narrowed_in (double (Infix o.Or) a e g) false s y
narrowed_cover (double (Infix o.Xor) a e g) s y = typed_cover o.Xor a e g s y
narrowed_cover (double (Infix o.Equal) a e g) s y = typed_cover o.Equal a e g s y
narrowed_cover (double (Infix o.NotEqual) a e g) s y = typed_cover o.NotEqual a e g s y
narrowed_cover (double (Infix o.Less) a e g) s y = typed_cover o.Less a e g s y
narrowed_cover (double (Infix o.Greater) a e g) s y = typed_cover o.Greater a e g s y
narrowed_cover (double (Infix o.LessEqual) a e g) s y = typed_cover o.LessEqual a e g s y
narrowed_cover (double (Infix o.GreaterEqual) a e g) s y = typed_cover o.GreaterEqual a e g s y
narrowed_cover (double (Infix o.Plus) a e g) s y = typed_cover o.Plus a e g s y
narrowed_cover (double (Infix o.Minus) a e g) s y = typed_cover o.Minus a e g s y
narrowed_cover (double (Infix o.Times) a e g) s y = typed_cover o.Times a e g s y
narrowed_cover (double (Infix o.Over) a e g) s y = typed_cover o.Over a e g s y
narrowed_cover (double (Infix o.Modulo) a e g) s y = typed_cover o.Modulo a e g s y
narrowed_cover (constant k) s y = joined_same (s y)
narrowed_cover (read x) s y = joined_same (s y)
narrowed_cover (part x low high i) s y = joined_same (s y)
narrowed_cover (single (Infix f) a e) s y = joined_same (s y)
narrowed_cover (single Negate a e) s y = joined_same (s y)
narrowed_cover (single Abs a e) s y = joined_same (s y)
narrowed_cover (single Min a e) s y = joined_same (s y)
narrowed_cover (single Max a e) s y = joined_same (s y)
narrowed_cover (single Limit a e) s y = joined_same (s y)
narrowed_cover (single (Convert from to) a e) s y = joined_same (s y)
narrowed_cover (double Negate a e g) s y = joined_same (s y)
narrowed_cover (double Not a e g) s y = joined_same (s y)
narrowed_cover (double Abs a e g) s y = joined_same (s y)
narrowed_cover (double Min a e g) s y = joined_same (s y)
narrowed_cover (double Max a e g) s y = joined_same (s y)
narrowed_cover (double Limit a e g) s y = joined_same (s y)
narrowed_cover (double (Convert from to) a e g) s y = joined_same (s y)

-- a condition says nothing of variables that it does not read
pub narrowed_besides : (e : Term) (b : Bool) (s : Spans) (y : Name) → is_in y (read_in e) ≡ false → narrowed e b s y ≡ s y
narrowed_besides (single Not a e) b s y h = narrowed_besides e (not b) s y h
narrowed_besides (double (Infix o.And) a e g) true s y h =
    narrowed_besides g true (narrowed e true s) y (not_back y (read_in e) (read_in g) h) ∙ narrowed_besides e true s y (not_front y (read_in e) (read_in g) h)
narrowed_besides (double (Infix o.Or) a e g) false s y h =
    narrowed_besides g false (narrowed e false s) y (not_back y (read_in e) (read_in g) h) ∙ narrowed_besides e false s y (not_front y (read_in e) (read_in g) h)
narrowed_besides (double (Infix o.And) a e g) false s y h = typed_besides o.And a e g s y false h
narrowed_besides (double (Infix o.Or) a e g) true s y h = typed_besides o.Or a e g s y true h
narrowed_besides (double (Infix o.Xor) a e g) b s y h = typed_besides o.Xor a e g s y b h
narrowed_besides (double (Infix o.Equal) a e g) b s y h = typed_besides o.Equal a e g s y b h
narrowed_besides (double (Infix o.NotEqual) a e g) b s y h = typed_besides o.NotEqual a e g s y b h
narrowed_besides (double (Infix o.Less) a e g) b s y h = typed_besides o.Less a e g s y b h
narrowed_besides (double (Infix o.Greater) a e g) b s y h = typed_besides o.Greater a e g s y b h
narrowed_besides (double (Infix o.LessEqual) a e g) b s y h = typed_besides o.LessEqual a e g s y b h
narrowed_besides (double (Infix o.GreaterEqual) a e g) b s y h = typed_besides o.GreaterEqual a e g s y b h
narrowed_besides (double (Infix o.Plus) a e g) b s y h = typed_besides o.Plus a e g s y b h
narrowed_besides (double (Infix o.Minus) a e g) b s y h = typed_besides o.Minus a e g s y b h
narrowed_besides (double (Infix o.Times) a e g) b s y h = typed_besides o.Times a e g s y b h
narrowed_besides (double (Infix o.Over) a e g) b s y h = typed_besides o.Over a e g s y b h
narrowed_besides (double (Infix o.Modulo) a e g) b s y h = typed_besides o.Modulo a e g s y b h
narrowed_besides (constant k) b s y h = refl
narrowed_besides (read x) b s y h = refl
narrowed_besides (part x low high i) b s y h = refl
narrowed_besides (single (Infix f) a e) b s y h = refl
narrowed_besides (single Negate a e) b s y h = refl
narrowed_besides (single Abs a e) b s y h = refl
narrowed_besides (single Min a e) b s y h = refl
narrowed_besides (single Max a e) b s y h = refl
narrowed_besides (single Limit a e) b s y h = refl
narrowed_besides (single (Convert from to) a e) b s y h = refl
narrowed_besides (double Negate a e g) b s y h = refl
narrowed_besides (double Not a e g) b s y h = refl
narrowed_besides (double Abs a e g) b s y h = refl
narrowed_besides (double Min a e g) b s y h = refl
narrowed_besides (double Max a e g) b s y h = refl
narrowed_besides (double Limit a e g) b s y h = refl
narrowed_besides (double (Convert from to) a e g) b s y h = refl
