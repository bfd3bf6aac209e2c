-- What an examination finds, and that it leaves arrays their rows.
use Rattle.std.proofs.Common.{◌≡◌, ℕ, zero, suc, ◌+◌, ◌*◌, max, ℤ, Bool, true, false, List, Option, Some, None, IfSome, refl, ◌∙◌, ap, ap₂, arith}
use Rattle.std.specs.Prelude.{if◌then◌else◌}
use Rattle.std.specs.Int.{int_min, int_max}
use Rattle.std.proofs.lemmas.Int.{ints, clamps}
use Rattle.fb_words.specs.declared.elem_type.ElemType.{ElemType}
use Rattle.fb_words.specs.declared.operator.Operator.{Operator}
use Rattle.fb_words.specs.declared.operator.Operator.TheVariants as o
use Rattle.fb_words.specs.declared.operator.Operation.TheVariants.{Infix, Negate, Not, Abs, Min, Max, Limit, Convert}
use Rattle.fb_model.specs.Names.{Name, is_in}
use Rattle.fb_model.specs.TypedText.{Term, constant, read, part, single, double, Command, set, set_part, choose, match_on, count, done, then_do, Choices, no_choice, choice, Cases, no_case, a_case}
use Rattle.fb_model.specs.Language.{Algorithm}
use Rattle.fb_model.specs.Spans.{Span, span, within, joined}
use Rattle.fb_model.specs.Clear.{Spans, changed, meets, opposite, mirrored, is_truth, related, narrowed, Found, Clear, Leaves, Traps, onward, costing, with_range, either, range_of, assigned, are_kept, reset, most_iterations, taken, left_with, looped, examine_one, examine, examine_choices, examine_cases}
use Rattle.fb_model.specs.Shapes.{Shape, TermFits, CommandFits, AlgorithmFits, ChoicesFit, CasesFit}
use Rattle.fb_model.proofs.Names.{by_name}

-- ---- what is found

-- where all is clear, a fact about the ranges and the steps
abbrev pub OnClear : (Spans → ℕ → Type 0) → Found → Type 0
OnClear P (Clear spans n) = P spans n
OnClear P Leaves = Unit {0}
OnClear P Traps = Unit {0}

pub any_clear : (F : Found) → OnClear (λ s n. Unit {0}) F
any_clear (Clear s n) = tt
any_clear Leaves = tt
any_clear Traps = tt

pub on_range : (o : Option Span) (f : Span → Found) (R : Span → Type 0) (P : Spans → ℕ → Type 0) → IfSome o R → ((r : Span) → R r → OnClear P (f r)) → OnClear P (with_range o f)
on_range None f R P h go = tt
on_range (Some r) f R P h go = go r h

pub on_costing : (n : ℕ) (F : Found) (P Q : Spans → ℕ → Type 0) → OnClear P F → ((s : Spans) (m : ℕ) → P s m → Q s (n + m)) → OnClear Q (costing n F)
on_costing n (Clear s m) P Q h go = go s m h
on_costing n Leaves P Q h go = tt
on_costing n Traps P Q h go = tt

further : (n : ℕ) (G : Found) (Q : Spans → ℕ → Type 0) → OnClear (λ s m. Q s (n + m)) G → OnClear Q (elim G [ Clear after m ↦ Clear after (n + m) | Leaves ↦ Leaves | Traps ↦ Traps ])
further n (Clear s m) Q h = h
further n Leaves Q h = tt
further n Traps Q h = tt

pub on_onward : (F : Found) (f : Spans → Found) (P Q : Spans → ℕ → Type 0) → OnClear P F → ((s : Spans) (n : ℕ) → P s n → OnClear (λ e m. Q e (n + m)) (f s)) → OnClear Q (onward F f)
on_onward (Clear s n) f P Q h go = further n (f s) Q (go s n h)
on_onward Leaves f P Q h go = tt
on_onward Traps f P Q h go = tt

pub on_either : (F G : Found) (P R Q : Spans → ℕ → Type 0) → OnClear P F → OnClear R G → ((s t : Spans) (n m : ℕ) → P s n → R t m → Q (λ x. joined (s x) (t x)) (max n m)) → OnClear Q (either F G)
on_either (Clear s n) (Clear t m) P R Q h k go = go s t n m h k
on_either (Clear s n) Leaves P R Q h k go = tt
on_either (Clear s n) Traps P R Q h k go = tt
on_either Leaves G P R Q h k go = tt
on_either Traps G P R Q h k go = tt

pub on_if : (b : Bool) (F G : Found) (P : Spans → ℕ → Type 0) → (b ≡ true → OnClear P F) → (b ≡ false → OnClear P G) → OnClear P (if b then F else G)
on_if true F G P h k = h refl
on_if false F G P h k = k refl

-- what comes after the body of a FOR
pub on_body : (G : Found) (xs : List Name) (rows : Spans) (after : Spans → ℕ → Spans) (cost : ℕ → ℕ) (P : Spans → ℕ → Type 0) → ((e : Spans) (m : ℕ) → G ≡ Clear e m → are_kept xs rows e ≡ true → P (after e m) (cost m))
    → OnClear P (elim G [ Clear e m ↦ if are_kept xs rows e then Clear (after e m) (cost m) else Leaves | Leaves ↦ Leaves | Traps ↦ Traps ])
on_body (Clear e m) xs rows after cost P go = on_if (are_kept xs rows e) (Clear (after e m) (cost m)) Leaves P (λ h. go e m refl h) (λ h. tt)
on_body Leaves xs rows after cost P go = tt
on_body Traps xs rows after cost P go = tt

any_range : (o : Option Span) → IfSome o (λ r. Unit {0})
any_range None = tt
any_range (Some r) = tt

-- ---- arrays have their rows

joined_same : (r : Span) → joined r r ≡ r
joined_same r =
    let a : int_min r.low r.low ≡ r.low = omega (arith, ints, clamps) in
    let b : int_max r.high r.high ≡ r.high = omega (arith, ints, clamps) in
    ap₂ span a b

module _ (shape : Shape) (rows : Spans) where
  -- each array has its row
  abbrev pub Rowed : Spans → Type 0
  Rowed spans = (x : Name) (bounds : ℤ × ℤ) → shape x ≡ Some bounds → spans x ≡ rows x

  pub changed_rowed : (x : Name) (f : Span → Span) (spans : Spans) → shape x ≡ None → Rowed spans → Rowed (changed x f spans)
  changed_rowed x f spans p k y bounds e =
      by_name (λ r. r ≡ rows y) x y (f (spans y)) (spans y) (λ s. absurd (let q : shape x ≡ shape y = ap shape s in cc)) (λ s. k y bounds e)

  pub reset_rowed : (xs : List Name) (spans : Spans) → Rowed spans → Rowed (reset xs rows spans)
  reset_rowed xs spans k y bounds e = by (is_in y xs) where
    by : (b : Bool) → (if b then rows y else spans y) ≡ rows y
    by true = refl
    by false = k y bounds e

  joined_rowed : (s t : Spans) → Rowed s → Rowed t → Rowed (λ x. joined (s x) (t x))
  joined_rowed s t h k y bounds e = ap₂ joined (h y bounds e) (k y bounds e) ∙ joined_same (rows y)

  related_rowed : (f : Operator) (e g : Term) (spans : Spans) → TermFits shape e → TermFits shape g → Rowed spans → Rowed (related f e g spans)
  related_rowed f (read x) (constant k) spans p q h = changed_rowed x (meets f k) spans p h
  related_rowed f (constant k) (read x) spans p q h = changed_rowed x (meets (mirrored f) k) spans q h
  related_rowed f (read x) (read y) spans p q h = h
  related_rowed f (read x) (part y low high i) spans p q h = h
  related_rowed f (read x) (single g c i) spans p q h = h
  related_rowed f (read x) (double g c i j) spans p q h = h
  related_rowed f (constant k) (constant l) spans p q h = h
  related_rowed f (constant k) (part y low high i) spans p q h = h
  related_rowed f (constant k) (single g c i) spans p q h = h
  related_rowed f (constant k) (double g c i j) spans p q h = h
  related_rowed f (part y low high i) g spans p q h = h
  related_rowed f (single g c i) j spans p q h = h
  related_rowed f (double g c i j) l spans p q h = h

  typed_rowed : (a : ElemType) (f : Operator) (e g : Term) (spans : Spans) → TermFits shape e → TermFits shape g → Rowed spans → Rowed (if is_truth a then spans else related f e g spans)
  typed_rowed a f e g spans p q h = by (is_truth a) where
    by : (c : Bool) → Rowed (if c then spans else related f e g spans)
    by true = h
    by false = related_rowed f e g spans p q h

  pub narrowed_rowed : (e : Term) (b : Bool) (spans : Spans) → TermFits shape e → Rowed spans → Rowed (narrowed e b spans)
  narrowed_rowed (constant k) b spans h r = r
  narrowed_rowed (read x) b spans h r = r
  narrowed_rowed (part x low high i) b spans h r = r
  narrowed_rowed (single Not a g) true spans h r = narrowed_rowed g false spans h r
  narrowed_rowed (single Not a g) false spans h r = narrowed_rowed g true spans h r
  narrowed_rowed (single (Infix f) a g) b spans h r = r
  narrowed_rowed (single Negate a g) b spans h r = r
  narrowed_rowed (single Abs a g) b spans h r = r
  narrowed_rowed (single Min a g) b spans h r = r
  narrowed_rowed (single Max a g) b spans h r = r
  narrowed_rowed (single Limit a g) b spans h r = r
  narrowed_rowed (single (Convert from to) a g) b spans h r = r
  narrowed_rowed (double (Infix o.And) a e g) true spans h r = narrowed_rowed g true (narrowed e true spans) h.1 (narrowed_rowed e true spans h.0 r)
  narrowed_rowed (double (Infix o.Or) a e g) false spans h r = narrowed_rowed g false (narrowed e false spans) h.1 (narrowed_rowed e false spans h.0 r)
  narrowed_rowed (double (Infix o.And) a e g) false spans h r = typed_rowed a o.And e g spans h.0 h.1 r
  narrowed_rowed (double (Infix o.Or) a e g) true spans h r = typed_rowed a o.Or e g spans h.0 h.1 r
  narrowed_rowed (double (Infix o.Xor) a e g) b spans h r = typed_rowed a (if b then o.Xor else opposite o.Xor) e g spans h.0 h.1 r
  narrowed_rowed (double (Infix o.Equal) a e g) b spans h r = typed_rowed a (if b then o.Equal else opposite o.Equal) e g spans h.0 h.1 r
  narrowed_rowed (double (Infix o.NotEqual) a e g) b spans h r = typed_rowed a (if b then o.NotEqual else opposite o.NotEqual) e g spans h.0 h.1 r
  narrowed_rowed (double (Infix o.Less) a e g) b spans h r = typed_rowed a (if b then o.Less else opposite o.Less) e g spans h.0 h.1 r
  narrowed_rowed (double (Infix o.Greater) a e g) b spans h r = typed_rowed a (if b then o.Greater else opposite o.Greater) e g spans h.0 h.1 r
  narrowed_rowed (double (Infix o.LessEqual) a e g) b spans h r = typed_rowed a (if b then o.LessEqual else opposite o.LessEqual) e g spans h.0 h.1 r
  narrowed_rowed (double (Infix o.GreaterEqual) a e g) b spans h r = typed_rowed a (if b then o.GreaterEqual else opposite o.GreaterEqual) e g spans h.0 h.1 r
  narrowed_rowed (double (Infix o.Plus) a e g) b spans h r = typed_rowed a (if b then o.Plus else opposite o.Plus) e g spans h.0 h.1 r
  narrowed_rowed (double (Infix o.Minus) a e g) b spans h r = typed_rowed a (if b then o.Minus else opposite o.Minus) e g spans h.0 h.1 r
  narrowed_rowed (double (Infix o.Times) a e g) b spans h r = typed_rowed a (if b then o.Times else opposite o.Times) e g spans h.0 h.1 r
  narrowed_rowed (double (Infix o.Over) a e g) b spans h r = typed_rowed a (if b then o.Over else opposite o.Over) e g spans h.0 h.1 r
  narrowed_rowed (double (Infix o.Modulo) a e g) b spans h r = typed_rowed a (if b then o.Modulo else opposite o.Modulo) e g spans h.0 h.1 r
  narrowed_rowed (double Negate a e g) b spans h r = r
  narrowed_rowed (double Not a e g) b spans h r = r
  narrowed_rowed (double Abs a e g) b spans h r = r
  narrowed_rowed (double Min a e g) b spans h r = r
  narrowed_rowed (double Max a e g) b spans h r = r
  narrowed_rowed (double Limit a e g) b spans h r = r
  narrowed_rowed (double (Convert from to) a e g) b spans h r = r

  -- ---- examinations

  abbrev pub FoundRowed : Found → Type 0
  FoundRowed F = OnClear (λ s n. Rowed s) F

  any_way : (o : Option Span) (f : Span → Found) → ((r : Span) → FoundRowed (f r)) → FoundRowed (with_range o f)
  any_way o f go = on_range o f (λ r. Unit {0}) (λ s n. Rowed s) (any_range o) (λ r u. go r)

  one_or_other : (F G : Found) → FoundRowed F → FoundRowed G → FoundRowed (either F G)
  one_or_other F G h k = on_either F G (λ s n. Rowed s) (λ s n. Rowed s) (λ s n. Rowed s) h k (λ s t n m a b. joined_rowed s t a b)

  looped_rowed : (n : ℕ) (xs : List Name) (f : Spans → Found) (x : Name) (r s : Span) (k : ℤ) (spans : Spans) → shape x ≡ None → Rowed spans → FoundRowed (looped n xs rows f x r s k spans)
  looped_rowed zero xs f x r s k spans p h = h
  looped_rowed (suc n) xs f x r s k spans p h =
      on_if (are_kept xs rows spans) _ Leaves (λ e m. Rowed e)
      (λ a. on_body (f (changed x (λ b. taken r s k (suc n)) (reset xs rows spans))) xs rows (λ e m. changed x (left_with r s k (suc n)) (reset xs rows spans)) (λ m. 1 + suc n * (1 + m)) (λ e m. Rowed e)
      (λ e m is kept. changed_rowed x (left_with r s k (suc n)) (reset xs rows spans) p (reset_rowed xs spans h)))
      (λ a. tt)

  mutual
    pub rowed_one : (c : Command) → CommandFits shape c → (spans : Spans) → Rowed spans → FoundRowed (examine_one rows c spans)
    rowed_one (set x e) h spans k = any_way (range_of e spans) _ (λ r. changed_rowed x (λ b. r) spans h.0 k)
    rowed_one (set_part x low high i e) h spans k =
        any_way (range_of i spans) _
        (λ j. any_way (range_of e spans) _
        (λ r. on_if (within j (span low high)) (if within r (rows x) then Clear spans 1 else Leaves) Traps (λ s n. Rowed s) (λ a. on_if (within r (rows x)) (Clear spans 1) Leaves (λ s n. Rowed s) (λ b. k) (λ b. tt)) (λ a. tt)))
    rowed_one (choose choices other) h spans k = on_costing 1 _ (λ s n. Rowed s) (λ s n. Rowed s) (rowed_choices choices h.0 (examine rows other) (λ s t. rowed_all other h.1 s t) spans k) (λ s m t. t)
    rowed_one (match_on e cases other) h spans k =
        any_way (range_of e spans) _ (λ r. on_costing 1 _ (λ s n. Rowed s) (λ s n. Rowed s) (rowed_cases cases h.1 (examine rows other spans) (rowed_all other h.2 spans k) spans k) (λ s m t. t))
    rowed_one (count x a e g k plain body) h spans t = any_way (range_of e spans) _ (λ r. any_way (range_of g spans) _ (λ s. looped_rowed (most_iterations r s k) (assigned body) (examine rows body) x r s k spans h.0 t))

    pub rowed_all : (a : Algorithm) → AlgorithmFits shape a → (spans : Spans) → Rowed spans → FoundRowed (examine rows a spans)
    rowed_all done h spans k = k
    rowed_all (then_do c cs) h spans k = on_onward (examine_one rows c spans) (examine rows cs) (λ s n. Rowed s) (λ s n. Rowed s) (rowed_one c h.0 spans k) (λ s n t. rowed_all cs h.1 s t)

    pub rowed_choices : (cs : Choices) → ChoicesFit shape cs → (f : Spans → Found) → ((s : Spans) → Rowed s → FoundRowed (f s)) → (spans : Spans) → Rowed spans → FoundRowed (examine_choices rows cs f spans)
    rowed_choices no_choice h f els spans k = els spans k
    rowed_choices (choice e body rest) h f els spans k =
        any_way (range_of e spans) _
        (λ r. one_or_other (examine rows body (narrowed e true spans)) (examine_choices rows rest f (narrowed e false spans)) (rowed_all body h.1 (narrowed e true spans) (narrowed_rowed e true spans h.0 k))
        (rowed_choices rest h.2 f els (narrowed e false spans) (narrowed_rowed e false spans h.0 k)))

    pub rowed_cases : (cs : Cases) → CasesFit shape cs → (F : Found) → FoundRowed F → (spans : Spans) → Rowed spans → FoundRowed (examine_cases rows cs F spans)
    rowed_cases no_case h F els spans k = els
    rowed_cases (a_case labels body rest) h F els spans k = one_or_other (examine rows body spans) (examine_cases rows rest F spans) (rowed_all body h.0 spans k) (rowed_cases rest h.1 F els spans k)
