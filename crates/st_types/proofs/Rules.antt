-- The rules say what the functions reckon.
use Rattle.std.proofs.Common.{◌≡◌, ℕ, Bool, true, false, ◌&&◌, cond, List, [], ◌∷◌, Option, None, Some, Result, Ok, Err, true≢false, refl, sym, ap, subst, ◌∙◌, ◌⊎◌, inl, inr}
use Rattle.std.specs.List.{list_all}
use Rattle.fb_words.specs.declared.elem_type.ElemType.{ElemType}
use Rattle.fb_words.specs.declared.elem_type.ElemType.TheVariants.{Lint}
use Rattle.fb_words.specs.declared.operator.Operation.{Operation}
use Rattle.fb_words.specs.declared.operator.Operation.TheVariants.{Min, Max, Limit}
use Rattle.fb_model.specs.Values.{in_type}
use Rattle.fb_model.specs.Spelling.{is_integer}
use Rattle.fb_model.specs.TypedText.{Term, constant, single, double}
use Rattle.fb_model.specs.TextTyping.{allows, gives, stays_free, asks, widens, Loose, loose_number, loose_single, loose_double, Operand, fixed, free, whole, may_be, is_free, Settles, a_number, a_single, a_double, TakesType, widened, settles, IsOneOf, front, behind, Brings, asked, alone, together, Single, one_free, one, Double, two_free, two, Triple, three_free, three, IsIndex, an_integer, a_free_one}
use Rattle.fb_model.specs.TextFaults.{Fault, type_mismatch, bad_literal}
use Rattle.st_types.specs.Elaborating.{◌>>=◌, fixed_type, offered, or_else, common, brought, allowed, operands_type, settled, taken, typed_single, typed_double, typed_limit, on_one, on_two, on_three, integer_of}
use Rattle.st_types.proofs.Widening.{one_type}

-- what a chain answers
pub bind_ok : {A B : Type 0} (r : Result A Fault) (f : A → Result B Fault) (y : B) → (r >>= f) ≡ Ok y → (x : A) × (r ≡ Ok x) × (f x ≡ Ok y)
bind_ok (Ok x) f y h = (x, refl, h)
bind_ok {A} {B} (Err e) f y h = absurd (let k : (let l : Result B Fault = Err e in l) ≡ Ok y = h in cc)

pub bind_err : {A B : Type 0} (r : Result A Fault) (f : A → Result B Fault) (e : Fault) → (r >>= f) ≡ Err e → (r ≡ Err e) ⊎ ((x : A) × (r ≡ Ok x) × (f x ≡ Err e))
bind_err (Ok x) f e h = inr (x, refl, h)
bind_err {A} {B} (Err d) f e h = inl (ap Err (let k : (let l : Result B Fault = Err d in l) ≡ Err e = h in let same : d ≡ e = cc in same))

pub test_ok : {A : Type 0} (b : Bool) (r : Result A Fault) (e : Fault) (y : A) → cond b r (Err e) ≡ Ok y → (b ≡ true) × (r ≡ Ok y)
test_ok true r e y h = (refl, h)
test_ok false r e y h = absurd (cc)

pub ok_same : {A : Type 0} (x y : A) → let r : Result A Fault = Ok x in r ≡ Ok y → x ≡ y
ok_same {A} x y h = cc

pub settled_sound : (t : ElemType) (l : Loose) (x : Term) → settled t l ≡ Ok x → Settles t l x
settled_sound t (loose_number n s) x h =
    let p = test_ok (in_type t n) (Ok (constant n)) (bad_literal s) x h in
    subst (Settles t (loose_number n s)) (ok_same (constant n) x p.1) (a_number p.0)
settled_sound t (loose_single o s a) y h =
    let p = test_ok (allows o t) (settled t a >>= λ x. Ok (single o t x)) (type_mismatch s) y h in
    let q = bind_ok (settled t a) (λ x. Ok (single o t x)) y p.1 in
    subst (Settles t (loose_single o s a)) (ok_same (single o t q.0) y q.2) (a_single p.0 (settled_sound t a q.0 q.1))
settled_sound t (loose_double o s a b) z h =
    let q = bind_ok (settled t a) (λ x. cond (allows o t) (settled t b >>= λ y. Ok (double o t x y)) (Err (type_mismatch s))) z h in
    let p = test_ok (allows o t) (settled t b >>= λ y. Ok (double o t q.0 y)) (type_mismatch s) z q.2 in
    let r = bind_ok (settled t b) (λ y. Ok (double o t q.0 y)) z p.1 in
    subst (Settles t (loose_double o s a b)) (ok_same (double o t q.0 r.0) z r.2) (a_double p.0 (settled_sound t a q.0 q.1) (settled_sound t b r.0 r.1))

pub settled_complete : (t : ElemType) (l : Loose) (x : Term) → Settles t l x → settled t l ≡ Ok x
settled_complete t (loose_number n s) x (a_number h) = rw h refl
settled_complete t (loose_single o s a) z (a_single {x = x} h k) = rw (h, settled_complete t a x k) refl
settled_complete t (loose_double o s a b) z (a_double {x = x} {y = y} h k m) = rw (h, settled_complete t a x k, settled_complete t b y m) refl

pub taken_sound : (t : ElemType) (s : ℕ) (p : Operand) (x : Term) → taken t s p ≡ Ok x → TakesType t p x
taken_sound t s (fixed u y) x h =
    let p = test_ok (widens u t) (Ok y) (type_mismatch s) x h in
    subst (TakesType t (fixed u y)) (ok_same y x p.1) (widened p.0)
taken_sound t s (free l) x h = settles (settled_sound t l x h)
taken_sound t s whole x h = absurd (cc)

pub taken_complete : (t : ElemType) (s : ℕ) (p : Operand) (x : Term) → TakesType t p x → taken t s p ≡ Ok x
taken_complete t s (fixed u y) x (widened h) = rw h refl
taken_complete t s (free l) x (settles k) = settled_complete t l x k
taken_complete t s whole x k = elim k [ ]

-- ---- one type

pub both : (a b : Bool) → (a && b) ≡ true → (a ≡ true) × (b ≡ true)
both true true h = (refl, refl)
both true false h = absurd (true≢false (sym h))
both false b h = absurd (true≢false (sym h))

pub never : (b : Bool) → (b && false) ≡ false
never true = refl
never false = refl

-- each of the list
pub each : (test : Operand → Bool) (ps : List Operand) (p : Operand) → list_all test ps ≡ true → IsOneOf p ps → test p ≡ true
each test [] q h k = elim k [ ]
each test (p ∷ ps) q h front = (both (test p) (list_all test ps) h).0
each test (p ∷ ps) q h (behind k) = each test ps q (both (test p) (list_all test ps) h).1 k

offered_ok : (all : List Operand) (o : Option ElemType) (t : ElemType) → offered all o ≡ Some t → (o ≡ Some t) × (list_all (may_be t) all ≡ true)
offered_ok all None t h = absurd (cc)
offered_ok all (Some u) t h = by (list_all (may_be u) all) refl h
  where
    by : (b : Bool) → list_all (may_be u) all ≡ b → cond b (Some u) None ≡ Some t → (Some u ≡ Some t) × (list_all (may_be t) all ≡ true)
    by true e k = let same : u ≡ t = cc in (k, subst (λ v. list_all (may_be v) all ≡ true) same e)
    by false e k = absurd (cc)

fixed_of : (p : Operand) (t : ElemType) → fixed_type p ≡ Some t → (x : Term) × (p ≡ fixed t x)
fixed_of (fixed u x) t h = (x, ap (λ v. fixed v x) (let e : u ≡ t = cc in e))
fixed_of (free l) t h = absurd (cc)
fixed_of whole t h = absurd (cc)

common_step_sound : (all : List Operand) (p : Operand) (ps : List Operand) (t : ElemType) → (common all ps ≡ Some t → ((x : Term) × IsOneOf (fixed t x) ps) × (list_all (may_be t) all ≡ true)) → common all (p ∷ ps) ≡ Some t → ((x : Term) × IsOneOf (fixed t x) (p ∷ ps)) × (list_all (may_be t) all ≡ true)
common_step_sound all p ps t others h = by (offered all (fixed_type p)) refl h
  where
    by : (o : Option ElemType) → offered all (fixed_type p) ≡ o → or_else o (common all ps) ≡ Some t → ((x : Term) × IsOneOf (fixed t x) (p ∷ ps)) × (list_all (may_be t) all ≡ true)
    by (Some u) e k =
        let q = offered_ok all (fixed_type p) t (e ∙ k) in
        let x = fixed_of p t q.0 in
        ((x.0, subst (λ v. IsOneOf v (p ∷ ps)) x.1 front), q.1)
    by None e k = let r = others k in ((r.0.0, behind r.0.1), r.1)

common_sound : (all ps : List Operand) (t : ElemType) → common all ps ≡ Some t → ((x : Term) × IsOneOf (fixed t x) ps) × (list_all (may_be t) all ≡ true)
common_sound all [] t h = absurd (cc)
common_sound all (p ∷ ps) t h = common_step_sound all p ps t (common_sound all ps t) h

common_step_complete : (all : List Operand) (p : Operand) (ps : List Operand) (t : ElemType) (x : Term) → IsOneOf (fixed t x) all → list_all (may_be t) all ≡ true → IsOneOf p all → (IsOneOf (fixed t x) ps → common all ps ≡ Some t) → IsOneOf (fixed t x) (p ∷ ps) → common all (p ∷ ps) ≡ Some t
common_step_complete all p ps t x there h own others k = by (offered all (fixed_type p)) refl
  where
    none : (q : Operand) (qs : List Operand) → q ≡ p → qs ≡ ps → offered all (fixed_type p) ≡ None → IsOneOf (fixed t x) (q ∷ qs) → common all ps ≡ Some t
    none q qs e f n front =
        let z : offered all (Some t) ≡ Some t = rw h refl in
        let m : offered all (Some t) ≡ None = subst (λ v. offered all (fixed_type v) ≡ None) (sym e) n in
        absurd (cc)
    none q qs e f n (behind m) = others (subst (IsOneOf (fixed t x)) f m)

    by : (o : Option ElemType) → offered all (fixed_type p) ≡ o → or_else o (common all ps) ≡ Some t
    by None e = none p ps refl refl e k
    by (Some u) e =
        let q = offered_ok all (fixed_type p) u e in
        let y = fixed_of p u q.0 in
        let down : widens u t ≡ true = each (may_be t) all (fixed u y.0) h (subst (λ v. IsOneOf v all) y.1 own) in
        let up : widens t u ≡ true = each (may_be u) all (fixed t x) q.1 there in
        ap Some (one_type u t down up)

pub common_complete : (all ps : List Operand) (t : ElemType) (x : Term) → IsOneOf (fixed t x) all → list_all (may_be t) all ≡ true → ((q : Operand) → IsOneOf q ps → IsOneOf q all) → IsOneOf (fixed t x) ps → common all ps ≡ Some t
common_complete all [] t x there h sub k = elim k [ ]
common_complete all (p ∷ ps) t x there h sub k =
    common_step_complete all p ps t x there h (sub p front) (λ m. common_complete all ps t x there h (λ q i. sub q (behind i)) m) k

-- ---- the type of an operation's operands

allowed_ok : (o : Operation) (s : ℕ) (c : Option ElemType) (t : ElemType) → allowed o s c ≡ Ok t → (c ≡ Some t) × (allows o t ≡ true)
allowed_ok o s None t h = absurd (cc)
allowed_ok o s (Some u) t h =
    let p = test_ok (allows o u) (Ok u) (type_mismatch s) t h in
    let e = ok_same u t p.1 in
    (ap Some e, subst (λ v. allows o v ≡ true) e p.0)

brought_sound : (o : Operation) (ps : List Operand) (t : ElemType) → brought (asks o) ps ≡ Some t → Brings o ps t
brought_sound o ps t h = by (asks o) refl h
  where
    without : (b : Bool) → asks o ≡ None → list_all is_free ps ≡ b → cond b (Some Lint) (common ps ps) ≡ Some t → Brings o ps t
    without true e f k = subst (Brings o ps) (let m : Lint ≡ t = cc in m) (alone e f)
    without false e f k = let r = common_sound ps ps t k in together e f r.0.1 r.1

    by : (a : Option ElemType) → asks o ≡ a → brought a ps ≡ Some t → Brings o ps t
    by (Some u) e k = asked (e ∙ k)
    by None e k = without (list_all is_free ps) e refl k

brought_complete : (o : Operation) (ps : List Operand) (t : ElemType) → Brings o ps t → brought (asks o) ps ≡ Some t
brought_complete o ps t (asked e) = rw e refl
brought_complete o ps t (alone e f) = rw (e, f) refl
brought_complete o ps t (together {x = x} e f i h) = rw (e, f) (common_complete ps ps t x i h (λ q m. m) i)

pub type_sound : (o : Operation) (s : ℕ) (ps : List Operand) (t : ElemType) → operands_type o s ps ≡ Ok t → Brings o ps t × (allows o t ≡ true)
type_sound o s ps t h = let p = allowed_ok o s (brought (asks o) ps) t h in (brought_sound o ps t p.0, p.1)

pub type_complete : (o : Operation) (s : ℕ) (ps : List Operand) (t : ElemType) → Brings o ps t → allows o t ≡ true → operands_type o s ps ≡ Ok t
type_complete o s ps t b h = rw (brought_complete o ps t b, h) refl

-- operands are brought to one type at most
pub brings_one : (o : Operation) (ps : List Operand) (t u : ElemType) → Brings o ps t → Brings o ps u → t ≡ u
brings_one o ps t u a b = let e : Some t ≡ Some u = sym (brought_complete o ps t a) ∙ brought_complete o ps u b in cc

-- ---- two operands

double_sound : (o : Operation) (s : ℕ) (p q r : Operand) → (stays_free o && (is_free p && is_free q)) ≡ false → typed_double o s p q ≡ Ok r → Double o s p q r
double_sound o s p q r n h =
    let a = bind_ok (operands_type o s (p ∷ q ∷ [])) (λ t. taken t s p >>= λ x. taken t s q >>= λ y. Ok (fixed (gives o t) (double o t x y))) r h in
    let b = bind_ok (taken a.0 s p) (λ x. taken a.0 s q >>= λ y. Ok (fixed (gives o a.0) (double o a.0 x y))) r a.2 in
    let c = bind_ok (taken a.0 s q) (λ y. Ok (fixed (gives o a.0) (double o a.0 b.0 y))) r b.2 in
    let t = type_sound o s (p ∷ q ∷ []) a.0 a.1 in
    subst (Double o s p q) (ok_same (fixed (gives o a.0) (double o a.0 b.0 c.0)) r c.2) (two n t.0 t.1 (taken_sound a.0 s p b.0 b.1) (taken_sound a.0 s q c.0 c.1))

double_complete : (o : Operation) (s : ℕ) (p q : Operand) (t : ElemType) (x y : Term) → Brings o (p ∷ q ∷ []) t → allows o t ≡ true → TakesType t p x → TakesType t q y → typed_double o s p q ≡ Ok (fixed (gives o t) (double o t x y))
double_complete o s p q t x y b h k m = rw (type_complete o s (p ∷ q ∷ []) t b h, taken_complete t s p x k, taken_complete t s q y m) refl

pub two_sound : (o : Operation) (s : ℕ) (p q r : Operand) → on_two o s p q ≡ Ok r → Double o s p q r
two_sound o s (free a) (free b) r h = by (stays_free o) refl h
  where
    by : (v : Bool) → stays_free o ≡ v → cond v (Ok (free (loose_double o s a b))) (typed_double o s (free a) (free b)) ≡ Ok r → Double o s (free a) (free b) r
    by true e k = subst (Double o s (free a) (free b)) (ok_same (free (loose_double o s a b)) r k) (two_free e)
    by false e k = double_sound o s (free a) (free b) r (rw e refl) k
two_sound o s (fixed t x) q r h = double_sound o s (fixed t x) q r (never (stays_free o)) h
two_sound o s whole q r h = double_sound o s whole q r (never (stays_free o)) h
two_sound o s (free a) (fixed t x) r h = double_sound o s (free a) (fixed t x) r (never (stays_free o)) h
two_sound o s (free a) whole r h = double_sound o s (free a) whole r (never (stays_free o)) h

not_all : (o : Operation) (s : ℕ) (p q : Operand) → (stays_free o && (is_free p && is_free q)) ≡ false → on_two o s p q ≡ typed_double o s p q
not_all o s (free a) (free b) h = by (stays_free o) h
  where
    by : (v : Bool) → (v && true) ≡ false → cond v (Ok (free (loose_double o s a b))) (typed_double o s (free a) (free b)) ≡ typed_double o s (free a) (free b)
    by true k = absurd (true≢false k)
    by false k = refl
not_all o s (fixed t x) q h = refl
not_all o s whole q h = refl
not_all o s (free a) (fixed t x) h = refl
not_all o s (free a) whole h = refl

pub two_complete : (o : Operation) (s : ℕ) (p q r : Operand) → Double o s p q r → on_two o s p q ≡ Ok r
two_complete o s p q r (two_free h) = rw h refl
two_complete o s p q r (two {a = t} {x = x} {y = y} n b h k m) = not_all o s p q n ∙ double_complete o s p q t x y b h k m

-- ---- one operand, three operands

single_sound : (o : Operation) (s : ℕ) (p r : Operand) → (stays_free o && is_free p) ≡ false → typed_single o s p ≡ Ok r → Single o s p r
single_sound o s p r n h =
    let a = bind_ok (operands_type o s (p ∷ [])) (λ t. taken t s p >>= λ x. Ok (fixed (gives o t) (single o t x))) r h in
    let b = bind_ok (taken a.0 s p) (λ x. Ok (fixed (gives o a.0) (single o a.0 x))) r a.2 in
    let t = type_sound o s (p ∷ []) a.0 a.1 in
    subst (Single o s p) (ok_same (fixed (gives o a.0) (single o a.0 b.0)) r b.2) (one n t.0 t.1 (taken_sound a.0 s p b.0 b.1))

single_complete : (o : Operation) (s : ℕ) (p : Operand) (t : ElemType) (x : Term) → Brings o (p ∷ []) t → allows o t ≡ true → TakesType t p x → typed_single o s p ≡ Ok (fixed (gives o t) (single o t x))
single_complete o s p t x b h k = rw (type_complete o s (p ∷ []) t b h, taken_complete t s p x k) refl

pub one_sound : (o : Operation) (s : ℕ) (p r : Operand) → on_one o s p ≡ Ok r → Single o s p r
one_sound o s (free a) r h = by (stays_free o) refl h
  where
    by : (v : Bool) → stays_free o ≡ v → cond v (Ok (free (loose_single o s a))) (typed_single o s (free a)) ≡ Ok r → Single o s (free a) r
    by true e k = subst (Single o s (free a)) (ok_same (free (loose_single o s a)) r k) (one_free e)
    by false e k = single_sound o s (free a) r (rw e refl) k
one_sound o s (fixed t x) r h = single_sound o s (fixed t x) r (never (stays_free o)) h
one_sound o s whole r h = single_sound o s whole r (never (stays_free o)) h

not_free : (o : Operation) (s : ℕ) (p : Operand) → (stays_free o && is_free p) ≡ false → on_one o s p ≡ typed_single o s p
not_free o s (free a) h = by (stays_free o) h
  where
    by : (v : Bool) → (v && true) ≡ false → cond v (Ok (free (loose_single o s a))) (typed_single o s (free a)) ≡ typed_single o s (free a)
    by true k = absurd (true≢false k)
    by false k = refl
not_free o s (fixed t x) h = refl
not_free o s whole h = refl

pub one_complete : (o : Operation) (s : ℕ) (p r : Operand) → Single o s p r → on_one o s p ≡ Ok r
one_complete o s p r (one_free h) = rw h refl
one_complete o s p r (one {a = t} {x = x} n b h k) = not_free o s p n ∙ single_complete o s p t x b h k

limit_sound : (s : ℕ) (p q r k : Operand) → (is_free p && (is_free q && is_free r)) ≡ false → typed_limit s p q r ≡ Ok k → Triple s p q r k
limit_sound s p q r k n h =
    let a = bind_ok (operands_type Limit s (p ∷ q ∷ r ∷ [])) (λ t. taken t s p >>= λ x. taken t s q >>= λ y. taken t s r >>= λ z. Ok (fixed t (double Min t (double Max t y x) z))) k h in
    let b = bind_ok (taken a.0 s p) (λ x. taken a.0 s q >>= λ y. taken a.0 s r >>= λ z. Ok (fixed a.0 (double Min a.0 (double Max a.0 y x) z))) k a.2 in
    let c = bind_ok (taken a.0 s q) (λ y. taken a.0 s r >>= λ z. Ok (fixed a.0 (double Min a.0 (double Max a.0 y b.0) z))) k b.2 in
    let d = bind_ok (taken a.0 s r) (λ z. Ok (fixed a.0 (double Min a.0 (double Max a.0 c.0 b.0) z))) k c.2 in
    let t = type_sound Limit s (p ∷ q ∷ r ∷ []) a.0 a.1 in
    subst (Triple s p q r) (ok_same (fixed a.0 (double Min a.0 (double Max a.0 c.0 b.0) d.0)) k d.2) (three n t.0 t.1 (taken_sound a.0 s p b.0 b.1) (taken_sound a.0 s q c.0 c.1) (taken_sound a.0 s r d.0 d.1))

limit_complete : (s : ℕ) (p q r : Operand) (t : ElemType) (x y z : Term) → Brings Limit (p ∷ q ∷ r ∷ []) t → allows Limit t ≡ true → TakesType t p x → TakesType t q y → TakesType t r z
    → typed_limit s p q r ≡ Ok (fixed t (double Min t (double Max t y x) z))
limit_complete s p q r t x y z b h k m j = rw (type_complete Limit s (p ∷ q ∷ r ∷ []) t b h, taken_complete t s p x k, taken_complete t s q y m, taken_complete t s r z j) refl

pub three_sound : (s : ℕ) (p q r k : Operand) → on_three s p q r ≡ Ok k → Triple s p q r k
three_sound s (free a) (free b) (free c) k h = subst (Triple s (free a) (free b) (free c)) (ok_same (free (loose_double Min s (loose_double Max s b a) c)) k h) three_free
three_sound s (free a) (free b) (fixed t x) k h = limit_sound s (free a) (free b) (fixed t x) k refl h
three_sound s (free a) (free b) whole k h = limit_sound s (free a) (free b) whole k refl h
three_sound s (free a) (fixed t x) r k h = limit_sound s (free a) (fixed t x) r k refl h
three_sound s (free a) whole r k h = limit_sound s (free a) whole r k refl h
three_sound s (fixed t x) q r k h = limit_sound s (fixed t x) q r k refl h
three_sound s whole q r k h = limit_sound s whole q r k refl h

not_all_three : (s : ℕ) (p q r : Operand) → (is_free p && (is_free q && is_free r)) ≡ false → on_three s p q r ≡ typed_limit s p q r
not_all_three s (free a) (free b) (free c) h = absurd (true≢false h)
not_all_three s (free a) (free b) (fixed t x) h = refl
not_all_three s (free a) (free b) whole h = refl
not_all_three s (free a) (fixed t x) r h = refl
not_all_three s (free a) whole r h = refl
not_all_three s (fixed t x) q r h = refl
not_all_three s whole q r h = refl

pub three_complete : (s : ℕ) (p q r k : Operand) → Triple s p q r k → on_three s p q r ≡ Ok k
three_complete s p q r k three_free = refl
three_complete s p q r k (three {a = t} {x = x} {y = y} {z = z} n b h j m i) = not_all_three s p q r n ∙ limit_complete s p q r t x y z b h j m i

-- ---- integers

pub integer_sound : (s : ℕ) (p : Operand) (r : ElemType × Term) → integer_of s p ≡ Ok r → IsIndex p r.1
integer_sound s (fixed t x) r h =
    let p = test_ok (is_integer t) (Ok (t, x)) (type_mismatch s) r h in
    subst (λ (v : ElemType × Term). IsIndex (fixed t x) v.1) (ok_same (t, x) r p.1) (an_integer p.0)
integer_sound s (free l) r h =
    let p = bind_ok (settled Lint l) (λ x. Ok (Lint, x)) r h in
    subst (λ (v : ElemType × Term). IsIndex (free l) v.1) (ok_same (Lint, p.0) r p.2) (a_free_one (settled_sound Lint l p.0 p.1))
integer_sound s whole r h = absurd (cc)

pub integer_complete : (s : ℕ) (p : Operand) (x : Term) → IsIndex p x → (a : ElemType) × (integer_of s p ≡ Ok (a, x))
integer_complete s (fixed t y) x (an_integer h) = (t, rw h refl)
integer_complete s (free l) x (a_free_one k) = (Lint, rw (settled_complete Lint l x k) refl)
integer_complete s whole x k = elim k [ ]
