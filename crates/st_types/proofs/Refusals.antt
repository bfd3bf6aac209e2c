-- What a refusal of operands says holds.
use Rattle.std.proofs.Common.{◌≡◌, ℕ, ℤ, Bool, true, false, ◌&&◌, cond, List, [], ◌∷◌, Option, None, Some, Result, Ok, Err, true≢false, refl, sym, subst, ◌∙◌, ◌⊎◌, inl, inr}
use Rattle.std.specs.List.{list_all}
use Rattle.fb_words.specs.declared.elem_type.ElemType.{ElemType}
use Rattle.fb_words.specs.declared.elem_type.ElemType.TheVariants.{Lint}
use Rattle.fb_words.specs.declared.operator.Operation.{Operation}
use Rattle.fb_words.specs.declared.operator.Operation.TheVariants.{Min, Max, Limit}
use Rattle.fb_model.specs.Values.{in_type}
use Rattle.fb_model.specs.Spelling.{is_integer}
use Rattle.fb_model.specs.TypedText.{Term, constant, single, double}
use Rattle.fb_model.specs.TextTyping.{allows, gives, stays_free, widens, Loose, loose_number, loose_single, loose_double, Operand, fixed, free, whole, may_be, is_free, IsOneOf, front, behind, Brings, asks}
use Rattle.fb_model.specs.TextFaults.{Fault, type_mismatch, bad_literal, Unsettled, bad_number, bad_single, bad_double, in_single, in_left, in_right, NotTaken, too_wide, unsettled, an_array, NotInteger, another_type, unsettled_one, no_number, Mismatched, NotOn, mismatched, not_settled}
use Rattle.st_types.specs.Elaborating.{◌>>=◌, brought, allowed, operands_type, constant_of, settled, taken, typed_single, typed_double, typed_limit, on_one, on_two, on_three, integer_of}
use Rattle.st_types.proofs.Rules.{bind_err, never, each, type_sound, type_complete, brings_one}

pub test_err : {A : Type 0} (b : Bool) (r : Result A Fault) (e f : Fault) → cond b r (Err e) ≡ Err f → ((b ≡ false) × (e ≡ f)) ⊎ ((b ≡ true) × (r ≡ Err f))
test_err {A} false r e f h = inl (refl, let k : (let l : Result A Fault = Err e in l) ≡ Err f = h in cc)
test_err true r e f h = inr (refl, h)

pub never_err : {A : Type 0} (x : A) (f : Fault) → (let l : Result A Fault = Ok x in l) ≡ Err f → ⊥
never_err x f h = cc

settled_single : (t : ElemType) (o : Operation) (s : ℕ) (a : Loose) (f : Fault) → (settled t a ≡ Err f → Unsettled t a f) → settled t (loose_single o s a) ≡ Err f → Unsettled t (loose_single o s a) f
settled_single t o s a f inside h = by (test_err (allows o t) (settled t a >>= λ x. Ok (single o t x)) (type_mismatch s) f h)
  where
    deeper : ((settled t a ≡ Err f) ⊎ ((x : Term) × (settled t a ≡ Ok x) × ((let l : Result Term Fault = Ok (single o t x) in l) ≡ Err f))) → Unsettled t (loose_single o s a) f
    deeper (inl k) = in_single (inside k)
    deeper (inr k) = absurd (never_err (single o t k.0) f k.2)

    by : (((allows o t ≡ false) × (type_mismatch s ≡ f)) ⊎ ((allows o t ≡ true) × ((settled t a >>= λ x. Ok (single o t x)) ≡ Err f))) → Unsettled t (loose_single o s a) f
    by (inl k) = subst (Unsettled t (loose_single o s a)) k.1 (bad_single k.0)
    by (inr k) = deeper (bind_err (settled t a) (λ x. Ok (single o t x)) f k.1)

settled_double : (t : ElemType) (o : Operation) (s : ℕ) (a b : Loose) (f : Fault) → (settled t a ≡ Err f → Unsettled t a f) → (settled t b ≡ Err f → Unsettled t b f) → settled t (loose_double o s a b) ≡ Err f → Unsettled t (loose_double o s a b) f
settled_double t o s a b f left right h = by (bind_err (settled t a) (λ x. cond (allows o t) (settled t b >>= λ y. Ok (double o t x y)) (Err (type_mismatch s))) f h)
  where
    last : (x : Term) → ((settled t b ≡ Err f) ⊎ ((y : Term) × (settled t b ≡ Ok y) × ((let l : Result Term Fault = Ok (double o t x y) in l) ≡ Err f))) → Unsettled t (loose_double o s a b) f
    last x (inl k) = in_right (right k)
    last x (inr k) = absurd (never_err (double o t x k.0) f k.2)

    deeper : (x : Term) → (((allows o t ≡ false) × (type_mismatch s ≡ f)) ⊎ ((allows o t ≡ true) × ((settled t b >>= λ y. Ok (double o t x y)) ≡ Err f))) → Unsettled t (loose_double o s a b) f
    deeper x (inl k) = subst (Unsettled t (loose_double o s a b)) k.1 (bad_double k.0)
    deeper x (inr k) = last x (bind_err (settled t b) (λ y. Ok (double o t x y)) f k.1)

    by : ((settled t a ≡ Err f) ⊎ ((x : Term) × (settled t a ≡ Ok x) × (cond (allows o t) (settled t b >>= λ y. Ok (double o t x y)) (Err (type_mismatch s)) ≡ Err f))) → Unsettled t (loose_double o s a b) f
    by (inl k) = in_left (left k)
    by (inr k) = deeper k.0 (test_err (allows o t) (settled t b >>= λ y. Ok (double o t k.0 y)) (type_mismatch s) f k.2)

number_refused : (t : ElemType) (n : ℤ) (s : ℕ) (f : Fault) → constant_of t n s ≡ Err f → Unsettled t (loose_number n s) f
number_refused t n s f h = by (test_err (in_type t n) (Ok (constant n)) (bad_literal s) f h)
  where
    by : (((in_type t n ≡ false) × (bad_literal s ≡ f)) ⊎ ((in_type t n ≡ true) × ((let l : Result Term Fault = Ok (constant n) in l) ≡ Err f))) → Unsettled t (loose_number n s) f
    by (inl k) = subst (Unsettled t (loose_number n s)) k.1 (bad_number k.0)
    by (inr k) = absurd (never_err (constant n) f k.1)

pub settled_refused : (t : ElemType) (l : Loose) (f : Fault) → settled t l ≡ Err f → Unsettled t l f
settled_refused t (loose_number n s) f h = number_refused t n s f h
settled_refused t (loose_single o s a) f h = settled_single t o s a f (settled_refused t a f) h
settled_refused t (loose_double o s a b) f h = settled_double t o s a b f (settled_refused t a f) (settled_refused t b f) h

-- a free operand does not take the type, or another one does not widen to it
taken_refused : (t : ElemType) (s : ℕ) (p : Operand) (f : Fault) → taken t s p ≡ Err f → ((l : Loose) × (p ≡ free l) × Unsettled t l f) ⊎ ((may_be t p ≡ false) × (type_mismatch s ≡ f))
taken_refused t s (fixed u x) f h = by (test_err (widens u t) (Ok x) (type_mismatch s) f h)
  where
    by : (((widens u t ≡ false) × (type_mismatch s ≡ f)) ⊎ ((widens u t ≡ true) × ((let l : Result Term Fault = Ok x in l) ≡ Err f))) → ((l : Loose) × (fixed u x ≡ free l) × Unsettled t l f) ⊎ ((may_be t (fixed u x) ≡ false) × (type_mismatch s ≡ f))
    by (inl k) = inr k
    by (inr k) = absurd (never_err x f k.1)
taken_refused t s (free l) f h = inl (l, refl, settled_refused t l f h)
taken_refused t s whole f h = inr (refl, let k : (let l : Result Term Fault = Err (type_mismatch s) in l) ≡ Err f = h in cc)

-- no type that the operation allows
type_refused : (o : Operation) (s : ℕ) (ps : List Operand) (f : Fault) → operands_type o s ps ≡ Err f → Mismatched o ps × (type_mismatch s ≡ f)
type_refused o s ps f h = ((λ t b a m. never_err t f (sym (type_complete o s ps t b a) ∙ h)), by (brought (asks o) ps) h)
  where
    by : (c : Option ElemType) → allowed o s c ≡ Err f → type_mismatch s ≡ f
    by None k = let l : (let m : Result ElemType Fault = Err (type_mismatch s) in m) ≡ Err f = k in cc
    by (Some t) k = at (test_err (allows o t) (Ok t) (type_mismatch s) f k)
      where
        at : (((allows o t ≡ false) × (type_mismatch s ≡ f)) ⊎ ((allows o t ≡ true) × ((let l : Result ElemType Fault = Ok t in l) ≡ Err f))) → type_mismatch s ≡ f
        at (inl m) = m.1
        at (inr m) = absurd (never_err t f m.1)

-- one operand is not of the type, so that no type brings them together
left_out : (o : Operation) (ps : List Operand) (t : ElemType) (p : Operand) → Brings o ps t → IsOneOf p ps → may_be t p ≡ false → Mismatched o ps
left_out o ps t p b i out u c a m =
    let same : u ≡ t = brings_one o ps u t c b in
    true≢false (sym (each (may_be t) ps p (subst (λ v. list_all (may_be v) ps ≡ true) same m) i) ∙ out)

wrong_operand : (o : Operation) (s : ℕ) (ps : List Operand) (t : ElemType) (p : Operand) (w : Fault) → (stays_free o && list_all is_free ps) ≡ false → Brings o ps t → IsOneOf p ps → taken t s p ≡ Err w → NotOn o s ps w
wrong_operand o s ps t p w n b i h = by (taken_refused t s p w h)
  where
    by : (((l : Loose) × (p ≡ free l) × Unsettled t l w) ⊎ ((may_be t p ≡ false) × (type_mismatch s ≡ w))) → NotOn o s ps w
    by (inl k) = not_settled n b (subst (λ v. IsOneOf v ps) k.1 i) k.2
    by (inr k) = subst (NotOn o s ps) k.1 (mismatched (left_out o ps t p b i k.0))

-- a step that goes on only where an operand is of the type
operand_step : {B : Type 0} (o : Operation) (s : ℕ) (ps : List Operand) (t : ElemType) (p : Operand) (w : Fault) (f : Term → Result B Fault) → (stays_free o && list_all is_free ps) ≡ false → Brings o ps t → IsOneOf p ps
    → ((x : Term) → f x ≡ Err w → NotOn o s ps w) → (taken t s p >>= f) ≡ Err w → NotOn o s ps w
operand_step {B} o s ps t p w f n b i g h = by (bind_err (taken t s p) f w h)
  where
    by : ((taken t s p ≡ Err w) ⊎ ((x : Term) × (taken t s p ≡ Ok x) × (f x ≡ Err w))) → NotOn o s ps w
    by (inl k) = wrong_operand o s ps t p w n b i k
    by (inr k) = g k.0 k.2

-- and one that goes on only where they have a type
type_step : {B : Type 0} (o : Operation) (s : ℕ) (ps : List Operand) (w : Fault) (f : ElemType → Result B Fault)
    → ((t : ElemType) → Brings o ps t → f t ≡ Err w → NotOn o s ps w) → (operands_type o s ps >>= f) ≡ Err w → NotOn o s ps w
type_step {B} o s ps w f g h = by (bind_err (operands_type o s ps) f w h)
  where
    by : ((operands_type o s ps ≡ Err w) ⊎ ((t : ElemType) × (operands_type o s ps ≡ Ok t) × (f t ≡ Err w))) → NotOn o s ps w
    by (inl k) = let r = type_refused o s ps w k in subst (NotOn o s ps) r.1 (mismatched r.0)
    by (inr k) = g k.0 (type_sound o s ps k.0 k.1).0 k.2

single_refused : (o : Operation) (s : ℕ) (p : Operand) (w : Fault) → (stays_free o && list_all is_free (p ∷ [])) ≡ false → typed_single o s p ≡ Err w → NotOn o s (p ∷ []) w
single_refused o s p w n h =
    type_step o s (p ∷ []) w (λ t. taken t s p >>= λ x. Ok (fixed (gives o t) (single o t x)))
    (λ t b. operand_step o s (p ∷ []) t p w (λ x. Ok (fixed (gives o t) (single o t x))) n b front
    (λ x k. absurd (never_err (fixed (gives o t) (single o t x)) w k))) h

double_refused : (o : Operation) (s : ℕ) (p q : Operand) (w : Fault) → (stays_free o && list_all is_free (p ∷ q ∷ [])) ≡ false → typed_double o s p q ≡ Err w → NotOn o s (p ∷ q ∷ []) w
double_refused o s p q w n h =
    type_step o s (p ∷ q ∷ []) w (λ t. taken t s p >>= λ x. taken t s q >>= λ y. Ok (fixed (gives o t) (double o t x y)))
    (λ t b. operand_step o s (p ∷ q ∷ []) t p w (λ x. taken t s q >>= λ y. Ok (fixed (gives o t) (double o t x y))) n b front
    (λ x. operand_step o s (p ∷ q ∷ []) t q w (λ y. Ok (fixed (gives o t) (double o t x y))) n b (behind front)
    (λ y k. absurd (never_err (fixed (gives o t) (double o t x y)) w k)))) h

limit_refused : (s : ℕ) (p q r : Operand) (w : Fault) → list_all is_free (p ∷ q ∷ r ∷ []) ≡ false → typed_limit s p q r ≡ Err w → NotOn Limit s (p ∷ q ∷ r ∷ []) w
limit_refused s p q r w n h =
    type_step Limit s (p ∷ q ∷ r ∷ []) w (λ t. taken t s p >>= λ x. taken t s q >>= λ y. taken t s r >>= λ z. Ok (fixed t (double Min t (double Max t y x) z)))
    (λ t b. operand_step Limit s (p ∷ q ∷ r ∷ []) t p w (λ x. taken t s q >>= λ y. taken t s r >>= λ z. Ok (fixed t (double Min t (double Max t y x) z))) n b front
    (λ x. operand_step Limit s (p ∷ q ∷ r ∷ []) t q w (λ y. taken t s r >>= λ z. Ok (fixed t (double Min t (double Max t y x) z))) n b (behind front)
    (λ y. operand_step Limit s (p ∷ q ∷ r ∷ []) t r w (λ z. Ok (fixed t (double Min t (double Max t y x) z))) n b (behind (behind front))
    (λ z k. absurd (never_err (fixed t (double Min t (double Max t y x) z)) w k))))) h

pub one_refused : (o : Operation) (s : ℕ) (p : Operand) (w : Fault) → on_one o s p ≡ Err w → NotOn o s (p ∷ []) w
one_refused o s (free a) w h = by (stays_free o) refl h
  where
    by : (v : Bool) → stays_free o ≡ v → cond v (Ok (free (loose_single o s a))) (typed_single o s (free a)) ≡ Err w → NotOn o s (free a ∷ []) w
    by true e k = absurd (never_err (free (loose_single o s a)) w k)
    by false e k = single_refused o s (free a) w (rw e refl) k
one_refused o s (fixed t x) w h = single_refused o s (fixed t x) w (never (stays_free o)) h
one_refused o s whole w h = single_refused o s whole w (never (stays_free o)) h

pub two_refused : (o : Operation) (s : ℕ) (p q : Operand) (w : Fault) → on_two o s p q ≡ Err w → NotOn o s (p ∷ q ∷ []) w
two_refused o s (free a) (free b) w h = by (stays_free o) refl h
  where
    by : (v : Bool) → stays_free o ≡ v → cond v (Ok (free (loose_double o s a b))) (typed_double o s (free a) (free b)) ≡ Err w → NotOn o s (free a ∷ free b ∷ []) w
    by true e k = absurd (never_err (free (loose_double o s a b)) w k)
    by false e k = double_refused o s (free a) (free b) w (rw e refl) k
two_refused o s (fixed t x) q w h = double_refused o s (fixed t x) q w (never (stays_free o)) h
two_refused o s whole q w h = double_refused o s whole q w (never (stays_free o)) h
two_refused o s (free a) (fixed t x) w h = double_refused o s (free a) (fixed t x) w (never (stays_free o)) h
two_refused o s (free a) whole w h = double_refused o s (free a) whole w (never (stays_free o)) h

pub three_refused : (s : ℕ) (p q r : Operand) (w : Fault) → on_three s p q r ≡ Err w → NotOn Limit s (p ∷ q ∷ r ∷ []) w
three_refused s (free a) (free b) (free c) w h = absurd (never_err (free (loose_double Min s (loose_double Max s b a) c)) w h)
three_refused s (free a) (free b) (fixed t x) w h = limit_refused s (free a) (free b) (fixed t x) w refl h
three_refused s (free a) (free b) whole w h = limit_refused s (free a) (free b) whole w refl h
three_refused s (free a) (fixed t x) r w h = limit_refused s (free a) (fixed t x) r w refl h
three_refused s (free a) whole r w h = limit_refused s (free a) whole r w refl h
three_refused s (fixed t x) q r w h = limit_refused s (fixed t x) q r w refl h
three_refused s whole q r w h = limit_refused s whole q r w refl h

-- ---- where a type is asked for

pub not_taken_of : (t : ElemType) (s : ℕ) (p : Operand) (w : Fault) → taken t s p ≡ Err w → NotTaken t s p w
not_taken_of t s (fixed u x) w h = by (test_err (widens u t) (Ok x) (type_mismatch s) w h)
  where
    by : (((widens u t ≡ false) × (type_mismatch s ≡ w)) ⊎ ((widens u t ≡ true) × ((let l : Result Term Fault = Ok x in l) ≡ Err w))) → NotTaken t s (fixed u x) w
    by (inl k) = subst (NotTaken t s (fixed u x)) k.1 (too_wide k.0)
    by (inr k) = absurd (never_err x w k.1)
not_taken_of t s (free l) w h = unsettled (settled_refused t l w h)
not_taken_of t s whole w h = subst (NotTaken t s whole) (let k : (let l : Result Term Fault = Err (type_mismatch s) in l) ≡ Err w = h in let e : type_mismatch s ≡ w = cc in e) an_array

pub not_integer_of : (s : ℕ) (p : Operand) (w : Fault) → integer_of s p ≡ Err w → NotInteger s p w
not_integer_of s (fixed u x) w h = by (test_err (is_integer u) (Ok (u, x)) (type_mismatch s) w h)
  where
    by : (((is_integer u ≡ false) × (type_mismatch s ≡ w)) ⊎ ((is_integer u ≡ true) × ((let l : Result (ElemType × Term) Fault = Ok (u, x) in l) ≡ Err w))) → NotInteger s (fixed u x) w
    by (inl k) = subst (NotInteger s (fixed u x)) k.1 (another_type k.0)
    by (inr k) = absurd (never_err (u, x) w k.1)
not_integer_of s (free l) w h = by (bind_err (settled Lint l) (λ x. Ok (Lint, x)) w h)
  where
    by : ((settled Lint l ≡ Err w) ⊎ ((x : Term) × (settled Lint l ≡ Ok x) × ((let l : Result (ElemType × Term) Fault = Ok (Lint, x) in l) ≡ Err w))) → NotInteger s (free l) w
    by (inl k) = unsettled_one (settled_refused Lint l w k)
    by (inr k) = absurd (never_err (Lint, k.0) w k.2)
not_integer_of s whole w h = subst (NotInteger s whole) (let k : (let l : Result (ElemType × Term) Fault = Err (type_mismatch s) in l) ≡ Err w = h in let e : type_mismatch s ≡ w = cc in e) no_number
