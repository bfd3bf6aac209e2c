-- The function answers exactly what the rules give.
use Rattle.std.proofs.Common.{◌≡◌, ℕ, ℤ, true, false, List, Option, None, Some, Result, Ok, Err, refl, sym, ap, subst, ◌∙◌, ◌⊎◌, inl, inr, arith}
use Rattle.std.specs.Prelude.{nat_eq}
use Rattle.std.proofs.lemmas.Bool.{eqb-true, eq-eqb}
use Rattle.fb_words.specs.declared.elem_type.ElemType.{ElemType}
use Rattle.fb_words.specs.declared.elem_type.ElemType.TheVariants as t
use Rattle.fb_words.specs.declared.operator.Operation.{Operation}
use Rattle.fb_words.specs.declared.operator.Operation.TheVariants.{Infix, Negate, Not, Abs, Min, Max, Limit, Convert}
use Rattle.fb_model.specs.Values.{signed, in_type}
use Rattle.fb_model.specs.Productions.{Word}
use Rattle.fb_model.specs.Trees.{Literal, Whole, Typed, Duration, Truth}
use Rattle.fb_model.specs.StructuredText.{Expression, literal, variable, element, call, negative, inverse, binary, Expressions, no_expression, expression}
use Rattle.fb_model.specs.TypedText.{Term, constant, part}
use Rattle.fb_model.specs.TextTyping.{Symbol, found, called, arity, bit, loose_number, Operand, fixed, free, IsTyped, a_whole_number, a_typed_number, a_time, a_truth, a_variable, an_array, an_element, a_negation, an_inversion, an_operation, on_one, on_two, on_three}
use Rattle.fb_model.specs.TextFaults.{Fault, unknown_name, type_mismatch, bad_literal, IsArgument, first, later, IsWrong, bad_typed, bad_time, not_an_array, bad_index}
use Rattle.st_types.specs.Elaborating as book
use Rattle.st_types.specs.Elaborating.{◌>>=◌, typed, typed_call, constant_of, known, known_by, value_by, value_of, bounds_by, integer_of, element_of, literal_of, function_by, function_of, applied_one, applied_two, applied_three}
use Rattle.st_types.proofs.Rules.{bind_ok, bind_err, test_ok, ok_same, one_sound, one_complete, two_sound, two_complete, three_sound, three_complete, integer_sound, integer_complete}
use Rattle.st_types.proofs.Refusals.{test_err, never_err, not_integer_of}

-- ---- parts

pub known_ok : (s : ℕ) (o : Option Symbol) (v : Symbol) → known_by s o ≡ Ok v → o ≡ Some v
known_ok s None v h = absurd (cc)
known_ok s (Some u) v h = cc

pub known_err : (s : ℕ) (o : Option Symbol) (w : Fault) → known_by s o ≡ Err w → (o ≡ None) × (unknown_name s ≡ w)
known_err s None w h = (refl, let k : (let l : Result Symbol Fault = Err (unknown_name s) in l) ≡ Err w = h in cc)
known_err s (Some u) w h = absurd (never_err u w h)

pub function_ok : (s : ℕ) (o : Option Operation) (f : Operation) → function_by s o ≡ Ok f → o ≡ Some f
function_ok s None f h = absurd (cc)
function_ok s (Some g) f h = cc

pub function_err : (s : ℕ) (o : Option Operation) (w : Fault) → function_by s o ≡ Err w → (o ≡ None) × (unknown_name s ≡ w)
function_err s None w h = (refl, let k : (let l : Result Operation Fault = Err (unknown_name s) in l) ≡ Err w = h in cc)
function_err s (Some g) w h = absurd (never_err g w h)

value_typed : (env : List Symbol) (x : Word) (v : Symbol) → found env x.text ≡ Some v → (b : Option (ℤ × ℤ)) → v.bounds ≡ b → IsTyped env (variable x) (value_by v.type x.text b)
value_typed env x v h None e = a_variable h e
value_typed env x v h (Some b) e = an_array h e

bounds_ok : (s : ℕ) (o : Option (ℤ × ℤ)) (b : ℤ × ℤ) → bounds_by s o ≡ Ok b → o ≡ Some b
bounds_ok s None b h = absurd (cc)
bounds_ok s (Some c) b h = cc

bounds_err : (s : ℕ) (o : Option (ℤ × ℤ)) (w : Fault) → bounds_by s o ≡ Err w → (o ≡ None) × (type_mismatch s ≡ w)
bounds_err s None w h = (refl, let k : (let l : Result (ℤ × ℤ) Fault = Err (type_mismatch s) in l) ≡ Err w = h in cc)
bounds_err s (Some c) w h = absurd (never_err c w h)

element_sound : (env : List Symbol) (x : Word) (s : ℕ) (i : Expression) (v : Symbol) (p r : Operand) → found env x.text ≡ Some v → IsTyped env i p → element_of x.text s v p ≡ Ok r → IsTyped env (element x s i) r
element_sound env x s i v p r h k m =
    let a = bind_ok (bounds_by s v.bounds) (λ b. integer_of s p >>= λ j. Ok (fixed v.type (part x.text b.0 b.1 j.1))) r m in
    let c = bind_ok (integer_of s p) (λ j. Ok (fixed v.type (part x.text a.0.0 a.0.1 j.1))) r a.2 in
    subst (IsTyped env (element x s i)) (ok_same (fixed v.type (part x.text a.0.0 a.0.1 c.0.1)) r c.2) (an_element h (bounds_ok s v.bounds a.0 a.1) k (integer_sound s p c.0 c.1))

pub element_refused : (env : List Symbol) (x : Word) (s : ℕ) (i : Expression) (v : Symbol) (p : Operand) (w : Fault) → found env x.text ≡ Some v → IsTyped env i p → element_of x.text s v p ≡ Err w → IsWrong env (element x s i) w
element_refused env x s i v p w h k m = at_bounds (bind_err (bounds_by s v.bounds) (λ b. integer_of s p >>= λ j. Ok (fixed v.type (part x.text b.0 b.1 j.1))) w m)
  where
    at_index : (b : ℤ × ℤ) → ((integer_of s p ≡ Err w) ⊎ ((j : ElemType × Term) × (integer_of s p ≡ Ok j) × ((let l : Result Operand Fault = Ok (fixed v.type (part x.text b.0 b.1 j.1)) in l) ≡ Err w))) → IsWrong env (element x s i) w
    at_index b (inl n) = bad_index k (not_integer_of s p w n)
    at_index b (inr n) = absurd (never_err (fixed v.type (part x.text b.0 b.1 n.0.1)) w n.2)

    at_bounds : ((bounds_by s v.bounds ≡ Err w) ⊎ ((b : ℤ × ℤ) × (bounds_by s v.bounds ≡ Ok b) × ((integer_of s p >>= λ j. Ok (fixed v.type (part x.text b.0 b.1 j.1))) ≡ Err w))) → IsWrong env (element x s i) w
    at_bounds (inl n) = let q = bounds_err s v.bounds w n in subst (IsWrong env (element x s i)) q.1 (not_an_array h q.0)
    at_bounds (inr n) = at_index n.0 (bind_err (integer_of s p) (λ j. Ok (fixed v.type (part x.text n.0.0 n.0.1 j.1))) w n.2)

-- a number of a type, as an operand of it
number_ok : (a : ElemType) (n : ℤ) (s : ℕ) (r : Operand) → (constant_of a n s >>= λ x. Ok (fixed a x)) ≡ Ok r → (in_type a n ≡ true) × (fixed a (constant n) ≡ r)
number_ok a n s r h =
    let p = bind_ok (constant_of a n s) (λ x. Ok (fixed a x)) r h in
    let q = test_ok (in_type a n) (Ok (constant n)) (bad_literal s) p.0 p.1 in
    (q.0, ap (λ x. fixed a x) (ok_same (constant n) p.0 q.1) ∙ ok_same (fixed a p.0) r p.2)

number_err : (a : ElemType) (n : ℤ) (s : ℕ) (w : Fault) → (constant_of a n s >>= λ x. Ok (fixed a x)) ≡ Err w → (in_type a n ≡ false) × (bad_literal s ≡ w)
number_err a n s w h = by (bind_err (constant_of a n s) (λ x. Ok (fixed a x)) w h)
  where
    fit : (((in_type a n ≡ false) × (bad_literal s ≡ w)) ⊎ ((in_type a n ≡ true) × ((let l : Result Term Fault = Ok (constant n) in l) ≡ Err w))) → (in_type a n ≡ false) × (bad_literal s ≡ w)
    fit (inl k) = k
    fit (inr k) = absurd (never_err (constant n) w k.1)

    by : ((constant_of a n s ≡ Err w) ⊎ ((x : Term) × (constant_of a n s ≡ Ok x) × ((let l : Result Operand Fault = Ok (fixed a x) in l) ≡ Err w))) → (in_type a n ≡ false) × (bad_literal s ≡ w)
    by (inl k) = fit (test_err (in_type a n) (Ok (constant n)) (bad_literal s) w k)
    by (inr k) = absurd (never_err (fixed a k.0) w k.2)

literal_sound : (env : List Symbol) (l : Literal) (s : ℕ) (r : Operand) → literal_of s l ≡ Ok r → IsTyped env (literal (record { value = l; at = s })) r
literal_sound env (Whole b n) s r h = subst (IsTyped env (literal (record { value = Whole b n; at = s }))) (ok_same (free (loose_number (signed b n) s)) r h) a_whole_number
literal_sound env (Typed a b n) s r h = let p = number_ok a (signed b n) s r h in subst (IsTyped env (literal (record { value = Typed a b n; at = s }))) p.1 (a_typed_number p.0)
literal_sound env (Duration b n) s r h = let p = number_ok t.Time (signed b n) s r h in subst (IsTyped env (literal (record { value = Duration b n; at = s }))) p.1 (a_time p.0)
literal_sound env (Truth b) s r h = subst (IsTyped env (literal (record { value = Truth b; at = s }))) (ok_same (fixed t.Bool (constant (bit b))) r h) a_truth

pub literal_refused : (env : List Symbol) (l : Literal) (s : ℕ) (w : Fault) → literal_of s l ≡ Err w → IsWrong env (literal (record { value = l; at = s })) w
literal_refused env (Whole b n) s w h = absurd (never_err (free (loose_number (signed b n) s)) w h)
literal_refused env (Typed a b n) s w h = let p = number_err a (signed b n) s w h in subst (IsWrong env (literal (record { value = Typed a b n; at = s }))) p.1 (bad_typed p.0)
literal_refused env (Duration b n) s w h = let p = number_err t.Time (signed b n) s w h in subst (IsWrong env (literal (record { value = Duration b n; at = s }))) p.1 (bad_time p.0)
literal_refused env (Truth b) s w h = absurd (never_err (fixed t.Bool (constant (bit b))) w h)

pub three_is_limit : (f : Operation) → arity f ≡ 3 → f ≡ Limit
three_is_limit Limit h = refl
three_is_limit Min h = absurd (omega (arith, h))
three_is_limit Max h = absurd (omega (arith, h))
three_is_limit Abs h = absurd (omega (arith, h))
three_is_limit Negate h = absurd (omega (arith, h))
three_is_limit Not h = absurd (omega (arith, h))
three_is_limit (Infix o) h = absurd (omega (arith, h))
three_is_limit (Convert a b) h = absurd (omega (arith, h))

-- ---- sound

abbrev SoundAt : List Symbol → Expression → Type 0
SoundAt env e = (r : Operand) → typed env e ≡ Ok r → IsTyped env e r

call_sound : (env : List Symbol) (x : Word) (f : Operation) → called x.text ≡ Some f → (es : Expressions) → ((e : Expression) → IsArgument e es → SoundAt env e) → (r : Operand) → typed_call env f x.at es ≡ Ok r → IsTyped env (call x es) r
call_sound env x f n no_expression inside r h = absurd (cc)
call_sound env x f n (expression a no_expression) inside r h =
    let p = bind_ok (typed env a) (λ p. applied_one f x.at p) r h in
    let q = test_ok (nat_eq (arity f) 1) (book.on_one f x.at p.0) (type_mismatch x.at) r p.2 in
    on_one n (eqb-true (arity f) 1 q.0) (inside a first p.0 p.1) (one_sound f x.at p.0 r q.1)
call_sound env x f n (expression a (expression b no_expression)) inside r h =
    let p = bind_ok (typed env a) (λ p. typed env b >>= λ q. applied_two f x.at p q) r h in
    let k = bind_ok (typed env b) (λ q. applied_two f x.at p.0 q) r p.2 in
    let q = test_ok (nat_eq (arity f) 2) (book.on_two f x.at p.0 k.0) (type_mismatch x.at) r k.2 in
    on_two n (eqb-true (arity f) 2 q.0) (inside a first p.0 p.1) (inside b (later first) k.0 k.1) (two_sound f x.at p.0 k.0 r q.1)
call_sound env x f n (expression a (expression b (expression c no_expression))) inside r h =
    let p = bind_ok (typed env a) (λ p. typed env b >>= λ q. typed env c >>= λ k. applied_three f x.at p q k) r h in
    let k = bind_ok (typed env b) (λ q. typed env c >>= λ k. applied_three f x.at p.0 q k) r p.2 in
    let m = bind_ok (typed env c) (λ j. applied_three f x.at p.0 k.0 j) r k.2 in
    let q = test_ok (nat_eq (arity f) 3) (book.on_three x.at p.0 k.0 m.0) (type_mismatch x.at) r m.2 in
    on_three (n ∙ ap Some (three_is_limit f (eqb-true (arity f) 3 q.0))) (inside a first p.0 p.1) (inside b (later first) k.0 k.1) (inside c (later (later first)) m.0 m.1) (three_sound x.at p.0 k.0 m.0 r q.1)
call_sound env x f n (expression a (expression b (expression c (expression d es)))) inside r h = absurd (cc)

mutual
  pub sound : (env : List Symbol) (e : Expression) → SoundAt env e
  sound env (literal c) r h = literal_sound env c.value c.at r h
  sound env (variable x) r h =
      let p = bind_ok (known env x.text x.at) (λ v. Ok (value_of x.text v)) r h in
      subst (IsTyped env (variable x)) (ok_same (value_of x.text p.0) r p.2) (value_typed env x p.0 (known_ok x.at (found env x.text) p.0 p.1) p.0.bounds refl)
  sound env (element x s i) r h =
      let p = bind_ok (known env x.text x.at) (λ v. typed env i >>= λ p. element_of x.text s v p) r h in
      let q = bind_ok (typed env i) (λ q. element_of x.text s p.0 q) r p.2 in
      element_sound env x s i p.0 q.0 r (known_ok x.at (found env x.text) p.0 p.1) (sound env i q.0 q.1) q.2
  sound env (negative s e) r h = let p = bind_ok (typed env e) (λ p. book.on_one Negate s p) r h in a_negation (sound env e p.0 p.1) (one_sound Negate s p.0 r p.2)
  sound env (inverse s e) r h = let p = bind_ok (typed env e) (λ p. book.on_one Not s p) r h in an_inversion (sound env e p.0 p.1) (one_sound Not s p.0 r p.2)
  sound env (binary f s e g) r h =
      let p = bind_ok (typed env e) (λ p. typed env g >>= λ q. book.on_two (Infix f) s p q) r h in
      let q = bind_ok (typed env g) (λ q. book.on_two (Infix f) s p.0 q) r p.2 in
      an_operation (sound env e p.0 p.1) (sound env g q.0 q.1) (two_sound (Infix f) s p.0 q.0 r q.2)
  sound env (call x es) r h =
      let p = bind_ok (function_of x.text x.at) (λ f. typed_call env f x.at es) r h in
      call_sound env x p.0 (function_ok x.at (called x.text) p.0 p.1) es (sound_arguments env es) r p.2

  sound_arguments : (env : List Symbol) (es : Expressions) (e : Expression) → IsArgument e es → SoundAt env e
  sound_arguments env no_expression e i = elim i [ ]
  sound_arguments env (expression d es) e first = sound env d
  sound_arguments env (expression d es) e (later i) = sound_arguments env es e i

-- ---- complete

pub complete : (env : List Symbol) (e : Expression) (r : Operand) → IsTyped env e r → typed env e ≡ Ok r
complete env e r a_whole_number = refl
complete env e r (a_typed_number h) = rw h refl
complete env e r (a_time h) = rw h refl
complete env e r a_truth = refl
complete env e r (a_variable h k) = rw (h, k) refl
complete env e r (an_array h k) = rw (h, k) refl
complete env (element x s i) r (an_element {p = p} {j = j} h k m n) = let q = integer_complete s p j n in rw (h, complete env i p m, k, q.1) refl
complete env (negative s e) r (a_negation {p = p} k m) = rw (complete env e p k) (one_complete Negate s p r m)
complete env (inverse s e) r (an_inversion {p = p} k m) = rw (complete env e p k) (one_complete Not s p r m)
complete env (binary f s e g) r (an_operation {p = p} {q = q} k m d) = rw (complete env e p k, complete env g q m) (two_complete (Infix f) s p q r d)
complete env (call x (expression e no_expression)) r (on_one {f = f} {p = p} n a k m) = rw (n, complete env e p k, eq-eqb (arity f) 1 a) (one_complete f x.at p r m)
complete env (call x (expression e (expression g no_expression))) r (on_two {f = f} {p = p} {q = q} n a k m d) = rw (n, complete env e p k, complete env g q m, eq-eqb (arity f) 2 a) (two_complete f x.at p q r d)
complete env (call x (expression e (expression g (expression h no_expression)))) r (on_three {p = p} {q = q} {r = j} n k m i d) = rw (n, complete env e p k, complete env g q m, complete env h j i) (three_complete x.at p q j r d)

pub one_operand : (env : List Symbol) (e : Expression) (p q : Operand) → IsTyped env e p → IsTyped env e q → p ≡ q
one_operand env e p q a b = ok_same p q (sym (complete env e p a) ∙ complete env e q b)
