-- What a refusal of an expression says holds.
use Rattle.std.proofs.Common.{◌≡◌, ◌≢◌, ℕ, ◌≤◌, Bool, true, false, cond, List, Some, Result, Ok, Err, refl, sym, ap, subst, ◌∙◌, ◌⊎◌, inl, inr, arith}
use Rattle.std.specs.Prelude.{nat_eq}
use Rattle.std.proofs.lemmas.Bool.{eqb-true, eq-eqb}
use Rattle.fb_words.specs.declared.operator.Operation.{Operation}
use Rattle.fb_words.specs.declared.operator.Operation.TheVariants.{Infix, Negate, Not, Abs, Min, Max, Limit, Convert}
use Rattle.fb_model.specs.Productions.{Word}
use Rattle.fb_model.specs.StructuredText.{Expression, literal, variable, element, call, negative, inverse, binary, Expressions, no_expression, expression}
use Rattle.fb_model.specs.TextTyping.{Symbol, found, called, arity, Operand, IsTyped}
use Rattle.fb_model.specs.TextFaults.{Fault, type_mismatch, IsArgument, first, later, argument_count, no_operand, an_operand, IsWrong, unknown_variable, unknown_array, in_index, in_negation, bad_negation, in_inversion, bad_inversion, in_first, in_second, bad_operation, unknown_function, bad_count, in_argument, bad_call}
use Rattle.st_types.specs.Elaborating as book
use Rattle.st_types.specs.Elaborating.{◌>>=◌, typed, typed_call, known, value_of, element_of, function_of, applied_one, applied_two, applied_three}
use Rattle.st_types.proofs.Rules.{bind_err}
use Rattle.st_types.proofs.Refusals.{never_err, one_refused, two_refused, three_refused}
use Rattle.st_types.proofs.Elaboration.{known_ok, known_err, function_ok, function_err, element_refused, literal_refused, three_is_limit, sound}

-- ---- how many arguments there are

has_one : (f : Operation) → 1 ≤ arity f
has_one Limit = omega arith
has_one Min = omega arith
has_one Max = omega arith
has_one Abs = omega arith
has_one Negate = omega arith
has_one Not = omega arith
has_one (Infix o) = omega arith
has_one (Convert a b) = omega arith

has_three : (f : Operation) → arity f ≤ 3
has_three Limit = omega arith
has_three Min = omega arith
has_three Max = omega arith
has_three Abs = omega arith
has_three Negate = omega arith
has_three Not = omega arith
has_three (Infix o) = omega arith
has_three (Convert a b) = omega arith

other_count : (n k : ℕ) → nat_eq n k ≡ false → k ≢ n
other_count n k h e = let g : nat_eq n k ≡ true = eq-eqb n k (sym e) in absurd cc

same_fault : {A : Type 0} (v w : Fault) → (let l : Result A Fault = Err v in l) ≡ Err w → v ≡ w
same_fault v w h = cc

-- ---- steps

-- an expression is wrong, or what goes on with its operand
typed_step : {B : Type 0} (env : List Symbol) (e : Expression) (w : Fault) (f : Operand → Result B Fault) (Q : Type 0) → (typed env e ≡ Err w → Q) → ((p : Operand) → IsTyped env e p → f p ≡ Err w → Q) → (typed env e >>= f) ≡ Err w → Q
typed_step {B} env e w f Q inside on h = by (bind_err (typed env e) f w h)
  where
    by : ((typed env e ≡ Err w) ⊎ ((p : Operand) × (typed env e ≡ Ok p) × (f p ≡ Err w))) → Q
    by (inl k) = inside k
    by (inr k) = on k.0 (sound env e k.0 k.1) k.2

-- another number of arguments, or what the function gives on them
count_step : {A : Type 0} (env : List Symbol) (x : Word) (es : Expressions) (f : Operation) (n : ℕ) (r : Result A Fault) (w : Fault) → called x.text ≡ Some f → argument_count es ≡ n → (arity f ≡ n → r ≡ Err w → IsWrong env (call x es) w) → cond (nat_eq (arity f) n) r (Err (type_mismatch x.at)) ≡ Err w → IsWrong env (call x es) w
count_step {A} env x es f n r w c e on h = by (nat_eq (arity f) n) refl h
  where
    by : (b : Bool) → nat_eq (arity f) n ≡ b → cond b r (Err (type_mismatch x.at)) ≡ Err w → IsWrong env (call x es) w
    by true k m = on (eqb-true (arity f) n k) m
    by false k m = subst (IsWrong env (call x es)) (same_fault {A = A} (type_mismatch x.at) w m) (bad_count c (λ q. other_count (arity f) n k (sym e ∙ q)))

abbrev WrongAt : List Symbol → Expression → Type 0
WrongAt env e = (w : Fault) → typed env e ≡ Err w → IsWrong env e w

call_refused : (env : List Symbol) (x : Word) (f : Operation) → called x.text ≡ Some f → (es : Expressions) → ((e : Expression) → IsArgument e es → WrongAt env e) → (w : Fault) → typed_call env f x.at es ≡ Err w → IsWrong env (call x es) w
call_refused env x f c no_expression inside w h =
    subst (IsWrong env (call x no_expression)) (same_fault {A = Operand} (type_mismatch x.at) w h) (bad_count c (λ e. let a = has_one f in omega (arith, e)))
call_refused env x f c (expression a no_expression) inside w h =
    let es = expression a no_expression in
    typed_step env a w (λ p. applied_one f x.at p) (IsWrong env (call x es) w) (λ k. in_argument first (inside a first w k))
    (λ p i k. count_step env x es f 1 (book.on_one f x.at p) w c refl (λ n m. bad_call c (an_operand i no_operand) (one_refused f x.at p w m)) k) h
call_refused env x f c (expression a (expression b no_expression)) inside w h =
    let es = expression a (expression b no_expression) in
    typed_step env a w (λ p. typed env b >>= λ q. applied_two f x.at p q) (IsWrong env (call x es) w) (λ k. in_argument first (inside a first w k))
    (λ p i. typed_step env b w (λ q. applied_two f x.at p q) (IsWrong env (call x es) w) (λ k. in_argument (later first) (inside b (later first) w k))
    (λ q j k. count_step env x es f 2 (book.on_two f x.at p q) w c refl (λ n m. bad_call c (an_operand i (an_operand j no_operand)) (two_refused f x.at p q w m)) k)) h
call_refused env x f c (expression a (expression b (expression d no_expression))) inside w h =
    let es = expression a (expression b (expression d no_expression)) in
    typed_step env a w (λ p. typed env b >>= λ q. typed env d >>= λ r. applied_three f x.at p q r) (IsWrong env (call x es) w) (λ k. in_argument first (inside a first w k))
    (λ p i. typed_step env b w (λ q. typed env d >>= λ r. applied_three f x.at p q r) (IsWrong env (call x es) w) (λ k. in_argument (later first) (inside b (later first) w k))
    (λ q j. typed_step env d w (λ r. applied_three f x.at p q r) (IsWrong env (call x es) w) (λ k. in_argument (later (later first)) (inside d (later (later first)) w k))
    (λ r g k. count_step env x es f 3 (book.on_three x.at p q r) w c refl
    (λ n m. bad_call (c ∙ ap Some (three_is_limit f n)) (an_operand i (an_operand j (an_operand g no_operand))) (three_refused x.at p q r w m)) k))) h
call_refused env x f c (expression a (expression b (expression d (expression e es)))) inside w h =
    subst (IsWrong env (call x (expression a (expression b (expression d (expression e es)))))) (same_fault {A = Operand} (type_mismatch x.at) w h) (bad_count c (λ g. let l = has_three f in omega (arith, g)))

-- ---- whole expressions

mutual
  pub refused : (env : List Symbol) (e : Expression) → WrongAt env e
  refused env (literal c) w h = literal_refused env c.value c.at w h
  refused env (variable x) w h = by (bind_err (known env x.text x.at) (λ v. Ok (value_of x.text v)) w h)
    where
      by : ((known env x.text x.at ≡ Err w) ⊎ ((v : Symbol) × (known env x.text x.at ≡ Ok v) × ((let l : Result Operand Fault = Ok (value_of x.text v) in l) ≡ Err w))) → IsWrong env (variable x) w
      by (inl k) = let p = known_err x.at (found env x.text) w k in subst (IsWrong env (variable x)) p.1 (unknown_variable p.0)
      by (inr k) = absurd (never_err (value_of x.text k.0) w k.2)
  refused env (element x s i) w h = by (refused env i) (bind_err (known env x.text x.at) (λ v. typed env i >>= λ p. element_of x.text s v p) w h)
    where
      by : WrongAt env i → ((known env x.text x.at ≡ Err w) ⊎ ((v : Symbol) × (known env x.text x.at ≡ Ok v) × ((typed env i >>= λ p. element_of x.text s v p) ≡ Err w))) → IsWrong env (element x s i) w
      by inside (inl k) = let p = known_err x.at (found env x.text) w k in subst (IsWrong env (element x s i)) p.1 (unknown_array p.0)
      by inside (inr k) = typed_step env i w (λ p. element_of x.text s k.0 p) (IsWrong env (element x s i) w) (λ m. in_index (inside w m)) (λ p j m. element_refused env x s i k.0 p w (known_ok x.at (found env x.text) k.0 k.1) j m) k.2
  refused env (negative s e) w h =
      let inside = refused env e in
      typed_step env e w (λ p. book.on_one Negate s p) (IsWrong env (negative s e) w) (λ k. in_negation (inside w k)) (λ p i k. bad_negation i (one_refused Negate s p w k)) h
  refused env (inverse s e) w h =
      let inside = refused env e in
      typed_step env e w (λ p. book.on_one Not s p) (IsWrong env (inverse s e) w) (λ k. in_inversion (inside w k)) (λ p i k. bad_inversion i (one_refused Not s p w k)) h
  refused env (binary f s e g) w h =
      let left = refused env e in
      let right = refused env g in
      typed_step env e w (λ p. typed env g >>= λ q. book.on_two (Infix f) s p q) (IsWrong env (binary f s e g) w) (λ k. in_first (left w k))
      (λ p i. typed_step env g w (λ q. book.on_two (Infix f) s p q) (IsWrong env (binary f s e g) w) (λ k. in_second (right w k))
      (λ q j k. bad_operation i j (two_refused (Infix f) s p q w k))) h
  refused env (call x es) w h = by (refused_arguments env es) (bind_err (function_of x.text x.at) (λ f. typed_call env f x.at es) w h)
    where
      by : ((e : Expression) → IsArgument e es → WrongAt env e) → ((function_of x.text x.at ≡ Err w) ⊎ ((f : Operation) × (function_of x.text x.at ≡ Ok f) × (typed_call env f x.at es ≡ Err w))) → IsWrong env (call x es) w
      by inside (inl k) = let p = function_err x.at (called x.text) w k in subst (IsWrong env (call x es)) p.1 (unknown_function p.0)
      by inside (inr k) = call_refused env x k.0 (function_ok x.at (called x.text) k.0 k.1) es inside w k.2

  refused_arguments : (env : List Symbol) (es : Expressions) (e : Expression) → IsArgument e es → WrongAt env e
  refused_arguments env no_expression e i = elim i [ ]
  refused_arguments env (expression d es) e first = refused env d
  refused_arguments env (expression d es) e (later i) = refused_arguments env es e i
