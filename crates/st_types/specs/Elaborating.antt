-- The operand that an expression is, or why it is none, reckoned from its parts.
use Rattle.std.specs.Prelude.{ℕ, ℤ, nat_eq, cond, List, [], ◌∷◌, Option, None, Some, Result, Ok, Err}
use Rattle.std.specs.List.{list_all}
use Rattle.fb_words.specs.declared.elem_type.ElemType.{ElemType}
use Rattle.fb_words.specs.declared.elem_type.ElemType.TheVariants as t
use Rattle.fb_words.specs.declared.operator.Operation.{Operation}
use Rattle.fb_words.specs.declared.operator.Operation.TheVariants.{Infix, Negate, Not, Min, Max, Limit}
use Rattle.fb_model.specs.Names.{Name}
use Rattle.fb_model.specs.Spelling.{is_integer}
use Rattle.fb_model.specs.Values.{signed, in_type}
use Rattle.fb_model.specs.Trees.{Literal, Whole, Typed, Duration, Truth}
use Rattle.fb_model.specs.StructuredText.{Expression, literal, variable, element, call, negative, inverse, binary, Expressions, no_expression, expression, Link}
use Rattle.fb_model.specs.TypedText.{Term, constant, read, part, single, double}
use Rattle.fb_model.specs.TextTyping.{same_type, allows, gives, stays_free, asks, called, arity, Symbol, found, Loose, loose_number, loose_single, loose_double, Operand, fixed, free, whole, widens, may_be, is_free, bit}
use Rattle.fb_model.specs.TextFaults.{Fault, unknown_name, type_mismatch, bad_literal}
use Rattle.st_types.specs.Views.{LooseTail}

infixl 10 ◌>>=◌
abbrev pub ◌>>=◌ : {A B : Type 0} → Result A Fault → (A → Result B Fault) → Result B Fault
(Ok x) >>= f = f x
(Err e) >>= f = Err e

-- ---- operands

abbrev pub fixed_type : Operand → Option ElemType
fixed_type (fixed a x) = Some a
fixed_type p = None

-- a type, if all operands may be brought to it
abbrev pub offered : List Operand → Option ElemType → Option ElemType
offered all None = None
offered all (Some a) = cond (list_all (may_be a) all) (Some a) None

abbrev pub or_else : Option ElemType → Option ElemType → Option ElemType
or_else (Some a) other = Some a
or_else None other = other

-- the type of one of these operands to which all operands may be brought
abbrev pub common : List Operand → List Operand → Option ElemType
common all [] = None
common all (p ∷ ps) = or_else (offered all (fixed_type p)) (common all ps)

-- the type to which an operation brings its operands; where nothing gives one it is LINT
abbrev pub brought : Option ElemType → List Operand → Option ElemType
brought (Some a) ps = Some a
brought None ps = cond (list_all is_free ps) (Some t.Lint) (common ps ps)

-- the type of an operation's operands, if it may have them
abbrev pub allowed : Operation → ℕ → Option ElemType → Result ElemType Fault
allowed f s None = Err (type_mismatch s)
allowed f s (Some a) = cond (allows f a) (Ok a) (Err (type_mismatch s))

abbrev pub operands_type : Operation → ℕ → List Operand → Result ElemType Fault
operands_type f s ps = allowed f s (brought (asks f) ps)

-- a number of a type that has it
abbrev pub constant_of : ElemType → ℤ → ℕ → Result Term Fault
constant_of a n s = cond (in_type a n) (Ok (constant n)) (Err (bad_literal s))

-- a free expression takes a type, which its numbers must fit
abbrev pub settled : ElemType → Loose → Result Term Fault
settled a (loose_number n s) = constant_of a n s
settled a (loose_single f s l) = cond (allows f a) (settled a l >>= λ x. Ok (single f a x)) (Err (type_mismatch s))
settled a (loose_double f s l k) = settled a l >>= λ x. cond (allows f a) (settled a k >>= λ y. Ok (double f a x y)) (Err (type_mismatch s))

-- operations on free operands that follow one of that type
abbrev pub settled_tails : ElemType → Term → List LooseTail → Result Term Fault
settled_tails a x [] = Ok x
settled_tails a x (l ∷ ls) = cond (allows l.0 a) (settled a l.2 >>= λ y. settled_tails a (double l.0 a x y) ls) (Err (type_mismatch l.1))

-- an operand where a type is asked for, at a place
abbrev pub taken : ElemType → ℕ → Operand → Result Term Fault
taken a s (fixed b x) = cond (widens b a) (Ok x) (Err (type_mismatch s))
taken a s (free l) = settled a l
taken a s whole = Err (type_mismatch s)

-- a truth, where a place asks for one: no free operand is one
abbrev pub truth_of : ℕ → Operand → Result Term Fault
truth_of s (fixed a x) = cond (same_type a t.Bool) (Ok x) (Err (type_mismatch s))
truth_of s p = Err (type_mismatch s)

-- ---- operations

abbrev pub typed_single : Operation → ℕ → Operand → Result Operand Fault
typed_single f s p = operands_type f s (p ∷ []) >>= λ a. taken a s p >>= λ x. Ok (fixed (gives f a) (single f a x))

abbrev pub typed_double : Operation → ℕ → Operand → Operand → Result Operand Fault
typed_double f s p q = operands_type f s (p ∷ q ∷ []) >>= λ a. taken a s p >>= λ x. taken a s q >>= λ y. Ok (fixed (gives f a) (double f a x y))

-- MIN(MAX(q, p), r)
abbrev pub typed_limit : ℕ → Operand → Operand → Operand → Result Operand Fault
typed_limit s p q r =
    operands_type Limit s (p ∷ q ∷ r ∷ []) >>= λ a. taken a s p >>= λ x. taken a s q >>= λ y. taken a s r >>= λ z.
    Ok (fixed a (double Min a (double Max a y x) z))

abbrev pub on_one : Operation → ℕ → Operand → Result Operand Fault
on_one f s (free l) = cond (stays_free f) (Ok (free (loose_single f s l))) (typed_single f s (free l))
on_one f s p = typed_single f s p

abbrev pub on_two : Operation → ℕ → Operand → Operand → Result Operand Fault
on_two f s (free l) (free k) = cond (stays_free f) (Ok (free (loose_double f s l k))) (typed_double f s (free l) (free k))
on_two f s p q = typed_double f s p q

abbrev pub on_three : ℕ → Operand → Operand → Operand → Result Operand Fault
on_three s (free l) (free k) (free j) = Ok (free (loose_double Min s (loose_double Max s k l) j))
on_three s p q r = typed_limit s p q r

-- ---- variables

abbrev pub known_by : ℕ → Option Symbol → Result Symbol Fault
known_by s None = Err (unknown_name s)
known_by s (Some v) = Ok v

abbrev pub known : List Symbol → Name → ℕ → Result Symbol Fault
known env x s = known_by s (found env x)

-- a variable, or a whole array
abbrev pub value_by : ElemType → Name → Option (ℤ × ℤ) → Operand
value_by a x None = fixed a (read x)
value_by a x (Some b) = whole

abbrev pub value_of : Name → Symbol → Operand
value_of x v = value_by v.type x v.bounds

-- the bounds of an array, at the bracket that asks for it
abbrev pub bounds_by : ℕ → Option (ℤ × ℤ) → Result (ℤ × ℤ) Fault
bounds_by s None = Err (type_mismatch s)
bounds_by s (Some b) = Ok b

-- an integer, which is LINT where it is free, where a place asks for one
abbrev pub integer_of : ℕ → Operand → Result (ElemType × Term) Fault
integer_of s (fixed a x) = cond (is_integer a) (Ok (a, x)) (Err (type_mismatch s))
integer_of s (free l) = settled t.Lint l >>= λ x. Ok (t.Lint, x)
integer_of s whole = Err (type_mismatch s)

abbrev pub element_of : Name → ℕ → Symbol → Operand → Result Operand Fault
element_of x s v p = bounds_by s v.bounds >>= λ b. integer_of s p >>= λ j. Ok (fixed v.type (part x b.0 b.1 j.1))

-- ---- literals

abbrev pub literal_of : ℕ → Literal → Result Operand Fault
literal_of s (Whole b n) = Ok (free (loose_number (signed b n) s))
literal_of s (Typed a b n) = constant_of a (signed b n) s >>= λ x. Ok (fixed a x)
literal_of s (Duration b n) = constant_of t.Time (signed b n) s >>= λ x. Ok (fixed t.Time x)
literal_of s (Truth b) = Ok (fixed t.Bool (constant (bit b)))

-- ---- functions

-- the function of a name
abbrev pub function_by : ℕ → Option Operation → Result Operation Fault
function_by s None = Err (unknown_name s)
function_by s (Some f) = Ok f

abbrev pub function_of : Name → ℕ → Result Operation Fault
function_of x s = function_by s (called x)

-- a function on its arguments; another number of them is none of its
abbrev pub applied_one : Operation → ℕ → Operand → Result Operand Fault
applied_one f s p = cond (nat_eq (arity f) 1) (on_one f s p) (Err (type_mismatch s))

abbrev pub applied_two : Operation → ℕ → Operand → Operand → Result Operand Fault
applied_two f s p q = cond (nat_eq (arity f) 2) (on_two f s p q) (Err (type_mismatch s))

abbrev pub applied_three : Operation → ℕ → Operand → Operand → Operand → Result Operand Fault
applied_three f s p q r = cond (nat_eq (arity f) 3) (on_three s p q r) (Err (type_mismatch s))

-- ---- whole expressions

abbrev mutual
  pub typed : List Symbol → Expression → Result Operand Fault
  typed env (literal c) = literal_of c.at c.value
  typed env (variable x) = known env x.text x.at >>= λ v. Ok (value_of x.text v)
  typed env (element x s i) = known env x.text x.at >>= λ v. typed env i >>= λ p. element_of x.text s v p
  typed env (negative s e) = typed env e >>= λ p. on_one Negate s p
  typed env (inverse s e) = typed env e >>= λ p. on_one Not s p
  typed env (binary f s e g) = typed env e >>= λ p. typed env g >>= λ q. on_two (Infix f) s p q
  typed env (call x es) = function_of x.text x.at >>= λ f. typed_call env f x.at es

  pub typed_call : List Symbol → Operation → ℕ → Expressions → Result Operand Fault
  typed_call env f s no_expression = Err (type_mismatch s)
  typed_call env f s (expression a no_expression) = typed env a >>= λ p. applied_one f s p
  typed_call env f s (expression a (expression b no_expression)) = typed env a >>= λ p. typed env b >>= λ q. applied_two f s p q
  typed_call env f s (expression a (expression b (expression c no_expression))) =
      typed env a >>= λ p. typed env b >>= λ q. typed env c >>= λ r. applied_three f s p q r
  typed_call env f s (expression a (expression b (expression c (expression d es)))) = Err (type_mismatch s)

-- operators that follow an operand, each with its second operand
abbrev pub typed_links : List Symbol → Operand → List Link → Result Operand Fault
typed_links env p [] = Ok p
typed_links env p (l ∷ ls) = typed env l.2 >>= λ q. on_two (Infix l.0) l.1 p q >>= λ r. typed_links env r ls

-- an expression where a type is asked for at a place
abbrev pub asked : List Symbol → ElemType → ℕ → Expression → Result Term Fault
asked env a s e = typed env e >>= λ p. taken a s p

-- a condition, at a place
abbrev pub condition : List Symbol → ℕ → Expression → Result Term Fault
condition env s e = typed env e >>= λ p. truth_of s p
