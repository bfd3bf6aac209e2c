-- When Structured Text is well typed, and what it elaborates to.
-- IEC 61131-3 edition 3, 6.4.2 (types), 6.6.2 (standard functions) and 7.3 (Structured Text), this project's profile.
use Rattle.std.specs.Prelude.{◌≡◌, ◌≢◌, ℕ, ℤ, pos, int_le, Bool, true, false, not, ◌&&◌, ◌||◌, List, [], ◌∷◌, ◌++◌, Option, None, Some, codes, if◌then◌else◌}
use Rattle.std.specs.List.{list_all}
use Rattle.std.specs.Str.{bytes_eq}
use denote.Enum.Bare.{sameb}
use Rattle.fb_words.specs.declared.elem_type.ElemType.{ElemType}
use Rattle.fb_words.specs.declared.elem_type.ElemType.TheVariants as t
use Rattle.fb_words.specs.contracts.elem_type.ElemType.{the_type}
use Rattle.fb_words.specs.declared.operator.Operator.{Operator}
use Rattle.fb_words.specs.declared.operator.Operator.TheVariants as o
use Rattle.fb_words.specs.declared.operator.Operation.{Operation}
use Rattle.fb_words.specs.declared.operator.Operation.TheVariants.{Infix, Negate, Not, Abs, Min, Max, Limit, Convert}
use Rattle.fb_words.specs.declared.elem_type.TheConstants.{TYPES}
use Rattle.fb_words.specs.Writing.{type_name}
use Rattle.fb_model.specs.Names.{Name, is_in}
use Rattle.fb_model.specs.Spelling.{is_integer}
use Rattle.fb_model.specs.Values.{lowest, highest, signed, in_type}
use Rattle.fb_model.specs.Productions.{Word}
use Rattle.fb_model.specs.Trees.{Literal, Whole, Typed, Duration, Truth, Constant}
use Rattle.fb_model.specs.StructuredText.{Expression, literal, variable, element, call, negative, inverse, binary, no_expression, expression, Label, Bound, Statement, assign, assign_element, branch, select, repeat, Statements, no_statement, statement, Branches, no_branch, a_branch, Arms, no_arm, an_arm}
use Rattle.fb_model.specs.TypedText.{Term, constant, read, part, single, double, Command, set, set_part, choose, match_on, count, Commands, done, then_do, Choices, no_choice, choice, Cases, no_case, a_case}

-- ---- types

abbrev pub same_type : ElemType → ElemType → Bool
same_type a b = sameb the_type a b

-- integers and TIME
abbrev pub is_number : ElemType → Bool
is_number a = not (same_type a t.Bool)

-- a type is the other one, or both are integer types and the other has all its values
unfoldable pub widens : ElemType → ElemType → Bool
widens a b = same_type a b || (is_integer a && (is_integer b && (int_le (lowest b) (lowest a) && int_le (highest a) (highest b))))

-- ---- operations

-- whether an operation may have operands of that type
abbrev pub allows : Operation → ElemType → Bool
allows (Infix o.Times) a = is_integer a
allows (Infix o.Over) a = is_integer a
allows (Infix o.Modulo) a = is_integer a
allows (Infix o.And) a = same_type a t.Bool
allows (Infix o.Xor) a = same_type a t.Bool
allows (Infix o.Or) a = same_type a t.Bool
allows (Infix o.Equal) a = true
allows (Infix o.NotEqual) a = true
allows (Infix operator) a = is_number a
allows Not a = same_type a t.Bool
allows Abs a = is_integer a
allows (Convert from to) a = true
allows operation a = is_number a

-- the type of what it gives
abbrev pub gives : Operation → ElemType → ElemType
gives (Infix o.Plus) a = a
gives (Infix o.Minus) a = a
gives (Infix o.Times) a = a
gives (Infix o.Over) a = a
gives (Infix o.Modulo) a = a
gives (Infix operator) a = t.Bool
gives Not a = t.Bool
gives (Convert from to) a = to
gives operation a = a

-- whether it stays free on free operands alone
abbrev pub stays_free : Operation → Bool
stays_free (Infix o.Plus) = true
stays_free (Infix o.Minus) = true
stays_free (Infix o.Times) = true
stays_free (Infix o.Over) = true
stays_free (Infix o.Modulo) = true
stays_free (Infix operator) = false
stays_free Not = false
stays_free (Convert from to) = false
stays_free operation = true

-- the type that it asks for
abbrev pub asks : Operation → Option ElemType
asks (Convert from to) = Some from
asks operation = None

-- from an integer type or TIME to one of these, or from BOOL to an integer type
abbrev pub converts : ElemType → ElemType → Bool
converts t.Bool to = is_integer to
converts from to = is_number to

-- A_TO_B
abbrev pub conversion_name : ElemType → ElemType → Name
conversion_name from to = type_name from ++ codes "_TO_" ++ type_name to

-- the conversion of that name from a type to one of these
abbrev pub conversion_to : Name → ElemType → List ElemType → Option Operation
conversion_to x from [] = None
conversion_to x from (to ∷ rest) = if converts from to && bytes_eq x (conversion_name from to) then Some (Convert from to) else conversion_to x from rest

-- and from one of these
abbrev pub conversion_from : Name → List ElemType → Option Operation
conversion_from x [] = None
conversion_from x (from ∷ rest) = elim (conversion_to x from TYPES) [ None ↦ conversion_from x rest | Some f ↦ Some f ]

-- the function of a name
unfoldable pub called : Name → Option Operation
called x =
    if bytes_eq x (codes "ABS") then Some Abs
    else if bytes_eq x (codes "MIN") then Some Min
    else if bytes_eq x (codes "MAX") then Some Max
    else if bytes_eq x (codes "LIMIT") then Some Limit
    else conversion_from x TYPES

-- how many arguments a function has
abbrev pub arity : Operation → ℕ
arity Min = 2
arity Max = 2
arity Limit = 3
arity operation = 1

-- ---- variables

-- a variable of a block, with the bounds of an array
pub record Symbol : Type 0 where
  pub name : Name
  pub type : ElemType
  pub bounds : Option (ℤ × ℤ)
  pub writable : Bool

abbrev pub found : List Symbol → Name → Option Symbol
found [] x = None
found (e ∷ es) x = if bytes_eq x e.name then Some e else found es x

-- ---- operands

-- an expression of numbers alone, whose type is still free, with the places of its numbers and operations
pub data Loose : Type 0 where
  loose_number : (value : ℤ) (at : ℕ) → Loose
  loose_single : Operation → (at : ℕ) → Loose → Loose
  loose_double : Operation → (at : ℕ) → Loose → Loose → Loose

-- what an expression is before something asks it for a type
pub data Operand : Type 0 where
  fixed : ElemType → Term → Operand
  free : Loose → Operand
  -- a whole array, which nothing may ask for
  whole : Operand

-- a free expression takes a type, which its numbers fit and its operations allow
pub data Settles (a : ElemType) : Loose → Term → Type 0 where
  a_number : {n : ℤ} {s : ℕ} → in_type a n ≡ true → Settles a (loose_number n s) (constant n)
  a_single : {f : Operation} {s : ℕ} {l : Loose} {x : Term} → allows f a ≡ true → Settles a l x → Settles a (loose_single f s l) (single f a x)
  a_double : {f : Operation} {s : ℕ} {l k : Loose} {x y : Term} → allows f a ≡ true → Settles a l x → Settles a k y → Settles a (loose_double f s l k) (double f a x y)

-- an operand where a type is asked for
pub data TakesType (a : ElemType) : Operand → Term → Type 0 where
  widened : {b : ElemType} {x : Term} → widens b a ≡ true → TakesType a (fixed b x) x
  settles : {l : Loose} {x : Term} → Settles a l x → TakesType a (free l) x

-- whether an operand may be brought to a type
abbrev pub may_be : ElemType → Operand → Bool
may_be a (fixed b x) = widens b a
may_be a (free l) = true
may_be a whole = false

abbrev pub is_free : Operand → Bool
is_free (free l) = true
is_free operand = false

pub data IsOneOf (p : Operand) : List Operand → Type 0 where
  front : {ps : List Operand} → IsOneOf p (p ∷ ps)
  behind : {q : Operand} {ps : List Operand} → IsOneOf p ps → IsOneOf p (q ∷ ps)

-- the type to which an operation brings its operands: the one that it asks for, LINT where all are free,
-- or that of one of them, which each other one has, widens to or takes
pub data Brings (f : Operation) (ps : List Operand) : ElemType → Type 0 where
  asked : {a : ElemType} → asks f ≡ Some a → Brings f ps a
  alone : asks f ≡ None → list_all is_free ps ≡ true → Brings f ps t.Lint
  together : {a : ElemType} {x : Term} → asks f ≡ None → list_all is_free ps ≡ false → IsOneOf (fixed a x) ps → list_all (may_be a) ps ≡ true → Brings f ps a

-- an operation at a place on one operand
pub data Single (f : Operation) (s : ℕ) : Operand → Operand → Type 0 where
  one_free : {l : Loose} → stays_free f ≡ true → Single f s (free l) (free (loose_single f s l))
  one : {p : Operand} {a : ElemType} {x : Term} → (stays_free f && is_free p) ≡ false → Brings f (p ∷ []) a → allows f a ≡ true → TakesType a p x
      → Single f s p (fixed (gives f a) (single f a x))

-- on two
pub data Double (f : Operation) (s : ℕ) : Operand → Operand → Operand → Type 0 where
  two_free : {l k : Loose} → stays_free f ≡ true → Double f s (free l) (free k) (free (loose_double f s l k))
  two : {p q : Operand} {a : ElemType} {x y : Term} → (stays_free f && (is_free p && is_free q)) ≡ false → Brings f (p ∷ q ∷ []) a → allows f a ≡ true → TakesType a p x → TakesType a q y
      → Double f s p q (fixed (gives f a) (double f a x y))

-- and LIMIT on three, which is MIN(MAX(IN, MN), MX)
pub data Triple (s : ℕ) : Operand → Operand → Operand → Operand → Type 0 where
  three_free : {l k j : Loose} → Triple s (free l) (free k) (free j) (free (loose_double Min s (loose_double Max s k l) j))
  three : {p q r : Operand} {a : ElemType} {x y z : Term} → (is_free p && (is_free q && is_free r)) ≡ false → Brings Limit (p ∷ q ∷ r ∷ []) a → allows Limit a ≡ true → TakesType a p x → TakesType a q y → TakesType a r z
      → Triple s p q r (fixed a (double Min a (double Max a y x) z))

-- an index has an integer type, and where it is free it is LINT
pub data IsIndex : Operand → Term → Type 0 where
  an_integer : {a : ElemType} {x : Term} → is_integer a ≡ true → IsIndex (fixed a x) x
  a_free_one : {l : Loose} {x : Term} → Settles t.Lint l x → IsIndex (free l) x

-- ---- expressions

abbrev pub bit : Bool → ℤ
bit true = pos 1
bit false = pos 0

-- the operand that an expression is, a case for each production
pub data IsTyped (env : List Symbol) : Expression → Operand → Type 0 where
  a_whole_number : {b : Bool} {n s : ℕ} → IsTyped env (literal (record { value = Whole b n; at = s })) (free (loose_number (signed b n) s))
  a_typed_number : {a : ElemType} {b : Bool} {n s : ℕ} → in_type a (signed b n) ≡ true → IsTyped env (literal (record { value = Typed a b n; at = s })) (fixed a (constant (signed b n)))
  a_time : {b : Bool} {n s : ℕ} → in_type t.Time (signed b n) ≡ true → IsTyped env (literal (record { value = Duration b n; at = s })) (fixed t.Time (constant (signed b n)))
  a_truth : {b : Bool} {s : ℕ} → IsTyped env (literal (record { value = Truth b; at = s })) (fixed t.Bool (constant (bit b)))
  a_variable : {x : Word} {v : Symbol} → found env x.text ≡ Some v → v.bounds ≡ None → IsTyped env (variable x) (fixed v.type (read x.text))
  an_array : {x : Word} {v : Symbol} {b : ℤ × ℤ} → found env x.text ≡ Some v → v.bounds ≡ Some b → IsTyped env (variable x) whole
  an_element : {x : Word} {s : ℕ} {i : Expression} {v : Symbol} {b : ℤ × ℤ} {p : Operand} {j : Term}
      → found env x.text ≡ Some v → v.bounds ≡ Some b → IsTyped env i p → IsIndex p j → IsTyped env (element x s i) (fixed v.type (part x.text b.0 b.1 j))
  a_negation : {s : ℕ} {e : Expression} {p r : Operand} → IsTyped env e p → Single Negate s p r → IsTyped env (negative s e) r
  an_inversion : {s : ℕ} {e : Expression} {p r : Operand} → IsTyped env e p → Single Not s p r → IsTyped env (inverse s e) r
  an_operation : {f : Operator} {s : ℕ} {e g : Expression} {p q r : Operand} → IsTyped env e p → IsTyped env g q → Double (Infix f) s p q r → IsTyped env (binary f s e g) r
  on_one : {x : Word} {e : Expression} {f : Operation} {p r : Operand} → called x.text ≡ Some f → arity f ≡ 1 → IsTyped env e p → Single f x.at p r → IsTyped env (call x (expression e no_expression)) r
  on_two : {x : Word} {e g : Expression} {f : Operation} {p q r : Operand} → called x.text ≡ Some f → arity f ≡ 2 → IsTyped env e p → IsTyped env g q → Double f x.at p q r
      → IsTyped env (call x (expression e (expression g no_expression))) r
  on_three : {x : Word} {e g h : Expression} {p q r k : Operand} → called x.text ≡ Some Limit → IsTyped env e p → IsTyped env g q → IsTyped env h r → Triple x.at p q r k
      → IsTyped env (call x (expression e (expression g (expression h no_expression)))) k

-- an expression where a type is asked for
pub record IsAsked (env : List Symbol) (a : ElemType) (e : Expression) (x : Term) : Type 0 where
  pub operand : Operand
  pub typed : IsTyped env e operand
  pub taken : TakesType a operand x

-- a condition, of IF, ELSIF or a transition: an expression that is BOOL by itself, since nothing there gives a free number a type
abbrev pub IsCondition : List Symbol → Expression → Term → Type 0
IsCondition env e x = IsTyped env e (fixed t.Bool x)

-- ---- statements

-- a variable that may be assigned: it is writable, and no FOR counts with it
pub record IsAssignable (env : List Symbol) (busy : List Name) (x : Name) (v : Symbol) : Type 0 where
  pub known : found env x ≡ Some v
  pub writable : v.writable ≡ true
  pub idle : is_in x busy ≡ false

-- whether a literal is a number without a type
abbrev pub is_whole : Literal → Bool
is_whole (Whole b n) = true
is_whole other = false

-- a number without a type
pub data IsNumber (a : ElemType) : Constant → ℤ → Type 0 where
  a_number : {b : Bool} {n s : ℕ} → in_type a (signed b n) ≡ true → IsNumber a (record { value = Whole b n; at = s }) (signed b n)

-- the numbers of a label, which fit the selector's type
pub data IsLabel (a : ElemType) : Label → ℤ × ℤ → Type 0 where
  one : {c : Constant} {n : ℤ} → IsNumber a c n → IsLabel a (record { low = c; high = None }) (n, n)
  from_to : {c d : Constant} {n m : ℤ} → IsNumber a c n → IsNumber a d m → IsLabel a (record { low = c; high = Some d }) (n, m)

pub data AreLabels (a : ElemType) : List Label → List (ℤ × ℤ) → Type 0 where
  no_label : AreLabels a [] []
  a_label : {l : Label} {ls : List Label} {r : ℤ × ℤ} {rs : List (ℤ × ℤ)} → IsLabel a l r → AreLabels a ls rs → AreLabels a (l ∷ ls) (r ∷ rs)

-- the step of a FOR, which is not 0, and 1 where none is given
pub data IsStep (a : ElemType) : Option Constant → ℤ → Type 0 where
  no_step : IsStep a None (pos 1)
  a_step : {c : Constant} {n : ℤ} → IsNumber a c n → n ≢ pos 0 → IsStep a (Some c) n

-- an integer selector, which is LINT where it is free
pub data IsSelector : Operand → ElemType → Term → Type 0 where
  an_integer : {a : ElemType} {x : Term} → is_integer a ≡ true → IsSelector (fixed a x) a x
  a_free_one : {l : Loose} {x : Term} → Settles t.Lint l x → IsSelector (free l) t.Lint x

mutual
  -- the command that a statement is, a case for each production. Busy are the variables with which the FORs around it count, from outside in
  pub data IsCommand (env : List Symbol) : List Name → Statement → Command → Type 0 where
    an_assignment : {busy : List Name} {x : Word} {s : ℕ} {e : Expression} {v : Symbol} {y : Term} → IsAssignable env busy x.text v → v.bounds ≡ None → IsAsked env v.type e y → IsCommand env busy (assign x s e) (set x.text y)
    to_element : {busy : List Name} {x : Word} {b s : ℕ} {i e : Expression} {v : Symbol} {r : ℤ × ℤ} {p : Operand} {j y : Term}
        → IsAssignable env busy x.text v → v.bounds ≡ Some r → IsTyped env i p → IsIndex p j → IsAsked env v.type e y → IsCommand env busy (assign_element x b i s e) (set_part x.text r.0 r.1 j y)
    a_choice : {busy : List Name} {bs : Branches} {xs : Statements} {cs : Choices} {c : Commands} → AreChoices env busy bs cs → AreCommands env busy xs c → IsCommand env busy (branch bs xs) (choose cs c)
    a_selection : {busy : List Name} {s : ℕ} {e : Expression} {bs : Arms} {xs : Statements} {p : Operand} {a : ElemType} {y : Term} {cs : Cases} {c : Commands}
        → IsTyped env e p → IsSelector p a y → AreCases env busy a bs cs → AreCommands env busy xs c → IsCommand env busy (select s e bs xs) (match_on y cs c)
    an_iteration : {busy : List Name} {s : ℕ} {x : Word} {e g : Bound} {step : Option Constant} {xs : Statements} {v : Symbol} {y z : Term} {n : ℤ} {c : Commands}
        → IsAssignable env busy x.text v → v.bounds ≡ None → is_integer v.type ≡ true → IsAsked env v.type e.value y → IsAsked env v.type g.value z → IsStep v.type step n → AreCommands env (busy ++ x.text ∷ []) xs c
        → IsCommand env busy (repeat s x e g step xs) (count x.text v.type y z n (e.plain && g.plain) c)

  pub data AreCommands (env : List Symbol) : List Name → Statements → Commands → Type 0 where
    no_command : {busy : List Name} → AreCommands env busy no_statement done
    a_command : {busy : List Name} {x : Statement} {xs : Statements} {c : Command} {cs : Commands} → IsCommand env busy x c → AreCommands env busy xs cs → AreCommands env busy (statement x xs) (then_do c cs)

  pub data AreChoices (env : List Symbol) : List Name → Branches → Choices → Type 0 where
    no_choices : {busy : List Name} → AreChoices env busy no_branch no_choice
    more_choices : {busy : List Name} {s : ℕ} {e : Expression} {xs : Statements} {bs : Branches} {y : Term} {c : Commands} {cs : Choices}
        → IsCondition env e y → AreCommands env busy xs c → AreChoices env busy bs cs → AreChoices env busy (a_branch s e xs bs) (choice y c cs)

  pub data AreCases (env : List Symbol) : List Name → ElemType → Arms → Cases → Type 0 where
    no_cases : {busy : List Name} {a : ElemType} → AreCases env busy a no_arm no_case
    more_cases : {busy : List Name} {a : ElemType} {ls : List Label} {xs : Statements} {bs : Arms} {rs : List (ℤ × ℤ)} {c : Commands} {cs : Cases}
        → AreLabels a ls rs → AreCommands env busy xs c → AreCases env busy a bs cs → AreCases env busy a (an_arm ls xs bs) (a_case rs c cs)
