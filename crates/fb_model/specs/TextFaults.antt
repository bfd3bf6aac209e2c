-- Why Structured Text is not well typed, and where.
-- IEC 61131-3 edition 3, 6.4.2 (types) and 7.3 (Structured Text), this project's profile.
use Rattle.std.specs.Prelude.{◌≡◌, ◌≢◌, ℕ, ◌+◌, ℤ, pos, Bool, true, false, ◌&&◌, List, [], ◌∷◌, ◌++◌, Option, None, Some}
use Rattle.std.specs.List.{list_all}
use Rattle.fb_words.specs.declared.elem_type.ElemType.{ElemType}
use Rattle.fb_words.specs.declared.elem_type.ElemType.TheVariants as t
use Rattle.fb_words.specs.declared.operator.Operator.{Operator}
use Rattle.fb_words.specs.declared.operator.Operation.{Operation}
use Rattle.fb_words.specs.declared.operator.Operation.TheVariants.{Infix, Negate, Not}
use Rattle.fb_model.specs.Names.{Name, is_in}
use Rattle.fb_model.specs.Spelling.{is_integer}
use Rattle.fb_model.specs.Values.{signed, in_type}
use Rattle.fb_model.specs.Productions.{Word}
use Rattle.fb_model.specs.Trees.{Literal, Whole, Typed, Duration, Constant}
use Rattle.fb_model.specs.StructuredText.{Expression, literal, variable, element, call, negative, inverse, binary, Expressions, no_expression, expression, Label, Bound, Statement, assign, assign_element, branch, select, repeat, Statements, statement, Branches, a_branch, Arms, an_arm}
use Rattle.fb_model.specs.TypedText.{Term}
use Rattle.fb_model.specs.TextTyping.{same_type, allows, stays_free, called, arity, Symbol, found, Loose, loose_number, loose_single, loose_double, Operand, fixed, free, whole, widens, may_be, is_free, IsOneOf, Brings, IsTyped, IsSelector, is_whole}

-- what is wrong, with its place
pub data Fault : Type 0 where
  -- the name stands for nothing there
  unknown_name : (at : ℕ) → Fault
  -- what asks for a type is not given it
  type_mismatch : (at : ℕ) → Fault
  -- the literal does not fit its type
  bad_literal : (at : ℕ) → Fault
  -- the variable may not be assigned there
  not_writable : (at : ℕ) → Fault

-- ---- operands

-- a free expression that a type is asked for: a number does not fit it, or an operation does not allow it
pub data Unsettled (a : ElemType) : Loose → Fault → Type 0 where
  bad_number : {n : ℤ} {s : ℕ} → in_type a n ≡ false → Unsettled a (loose_number n s) (bad_literal s)
  bad_single : {f : Operation} {s : ℕ} {l : Loose} → allows f a ≡ false → Unsettled a (loose_single f s l) (type_mismatch s)
  bad_double : {f : Operation} {s : ℕ} {l k : Loose} → allows f a ≡ false → Unsettled a (loose_double f s l k) (type_mismatch s)
  in_single : {f : Operation} {s : ℕ} {l : Loose} {w : Fault} → Unsettled a l w → Unsettled a (loose_single f s l) w
  in_left : {f : Operation} {s : ℕ} {l k : Loose} {w : Fault} → Unsettled a l w → Unsettled a (loose_double f s l k) w
  in_right : {f : Operation} {s : ℕ} {l k : Loose} {w : Fault} → Unsettled a k w → Unsettled a (loose_double f s l k) w

-- an operand that has not the type asked for at a place
pub data NotTaken (a : ElemType) (s : ℕ) : Operand → Fault → Type 0 where
  too_wide : {b : ElemType} {x : Term} → widens b a ≡ false → NotTaken a s (fixed b x) (type_mismatch s)
  unsettled : {l : Loose} {w : Fault} → Unsettled a l w → NotTaken a s (free l) w
  an_array : NotTaken a s whole (type_mismatch s)

-- an operand that is no integer, where a place asks for one
pub data NotInteger (s : ℕ) : Operand → Fault → Type 0 where
  another_type : {b : ElemType} {x : Term} → is_integer b ≡ false → NotInteger s (fixed b x) (type_mismatch s)
  unsettled_one : {l : Loose} {w : Fault} → Unsettled t.Lint l w → NotInteger s (free l) w
  no_number : NotInteger s whole (type_mismatch s)

-- no type brings the operands together that the operation allows
abbrev pub Mismatched : Operation → List Operand → Type 0
Mismatched f ps = (a : ElemType) → Brings f ps a → allows f a ≡ true → list_all (may_be a) ps ≡ true → ⊥

-- why an operation at a place gives nothing on its operands. Where it stays free on free ones alone, it settles none of them
pub data NotOn (f : Operation) (s : ℕ) (ps : List Operand) : Fault → Type 0 where
  mismatched : Mismatched f ps → NotOn f s ps (type_mismatch s)
  not_settled : {a : ElemType} {l : Loose} {w : Fault} → (stays_free f && list_all is_free ps) ≡ false → Brings f ps a → IsOneOf (free l) ps → Unsettled a l w → NotOn f s ps w

-- ---- expressions

-- one of the arguments
pub data IsArgument (e : Expression) : Expressions → Type 0 where
  first : {es : Expressions} → IsArgument e (expression e es)
  later : {d : Expression} {es : Expressions} → IsArgument e es → IsArgument e (expression d es)

abbrev pub argument_count : Expressions → ℕ
argument_count no_expression = 0
argument_count (expression e es) = 1 + argument_count es

-- the operands that arguments are
pub data AreTyped (env : List Symbol) : Expressions → List Operand → Type 0 where
  no_operand : AreTyped env no_expression []
  an_operand : {e : Expression} {es : Expressions} {p : Operand} {ps : List Operand} → IsTyped env e p → AreTyped env es ps → AreTyped env (expression e es) (p ∷ ps)

-- what is wrong with an expression, named of any part of it where it holds
pub data IsWrong (env : List Symbol) : Expression → Fault → Type 0 where
  bad_typed : {a : ElemType} {b : Bool} {n s : ℕ} → in_type a (signed b n) ≡ false → IsWrong env (literal (record { value = Typed a b n; at = s })) (bad_literal s)
  bad_time : {b : Bool} {n s : ℕ} → in_type t.Time (signed b n) ≡ false → IsWrong env (literal (record { value = Duration b n; at = s })) (bad_literal s)
  unknown_variable : {x : Word} → found env x.text ≡ None → IsWrong env (variable x) (unknown_name x.at)
  unknown_array : {x : Word} {s : ℕ} {i : Expression} → found env x.text ≡ None → IsWrong env (element x s i) (unknown_name x.at)
  not_an_array : {x : Word} {s : ℕ} {i : Expression} {v : Symbol} → found env x.text ≡ Some v → v.bounds ≡ None → IsWrong env (element x s i) (type_mismatch s)
  in_index : {x : Word} {s : ℕ} {i : Expression} {w : Fault} → IsWrong env i w → IsWrong env (element x s i) w
  bad_index : {x : Word} {s : ℕ} {i : Expression} {p : Operand} {w : Fault} → IsTyped env i p → NotInteger s p w → IsWrong env (element x s i) w
  in_negation : {s : ℕ} {e : Expression} {w : Fault} → IsWrong env e w → IsWrong env (negative s e) w
  bad_negation : {s : ℕ} {e : Expression} {p : Operand} {w : Fault} → IsTyped env e p → NotOn Negate s (p ∷ []) w → IsWrong env (negative s e) w
  in_inversion : {s : ℕ} {e : Expression} {w : Fault} → IsWrong env e w → IsWrong env (inverse s e) w
  bad_inversion : {s : ℕ} {e : Expression} {p : Operand} {w : Fault} → IsTyped env e p → NotOn Not s (p ∷ []) w → IsWrong env (inverse s e) w
  in_first : {f : Operator} {s : ℕ} {e g : Expression} {w : Fault} → IsWrong env e w → IsWrong env (binary f s e g) w
  in_second : {f : Operator} {s : ℕ} {e g : Expression} {w : Fault} → IsWrong env g w → IsWrong env (binary f s e g) w
  bad_operation : {f : Operator} {s : ℕ} {e g : Expression} {p q : Operand} {w : Fault} → IsTyped env e p → IsTyped env g q → NotOn (Infix f) s (p ∷ q ∷ []) w → IsWrong env (binary f s e g) w
  unknown_function : {x : Word} {es : Expressions} → called x.text ≡ None → IsWrong env (call x es) (unknown_name x.at)
  bad_count : {x : Word} {es : Expressions} {f : Operation} → called x.text ≡ Some f → argument_count es ≢ arity f → IsWrong env (call x es) (type_mismatch x.at)
  in_argument : {x : Word} {e : Expression} {es : Expressions} {w : Fault} → IsArgument e es → IsWrong env e w → IsWrong env (call x es) w
  bad_call : {x : Word} {es : Expressions} {f : Operation} {ps : List Operand} {w : Fault} → called x.text ≡ Some f → AreTyped env es ps → NotOn f x.at ps w → IsWrong env (call x es) w

-- what is wrong where a place asks an expression for a type
pub data IsNotAsked (env : List Symbol) (a : ElemType) (s : ℕ) (e : Expression) : Fault → Type 0 where
  in_it : {w : Fault} → IsWrong env e w → IsNotAsked env a s e w
  not_taken : {p : Operand} {w : Fault} → IsTyped env e p → NotTaken a s p w → IsNotAsked env a s e w

-- whether an operand is BOOL by itself
abbrev pub is_truth : Operand → Bool
is_truth (fixed a x) = same_type a t.Bool
is_truth operand = false

-- what is wrong where a place asks for a condition
pub data IsNoCondition (env : List Symbol) (s : ℕ) (e : Expression) : Fault → Type 0 where
  in_condition : {w : Fault} → IsWrong env e w → IsNoCondition env s e w
  no_truth : {p : Operand} → IsTyped env e p → is_truth p ≡ false → IsNoCondition env s e (type_mismatch s)

-- ---- statements

-- a name that may not be assigned
pub data IsNotAssignable (env : List Symbol) (busy : List Name) (x : Word) : Fault → Type 0 where
  unknown : found env x.text ≡ None → IsNotAssignable env busy x (unknown_name x.at)
  read_only : {v : Symbol} → found env x.text ≡ Some v → v.writable ≡ false → IsNotAssignable env busy x (not_writable x.at)
  counted_with : is_in x.text busy ≡ true → IsNotAssignable env busy x (not_writable x.at)

-- no number without a type, or one that does not fit
pub data IsNoNumber (a : ElemType) : Constant → Fault → Type 0 where
  not_fitting : {b : Bool} {n s : ℕ} → in_type a (signed b n) ≡ false → IsNoNumber a (record { value = Whole b n; at = s }) (bad_literal s)
  not_whole : {l : Literal} {s : ℕ} → is_whole l ≡ false → IsNoNumber a (record { value = l; at = s }) (bad_literal s)

pub data IsNoLabel (a : ElemType) : Label → Fault → Type 0 where
  bad_low : {l : Label} {w : Fault} → IsNoNumber a l.low w → IsNoLabel a l w
  bad_high : {l : Label} {c : Constant} {w : Fault} → l.high ≡ Some c → IsNoNumber a c w → IsNoLabel a l w

pub data SomeNoLabel (a : ElemType) : List Label → Fault → Type 0 where
  this_label : {l : Label} {ls : List Label} {w : Fault} → IsNoLabel a l w → SomeNoLabel a (l ∷ ls) w
  later_label : {l : Label} {ls : List Label} {w : Fault} → SomeNoLabel a ls w → SomeNoLabel a (l ∷ ls) w

-- a step that does not fit, or is 0
pub data IsNoStep (a : ElemType) : Constant → Fault → Type 0 where
  bad_step : {c : Constant} {w : Fault} → IsNoNumber a c w → IsNoStep a c w
  no_progress : {b : Bool} {n s : ℕ} → signed b n ≡ pos 0 → IsNoStep a (record { value = Whole b n; at = s }) (bad_literal s)

mutual
  -- what is wrong with a statement, named of any part of it where it holds
  pub data IsMisdone (env : List Symbol) : List Name → Statement → Fault → Type 0 where
    bad_target : {busy : List Name} {x : Word} {s : ℕ} {e : Expression} {w : Fault} → IsNotAssignable env busy x w → IsMisdone env busy (assign x s e) w
    whole_array : {busy : List Name} {x : Word} {s : ℕ} {e : Expression} {v : Symbol} {r : ℤ × ℤ} → found env x.text ≡ Some v → v.bounds ≡ Some r → IsMisdone env busy (assign x s e) (type_mismatch s)
    bad_value : {busy : List Name} {x : Word} {s : ℕ} {e : Expression} {v : Symbol} {w : Fault} → found env x.text ≡ Some v → IsNotAsked env v.type s e w → IsMisdone env busy (assign x s e) w
    bad_element : {busy : List Name} {x : Word} {b s : ℕ} {i e : Expression} {w : Fault} → IsNotAssignable env busy x w → IsMisdone env busy (assign_element x b i s e) w
    no_array : {busy : List Name} {x : Word} {b s : ℕ} {i e : Expression} {v : Symbol} → found env x.text ≡ Some v → v.bounds ≡ None → IsMisdone env busy (assign_element x b i s e) (type_mismatch b)
    wrong_index : {busy : List Name} {x : Word} {b s : ℕ} {i e : Expression} {w : Fault} → IsWrong env i w → IsMisdone env busy (assign_element x b i s e) w
    no_index : {busy : List Name} {x : Word} {b s : ℕ} {i e : Expression} {p : Operand} {w : Fault} → IsTyped env i p → NotInteger b p w → IsMisdone env busy (assign_element x b i s e) w
    bad_element_value : {busy : List Name} {x : Word} {b s : ℕ} {i e : Expression} {v : Symbol} {w : Fault} → found env x.text ≡ Some v → IsNotAsked env v.type s e w → IsMisdone env busy (assign_element x b i s e) w
    in_branches : {busy : List Name} {bs : Branches} {xs : Statements} {w : Fault} → SomeBranchWrong env busy bs w → IsMisdone env busy (branch bs xs) w
    in_else : {busy : List Name} {bs : Branches} {xs : Statements} {w : Fault} → SomeMisdone env busy xs w → IsMisdone env busy (branch bs xs) w
    in_selector : {busy : List Name} {s : ℕ} {e : Expression} {bs : Arms} {xs : Statements} {w : Fault} → IsWrong env e w → IsMisdone env busy (select s e bs xs) w
    bad_selector : {busy : List Name} {s : ℕ} {e : Expression} {bs : Arms} {xs : Statements} {p : Operand} {w : Fault} → IsTyped env e p → NotInteger s p w → IsMisdone env busy (select s e bs xs) w
    in_arms : {busy : List Name} {s : ℕ} {e : Expression} {bs : Arms} {xs : Statements} {p : Operand} {a : ElemType} {y : Term} {w : Fault} → IsTyped env e p → IsSelector p a y → SomeArmWrong env busy a bs w → IsMisdone env busy (select s e bs xs) w
    in_other_arm : {busy : List Name} {s : ℕ} {e : Expression} {bs : Arms} {xs : Statements} {w : Fault} → SomeMisdone env busy xs w → IsMisdone env busy (select s e bs xs) w
    bad_counter : {busy : List Name} {s : ℕ} {x : Word} {e g : Bound} {step : Option Constant} {xs : Statements} {w : Fault} → IsNotAssignable env busy x w → IsMisdone env busy (repeat s x e g step xs) w
    array_counter : {busy : List Name} {s : ℕ} {x : Word} {e g : Bound} {step : Option Constant} {xs : Statements} {v : Symbol} {r : ℤ × ℤ} → found env x.text ≡ Some v → v.bounds ≡ Some r → IsMisdone env busy (repeat s x e g step xs) (type_mismatch s)
    no_integer : {busy : List Name} {s : ℕ} {x : Word} {e g : Bound} {step : Option Constant} {xs : Statements} {v : Symbol} → found env x.text ≡ Some v → is_integer v.type ≡ false → IsMisdone env busy (repeat s x e g step xs) (type_mismatch s)
    bad_first : {busy : List Name} {s : ℕ} {x : Word} {e g : Bound} {step : Option Constant} {xs : Statements} {v : Symbol} {w : Fault} → found env x.text ≡ Some v → IsNotAsked env v.type s e.value w → IsMisdone env busy (repeat s x e g step xs) w
    bad_last : {busy : List Name} {s : ℕ} {x : Word} {e g : Bound} {step : Option Constant} {xs : Statements} {v : Symbol} {w : Fault} → found env x.text ≡ Some v → IsNotAsked env v.type s g.value w → IsMisdone env busy (repeat s x e g step xs) w
    wrong_step : {busy : List Name} {s : ℕ} {x : Word} {e g : Bound} {c : Constant} {xs : Statements} {v : Symbol} {w : Fault} → found env x.text ≡ Some v → IsNoStep v.type c w → IsMisdone env busy (repeat s x e g (Some c) xs) w
    in_iteration : {busy : List Name} {s : ℕ} {x : Word} {e g : Bound} {step : Option Constant} {xs : Statements} {w : Fault} → SomeMisdone env (busy ++ x.text ∷ []) xs w → IsMisdone env busy (repeat s x e g step xs) w

  pub data SomeMisdone (env : List Symbol) : List Name → Statements → Fault → Type 0 where
    this_one : {busy : List Name} {x : Statement} {xs : Statements} {w : Fault} → IsMisdone env busy x w → SomeMisdone env busy (statement x xs) w
    later_one : {busy : List Name} {x : Statement} {xs : Statements} {w : Fault} → SomeMisdone env busy xs w → SomeMisdone env busy (statement x xs) w

  pub data SomeBranchWrong (env : List Symbol) : List Name → Branches → Fault → Type 0 where
    bad_condition : {busy : List Name} {s : ℕ} {e : Expression} {xs : Statements} {bs : Branches} {w : Fault} → IsNoCondition env s e w → SomeBranchWrong env busy (a_branch s e xs bs) w
    in_branch : {busy : List Name} {s : ℕ} {e : Expression} {xs : Statements} {bs : Branches} {w : Fault} → SomeMisdone env busy xs w → SomeBranchWrong env busy (a_branch s e xs bs) w
    later_branch : {busy : List Name} {s : ℕ} {e : Expression} {xs : Statements} {bs : Branches} {w : Fault} → SomeBranchWrong env busy bs w → SomeBranchWrong env busy (a_branch s e xs bs) w

  pub data SomeArmWrong (env : List Symbol) : List Name → ElemType → Arms → Fault → Type 0 where
    bad_label : {busy : List Name} {a : ElemType} {ls : List Label} {xs : Statements} {bs : Arms} {w : Fault} → SomeNoLabel a ls w → SomeArmWrong env busy a (an_arm ls xs bs) w
    in_arm : {busy : List Name} {a : ElemType} {ls : List Label} {xs : Statements} {bs : Arms} {w : Fault} → SomeMisdone env busy xs w → SomeArmWrong env busy a (an_arm ls xs bs) w
    later_arm : {busy : List Name} {a : ElemType} {ls : List Label} {xs : Statements} {bs : Arms} {w : Fault} → SomeArmWrong env busy a bs w → SomeArmWrong env busy a (an_arm ls xs bs) w
