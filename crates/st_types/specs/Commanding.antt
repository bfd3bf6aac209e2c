-- The command that a statement is, or why it is none, reckoned from its parts.
use Rattle.std.specs.Prelude.{ℕ, ℤ, pos, int_le, Bool, true, false, ◌&&◌, cond, List, [], ◌∷◌, ◌++◌, Option, None, Some, Result, Ok, Err}
use Rattle.fb_words.specs.declared.elem_type.ElemType.{ElemType}
use Rattle.fb_model.specs.Names.{Name, is_in}
use Rattle.fb_model.specs.Spelling.{is_integer}
use Rattle.fb_model.specs.Values.{signed, in_type}
use Rattle.fb_model.specs.Productions.{Word}
use Rattle.fb_model.specs.Trees.{Literal, Whole, Constant}
use Rattle.fb_model.specs.StructuredText.{Label, Bound, Statement, assign, assign_element, branch, select, repeat, Statements, no_statement, statement, Branches, no_branch, a_branch, Branch, Arms, no_arm, an_arm, Arm}
use Rattle.fb_model.specs.TypedText.{Term, Command, set, set_part, choose, match_on, count, Commands, done, then_do, Choices, no_choice, choice, Cases, no_case, a_case}
use Rattle.fb_model.specs.TextTyping.{Symbol}
use Rattle.fb_model.specs.TextFaults.{Fault, type_mismatch, bad_literal, not_writable}
use Rattle.st_types.specs.Elaborating.{◌>>=◌, known, bounds_by, integer_of, typed, asked, condition}

-- ---- what is assigned

abbrev pub idle_by : ℕ → Symbol → Bool → Result Symbol Fault
idle_by s v true = Err (not_writable s)
idle_by s v false = Ok v

-- a variable that may be assigned
abbrev pub assignable : List Symbol → List Name → Word → Result Symbol Fault
assignable env busy x = known env x.text x.at >>= λ v. cond v.writable (idle_by x.at v (is_in x.text busy)) (Err (not_writable x.at))

-- the type of a variable that is no array, at a place
abbrev pub scalar_by : ℕ → ElemType → Option (ℤ × ℤ) → Result ElemType Fault
scalar_by s a None = Ok a
scalar_by s a (Some b) = Err (type_mismatch s)

abbrev pub scalar : ℕ → Symbol → Result ElemType Fault
scalar s v = scalar_by s v.type v.bounds

-- and an integer
abbrev pub counter : ℕ → Symbol → Result ElemType Fault
counter s v = scalar s v >>= λ a. cond (is_integer a) (Ok a) (Err (type_mismatch s))

-- ---- numbers

-- a number without a type, which has to fit one
abbrev pub number_by : ElemType → ℕ → Literal → Result ℤ Fault
number_by a s (Whole b n) = cond (in_type a (signed b n)) (Ok (signed b n)) (Err (bad_literal s))
number_by a s other = Err (bad_literal s)

abbrev pub number_of : ElemType → Constant → Result ℤ Fault
number_of a c = number_by a c.at c.value

abbrev pub high_of : ElemType → ℤ → Option Constant → Result ℤ Fault
high_of a n None = Ok n
high_of a n (Some c) = number_of a c

abbrev pub label_of : ElemType → Label → Result (ℤ × ℤ) Fault
label_of a l = number_of a l.low >>= λ n. high_of a n l.high >>= λ m. Ok (n, m)

abbrev pub labels_of : ElemType → List Label → Result (List (ℤ × ℤ)) Fault
labels_of a [] = Ok []
labels_of a (l ∷ ls) = label_of a l >>= λ r. labels_of a ls >>= λ rs. Ok (r ∷ rs)

abbrev pub is_nought : ℤ → Bool
is_nought n = int_le n (pos 0) && int_le (pos 0) n

-- the step of a FOR
abbrev pub step_of : ElemType → Option Constant → Result ℤ Fault
step_of a None = Ok (pos 1)
step_of a (Some c) = number_of a c >>= λ n. cond (is_nought n) (Err (bad_literal c.at)) (Ok n)

-- how a FOR counts
pub record Counted : Type 0 where
  pub variable : Name
  pub type : ElemType
  pub first : Term
  pub last : Term
  pub step : ℤ
  pub plain : Bool

abbrev pub counted : List Symbol → List Name → ℕ → Word → Bound → Bound → Option Constant → Result Counted Fault
counted env busy s x e g step =
    assignable env busy x >>= λ v. counter s v >>= λ a. asked env a s e.value >>= λ y. asked env a s g.value >>= λ z. step_of a step >>= λ n.
    Ok (record { variable = x.text; type = a; first = y; last = z; step = n; plain = e.plain && g.plain })

-- ---- statements

abbrev mutual
  pub commanded : List Symbol → List Name → Statement → Result Command Fault
  commanded env busy (assign x s e) = assignable env busy x >>= λ v. scalar s v >>= λ a. asked env a s e >>= λ y. Ok (set x.text y)
  commanded env busy (assign_element x b i s e) =
      assignable env busy x >>= λ v. bounds_by b v.bounds >>= λ r. typed env i >>= λ p. integer_of b p >>= λ j. asked env v.type s e >>= λ y. Ok (set_part x.text r.0 r.1 j.1 y)
  commanded env busy (branch bs xs) = chosen env busy bs >>= λ cs. all_commanded env busy xs >>= λ c. Ok (choose cs c)
  commanded env busy (select s e bs xs) = typed env e >>= λ p. integer_of s p >>= λ y. cased env busy y.0 bs >>= λ cs. all_commanded env busy xs >>= λ c. Ok (match_on y.1 cs c)
  commanded env busy (repeat s x e g step xs) =
      counted env busy s x e g step >>= λ k. all_commanded env (busy ++ x.text ∷ []) xs >>= λ c. Ok (count k.variable k.type k.first k.last k.step k.plain c)

  pub all_commanded : List Symbol → List Name → Statements → Result Commands Fault
  all_commanded env busy no_statement = Ok done
  all_commanded env busy (statement x xs) = commanded env busy x >>= λ c. all_commanded env busy xs >>= λ cs. Ok (then_do c cs)

  pub chosen : List Symbol → List Name → Branches → Result Choices Fault
  chosen env busy no_branch = Ok no_choice
  chosen env busy (a_branch s e xs bs) = condition env s e >>= λ y. all_commanded env busy xs >>= λ c. chosen env busy bs >>= λ cs. Ok (choice y c cs)

  pub cased : List Symbol → List Name → ElemType → Arms → Result Cases Fault
  cased env busy a no_arm = Ok no_case
  cased env busy a (an_arm ls xs bs) = labels_of a ls >>= λ rs. all_commanded env busy xs >>= λ c. cased env busy a bs >>= λ cs. Ok (a_case rs c cs)

-- one condition, with what is done where it holds
abbrev pub one_chosen : List Symbol → List Name → Branch → Result (Term × Commands) Fault
one_chosen env busy b = condition env b.0 b.1 >>= λ y. all_commanded env busy b.2 >>= λ c. Ok (y, c)

-- one arm
abbrev pub one_cased : List Symbol → List Name → ElemType → Arm → Result (List (ℤ × ℤ) × Commands) Fault
one_cased env busy a arm = labels_of a arm.0 >>= λ rs. all_commanded env busy arm.1 >>= λ c. Ok (rs, c)
