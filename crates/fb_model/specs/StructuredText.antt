-- Source trees of Structured Text, without where they lie in memory. A number after a word is the place of its token.
-- IEC 61131-3 edition 3, 7.3 (Structured Text), this project's profile.
use Rattle.std.specs.Prelude.{ℕ, List, [], ◌∷◌, Bool, Option}
use Rattle.fb_words.specs.declared.operator.Operator.{Operator}
use Rattle.fb_model.specs.Productions.{Word}
use Rattle.fb_model.specs.Trees.{Constant}

-- ---- expressions

mutual
  pub data Expression : Type 0 where
    literal : Constant → Expression
    variable : Word → Expression
    -- an element of an array, with the place of its `[`
    element : Word → (at : ℕ) → Expression → Expression
    call : Word → Expressions → Expression
    -- unary minus, and NOT
    negative : (at : ℕ) → Expression → Expression
    inverse : (at : ℕ) → Expression → Expression
    binary : Operator → (at : ℕ) → Expression → Expression → Expression

  pub data Expressions : Type 0 where
    no_expression : Expressions
    expression : Expression → Expressions → Expressions

abbrev pub expressions : List Expression → Expressions
expressions [] = no_expression
expressions (x ∷ xs) = expression x (expressions xs)

-- an operator with its place, and its second operand
abbrev pub Link : Type 0
Link = Operator × ℕ × Expression

-- operators of one level group to the left
abbrev pub grouped : Expression → List Link → Expression
grouped x [] = x
grouped x (l ∷ ls) = grouped (binary l.0 l.1 x l.2) ls

-- ---- statements

-- a number by which an arm of a CASE is chosen, or all numbers from one to another
pub record Label : Type 0 where
  pub low : Constant
  pub high : Option Constant

-- the first or the last value of a FOR, and whether it is spelled as a number without a type
pub record Bound : Type 0 where
  pub value : Expression
  pub plain : Bool

mutual
  pub data Statement : Type 0 where
    -- an assignment, with the place of its `:=`
    assign : Word → (at : ℕ) → Expression → Statement
    -- and to an element, with the place of its `[` as well
    assign_element : Word → (bracket : ℕ) → Expression → (at : ℕ) → Expression → Statement
    -- IF, with what is done where no condition holds
    branch : Branches → Statements → Statement
    -- CASE, with what is done where no label has the value
    select : (at : ℕ) → Expression → Arms → Statements → Statement
    -- FOR, from a first value to a last one
    repeat : (at : ℕ) → Word → Bound → Bound → Option Constant → Statements → Statement

  pub data Statements : Type 0 where
    no_statement : Statements
    statement : Statement → Statements → Statements

  -- conditions with the places of their IF or ELSIF, and what is done where one holds
  pub data Branches : Type 0 where
    no_branch : Branches
    a_branch : (at : ℕ) → Expression → Statements → Branches → Branches

  pub data Arms : Type 0 where
    no_arm : Arms
    an_arm : List Label → Statements → Arms → Arms

abbrev pub statements : List Statement → Statements
statements [] = no_statement
statements (x ∷ xs) = statement x (statements xs)

-- a condition and what is done where it holds
abbrev pub Branch : Type 0
Branch = ℕ × Expression × Statements

abbrev pub branches : List Branch → Branches
branches [] = no_branch
branches (b ∷ bs) = a_branch b.0 b.1 b.2 (branches bs)

abbrev pub Arm : Type 0
Arm = List Label × Statements

abbrev pub arms : List Arm → Arms
arms [] = no_arm
arms (a ∷ rest) = an_arm a.0 a.1 (arms rest)
