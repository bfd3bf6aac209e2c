-- Typed Structured Text: expressions whose operations have types, and statements over them.
-- IEC 61131-3 edition 3, 7.3 (Structured Text), this project's profile.
use Rattle.std.specs.Prelude.{ℤ, Bool, List}
use Rattle.fb_words.specs.declared.elem_type.ElemType.{ElemType}
use Rattle.fb_words.specs.declared.operator.Operation.{Operation}
use Rattle.fb_model.specs.Names.{Name}

-- ---- expressions

pub data Term : Type 0 where
  constant : (value : ℤ) → Term
  read : (variable : Name) → Term
  -- an element of an array, with its lowest and its highest index
  part : (variable : Name) (low high : ℤ) (index : Term) → Term
  -- an operation on one operand or two, with the type to which these are brought
  single : Operation → ElemType → Term → Term
  double : Operation → ElemType → Term → Term → Term

-- ---- statements

mutual
  pub data Command : Type 0 where
    set : (variable : Name) (value : Term) → Command
    set_part : (variable : Name) (low high : ℤ) (index value : Term) → Command
    -- IF, with what is done where no condition holds
    choose : Choices → Commands → Command
    -- CASE, with what is done where no label has the value
    match_on : (selector : Term) → Cases → Commands → Command
    -- FOR. Plain says that both bounds are spelled as numbers without a type
    count : (variable : Name) (type : ElemType) (first last : Term) (step : ℤ) (plain : Bool) → Commands → Command

  pub data Commands : Type 0 where
    done : Commands
    then_do : Command → Commands → Commands

  pub data Choices : Type 0 where
    no_choice : Choices
    choice : (condition : Term) → Commands → Choices → Choices

  -- labels are numbers from one to another
  pub data Cases : Type 0 where
    no_case : Cases
    a_case : (labels : List (ℤ × ℤ)) → Commands → Cases → Cases
