-- Source trees of texts, without where they lie in memory. A number after a word is the place of its token.
-- IEC 61499-1 edition 2, annex B (textual syntax), this project's profile.
use Rattle.std.specs.Prelude.{ℕ, List, Bool, Option}
use Rattle.fb_words.specs.declared.elem_type.ElemType.{ElemType}
use Rattle.fb_model.specs.Productions.{Word}

pub data Literal : Type 0 where
  -- a number without a type, with a `-` directly before it or not
  Whole : (negative : Bool) (size : ℕ) → Literal
  Typed : (type : ElemType) (negative : Bool) (size : ℕ) → Literal
  Duration : (negative : Bool) (milliseconds : ℕ) → Literal
  Truth : (value : Bool) → Literal

pub record Constant : Type 0 where
  pub value : Literal
  pub at : ℕ

-- an algorithm to run and an event output to emit
pub record ActionTree : Type 0 where
  pub algorithm : Option Word
  pub output : Option Word

pub record StateTree : Type 0 where
  pub name : Word
  pub actions : List ActionTree

-- a parameter, with the place of its `:=`
pub record ParameterTree : Type 0 where
  pub name : Word
  pub at : ℕ
  pub value : Constant

-- an own port, or an instance and its port
pub record PortTree : Type 0 where
  pub first : Word
  pub second : Option Word

-- a connection, with the place of its TO
pub record ConnectionTree : Type 0 where
  pub source : PortTree
  pub at : ℕ
  pub target : PortTree
