-- Tokens: IEC 61131-3 edition 3, 6.1 and 6.3 (lexical elements, literals), this project's profile.
use Rattle.std.specs.Prelude.{ℕ, List, Bool}
use Rattle.fb_words.specs.declared.mark.Mark.{Mark}
use Rattle.fb_words.specs.declared.elem_type.ElemType.{ElemType}

-- What a token is. A name is in upper case.
pub data Kind : Type 0 where
  name : (text : List ℕ) → Kind
  number : (value : ℕ) → Kind
  -- a number with the name of its type, as `INT#-5`
  typed : (type : ElemType) (negative : Bool) (size : ℕ) → Kind
  -- a TIME, as `T#1m30s`, in milliseconds
  duration : (negative : Bool) (milliseconds : ℕ) → Kind
  mark : Mark → Kind

-- a token with the places of its first byte and of the byte behind it
pub data Token : Type 0 where
  token : (kind : Kind) (start end : ℕ) → Token
