-- What is at fault with bytes that spell no message: the first field, from the left, that is not whole or not right.
-- This project's profile.
use Rattle.std.specs.Prelude.{ℕ, zero, suc, ◌+◌, ◌==◌, nat_lt, nat_le, ℤ, length, take, drop, slice_index_or, Bool, true, false, ◌&&◌, ◌||◌, ◌++◌, List, [], ◌∷◌, Option, Some, None, if◌then◌else◌}
use Rattle.std.specs.Int.{w64, cast_signed, from_be_bytes}
use Rattle.fb_words.specs.declared.elem_type.ElemType.{ElemType}
use Rattle.fb_words.specs.declared.elem_type.ElemType.TheVariants as t
use Rattle.fb_model.specs.Values.{in_type}

pub data Fault : Type 0 where
  -- the field is not whole
  Short : Fault
  -- the first two bytes are not `FB`
  Magic : Fault
  -- the version is neither 1 nor 2
  Version : Fault
  -- the message is for neither a channel nor an INPUT, or is stamped and for an INPUT
  Kind : Fault
  -- more than 16 values are announced
  Count : Fault
  -- no type has this code
  TypeCode : Fault
  -- the value is not in its type
  Value : Fault
  -- something follows the last value
  Trailing : Fault

-- a field: how many bytes it has, which of them are right, and the fault of others
pub record Field : Type 0 where
  pub width : ℕ
  pub is_right : List ℕ → Bool
  pub fault : Fault

-- the fault of the first field that is not whole or not right; what follows the last is one too
abbrev pub first_fault : List Field → List ℕ → Option Fault
first_fault [] [] = None
first_fault [] (b ∷ bs) = Some Trailing
first_fault (f ∷ fs) bs = if nat_lt (length bs) f.width then Some Short else if f.is_right (take f.width bs) then first_fault fs (drop f.width bs) else Some f.fault

abbrev pub byte : List ℕ → ℕ → ℕ
byte bs k = slice_index_or bs k 0

-- the type of a code
abbrev pub type_of : ℕ → Option ElemType
type_of n =
    if n == 0 then Some t.Bool
    else if n == 1 then Some t.Sint
    else if n == 2 then Some t.Int
    else if n == 3 then Some t.Dint
    else if n == 4 then Some t.Lint
    else if n == 5 then Some t.Usint
    else if n == 6 then Some t.Uint
    else if n == 7 then Some t.Udint
    else if n == 8 then Some t.Time
    else None

-- eight bytes as a number, in two's complement, high byte first
abbrev pub number_in : List ℕ → ℤ
number_in bs = cast_signed w64 (from_be_bytes w64 bs)

abbrev pub is_in : Option ElemType → ℤ → Bool
is_in None v = true
is_in (Some type) v = in_type type v

abbrev pub is_type : Option ElemType → Bool
is_type None = false
is_type (Some type) = true

-- `FB`
abbrev pub mark : Field
mark = record { width = 2; is_right = λ bs. (byte bs 0 == 70) && (byte bs 1 == 66); fault = Magic }

abbrev pub version : Field
version = record { width = 1; is_right = λ bs. (byte bs 0 == 1) || (byte bs 0 == 2); fault = Version }

-- what the message is for: 1 a channel, 2 an INPUT, to which no message of version 2 goes
abbrev pub kind : ℕ → Field
kind v = record { width = 1; is_right = λ bs. (byte bs 0 == 1) || ((byte bs 0 == 2) && (v == 1)); fault = Kind }

-- the number of the channel or INPUT, which is right whatever it is
abbrev pub number : Field
number = record { width = 2; is_right = λ bs. true; fault = Short }

-- how many values follow
abbrev pub count : Field
count = record { width = 1; is_right = λ bs. nat_le (byte bs 0) 16; fault = Count }

-- a number of a stamp, which is right whatever it is
abbrev pub stamping : Field
stamping = record { width = 4; is_right = λ bs. true; fault = Short }

-- the boot and the sequence number, in version 2
abbrev pub stamp : ℕ → List Field
stamp v = if v == 2 then stamping ∷ stamping ∷ [] else []

-- the fields before the values, in a version
abbrev pub head : ℕ → List Field
head v = mark ∷ version ∷ kind v ∷ number ∷ stamp v ++ count ∷ []

-- how many bytes stand before the count of values
abbrev pub before_count : ℕ → ℕ
before_count v = if v == 2 then 14 else 6

-- the code of a type, and a value of the type
abbrev pub code : Field
code = record { width = 1; is_right = λ bs. is_type (type_of (byte bs 0)); fault = TypeCode }

abbrev pub value : Option ElemType → Field
value type = record { width = 8; is_right = λ bs. is_in type (number_in bs); fault = Value }

-- so many values with their types
abbrev pub values_in : ℕ → List ℕ → List Field
values_in zero bs = []
values_in (suc n) bs = code ∷ value (type_of (byte bs 0)) ∷ values_in n (drop 9 bs)

-- the fields of a datagram, by its version, which is its third byte, and its count of values
abbrev pub fields : List ℕ → List Field
fields bs = let v = byte bs 2 in head v ++ values_in (byte bs (before_count v)) (drop (before_count v + 1) bs)

-- what is at fault with bytes that are no message
abbrev pub fault_in : List ℕ → Option Fault
fault_in bs = first_fault (fields bs) bs
