-- Messages in the terms of the book.
use Rattle.std.specs.Prelude.{ℕ, ◌≡◌, ◌<◌, ◌/◌, ◌%◌, ◌^◌, List, [], ◌∷◌, ◌++◌, Option, None, Some}
use Rattle.std.specs.Int.{w64, cast_unsigned, to_be_bytes}
use Rattle.fb_words.specs.declared.elem_type.ElemType.{ElemType}
use Rattle.fb_model.specs.Messages as book
use Rattle.fb_model.specs.Fields as book_fault
use Rattle.fb_wire.specs.declared.fault.WireFault.{WireFault}
use Rattle.fb_wire.specs.declared.fault.WireFault.TheVariants.{Short, Magic, Version, Kind, Count, TypeCode, Value, Trailing}
use Rattle.fb_wire.specs.declared.message.Purpose.{Purpose}
use Rattle.fb_wire.specs.declared.message.Purpose.TheVariants.{ToChannel, ToInput}
use Rattle.fb_wire.specs.declared.message.Stamp.{Stamp}
use Rattle.fb_wire.specs.declared.message.Typed.{Typed}

abbrev pub purpose_of : Purpose → book.Purpose
purpose_of ToChannel = book.To_channel
purpose_of ToInput = book.To_input

abbrev pub stamped_of : Stamp → book.Stamp
stamped_of s = record { boot = s.boot; sequence = s.sequence }

abbrev pub stamp_of : Option Stamp → Option book.Stamp
stamp_of None = None
stamp_of (Some s) = Some (stamped_of s)

abbrev pub typed_of : Typed → book.Typed
typed_of v = record { type = v.elem; value = v.value }

abbrev pub purpose_code : Purpose → ℕ
purpose_code p = book.purpose_code (purpose_of p)

abbrev pub code_of : ElemType → ℕ
code_of type = book.code type

abbrev pub fault_of : WireFault → book_fault.Fault
fault_of Short = book_fault.Short
fault_of Magic = book_fault.Magic
fault_of Version = book_fault.Version
fault_of Kind = book_fault.Kind
fault_of Count = book_fault.Count
fault_of TypeCode = book_fault.TypeCode
fault_of Value = book_fault.Value
fault_of Trailing = book_fault.Trailing

-- a value: the code of its type, and eight bytes in two's complement, high byte first
abbrev pub value_bytes : Typed → List ℕ
value_bytes v = code_of v.elem ∷ to_be_bytes w64 (cast_unsigned w64 v.value)

abbrev pub all_bytes : List Typed → List ℕ
all_bytes [] = []
all_bytes (v ∷ vs) = value_bytes v ++ all_bytes vs

-- what stands behind the version: what a message is for, its number, and its stamp
abbrev pub aim_bytes : book.Message → List ℕ
aim_bytes m = book.purpose_code m.purpose ∷ m.number / 256 ∷ m.number % 256 ∷ book.stamp_bytes m.stamp

-- what stands before the values, which are so many
abbrev pub head_bytes : book.Message → ℕ → List ℕ
head_bytes m count = 70 ∷ 66 ∷ book.version m.stamp ∷ aim_bytes m ++ count ∷ []

-- a message to which no value was added
abbrev pub IsBegun : book.Message → Type 0
IsBegun m = (m.number < 2 ^ 16) × book.IsStamped m.purpose m.stamp × (m.values ≡ [])
