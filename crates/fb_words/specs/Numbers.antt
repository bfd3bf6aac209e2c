-- Which numbers a type has, and two's complement: IEC 61131-3 edition 3, 6.4.2 (elementary data types), this project's profile.
use Rattle.std.specs.Prelude.{ℕ, ◌^◌, ℤ, pos, negsuc, ◌-ℤ◌, int_le, int_lt, Bool, ◌&&◌, if◌then◌else◌}
use Rattle.std.specs.Int.{int_rem_euclid}
use Rattle.fb_words.specs.declared.elem_type.ElemType.{ElemType}
use Rattle.fb_words.specs.declared.elem_type.ElemType.TheVariants as t

abbrev pub lowest : ElemType → ℤ
lowest t.Bool = pos 0
lowest t.Sint = negsuc 127
lowest t.Int = negsuc 32767
lowest t.Dint = negsuc 2147483647
lowest t.Lint = negsuc 9223372036854775807
lowest t.Usint = pos 0
lowest t.Uint = pos 0
lowest t.Udint = pos 0
lowest t.Time = negsuc 9223372036854775807

abbrev pub highest : ElemType → ℤ
highest t.Bool = pos 1
highest t.Sint = pos 127
highest t.Int = pos 32767
highest t.Dint = pos 2147483647
highest t.Lint = pos 9223372036854775807
highest t.Usint = pos 255
highest t.Uint = pos 65535
highest t.Udint = pos 4294967295
highest t.Time = pos 9223372036854775807

abbrev pub in_type : ElemType → ℤ → Bool
in_type type v = int_le (lowest type) v && int_le v (highest type)

-- how many values a type has
abbrev pub size : ElemType → ℕ
size t.Bool = 2
size t.Sint = 2 ^ 8
size t.Int = 2 ^ 16
size t.Dint = 2 ^ 32
size t.Lint = 2 ^ 64
size t.Usint = 2 ^ 8
size t.Uint = 2 ^ 16
size t.Udint = 2 ^ 32
size t.Time = 2 ^ 64

abbrev pub seated : ElemType → ℤ → ℤ
seated a r = if int_lt (highest a) r then r -ℤ pos (size a) else r

-- two's complement: the value of a type that differs from a number by a multiple of the type's size
unfoldable pub wrapped : ElemType → ℤ → ℤ
wrapped a z = seated a (int_rem_euclid z (pos (size a)))
