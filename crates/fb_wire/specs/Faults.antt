-- How the faults of datagrams are printed: this project's profile.
use Rattle.std.specs.Prelude.{ℕ, List, codes}
use Rattle.fb_wire.specs.declared.fault.WireFault.{WireFault}
use Rattle.fb_wire.specs.declared.fault.WireFault.TheVariants.{Short, Magic, Version, Kind, Count, TypeCode, Value, Trailing}

-- the code, and which fault it is
abbrev pub line_of : WireFault → List ℕ
line_of Short = codes "55 Short"
line_of Magic = codes "55 Magic"
line_of Version = codes "55 Version"
line_of Kind = codes "55 Kind"
line_of Count = codes "55 Count"
line_of TypeCode = codes "55 TypeCode"
line_of Value = codes "55 Value"
line_of Trailing = codes "55 Trailing"
