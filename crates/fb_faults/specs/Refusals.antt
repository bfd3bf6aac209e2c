-- The numbers of refusals, and how they are printed: this project's profile.
use Rattle.std.specs.Prelude.{ℕ, List, ◌++◌, codes, string_bytes}
use Rattle.std.specs.Fmt.{decimal}
use Rattle.fb_faults.specs.Texts as text
use Rattle.fb_faults.specs.Typings as types
use Rattle.fb_faults.specs.Certificates as cert
use Rattle.fb_faults.specs.declared.text.TextFault.{TextFault}
use Rattle.fb_faults.specs.declared.text.TextFault.TheVariants as texts
use Rattle.fb_faults.specs.declared.typing.TypeFault.{TypeFault}
use Rattle.fb_faults.specs.declared.typing.TypeFault.TheVariants as faults
use Rattle.fb_faults.specs.declared.certificate.CertFault.{CertFault}
use Rattle.fb_faults.specs.declared.certificate.CertFault.TheVariants as certs
use Rattle.fb_faults.specs.declared.row.RowFault.{RowFault}
use Rattle.fb_faults.specs.declared.row.RowFault.TheVariants as rows
use Rattle.fb_faults.specs.declared.unclear.Unclear.{Unclear}
use Rattle.fb_faults.specs.declared.unclear.Unclear.TheVariants as unclear
use Rattle.fb_faults.specs.declared.shortfall.Shortfall.{Shortfall}
use Rattle.fb_faults.specs.declared.shortfall.Shortfall.TheVariants as short
use Rattle.fb_faults.specs.declared.shallow.Shallow.{Shallow}
use Rattle.fb_faults.specs.declared.shallow.Shallow.TheVariants as shallow
use Rattle.fb_faults.specs.declared.refusal.Refusal.{Refusal}
use Rattle.fb_faults.specs.declared.refusal.Refusal.TheVariants.{OutOfMemory, Text, Typing, Certificate, UnknownRow, MissingRow, UnknownChannel, MissingChannel, RangeStart, RangeLink, RangeKept, IndexOrDivisor, Charge, Weight, Depth, Far, Channel}

abbrev pub code_of : Refusal → ℕ
code_of OutOfMemory = 9
code_of (Text fault) = text.code_of fault
code_of (Typing fault) = types.code_of fault
code_of (Certificate fault) = cert.code_of fault
code_of (UnknownRow path) = 32
code_of (MissingRow path) = 33
code_of (UnknownChannel number) = 32
code_of (MissingChannel number) = 33
code_of (RangeStart path) = 34
code_of (RangeLink path) = 35
code_of (RangeKept path) = 36
code_of (IndexOrDivisor path) = 37
code_of (Charge path) = 38
code_of (Weight path) = 39
code_of (Depth path) = 40
code_of (Far path) = 41
code_of (Channel number) = 42

-- the code and the place, where there is one
abbrev pub line_of : Refusal → List ℕ
line_of OutOfMemory = codes "9"
line_of (Text fault) = text.line_of fault
line_of (Typing fault) = types.line_of fault
line_of (Certificate fault) = cert.line_of fault
line_of (UnknownRow path) = codes "32 " ++ string_bytes path
line_of (MissingRow path) = codes "33 " ++ string_bytes path
line_of (UnknownChannel number) = codes "32 " ++ decimal number
line_of (MissingChannel number) = codes "33 " ++ decimal number
line_of (RangeStart path) = codes "34 " ++ string_bytes path
line_of (RangeLink path) = codes "35 " ++ string_bytes path
line_of (RangeKept path) = codes "36 " ++ string_bytes path
line_of (IndexOrDivisor path) = codes "37 " ++ string_bytes path
line_of (Charge path) = codes "38 " ++ string_bytes path
line_of (Weight path) = codes "39 " ++ string_bytes path
line_of (Depth path) = codes "40 " ++ string_bytes path
line_of (Far path) = codes "41 " ++ string_bytes path
line_of (Channel number) = codes "42 " ++ decimal number

-- how the faults of the layers below are told: want of memory is one refusal
abbrev pub of_text : TextFault → Refusal
of_text texts.OutOfMemory = OutOfMemory
of_text other = Text other

abbrev pub of_type : TypeFault → Refusal
of_type faults.OutOfMemory = OutOfMemory
of_type other = Typing other

abbrev pub of_certificate : CertFault → Refusal
of_certificate certs.OutOfMemory = OutOfMemory
of_certificate other = Certificate other

abbrev pub of_row : RowFault → Refusal
of_row rows.OutOfMemory = OutOfMemory
of_row (rows.Unknown path) = UnknownRow path
of_row (rows.Missing path) = MissingRow path
of_row (rows.UnknownChannel number) = UnknownChannel number
of_row (rows.MissingChannel number) = MissingChannel number

abbrev pub of_unclear : Unclear → Refusal
of_unclear unclear.OutOfMemory = OutOfMemory
of_unclear (unclear.Start path) = RangeStart path
of_unclear (unclear.Link path) = RangeLink path
of_unclear (unclear.Kept path) = RangeKept path
of_unclear (unclear.IndexOrDivisor path) = IndexOrDivisor path

abbrev pub of_shortfall : Shortfall → Refusal
of_shortfall short.OutOfMemory = OutOfMemory
of_shortfall (short.Charge path) = Charge path
of_shortfall (short.Weight path) = Weight path
of_shortfall (short.Channel number) = Channel number

-- over the network, states and events are told alike
abbrev pub of_far : Shortfall → Refusal
of_far short.OutOfMemory = OutOfMemory
of_far (short.Charge path) = Far path
of_far (short.Weight path) = Far path
of_far (short.Channel number) = Channel number

abbrev pub of_shallow : Shallow → Refusal
of_shallow shallow.OutOfMemory = OutOfMemory
of_shallow (shallow.Depth path) = Depth path
