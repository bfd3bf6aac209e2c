-- Rows and what variables have at first, over the tables.
use Rattle.std.specs.Prelude.{◌≡◌, ◌↔◌, true, List, string_bytes}
use Rattle.std.specs.declared.string.String.{String}
use Rattle.std.specs.declared.alloc.Global.{Global}
use Rattle.fb_model.specs.Names.{Name}
use Rattle.fb_model.specs.Values.{Value}
use Rattle.fb_model.specs.System as book
use Rattle.fb_model.specs.System.{start_of}
use Rattle.fb_model.specs.Store.{first_input}
use Rattle.fb_model.specs.BlockTyping.{variable_of}
use Rattle.fb_model.specs.Wires as wires
use Rattle.fb_model.specs.Spans.{Span, within}
use Rattle.fb_model.specs.Ranges.{HoldsIn}
use Rattle.fb_cert.specs.declared.certificate.Certificate.{Certificate}
use Rattle.fb_flat.specs.declared.flat.Leaf.{Leaf}
use Rattle.fb_types_blocks.specs.declared.typed.Variable.{Variable}
use Rattle.fb_types_blocks.specs.Views.{declared_of}
use Rattle.fb_check_ranges.specs.Rows.{row_for}
use Rattle.fb_check_ranges.specs.Places.{SourceLies}
use Rattle.fb_model.specs.Misfits.{Begins}

-- a variable of the tables: its name, and what is declared of it
abbrev pub NamedVariable : Type 0
NamedVariable = String Global × Variable

abbrev pub entry_name : NamedVariable → Name
entry_name e = string_bytes e.0

-- the same in the book
abbrev pub shown : NamedVariable → book.Variable
shown e = variable_of (declared_of (string_bytes e.0) e.1)

-- a value lies in a row where this range does
abbrev pub IsRange : Span → Value → Type 0
IsRange s value = (r : Span) → (within s r ≡ true) ↔ HoldsIn r value

-- so it is of an input, by where it takes its value from
abbrev pub InputBegins : Certificate → Name → (Name → wires.Source) → book.Variable → Type 0
InputBegins cert path source v = Begins (row_for cert path v) v.type (first_input (source v.name) (start_of v))

-- so it is of any other variable
abbrev pub OtherBegins : Certificate → Name → book.Variable → Type 0
OtherBegins cert path v = Begins (row_for cert path v) v.type (start_of v)

-- what an input takes lies in its row
abbrev pub LinkLies : Certificate → Name → List Leaf → (Name → wires.Source) → book.Variable → Type 0
LinkLies cert path ls source v = SourceLies cert ls (row_for cert path v) (source v.name)
