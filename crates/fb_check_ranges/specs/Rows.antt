-- The rows of variables, as the tables have them.
use Rattle.std.specs.Prelude.{ℕ, List, Option, None, Some}
use Rattle.std.specs.Option.{option_map, unwrap_or}
use Rattle.fb_words.specs.declared.elem_type.ElemType.{ElemType}
use Rattle.fb_words.specs.declared.elem_type.ElemType.TheVariants as t
use Rattle.fb_model.specs.Names.{Name}
use Rattle.fb_model.specs.System.{Variable}
use Rattle.fb_model.specs.NetworkTyping.{variable_named}
use Rattle.fb_model.specs.Wires.{Kind, Charted, Serviced}
use Rattle.fb_model.specs.Spans.{Span, whole}
use Rattle.fb_model.specs.Clear.{Spans}
use Rattle.fb_model.specs.Ranges.{variables}
use Rattle.fb_cert.specs.declared.certificate.Certificate.{Certificate}
use Rattle.fb_cert.specs.Views.{first_at, rows_of}
use Rattle.fb_flat.specs.Sites.{dotted}

-- the row of a variable of a name and a type, and where there is none all numbers of the type
abbrev pub row_in : Certificate → Name → Name → ElemType → Span
row_in cert path x a = unwrap_or (first_at (dotted path x) (rows_of cert).ranges) (whole a)

abbrev pub row_for : Certificate → Name → Variable → Span
row_for cert path v = row_in cert path v.name v.type

-- the type of the variable of a name
abbrev pub type_in : List Variable → Name → Option ElemType
type_in vs x = option_map (λ (v : Variable). v.type) (variable_named vs x)

-- the row of what has a type, and all numbers of LINT for what is no variable
abbrev pub typed_row : Certificate → Name → Name → Option ElemType → Span
typed_row cert path x None = whole t.Lint
typed_row cert path x (Some a) = row_in cert path x a

abbrev pub numbers_in : Option ElemType → Span
numbers_in None = whole t.Lint
numbers_in (Some a) = whole a

-- the rows of the variables of a leaf, whose path is one text
abbrev pub rows_in : Certificate → Name → Kind → Spans
rows_in cert path (Charted block) x = typed_row cert path x (type_in (variables (Charted block)) x)
rows_in cert path (Serviced service) x = numbers_in (type_in (variables (Serviced service)) x)
