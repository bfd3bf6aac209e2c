-- The finder's ranges of a device's leaves while its rounds go on: in order, and by the names of variables. What a round makes of them.
use Rattle.std.specs.Prelude.{◌≡◌, ℕ, ◌+◌, nat_le, List, [], ◌∷◌, map, Option, None, Some, if◌then◌else◌}
use Rattle.fb_words.specs.declared.elem_type.ElemType.{ElemType}
use Rattle.fb_words.specs.declared.elem_type.ElemType.TheVariants as t
use Rattle.fb_model.specs.Names.{Name, Path, path_eq, is_in}
use Rattle.fb_model.specs.Values.{numbers_of}
use Rattle.fb_model.specs.System.{Variable, Procedure, start_of}
use Rattle.fb_model.specs.Wires.{Source, Output_of, Constant, Kind, Charted, Serviced, Leaf}
use Rattle.fb_model.specs.Store.{variable_names, inputs, first_input}
use Rattle.fb_model.specs.Spans.{Span, whole, joined}
use Rattle.fb_model.specs.Clear.{Spans, changed}
use Rattle.fb_model.specs.Ranges.{variables}
use Rattle.fb_model.specs.Certificates.{is_boolean}
use Rattle.fb_model.specs.Asking.{grown}
use Rattle.fb_model.specs.FinderRanges.{held, widened}
use Rattle.fb_check_ranges.specs.Rows.{type_in, numbers_in}

-- ---- rows in order

-- a variable, and its range
pub record Line : Type 0 where
  pub name : Name
  pub type : ElemType
  pub range : Span

abbrev pub line : Name → ElemType → Span → Line
line x a r = record { name = x; type = a; range = r }

-- a BOOL has all values of its type
abbrev pub line_by : (Variable → Span) → Variable → Line
line_by f v = line v.name v.type (if is_boolean v.type then whole v.type else f v)

-- a service has no lines
abbrev pub lines_by : (Variable → Span) → Kind → List Line
lines_by f (Charted block) = map (line_by f) (variables (Charted block))
lines_by f (Serviced service) = []

-- a leaf with its lines
pub record Lined : Type 0 where
  pub leaf : Leaf
  pub lines : List Line

abbrev pub lined : Leaf → List Line → Lined
lined leaf ls = record { leaf = leaf; lines = ls }

-- ---- at first

-- the range of what a variable has at first, by the inputs of its block and their sources
abbrev pub first_from : List Variable → (Name → Source) → Variable → Span
first_from ins source v = held (numbers_of (if is_in v.name (variable_names ins) then first_input (source v.name) (start_of v) else start_of v))

abbrev pub first_lined : Leaf → Lined
first_lined leaf = lined leaf (lines_by (first_from (inputs leaf.kind) leaf.source) leaf.kind)

-- ---- by names

abbrev pub line_names : List Line → List Name
line_names ls = map (λ (l : Line). l.name) ls

-- the ranges of lines that are put one after another
abbrev pub put : List Line → Spans → Spans
put [] spans = spans
put (l ∷ ls) spans = put ls (changed l.name (λ r. l.range) spans)

-- all numbers of LINT for what is no variable
abbrev pub spans_by : List Line → Spans
spans_by ls = put ls (λ x. whole t.Lint)

-- a leaf with its lines, also by their names
pub record Tabled : Type 0 where
  pub leaf : Leaf
  pub lines : List Line
  pub spans : Spans

abbrev pub tabled : Lined → Tabled
tabled s = record { leaf = s.leaf; lines = s.lines; spans = spans_by s.lines }

-- ---- what is asked

-- the first leaf of a path
abbrev pub tabled_at : List Tabled → Path → Option Tabled
tabled_at [] path = None
tabled_at (t ∷ ts) path = if path_eq t.leaf.path path then Some t else tabled_at ts path

-- the range of an output: of a service all numbers of its type
abbrev pub given : Kind → Spans → Name → Span
given (Charted block) spans y = spans y
given (Serviced service) spans y = numbers_in (type_in (variables (Serviced service)) y)

-- a range, and that of the output that it takes
abbrev pub fed_in : List Tabled → Source → Span → Span
fed_in ts (Output_of from y) r = elim (tabled_at ts from) [ None ↦ r | Some t ↦ joined r (given t.leaf.kind t.spans y) ]
fed_in ts (Constant value) r = r

-- what each algorithm asks
abbrev pub all_grown : Spans → List Procedure → List Spans
all_grown spans ps = map (λ (p : Procedure). grown spans p.algorithm) ps

abbrev pub grown_by : Spans → Kind → List Spans
grown_by spans (Charted block) = all_grown spans block.procedures
grown_by spans (Serviced service) = []

-- a range, joined to those of a name
abbrev pub joined_all : List Spans → Name → Span → Span
joined_all [] x r = r
joined_all (s ∷ ss) x r = joined_all ss x (joined r (s x))

-- joined to the ranges of variables, these are what algorithms ask under them
abbrev pub IsAsked : Spans → List Spans → Spans → Type 0
IsAsked asked all spans = (x : Name) → joined (asked x) (spans x) ≡ joined_all all x (spans x)

abbrev pub asked_in : List Tabled → Tabled → Name → Span
asked_in ts t x = fed_in ts (t.leaf.source x) (joined_all (grown_by t.spans t.leaf.kind) x (t.spans x))

-- ---- a round

-- a BOOL keeps its range, and none gets smaller
abbrev pub stepped : ℕ → ElemType → Span → Span → Span
stepped n a old r = if is_boolean a then old else joined old (widened n a old r)

abbrev pub next_line : ℕ → List Tabled → Tabled → Line → Line
next_line n ts t l = line l.name l.type (stepped n l.type l.range (asked_in ts t l.name))

abbrev pub next_lined : ℕ → List Tabled → Tabled → Lined
next_lined n ts t = record { leaf = t.leaf; lines = map (next_line n ts t) t.lines }

abbrev pub next_round : ℕ → List Lined → List Lined
next_round n xs = let ts = map tabled xs in map (next_lined n ts) ts

-- the number of the round after this one; all late rounds are alike, and have one number
abbrev pub next_number : ℕ → ℕ
next_number n = if nat_le n 64 then n + 1 else n
