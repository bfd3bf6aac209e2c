-- The ranges that the finder gives variables: it begins with the values that they have at first, and enlarges all of them in rounds until nothing grows.
-- This project's profile. Each device goes its rounds by itself: no value leaves it but in messages, whose inputs may take any value of their types.
use Rattle.std.specs.Prelude.{ℕ, ◌≡◌, ◌≢◌, ◌+◌, nat_lt, ℤ, pos, int_lt, List, [], ◌∷◌, ◌++◌, None, Some, if◌then◌else◌}
use Rattle.std.specs.Int.{int_min, int_max}
use Rattle.std.specs.List.{flat_map}
use Rattle.fb_words.specs.declared.elem_type.ElemType.{ElemType}
use Rattle.fb_model.specs.Names.{Name, Path, is_in}
use Rattle.fb_model.specs.Values.{Value, lowest, highest, numbers_of}
use Rattle.fb_model.specs.System.{Variable, Procedure, Device, start_of}
use Rattle.fb_model.specs.Wires.{Source, Output_of, Constant, Kind, Charted, Serviced, Leaf, leaf_at, leaves}
use Rattle.fb_model.specs.Store.{variable_names, inputs, first_input}
use Rattle.fb_model.specs.Spans.{Span, span, joined}
use Rattle.fb_model.specs.Clear.{Spans}
use Rattle.fb_model.specs.Ranges.{Range, variables, row_of, rows}
use Rattle.fb_model.specs.Certificates.{is_boolean}
use Rattle.fb_model.specs.Asking.{grown}

-- ---- rows

abbrev pub range_row : Path → Name → Span → Range
range_row path x r = record { path = path; variable = x; low = r.low; high = r.high }

-- the rows of variables that are not BOOL, in their order
abbrev pub rows_by : (Variable → Span) → Path → List Variable → List Range
rows_by f path [] = []
rows_by f path (v ∷ vs) = if is_boolean v.type then rows_by f path vs else range_row path v.name (f v) ∷ rows_by f path vs

-- those of a leaf: inputs, outputs, internal variables; a service has none
abbrev pub kind_rows : (Variable → Span) → Path → Kind → List Range
kind_rows f path (Charted block) = rows_by f path (variables (Charted block))
kind_rows f path (Serviced service) = []

-- those of leaves
abbrev pub leaf_rows : (Leaf → Variable → Span) → List Leaf → List Range
leaf_rows f all = flat_map (λ leaf. kind_rows (f leaf) leaf.path leaf.kind) all

-- ---- at first

-- the smallest range that holds these numbers, and 0 where there are none
abbrev pub held : List ℤ → Span
held [] = span (pos 0) (pos 0)
held (n ∷ []) = span n n
held (n ∷ m ∷ ns) = joined (span n n) (held (m ∷ ns))

-- what a variable has at first: an input that always holds a constant that, any other its start value
abbrev pub first_value : Leaf → Variable → Value
first_value leaf v = if is_in v.name (variable_names (inputs leaf.kind)) then first_input (leaf.source v.name) (start_of v) else start_of v

abbrev pub start_rows : List Leaf → List Range
start_rows all = leaf_rows (λ leaf v. held (numbers_of (first_value leaf v))) all

-- ---- what is asked in a round, from the rows before it

-- a row, and the row of the output that it takes
abbrev pub fed : List Range → List Leaf → Source → Span → Span
fed ranges all (Output_of from y) r = elim (leaf_at all from) [ None ↦ r | Some leaf ↦ joined r (rows ranges from leaf.kind y) ]
fed ranges all (Constant value) r = r

-- a row, and all that algorithms ask of it
abbrev pub worked_on : Spans → List Procedure → Name → Span
worked_on rows [] x = rows x
worked_on rows (p ∷ ps) x = joined (worked_on rows ps x) (grown rows p.algorithm x)

abbrev pub worked : Spans → Kind → Name → Span
worked rows (Charted block) x = worked_on rows block.procedures x
worked rows (Serviced service) x = rows x

-- the row of a variable, and all that its source and the algorithms of its leaf ask of it
abbrev pub asked : List Range → List Leaf → Leaf → Variable → Span
asked ranges all leaf v = fed ranges all (leaf.source v.name) (worked (rows ranges leaf.path leaf.kind) leaf.kind v.name)

-- ---- rounds

-- a row after round n, which was asked to be so large: an end stops at its type's end, and from round 65 on an end that grows becomes its type's end
abbrev pub widened : ℕ → ElemType → Span → Span → Span
widened n a old r =
    span
    (if int_lt r.low old.low then (if nat_lt 64 n then lowest a else int_max (lowest a) r.low) else old.low)
    (if int_lt old.high r.high then (if nat_lt 64 n then highest a else int_min (highest a) r.high) else old.high)

-- round n: every row is enlarged by what is asked of it
abbrev pub round : ℕ → List Leaf → List Range → List Range
round n all ranges = leaf_rows (λ leaf v. widened n v.type (row_of ranges leaf.path leaf.kind v) (asked ranges all leaf v)) all

-- from round n on these rows become those, which nothing enlarges
pub data Settles (all : List Leaf) : ℕ → List Range → List Range → Type 0 where
  ends : {n : ℕ} {xs : List Range} → round n all xs ≡ xs → Settles all n xs xs
  goes_on : {n : ℕ} {xs zs : List Range} → round n all xs ≢ xs → Settles all (n + 1) (round n all xs) zs → Settles all n xs zs

-- the rows of a device after its last round
abbrev pub IsLast : List Leaf → List Range → Type 0
IsLast all ranges = Settles all 1 (start_rows all) ranges

-- those of a system, device after device
pub data AreFound : List Device → List Range → Type 0 where
  no_device : AreFound [] []
  a_device : {d : Device} {ds : List Device} {xs ys : List Range} → IsLast (leaves d) xs → AreFound ds ys → AreFound (d ∷ ds) (xs ++ ys)

-- the table of a basic block is its rows by their names
abbrev pub IsTable : List Range → Spans → Leaf → Kind → Type 0
IsTable ranges spans leaf (Charted block) = spans ≡ rows ranges leaf.path leaf.kind
IsTable ranges spans leaf (Serviced service) = Unit {0}
