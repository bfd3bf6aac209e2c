-- What the code's rows are in these words.
use Rattle.std.specs.Prelude.{◌≡◌, ◌≤◌, slice_get, ℕ, suc, [], ◌∷◌, map, List, Option, None, Some, string_bytes, if◌then◌else◌}
use Rattle.std.specs.List.{AllByRecursion}
use Rattle.std.specs.Option.{option_map}
use Rattle.std.specs.Map.{lookup}
use Rattle.std.specs.Str.{bytes_eq}
use Rattle.std.specs.declared.string.String.{String}
use Rattle.std.specs.declared.alloc.Global.{Global}
use Rattle.std.specs.declared.rc.Rc.{Rc}
use Rattle.indexmap.specs.IndexMap.{IndexMap}
use Rattle.fb_model.specs.Names.{Name, Path, path_eq}
use Rattle.fb_model.specs.Wires as wires
use Rattle.fb_model.specs.CertificateText.{names_in}
use Rattle.fb_model.specs.Spans.{Span, joined}
use Rattle.fb_flat.specs.declared.flat.Leaf as flat
use Rattle.fb_flat.specs.Leaves.{kind_of}
use Rattle.fb_flat.specs.Tables.{source_at}
use Rattle.fb_ranges_intervals.specs.Views.{span_of}
use Rattle.fb_ranges.specs.Views.{spans_of}
use Rattle.fb_find_ranges.specs.declared.rows.Row.{Row}
use Rattle.fb_find_ranges.specs.declared.rows.LeafRows.{LeafRows}
use Rattle.fb_find_ranges.specs.Lines.{Line, line, Lined, lined, Tabled, given, spans_by, grown_by, IsAsked}

-- a leaf of the tables by its path, what it is, and where its inputs take their values from
abbrev pub shown : flat.Leaf → wires.Leaf
shown l = record { home = 0; path = names_in (string_bytes l.path); kind = kind_of l.body; targets = λ o. []; source = source_at l.inputs.items }

abbrev pub line_of : Row → Line
line_of r = line r.name.now r.of_type (span_of r.range)

abbrev pub lined_of : LeafRows → Lined
lined_of s = lined (shown s.leaf.now) (map line_of s.rows.items)

abbrev pub tabled_of : LeafRows → Tabled
tabled_of s = record { leaf = shown s.leaf.now; lines = map line_of s.rows.items; spans = spans_of s.ranges.value }

-- the same of leaves that rounds share
abbrev pub Shared : Type 0
Shared = Rc LeafRows Global

abbrev pub lined_in : Shared → Lined
lined_in s = lined_of s.value

abbrev pub tabled_in : Shared → Tabled
tabled_in s = tabled_of s.value

-- the ranges of a leaf are its rows by their names, and what is asked its algorithms ask under them
pub record IsKept (s : LeafRows) : Type 0 where
  pub ranges : spans_of s.ranges.value ≡ spans_by (map line_of s.rows.items)
  pub asked : IsAsked (spans_of s.asked.value) (grown_by (spans_of s.ranges.value) (kind_of s.leaf.now.body)) (spans_of s.ranges.value)

abbrev pub AreKept : List Shared → Type 0
AreKept ss = AllByRecursion (λ (s : Shared). IsKept s.value) ss

-- what a leaf is, and the number of one before it that is the same (or its own)
abbrev pub Twin : Type 0
Twin = wires.Kind × ℕ

abbrev pub linked_in : Shared → Twin
linked_in s = (kind_of s.value.leaf.now.body, s.value.like)

-- the leaf of this number, if there is one, is that
abbrev pub IsKind : List Twin → ℕ → wires.Kind → Type 0
IsKind links n kind = (b : Twin) → Some b ≡ slice_get links n → b.0 ≡ kind

abbrev pub AreLinked : List Twin → Type 0
AreLinked links = (n : ℕ) (a : Twin) → Some a ≡ slice_get links n → (a.1 ≤ n) × IsKind links a.1 a.0

-- the same block under the same rows
pub record IsLike (s : LeafRows) (kind : wires.Kind) (rows : List Row) : Type 0 where
  pub block : kind_of s.leaf.now.body ≡ kind
  pub lines : map line_of s.rows.items ≡ map line_of rows

abbrev pub leaf_in : Shared → wires.Leaf
leaf_in s = shown s.value.leaf.now

-- a range, and that of an output of a leaf, if there is one
abbrev pub fed_from : Option Tabled → Name → Span → Span
fed_from None y r = r
fed_from (Some t) y r = joined r (given t.leaf.kind t.spans y)

-- the number of the first leaf of a path
abbrev pub number_of : List wires.Leaf → Path → Option ℕ
number_of [] path = None
number_of (l ∷ ls) path = if path_eq l.path path then Some 0 else option_map suc (number_of ls path)

-- the number that stands under a path
abbrev pub near_at : {S : Type 0} → IndexMap (String Global) ℕ S → Name → Option ℕ
near_at m path = lookup (λ y. bytes_eq path (string_bytes y)) m.entries

-- each path stands for the first leaf that has it
abbrev pub AreNear : {S : Type 0} → List wires.Leaf → IndexMap (String Global) ℕ S → Type 0
AreNear ls m = (path : Name) → near_at m path ≡ number_of ls (names_in path)
