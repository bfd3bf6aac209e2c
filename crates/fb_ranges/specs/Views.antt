-- What the code's ranges are in the book.
use Rattle.std.specs.Prelude.{ℕ, suc, map, string_bytes, List, [], ◌∷◌, Option, None, Some, if◌then◌else◌}
use Rattle.std.specs.Option.{option_map, unwrap_or}
use Rattle.std.specs.Map.{lookup}
use Rattle.std.specs.Str.{bytes_eq}
use Rattle.std.specs.declared.string.String.{String}
use Rattle.std.specs.declared.alloc.Global.{Global}
use Rattle.std.specs.Borrow.{Bor}
use Rattle.indexmap.specs.IndexSet.{IndexSet}
use Rattle.st_types.specs.declared.term.VariableName.{VariableName}
use Rattle.fb_words.specs.declared.elem_type.ElemType.TheVariants as t
use Rattle.fb_model.specs.Names.{Name}
use Rattle.fb_model.specs.Spans.{Span, whole, range_two}
use Rattle.fb_model.specs.Language.{given}
use Rattle.st_types.specs.Views.{Tail}
use Rattle.fb_model.specs.Clear.{Spans, range_of}
use Rattle.fb_ranges_intervals.specs.declared.interval.Interval.{Interval}
use Rattle.fb_ranges_intervals.specs.Views.{span_of}
use Rattle.fb_model.specs.Asking.{range_in}
use Rattle.fb_ranges.specs.declared.expression.Ranged.{Ranged}
use Rattle.fb_ranges.specs.declared.rows.Ranges.{Ranges}
use Rattle.fb_ranges.specs.declared.way.Reached.{Reached}
use Rattle.fb_ranges.specs.declared.way.Ways.{Ways}
use Rattle.fb_ranges.specs.Meeting.{Mark}

-- the number of a name, in the order of the names
abbrev pub number_of : List Name → Name → Option ℕ
number_of [] x = None
number_of (n ∷ ns) x = if bytes_eq x n then Some 0 else option_map suc (number_of ns x)

-- the row of a name, in the order of the names
abbrev pub row_of : List Name → List Interval → Name → Option Interval
row_of [] rows x = None
row_of (n ∷ ns) [] x = None
row_of (n ∷ ns) (r ∷ rs) x = if bytes_eq x n then Some r else row_of ns rs x

-- the ranges of all variables: all numbers of LINT for one without a row
abbrev pub spans_in : List Name → List Interval → Spans
spans_in names rows = λ x. unwrap_or (option_map span_of (row_of names rows x)) (whole t.Lint)

-- names in their order
abbrev pub keys_of : {S : Type 0} → IndexSet (String Global) S → List Name
keys_of names = map string_bytes names.keys

abbrev pub spans_of : Ranges → Spans
spans_of ranges = spans_in (keys_of ranges.names.value) ranges.rows.items

-- the range of what has one, behind which operations stand, each with its second operand
abbrev pub linked : Spans → List Tail → Span → Option Span
linked spans [] r = Some r
linked spans (l ∷ ls) r = given (range_of l.2 spans) (λ s. given (range_two l.0 l.1 r s) (linked spans ls))

-- and its range, whatever the operands and divisors are
abbrev pub linked_in : Spans → List Tail → Span → Span
linked_in spans [] r = r
linked_in spans (l ∷ ls) r = linked_in spans ls (unwrap_or (range_two l.0 l.1 r (range_in l.2 spans)) (whole l.1))

-- the range of an expression that is clear
abbrev pub clear_range : Ranged → Option Span
clear_range e = if e.is_clear then Some (span_of e.range) else None

-- the variables that have a row
abbrev pub names_in : {A : Type 0} → List (String Global × A) → List Name
names_in rows = map (λ p. string_bytes p.0) rows

-- the variables of a list
abbrev pub names_of : List (Bor VariableName) → List Name
names_of variables = map (λ v. string_bytes v.now.name) variables

-- what the variable of a name has come to
abbrev pub mark_in : List (String Global × Reached) → Name → Mark
mark_in rows x = option_map (λ r. (span_of r.range, r.ways)) (lookup (λ y. bytes_eq x (string_bytes y)) rows)

abbrev pub mark_of : Ways → Name → Mark
mark_of ways = mark_in ways.rows.entries
