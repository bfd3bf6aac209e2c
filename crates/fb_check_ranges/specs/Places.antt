-- Leaves of the tables by their paths.
use denote.Ref.{Bor}
use Rattle.std.specs.Prelude.{◌≡◌, pos, true, List, [], ◌∷◌, ◌++◌, map, flat_map, Option, None, Some, string_bytes, if◌then◌else◌}
use Rattle.std.specs.Option.{option_map}
use Rattle.std.specs.Map.{lookup}
use Rattle.std.specs.Str.{bytes_eq}
use Rattle.std.specs.declared.string.String.{String}
use Rattle.std.specs.declared.alloc.Global.{Global}
use Rattle.indexmap.specs.IndexMap.{IndexMap}
use Rattle.fb_model.specs.Names.{Name, Path, path_eq}
use Rattle.fb_model.specs.Values.{One}
use Rattle.fb_model.specs.Wires as wires
use Rattle.fb_model.specs.Wires.{Output_of, Constant}
use Rattle.fb_model.specs.CertificateText.{names_in}
use Rattle.fb_model.specs.Spans.{Span, within}
use Rattle.fb_cert.specs.declared.certificate.Certificate.{Certificate}
use Rattle.fb_flat.specs.declared.flat.Leaf.{Leaf}
use Rattle.fb_flat.specs.declared.flat.Source.{Source}
use Rattle.fb_flat.specs.declared.flat.FlatResource.{FlatResource}
use Rattle.fb_flat.specs.Leaves.{kind_of}
use Rattle.fb_flat.specs.Tables.{book_source}
use Rattle.fb_check_ranges.specs.Rows.{rows_in}

-- all leaves of some resources, in order
abbrev pub leaves_in : List FlatResource → List Leaf
leaves_in rs = flat_map (λ (r : FlatResource). r.leaves.items) rs

-- the first leaf of a path in one text
abbrev pub leaf_named : List Leaf → Name → Option Leaf
leaf_named [] path = None
leaf_named (l ∷ ls) path = if bytes_eq path (string_bytes l.path) then Some l else leaf_named ls path

-- the first leaf of a path
abbrev pub leaf_placed : List Leaf → Path → Option Leaf
leaf_placed [] path = None
leaf_placed (l ∷ ls) path = if path_eq (names_in (string_bytes l.path)) path then Some l else leaf_placed ls path

-- what stands under a path
abbrev pub under : {S : Type 0} → IndexMap (String Global) (Bor Leaf) S → Name → Option Leaf
under m path = option_map (λ (l : Bor Leaf). l.now) (lookup (λ y. bytes_eq path (string_bytes y)) m.entries)

-- the first of two that is there
abbrev pub or_else : {A : Type 0} → Option A → Option A → Option A
or_else None other = other
or_else (Some a) other = Some a

-- each path stands for the first leaf that has it
abbrev pub ArePlaces : {S : Type 0} → List Leaf → IndexMap (String Global) (Bor Leaf) S → Type 0
ArePlaces ls m = (path : Name) → under m path ≡ leaf_named ls path

-- a source that there may be
abbrev pub held : Option Source → wires.Source
held None = Constant (One (pos 0))
held (Some s) = book_source s

-- what a source gives lies in a row
abbrev pub SourceLies : Certificate → List Leaf → Span → wires.Source → Type 0
SourceLies cert ls r (Output_of from y) = (l : Leaf) × (leaf_placed ls from ≡ Some l) × (within (rows_in cert (string_bytes l.path) (kind_of l.body) y) r ≡ true)
SourceLies cert ls r (Constant value) = Unit {0}
