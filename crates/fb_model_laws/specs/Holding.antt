-- What holds of the rows that the finder gives: they lie in the types of their variables, and hold what these have at first and what they take.
use Rattle.std.specs.Prelude.{◌≡◌, true, List, ◌++◌}
use Rattle.std.specs.List.{AllByRecursion}
use Rattle.fb_model.specs.Names.{Name, Path}
use Rattle.fb_model.specs.Values.{numbers_of}
use Rattle.fb_model.specs.System.{Variable, Block, start_of}
use Rattle.fb_model.specs.Wires.{Source, Charted, Leaf}
use Rattle.fb_model.specs.Store.{first_input}
use Rattle.fb_model.specs.Spans.{Span, within, whole}
use Rattle.fb_model.specs.Shapes.{IsIn}
use Rattle.fb_model.specs.Ranges.{Range, variables, row_at, row_of, HoldsIn, SourceFits}
use Rattle.fb_model.specs.FinderRanges.{first_value}

-- a row lies in the type of its variable, and holds what this has at first
pub record IsGoodRow (leaf : Leaf) (v : Variable) (r : Span) : Type 0 where
  pub typed : within r (whole v.type) ≡ true
  pub begins : AllByRecursion (IsIn r) (numbers_of (first_value leaf v))

-- all rows of a leaf are so
abbrev pub LeafIsGood : List Range → Leaf → Type 0
LeafIsGood ranges leaf = AllByRecursion (λ (v : Variable). IsGoodRow leaf v (row_of ranges leaf.path leaf.kind v)) (variables leaf.kind)

-- and the row of each input holds that of the output that it takes
abbrev pub LeafIsFed : List Range → List Leaf → Leaf → Type 0
LeafIsFed ranges all leaf = AllByRecursion (λ (v : Variable). SourceFits ranges all (row_of ranges leaf.path leaf.kind v) (leaf.source v.name)) (variables leaf.kind)

-- a chart is clear, but for its algorithms and guards
pub record ChartBegins (ranges : List Range) (all : List Leaf) (path : Path) (source : Name → Source) (block : Block) : Type 0 where
  pub rows_fit : AllByRecursion (λ (v : Variable). within (row_at ranges path v) (whole v.type) ≡ true) (variables (Charted block))
  pub inputs_begin : AllByRecursion (λ (v : Variable). HoldsIn (row_at ranges path v) (first_input (source v.name) (start_of v))) block.inputs
  pub others_begin : AllByRecursion (λ (v : Variable). HoldsIn (row_at ranges path v) (start_of v)) (block.outputs ++ block.internals)
  pub links : AllByRecursion (λ (v : Variable). SourceFits ranges all (row_at ranges path v) (source v.name)) block.inputs
