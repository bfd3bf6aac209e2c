-- What algorithms cost under tables of ranges, and what the leaves of the tables ask by numbers with these prices.
-- This project's profile.
use Rattle.std.specs.Prelude.{ℕ, ◌≡◌, Bool, List, [], ◌∷◌, ◌++◌, map, Option, None, Some}
use Rattle.std.specs.Option.{unwrap_or}
use Rattle.std.specs.List.{AllByRecursion, AllZip}
use Rattle.fb_model.specs.System.{Procedure}
use Rattle.fb_model.specs.Language.{Algorithm}
use Rattle.fb_model.specs.Wires as wires
use Rattle.fb_model.specs.Wires.{Kind, Charted, Serviced}
use Rattle.fb_model.specs.Clear.{Spans, examined}
use Rattle.fb_model.specs.Ranges.{Range, rows, IsClearAlgorithm}
use Rattle.fb_find_laws.specs.Nodes.{Numbered}
use Rattle.fb_model.specs.FinderRanges.{IsTable}
use Rattle.fb_types_blocks.specs.Views.{procedures_of}
use Rattle.fb_ranges.specs.Answers.{most_steps}
use Rattle.fb_ranges.specs.Views.{spans_of}
use Rattle.fb_flat.specs.declared.flat.Leaf.{Leaf}
use Rattle.fb_flat.specs.Leaves.{kind_of}
use Rattle.fb_find_demands.specs.declared.known.Priced.{Priced}
use Rattle.fb_find_demands.specs.declared.numbered.Numbering.{Numbering}
use Rattle.fb_find_demands.specs.Leaves.{leaf_rights}

-- ---- tables

-- the most steps of an algorithm under the ranges of a table, where they are told, and else more than the steps of any row
abbrev pub most : Option Spans → Algorithm → ℕ
most None a = 1000000000001
most (Some spans) a = unwrap_or (most_steps (examined spans a)) 1000000000001

-- the prices of algorithms, in their order
abbrev pub prices : Option Spans → List Procedure → List ℕ
prices spans ps = map (λ (p : Procedure). most spans p.algorithm) ps

abbrev pub kind_prices : Option Spans → Kind → List ℕ
kind_prices spans (Charted block) = prices spans block.procedures
kind_prices spans (Serviced service) = []

-- what a leaf asks with the prices of its table
abbrev pub priced_leaf : Numbering → Bool → Leaf → Option Spans → List Numbered
priced_leaf n follows leaf spans = leaf_rights n 1 follows (kind_prices spans (kind_of leaf.body)) leaf

-- the same of all, each with its table
abbrev pub priced : Numbering → Bool → List Leaf → List Spans → List Numbered
priced n follows [] ts = []
priced n follows (l ∷ ls) [] = priced_leaf n follows l None ++ priced n follows ls []
priced n follows (l ∷ ls) (t ∷ ts) = priced_leaf n follows l (Some t) ++ priced n follows ls ts

-- what is kept of a block and a table are the prices of its algorithms
abbrev pub IsPriced : Priced → Type 0
IsPriced p = p.prices.items ≡ prices (Some (spans_of p.ranges.now)) (procedures_of p.block.now.value.procedures)

-- ---- the book

-- the same of all, one by one
abbrev pub AreTables : List Range → List Spans → List wires.Leaf → Type 0
AreTables ranges tables all = AllZip (λ spans (leaf : wires.Leaf). IsTable ranges spans leaf leaf.kind) tables all

-- the algorithms of a block are clear under ranges
abbrev pub HasClear : Spans → Kind → Type 0
HasClear spans (Charted block) = AllByRecursion (λ (p : Procedure). IsClearAlgorithm spans p.algorithm) block.procedures
HasClear spans (Serviced service) = Unit {0}

-- the algorithms of all leaves are clear under the rows of their variables
abbrev pub AreClear : List Range → List wires.Leaf → Type 0
AreClear ranges all = AllByRecursion (λ (leaf : wires.Leaf). HasClear (rows ranges leaf.path leaf.kind) leaf.kind) all
