-- The demands of work: those that hold whatever algorithms cost, each with the work that it asks for in place of its constant.
-- This project's profile.
use Rattle.std.specs.Prelude.{ℕ, List, [], ◌∷◌}
use Rattle.std.specs.List.{flat_map}
use Rattle.fb_model.specs.Ranges.{Range}
use Rattle.fb_model.specs.Wires.{Leaf}
use Rattle.fb_model.specs.Demands.{Demand, bare_demands}
use Rattle.fb_find_laws.specs.Nodes.{Numbered}
use Rattle.fb_model_work.specs.Spending.{Prices}
use Rattle.fb_work_charts.specs.Charges.{kind_works}
use Rattle.fb_work.specs.Algorithms.{tariff_at}

-- one by one, as long as there are both
abbrev pub with_works : List ℕ → List Demand → List Demand
with_works [] ds = []
with_works (n ∷ ns) [] = []
with_works (n ∷ ns) (d ∷ ds) = record { node = d.node; constant = n; terms = d.terms } ∷ with_works ns ds

abbrev pub charged : List ℕ → List Numbered → List Numbered
charged [] rs = []
charged (n ∷ ns) [] = []
charged (n ∷ ns) (r ∷ rs) = record { node = r.node; constant = n; terms = r.terms } ∷ charged ns rs

-- the work that the demands of leaves ask for, in their order
abbrev pub leaf_works : Prices → List Range → Leaf → List ℕ
leaf_works prices ranges leaf = kind_works (tariff_at prices ranges leaf) leaf.kind

abbrev pub all_works : Prices → List Range → List Leaf → List ℕ
all_works prices ranges all = flat_map (leaf_works prices ranges) all

abbrev pub work_demands : Prices → List Range → List Leaf → List Demand
work_demands prices ranges all = with_works (all_works prices ranges all) (bare_demands all)
