-- Algorithms that spend no more than they cost at most, from values in their rows.
use Rattle.std.specs.Prelude.{◌≤◌, List, Option}
use Rattle.std.specs.List.{AllByRecursion}
use Rattle.fb_model.specs.Names.{Name, Path}
use Rattle.fb_model.specs.Values.{Values}
use Rattle.fb_model.specs.System.{Block}
use Rattle.fb_model.specs.Wires.{Kind, Charted, Serviced, Leaf}
use Rattle.fb_model.specs.Charts.{algorithm_of}
use Rattle.fb_model.specs.Ranges.{Range, rows, AllLie}
use Rattle.fb_model_work.specs.Spending.{Prices, in_algorithm}
use Rattle.fb_model_work.specs.Most.{most_of}

abbrev pub IsPricedBlock : Prices → List Range → Path → Block → Type 0
IsPricedBlock prices ranges path block =
    (a : Option Name) (values : Values) → AllLie ranges path (Charted block) values → in_algorithm prices (algorithm_of block a) values ≤ most_of prices (rows ranges path (Charted block)) (algorithm_of block a)

abbrev pub IsPriced : Prices → List Range → Path → Kind → Type 0
IsPriced prices ranges path (Charted block) = IsPricedBlock prices ranges path block
IsPriced prices ranges path (Serviced service) = Unit {0}

abbrev pub ArePriced : Prices → List Range → List Leaf → Type 0
ArePriced prices ranges all = AllByRecursion (λ leaf. IsPriced prices ranges leaf.path leaf.kind) all
