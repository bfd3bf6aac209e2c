-- The algorithms of a chart, and of all charts of well typed systems, are priced.
use Rattle.std.proofs.Common.{◌≡◌, ◌≤◌, ℤ, Bool, true, false, List, [], ◌∷◌, Option, Some, None, refl, subst, arith}
use Rattle.std.specs.Prelude.{if◌then◌else◌}
use Rattle.std.specs.List.{AllByRecursion}
use Rattle.std.specs.Option.{option_map}
use Rattle.std.specs.Str.{bytes_eq}
use Rattle.fb_model.specs.Names.{Name, Path}
use Rattle.fb_model.specs.Values.{Value, One, Many, Values}
use Rattle.fb_model.specs.Declarations.{BlockTree, SourceTree}
use Rattle.fb_model.specs.Language.{Algorithm}
use Rattle.fb_model.specs.BlockTyping.{extent}
use Rattle.fb_model.specs.NetworkTyping.{ElaboratesWith}
use Rattle.fb_model.specs.System.{Procedure, Block, Device, System}
use Rattle.fb_model.specs.Wires.{Kind, Charted, Serviced, Source, Leaf, leaves}
use Rattle.fb_model.specs.Charts.{named, algorithm_of}
use Rattle.fb_model.specs.Shapes.{Shape, HasForm, HasShape, AlgorithmFits}
use Rattle.fb_model.specs.Ranges.{Range, HasLength, rows, AllLie, IsClearAlgorithm, KindClears, LeafClears}
use Rattle.fb_model_laws.specs.Leaves.{OnChart}
use Rattle.fb_model_laws.specs.Shaped.{IsShaped, IsShapely}
use Rattle.fb_model_laws.proofs.Blocks.{all_charts_shapely}
use Rattle.fb_model_work.specs.Spending.{Prices, in_algorithm}
use Rattle.fb_model_work.specs.Most.{most_of}
use Rattle.fb_model_work.proofs.Priced.{IsPricedBlock, IsPriced, ArePriced}
use Rattle.fb_model_work.proofs.Algorithms.{algorithm_most}

form_of : (o : Option (ℤ × ℤ)) (value : Value) → HasLength (option_map extent o) value → HasForm o value
form_of None (One n) h = tt
form_of None (Many ns) h = h
form_of (Some b) (One n) h = h
form_of (Some b) (Many ns) h = h

named_so : (P : Algorithm → Type 0) (ps : List Procedure) (a : Name) (g : Algorithm) → AllByRecursion (λ (p : Procedure). P p.algorithm) ps → named ps a ≡ Some g → P g
named_so P [] a g h e = absurd cc
named_so P (p ∷ ps) a g h e = by (bytes_eq p.name a) e (named_so P ps a g h.1) where
  by : (b : Bool) → (if b then Some p.algorithm else named ps a) ≡ Some g → (named ps a ≡ Some g → P g) → P g
  by true f next = let same : p.algorithm ≡ g = cc in subst P same h.0
  by false f next = next f

-- ---- one chart

module _ (prices : Prices) (ranges : List Range) (path : Path) (block : Block) (shape : Shape) (shaped : IsShaped block shape) where
  abbrev Clears : Algorithm → Type 0
  Clears g = IsClearAlgorithm (rows ranges path (Charted block)) g

  abbrev IsGood : Algorithm → Type 0
  IsGood g = AlgorithmFits shape g × Clears g

  good_of : (a : Option Name) (g : Algorithm) → AllByRecursion (λ (p : Procedure). IsGood p.algorithm) block.procedures → algorithm_of block a ≡ Some g
      → IsGood g
  good_of None g c e = absurd cc
  good_of (Some a) g c e = named_so IsGood block.procedures a g c e

  has_shape : (values : Values) → AllLie ranges path (Charted block) values → HasShape shape values
  has_shape values l x = form_of (shape x) (values x) (subst (λ n. HasLength n (values x)) (shaped.lengths x) (l x).form)

  works_most : (o : Option Algorithm) (values : Values) → ((g : Algorithm) → o ≡ Some g → IsGood g) → AllLie ranges path (Charted block) values
      → in_algorithm prices o values ≤ most_of prices (rows ranges path (Charted block)) o
  works_most None values h l = omega arith
  works_most (Some g) values h l =
      let k = h g refl in
      let m = algorithm_most prices (rows ranges path (Charted block)) shape g k.1.0 k.1.1 k.0 k.1.2 values (has_shape values l) (λ x. (l x).numbers) in
      omega (arith, m)

  all_good : (ps : List Procedure) → AllByRecursion (λ (p : Procedure). AlgorithmFits shape p.algorithm) ps → AllByRecursion (λ (p : Procedure). Clears p.algorithm) ps
      → AllByRecursion (λ (p : Procedure). IsGood p.algorithm) ps
  all_good [] f c = tt
  all_good (p ∷ ps) f c = ((f.0, c.0), all_good ps f.1 c.1)

  pub block_priced : AllByRecursion (λ (p : Procedure). IsClearAlgorithm (rows ranges path (Charted block)) p.algorithm) block.procedures
      → IsPricedBlock prices ranges path block
  block_priced c a values l =
      let good = all_good block.procedures shaped.algorithms c in
      works_most (algorithm_of block a) values (λ g e. good_of a g good e) l

-- ---- all charts

module _ (prices : Prices) (ranges : List Range) where
  kind_priced : (all : List Leaf) (path : Path) (source : Name → Source) (kind : Kind) → OnChart IsShapely kind → KindClears ranges all path source kind
      → IsPriced prices ranges path kind
  kind_priced all path source (Charted block) s c = block_priced prices ranges path block s.0 s.1 c.algorithms
  kind_priced all path source (Serviced service) s c = tt

  leaves_priced : (all ls : List Leaf) → AllByRecursion (λ (leaf : Leaf). OnChart IsShapely leaf.kind) ls → AllByRecursion (LeafClears ranges all) ls
      → ArePriced prices ranges ls
  leaves_priced all [] s c = tt
  leaves_priced all (leaf ∷ ls) s c = (kind_priced all leaf.path leaf.source leaf.kind s.0 c.0, leaves_priced all ls s.1 c.1)

  devices_priced : (ds : List Device) → AllByRecursion (λ (d : Device). AllByRecursion (λ (leaf : Leaf). OnChart IsShapely leaf.kind) (leaves d)) ds
      → AllByRecursion (λ (d : Device). AllByRecursion (LeafClears ranges (leaves d)) (leaves d)) ds → AllByRecursion (λ (d : Device). ArePriced prices ranges (leaves d)) ds
  devices_priced [] s c = tt
  devices_priced (d ∷ ds) s c = (leaves_priced (leaves d) (leaves d) s.0 c.0, devices_priced ds s.1 c.1)

pub systems_are_priced : (library : List BlockTree) (source : SourceTree) (system : System) → ElaboratesWith library source system
    → (prices : Prices) (ranges : List Range) → AllByRecursion (λ (d : Device). AllByRecursion (LeafClears ranges (leaves d)) (leaves d)) system.devices
    → AllByRecursion (λ (d : Device). ArePriced prices ranges (leaves d)) system.devices
systems_are_priced library source system h prices ranges c = devices_priced prices ranges system.devices (all_charts_shapely library source system h) c
