-- In a system that stands in texts and that a certificate fits, the work of every cause is bounded, where its algorithms are priced.
use Rattle.std.proofs.Common.{ℕ, List, [], ◌∷◌}
use Rattle.std.specs.List.{AllByRecursion}
use Rattle.fb_model.specs.Tokens.{Token}
use Rattle.fb_model.specs.StructuredTextGrammar.{IsExpression, IsAlgorithm}
use Rattle.fb_model.specs.Declarations.{SourceTree}
use Rattle.fb_model.specs.DeclarationGrammar.{IsFile}
use Rattle.fb_model.specs.NetworkTyping.{ElaboratesWith}
use Rattle.fb_model.specs.System.{Device, System}
use Rattle.fb_model.specs.Wires.{Leaf, leaves}
use Rattle.fb_model.specs.Ranges.{Range, LeafClears}
use Rattle.fb_model.specs.Certificates.{Certificate, Fits, DeviceHolds}
use Rattle.fb_model.specs.Devices.{Machine}
use Rattle.fb_model_laws.specs.Leaves.{IsClosed}
use Rattle.fb_model_laws.proofs.Closed.{all_charts_closed}
use Rattle.fb_model_laws.proofs.Holding.{fitting_devices_hold}
use Rattle.fb_model_turns.specs.Turns.{ComesTo, Counts}
use Rattle.fb_model_work.specs.Spending.{Prices}
use Rattle.fb_model_work.specs.Work.{WorkFits, AllWorkFits, BoundsWork}
use Rattle.fb_model_work.proofs.Priced.{ArePriced}
use Rattle.fb_model_work.proofs.Courses.{bounds_work}

-- the parts, device by device
all_bounded : (prices : Prices) (counts : Counts) (cert : Certificate) (ds : List Device)
    → AllByRecursion (DeviceHolds cert) ds → AllByRecursion (λ (d : Device). ArePriced prices cert.ranges (leaves d)) ds
    → AllByRecursion (λ (d : Device). AllByRecursion (λ (leaf : Leaf). IsClosed leaf.kind) (leaves d)) ds
    → AllByRecursion (λ (d : Device). WorkFits prices cert.ranges counts (leaves d)) ds
    → AllByRecursion (λ (d : Device). (s : Machine) → ComesTo cert d s → BoundsWork prices counts cert d s) ds
all_bounded prices counts cert [] holding priced closed fits = tt
all_bounded prices counts cert (d ∷ ds) holding priced closed fits =
    (bounds_work prices counts cert d holding.0 priced.0 closed.0 fits.0, all_bounded prices counts cert ds holding.1 priced.1 closed.1 fits.1)

module _ (are_priced : (prices : Prices) (ranges : List Range) (library source : SourceTree) (system : System) → ElaboratesWith library.blocks source system
    → AllByRecursion (λ (d : Device). AllByRecursion (LeafClears ranges (leaves d)) (leaves d)) system.devices
    → AllByRecursion (λ (d : Device). ArePriced prices ranges (leaves d)) system.devices) where
  pub bounded : (ts us : List Token) (n k m l : ℕ) (library source : SourceTree) (system : System)
      → IsFile (IsExpression n) (IsAlgorithm n k) ts library → IsFile (IsExpression m) (IsAlgorithm m l) us source → ElaboratesWith library.blocks source system
      → (cert : Certificate) → Fits system cert → (prices : Prices) (counts : Counts) → AllWorkFits prices cert.ranges counts system
      → AllByRecursion (λ (d : Device). (s : Machine) → ComesTo cert d s → BoundsWork prices counts cert d s) system.devices
  bounded ts us n k m l library source system p q h cert fits prices counts paid =
      all_bounded prices counts cert system.devices (fitting_devices_hold ts us n k m l library source system p q h cert fits)
      (are_priced prices cert.ranges library source system h fits.clear) (all_charts_closed library.blocks source system h) paid
