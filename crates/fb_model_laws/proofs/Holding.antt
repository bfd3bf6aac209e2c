-- Where a certificate fits a system that stands in texts, each device holds.
use Rattle.std.proofs.Common.{ℕ, List, [], ◌∷◌}
use Rattle.std.specs.List.{AllByRecursion}
use Rattle.fb_model.specs.Tokens.{Token}
use Rattle.fb_model.specs.StructuredTextGrammar.{IsExpression, IsAlgorithm}
use Rattle.fb_model.specs.Declarations.{SourceTree}
use Rattle.fb_model.specs.DeclarationGrammar.{IsFile}
use Rattle.fb_model.specs.NetworkTyping.{ElaboratesWith}
use Rattle.fb_model.specs.System.{Device, System}
use Rattle.fb_model.specs.Wires.{Leaf, leaves}
use Rattle.fb_model.specs.Ranges.{LeafLies}
use Rattle.fb_model.specs.Certificates.{Certificate, DeviceFits, Fits, IsWired, IsNumbered, DeviceHolds}
use Rattle.fb_model_laws.proofs.Wired.{all_wired}
use Rattle.fb_model_laws.proofs.Numbered.{all_numbered}
use Rattle.fb_model_laws.proofs.Leaves.{clear_systems_lie}

-- the parts, device by device
all_hold : (cert : Certificate) (ds : List Device) → AllByRecursion (λ (d : Device). AllByRecursion (IsWired (leaves d)) (leaves d)) ds
    → AllByRecursion (λ (d : Device). AllByRecursion (λ (leaf : Leaf). IsNumbered leaf.kind) (leaves d)) ds → AllByRecursion (λ (d : Device). AllByRecursion (LeafLies cert.ranges (leaves d)) (leaves d)) ds
    → AllByRecursion (DeviceFits cert) ds → AllByRecursion (DeviceHolds cert) ds
all_hold cert [] wired numbered ranges fits = tt
all_hold cert (d ∷ ds) wired numbered ranges fits = (record { wired = wired.0; numbered = numbered.0; ranges = ranges.0; fits = fits.0 }, all_hold cert ds wired.1 numbered.1 ranges.1 fits.1)

pub fitting_devices_hold : (ts us : List Token) (n k m l : ℕ) (library source : SourceTree) (system : System) → IsFile (IsExpression n) (IsAlgorithm n k) ts library → IsFile (IsExpression m) (IsAlgorithm m l) us source → ElaboratesWith library.blocks source system
    → (cert : Certificate) → Fits system cert → AllByRecursion (DeviceHolds cert) system.devices
fitting_devices_hold ts us n k m l library source system p q h cert fits =
    all_hold cert system.devices (all_wired library.blocks source system h) (all_numbered library.blocks source system h) (clear_systems_lie ts us n k m l library source system p q h cert.ranges fits.clear) fits.devices
