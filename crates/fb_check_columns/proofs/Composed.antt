-- What is so of the tables is so of the system's leaves in the book.
use Rattle.std.proofs.Common.{◌+◌, ℕ, List, [], ◌∷◌, inl, inr, Result, Ok, Err, OnOk, IfErr}
use Rattle.std.specs.List.{AllByRecursion, Any}
use Rattle.fb_model.specs.Names.{Path}
use Rattle.fb_model.specs.System as system
use Rattle.fb_model.specs.Wires as wires
use Rattle.fb_model.specs.Wires.{resource_leaves, leaves_from, leaves}
use Rattle.fb_model.specs.Certificates.{ColumnFits}
use Rattle.fb_model.proofs.Lists.{all_append}
use Rattle.fb_model.proofs.Placed.{all_left, all_right}
use Rattle.fb_cert.specs.declared.certificate.Certificate.{Certificate}
use Rattle.fb_cert.specs.Views.{certificate_of}
use Rattle.fb_flat.specs.declared.flat.Leaf.{Leaf}
use Rattle.fb_flat.specs.declared.flat.FlatResource.{FlatResource}
use Rattle.fb_flat.specs.declared.flat.FlatDevice.{FlatDevice}
use Rattle.fb_flat.specs.Tables.{AreLeaves, AreResources, AreDevices}
use Rattle.fb_check_columns.specs.declared.column.Column.{Column}
use Rattle.fb_faults.specs.declared.shortfall.Shortfall.{Shortfall}
use Rattle.fb_check_columns.specs.Columns.{column_of}
use Rattle.fb_model_texts.specs.Small.{AreSmall}
use Rattle.fb_check_columns.specs.Fitting.{IsKnownLeaf, AllPay, AreKnown}
use Rattle.fb_model.specs.Misfits.{IsLeafFault, IsUnpaid}
use Rattle.fb_model.specs.Misfits.{OneOf}
use Rattle.fb_check_columns.specs.Tables.{LeafPays, LeafFails, ResourcePays, ResourceFails, DevicePays, DeviceFails}
use Rattle.fb_check_columns.proofs.Lists.{some_of, some_left, some_right}

-- ---- what pays

leaves_pay : (column : Column) (cert : Certificate) (small : AreSmall (certificate_of cert)) (ls : List Leaf) (bs : List wires.Leaf) → AllByRecursion (LeafPays column cert) ls → AreLeaves ls bs → AllByRecursion (IsKnownLeaf (certificate_of cert).ranges) bs → ColumnFits (column_of column (certificate_of cert)) (certificate_of cert).ranges bs
leaves_pay column cert small [] [] p a i = tt
leaves_pay column cert small (l ∷ ls) (b ∷ bs) p a i = (p.0 b small a.0 i.0, leaves_pay column cert small ls bs p.1 a.1 i.1)
leaves_pay column cert small [] (b ∷ bs) p a i = absurd a
leaves_pay column cert small (l ∷ ls) [] p a i = absurd a

resources_pay : (column : Column) (cert : Certificate) (small : AreSmall (certificate_of cert)) (n : ℕ) (path : Path) (fs : List FlatResource) (rs : List system.Resource) → AllByRecursion (ResourcePays column cert) fs → AreResources n path fs rs → AllByRecursion (IsKnownLeaf (certificate_of cert).ranges) (leaves_from n path rs)
    → ColumnFits (column_of column (certificate_of cert)) (certificate_of cert).ranges (leaves_from n path rs)
resources_pay column cert small n path [] [] p a i = tt
resources_pay column cert small n path (f ∷ fs) (r ∷ rs) p a i =
    all_append _ (resource_leaves n path r) (leaves_from (n + 1) path rs)
    (leaves_pay column cert small f.leaves.items (resource_leaves n path r) p.0 a.0.leaves (all_left (IsKnownLeaf (certificate_of cert).ranges) (resource_leaves n path r) (leaves_from (n + 1) path rs) i))
    (resources_pay column cert small (n + 1) path fs rs p.1 a.1 (all_right (IsKnownLeaf (certificate_of cert).ranges) (resource_leaves n path r) (leaves_from (n + 1) path rs) i))
resources_pay column cert small n path [] (r ∷ rs) p a i = absurd a
resources_pay column cert small n path (f ∷ fs) [] p a i = absurd a

devices_pay : (column : Column) (cert : Certificate) (small : AreSmall (certificate_of cert)) (fs : List FlatDevice) (ds : List system.Device) → AllByRecursion (DevicePays column cert) fs → AreDevices fs ds → AllByRecursion (λ (d : system.Device). AllByRecursion (IsKnownLeaf (certificate_of cert).ranges) (leaves d)) ds
    → AllByRecursion (λ (d : system.Device). ColumnFits (column_of column (certificate_of cert)) (certificate_of cert).ranges (leaves d)) ds
devices_pay column cert small [] [] p a i = tt
devices_pay column cert small (f ∷ fs) (d ∷ ds) p a i = (resources_pay column cert small 0 (d.name ∷ []) f.resources.items d.resources p.0 a.0.resources i.0, devices_pay column cert small fs ds p.1 a.1 i.1)
devices_pay column cert small [] (d ∷ ds) p a i = absurd a
devices_pay column cert small (f ∷ fs) [] p a i = absurd a

pub all_pay : (column : Column) (cert : Certificate) (small : AreSmall (certificate_of cert)) (fs : List FlatDevice) (s : system.System) (r : Result (Unit {0}) Shortfall) → OnOk r (AllByRecursion (DevicePays column cert) fs) → AreDevices fs s.devices → AreKnown (certificate_of cert).ranges s
    → OnOk r (AllPay (column_of column (certificate_of cert)) (certificate_of cert).ranges s)
all_pay column cert small fs s (Ok u) p a i = devices_pay column cert small fs s.devices p a i
all_pay column cert small fs s (Err e) p a i = tt

-- ---- what fails

leaves_fail : (column : Column) (cert : Certificate) (small : AreSmall (certificate_of cert)) (f : Shortfall) (ls : List Leaf) (bs : List wires.Leaf) → OneOf (LeafFails column cert f) ls → AreLeaves ls bs → AllByRecursion (IsKnownLeaf (certificate_of cert).ranges) bs
    → OneOf (λ (b : wires.Leaf). IsLeafFault (column_of column (certificate_of cert)) (certificate_of cert).ranges b f) bs
leaves_fail column cert small f [] bs s a i = absurd s
leaves_fail column cert small f (l ∷ ls) [] s a i = absurd a
leaves_fail column cert small f (l ∷ ls) (b ∷ bs) (inl p) a i = inl (p b small a.0 i.0)
leaves_fail column cert small f (l ∷ ls) (b ∷ bs) (inr s) a i = inr (leaves_fail column cert small f ls bs s a.1 i.1)

resources_fail : (column : Column) (cert : Certificate) (small : AreSmall (certificate_of cert)) (f : Shortfall) (n : ℕ) (path : Path) (fs : List FlatResource) (rs : List system.Resource) → OneOf (ResourceFails column cert f) fs → AreResources n path fs rs → AllByRecursion (IsKnownLeaf (certificate_of cert).ranges) (leaves_from n path rs)
    → OneOf (λ (b : wires.Leaf). IsLeafFault (column_of column (certificate_of cert)) (certificate_of cert).ranges b f) (leaves_from n path rs)
resources_fail column cert small f n path [] rs s a i = absurd s
resources_fail column cert small f n path (x ∷ fs) [] s a i = absurd a
resources_fail column cert small f n path (x ∷ fs) (r ∷ rs) (inl p) a i =
    some_left _ (resource_leaves n path r) (leaves_from (n + 1) path rs)
    (leaves_fail column cert small f x.leaves.items (resource_leaves n path r) (some_of (LeafFails column cert f) x.leaves.items p) a.0.leaves (all_left (IsKnownLeaf (certificate_of cert).ranges) (resource_leaves n path r) (leaves_from (n + 1) path rs) i))
resources_fail column cert small f n path (x ∷ fs) (r ∷ rs) (inr s) a i =
    some_right _ (resource_leaves n path r) (leaves_from (n + 1) path rs) (resources_fail column cert small f (n + 1) path fs rs s a.1 (all_right (IsKnownLeaf (certificate_of cert).ranges) (resource_leaves n path r) (leaves_from (n + 1) path rs) i))

devices_fail : (column : Column) (cert : Certificate) (small : AreSmall (certificate_of cert)) (f : Shortfall) (fs : List FlatDevice) (ds : List system.Device) → OneOf (DeviceFails column cert f) fs → AreDevices fs ds → AllByRecursion (λ (d : system.Device). AllByRecursion (IsKnownLeaf (certificate_of cert).ranges) (leaves d)) ds
    → OneOf (λ (d : system.Device). OneOf (λ (b : wires.Leaf). IsLeafFault (column_of column (certificate_of cert)) (certificate_of cert).ranges b f) (leaves d)) ds
devices_fail column cert small f [] ds s a i = absurd s
devices_fail column cert small f (x ∷ fs) [] s a i = absurd a
devices_fail column cert small f (x ∷ fs) (d ∷ ds) (inl p) a i = inl (resources_fail column cert small f 0 (d.name ∷ []) x.resources.items d.resources (some_of (ResourceFails column cert f) x.resources.items p) a.0.resources i.0)
devices_fail column cert small f (x ∷ fs) (d ∷ ds) (inr s) a i = inr (devices_fail column cert small f fs ds s a.1 i.1)

pub one_fails : (column : Column) (cert : Certificate) (small : AreSmall (certificate_of cert)) (fs : List FlatDevice) (s : system.System) (r : Result (Unit {0}) Shortfall) → IfErr r (λ f. Any (DeviceFails column cert f) fs) → AreDevices fs s.devices → AreKnown (certificate_of cert).ranges s
    → IfErr r (IsUnpaid (column_of column (certificate_of cert)) (certificate_of cert).ranges s)
one_fails column cert small fs s (Ok u) p a i = tt
one_fails column cert small fs s (Err f) p a i = devices_fail column cert small f fs s.devices (some_of (DeviceFails column cert f) fs p) a i
