-- What is known of the leaves of a device that was checked.
use Rattle.std.proofs.Common.{◌≡◌, ◌+◌, ℕ, zero, suc, List, [], ◌∷◌, ◌++◌, length, get_or, Some, slice_get, Result, Ok, Err, refl, sym, ap, subst}
use Rattle.std.specs.Prelude.{IfOk}
use Rattle.std.specs.List.{AllByRecursion}
use Rattle.std.specs.declared.alloc.AllocError.{AllocError}
use Rattle.fb_model.specs.Names.{Path}
use Rattle.fb_model.specs.System as book
use Rattle.fb_model.specs.Wires as wires
use Rattle.fb_model.specs.Wires.{leaves, resource_leaves, leaves_from}
use Rattle.fb_model.specs.Store.{variable_names, inputs}
use Rattle.fb_model.specs.Ranges.{Range, LeafLies}
use Rattle.fb_model.specs.Certificates.{DeviceHolds}
use Rattle.fb_verified.proofs.Written.{devices_hold}
use Rattle.fb_model_laws.specs.Leaves.{IsFed}
use Rattle.fb_model_laws.proofs.Values.{all_fed}
use Rattle.st_exec.specs.Cells.{Cell}
use Rattle.fb_lists.proofs.Lists.{all_got}
use Rattle.fb_flat.specs.declared.flat.Leaf.{Leaf}
use Rattle.fb_flat.specs.declared.flat.FlatResource.{FlatResource}
use Rattle.fb_flat.specs.declared.flat.FlatDevice.{FlatDevice}
use Rattle.fb_flat.specs.Sources.{written_inputs}
use Rattle.fb_flat.specs.Tables.{AreLeaves, AreResources, IsDevice, AreDevices}
use Rattle.fb_flat.proofs.Few.{IsSmallKind, services_small, inputs_written}
use Rattle.fb_verified.specs.declared.verified.Verified.{Verified}
use Rattle.fb_verified.specs.Checked.{system_in, certificate_in, IsChecked}
use Rattle.fb_verified.proofs.Written as written
use Rattle.fb_device_values.specs.First.{HaveFirstCells}
use Rattle.fb_device_values.specs.Filling.{AreFilled, leaves_in}
use Rattle.fb_device_values.specs.declared.first.FirstValues.{FirstValues}
use Rattle.fb_device_values.proofs.Leaving.{IsKnown, leaf_begun}

-- ---- devices at an index

flat_at : (fs : List FlatDevice) (ds : List book.Device) (n : ℕ) (d : book.Device) (f : FlatDevice) → AreDevices fs ds → slice_get ds n ≡ Some d → f ≡ get_or fs n f → IsDevice f d
flat_at [] [] n d f a e g = absurd cc
flat_at [] (c ∷ ds) n d f a e g = absurd a
flat_at (h ∷ fs) [] n d f a e g = absurd a
flat_at (h ∷ fs) (c ∷ ds) zero d f a e g = let s : c ≡ d = cc in subst (λ x. IsDevice x d) (sym g) (subst (λ (x : book.Device). IsDevice h x) s a.0)
flat_at (h ∷ fs) (c ∷ ds) (suc n) d f a e g = flat_at fs ds n d f a.1 e g

as_many : (fs : List FlatDevice) (ds : List book.Device) → AreDevices fs ds → length fs ≡ length ds
as_many [] [] a = refl
as_many [] (d ∷ ds) a = absurd a
as_many (f ∷ fs) [] a = absurd a
as_many (f ∷ fs) (d ∷ ds) a = ap suc (as_many fs ds a.1)

-- what was checked has tables of as many devices
pub as_many_devices : (v : Verified) → IsChecked v → length v.flat.devices.items ≡ length (system_in v).devices
as_many_devices v checked = as_many v.flat.devices.items (system_in v).devices (written.tables_are (system_in v) v.flat.devices.items checked.written checked.tables)

-- ---- leaves of all resources

leaves_join : (ls ms : List Leaf) (bs cs : List wires.Leaf) → AreLeaves ls bs → AreLeaves ms cs → AreLeaves (ls ++ ms) (bs ++ cs)
leaves_join [] ms [] cs h k = k
leaves_join [] ms (b ∷ bs) cs h k = absurd h
leaves_join (l ∷ ls) ms [] cs h k = absurd h
leaves_join (l ∷ ls) ms (b ∷ bs) cs h k = (h.0, leaves_join ls ms bs cs h.1 k)

leaves_are : (n : ℕ) (path : Path) (fs : List FlatResource) (rs : List book.Resource) → AreResources n path fs rs → AreLeaves (leaves_in fs) (leaves_from n path rs)
leaves_are n path [] [] a = tt
leaves_are n path [] (r ∷ rs) a = absurd a
leaves_are n path (f ∷ fs) [] a = absurd a
leaves_are n path (f ∷ fs) (r ∷ rs) a = leaves_join f.leaves.items (leaves_in fs) (resource_leaves n path r) (leaves_from (n + 1) path rs) a.0.leaves (leaves_are (n + 1) path fs rs a.1)

-- ---- first values

all_first : (ranges : List Range) (ls : List Leaf) (bs : List wires.Leaf) (owns issues : List (List Cell)) → AreLeaves ls bs → AllByRecursion (IsKnown ranges) bs → AreFilled ls owns issues → HaveFirstCells bs owns issues
all_first ranges [] [] [] [] a k h = tt
all_first ranges [] [] [] (i ∷ is) a k h = absurd h
all_first ranges [] [] (o ∷ os) [] a k h = absurd h
all_first ranges [] [] (o ∷ os) (i ∷ is) a k h = absurd h
all_first ranges [] (b ∷ bs) owns issues a k h = absurd a
all_first ranges (l ∷ ls) [] owns issues a k h = absurd a
all_first ranges (l ∷ ls) (b ∷ bs) [] [] a k h = absurd h
all_first ranges (l ∷ ls) (b ∷ bs) [] (i ∷ is) a k h = absurd h
all_first ranges (l ∷ ls) (b ∷ bs) (o ∷ os) [] a k h = absurd h
all_first ranges (l ∷ ls) (b ∷ bs) (o ∷ os) (i ∷ is) a k h = (leaf_begun ranges l b o i a.0 k.0 h.0, all_first ranges ls bs os is a.1 k.1 h.1)

known : (ranges : List Range) (all bs : List wires.Leaf) → AllByRecursion (λ (leaf : wires.Leaf). IsSmallKind leaf.kind) bs → AllByRecursion (λ (leaf : wires.Leaf). written_inputs leaf.kind ≡ variable_names (inputs leaf.kind)) bs
    → AllByRecursion (IsFed all) bs → AllByRecursion (LeafLies ranges all) bs → AllByRecursion (IsKnown ranges) bs
known ranges all [] s w f h = tt
known ranges all (b ∷ bs) s w f h = (record { small = s.0; written = w.0; good = f.0.good; starts = h.0.starts }, known ranges all bs s.1 w.1 f.1 h.1)

known_at : (v : Verified) (n : ℕ) (d : book.Device) → IsChecked v → slice_get (system_in v).devices n ≡ Some d → AllByRecursion (IsKnown (certificate_in v).ranges) (leaves d)
known_at v n d checked e =
    let s = system_in v in
    let elaborated = checked.written.1.typed.typed in
    let holds = all_got (DeviceHolds (certificate_in v)) s.devices n d (devices_hold s (certificate_in v) checked.written checked.fits) e in
    known (certificate_in v).ranges (leaves d) (leaves d)
    (all_got (λ (x : book.Device). AllByRecursion (λ (leaf : wires.Leaf). IsSmallKind leaf.kind) (leaves x)) s.devices n d (services_small _ _ s elaborated) e)
    (all_got (λ (x : book.Device). AllByRecursion (λ (leaf : wires.Leaf). written_inputs leaf.kind ≡ variable_names (inputs leaf.kind)) (leaves x)) s.devices n d (inputs_written _ _ s elaborated) e)
    (all_got (λ (x : book.Device). AllByRecursion (IsFed (leaves x)) (leaves x)) s.devices n d (all_fed _ _ s elaborated) e) holds.ranges

-- the stores that are filled for the leaves of a device that was checked have its first values
pub firsts_are : (v : Verified) (n : ℕ) (f : FlatDevice) (d : book.Device) (r : Result FirstValues AllocError) → IsChecked v → slice_get (system_in v).devices n ≡ Some d → f ≡ get_or v.flat.devices.items n f
    → IfOk r (λ x. AreFilled (leaves_in f.resources.items) x.own.items x.issued.items) → IfOk r (λ x. HaveFirstCells (leaves d) x.own.items x.issued.items)
firsts_are v n f d (Ok x) checked e g h =
    let flat = flat_at v.flat.devices.items (system_in v).devices n d f (written.tables_are (system_in v) v.flat.devices.items checked.written checked.tables) e g in
    all_first (certificate_in v).ranges (leaves_in f.resources.items) (leaves d) x.own.items x.issued.items (leaves_are 0 (d.name ∷ []) f.resources.items d.resources flat.resources) (known_at v n d checked e) h
firsts_are v n f d (Err x) checked e g h = tt
