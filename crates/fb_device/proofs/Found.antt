-- The device of a name in what was checked.
use Rattle.std.proofs.Common.{◌≡◌, ℕ, true, false, List, [], ◌∷◌, map, slice_get, Some, None, refl, sym, ◌∙◌, ap, subst, string_bytes}
use Rattle.std.specs.List.{AllByRecursion}
use Rattle.fb_model.specs.System.{Device}
use Rattle.fb_model.specs.Messages.{Stamp}
use Rattle.fb_types.specs.declared.typed.Device.{Device as RustDevice}
use Rattle.fb_types.specs.Views.{device_of}
use Rattle.fb_verified.specs.declared.verified.Verified.{Verified}
use Rattle.fb_faults.specs.declared.refusal.Refusal.TheVariants as checks
use Rattle.fb_verified.specs.Lookups.{is_same_path}
use Rattle.fb_verified.specs.Checked.{system_in}
use Rattle.fb_verdict.specs.Verdicts.{IsOfTexts}
use Rattle.fb_model.specs.Verdicts.{of_application}
use Rattle.fb_device.specs.declared.refusal.Refusal.{Refusal}
use Rattle.fb_device.specs.declared.refusal.Refusal.TheVariants.{Checked, NoDevice, Limit}
use Rattle.fb_device_state.specs.Sessions.{Session}
use Rattle.fb_device.specs.Refusals.{no_memory}
use Rattle.fb_device.specs.Loads.{IsLoaded, IsLoadFault, IsBeginFault, IsThere, IsReadyOf, IsUnnamed, IsMissing}
use Rattle.fb_device.specs.Finding.{first_named}
use Rattle.fb_lists.proofs.Lists.{all_got}
use Rattle.fb_device.proofs.Finding.{none_named, one_named, unmapped, all_unmapped}

-- names of devices, in the code and in the book
names_same : (ds : List RustDevice) → map (λ (d : RustDevice). string_bytes d.name) ds ≡ map (λ (d : Device). d.name) (map device_of ds)
names_same [] = refl
names_same (d ∷ ds) = ap (λ rest. string_bytes d.name ∷ rest) (names_same ds)

pub found_device : (v : Verified) (name : List ℕ) (k : ℕ) → first_named (map (λ (d : RustDevice). string_bytes d.name) v.typed.devices.items) name ≡ Some k → (d : Device) × (slice_get (system_in v).devices k ≡ Some d) × (is_same_path d.name name ≡ true)
found_device v name k h =
    let q = one_named (map (λ (d : Device). d.name) (system_in v).devices) name k (ap (λ ns. first_named ns name) (sym (names_same v.typed.devices.items)) ∙ h) in
    let u = unmapped (λ (d : Device). d.name) (system_in v).devices k q.0 q.1 in
    (u.0, u.1, ap (λ n. is_same_path n name) u.2 ∙ q.2)

pub no_device_named : (v : Verified) (name : List ℕ) → first_named (map (λ (d : RustDevice). string_bytes d.name) v.typed.devices.items) name ≡ None → AllByRecursion (λ (d : Device). is_same_path d.name name ≡ false) (system_in v).devices
no_device_named v name h =
    all_unmapped (λ (d : Device). d.name) (λ x. is_same_path x name ≡ false) (system_in v).devices (none_named (map (λ (d : Device). d.name) (system_in v).devices) name (ap (λ ns. first_named ns name) (sym (names_same v.typed.devices.items)) ∙ h))

pub missing_so : (v : Verified) (name : List ℕ) (f : Refusal) → AllByRecursion (λ (d : Device). is_same_path d.name name ≡ false) (system_in v).devices → IsUnnamed name f → IsMissing v name f
missing_so v name (Checked checks.OutOfMemory) a h = tt
missing_so v name (NoDevice shown) a h = (a, h)
missing_so v name Limit a h = absurd h
missing_so v name (Checked (checks.Text x)) a h = absurd h
missing_so v name (Checked (checks.Typing x)) a h = absurd h
missing_so v name (Checked (checks.Certificate x)) a h = absurd h
missing_so v name (Checked (checks.UnknownRow x)) a h = absurd h
missing_so v name (Checked (checks.MissingRow x)) a h = absurd h
missing_so v name (Checked (checks.RangeStart x)) a h = absurd h
missing_so v name (Checked (checks.RangeLink x)) a h = absurd h
missing_so v name (Checked (checks.RangeKept x)) a h = absurd h
missing_so v name (Checked (checks.IndexOrDivisor x)) a h = absurd h
missing_so v name (Checked (checks.Charge x)) a h = absurd h
missing_so v name (Checked (checks.Weight x)) a h = absurd h
missing_so v name (Checked (checks.Depth x)) a h = absurd h
missing_so v name (Checked (checks.UnknownChannel x)) a h = absurd h
missing_so v name (Checked (checks.MissingChannel x)) a h = absurd h
missing_so v name (Checked (checks.Far x)) a h = absurd h
missing_so v name (Checked (checks.Channel x)) a h = absurd h

-- memory ran out
pub missing_memory : (v : Verified) (name : List ℕ) (f : Refusal) → f ≡ no_memory → IsMissing v name f
missing_memory v name f h = subst (IsMissing v name) (sym h) tt

-- ---- over two texts

pub loaded_so : (text certificate name : List ℕ) (first : ℕ) (stamp : Stamp) (v : Verified) (r : Session) → IsOfTexts text certificate v → IsReadyOf v name first stamp r → IsLoaded text certificate name first stamp r
loaded_so text certificate name first stamp v r t h = record {
  texts = subst (IsOfTexts text certificate) (sym h.same) t;
  device = h.device;
  stands = ap (λ (w : Verified). slice_get (system_in w).devices r.number) h.same ∙ h.stands;
  named = h.named;
  silent = h.silent;
}

pub fault_so : (text certificate name : List ℕ) (v : Verified) (f : Refusal) → IsOfTexts text certificate v → IsMissing v name f → IsLoadFault text certificate name f
fault_so text certificate name v (Checked checks.OutOfMemory) t h = of_application tt
fault_so text certificate name v Limit t h = absurd h
fault_so text certificate name v (NoDevice shown) t h = (record { system = system_in v; system_is = t.system_is; unknown = h.0 }, h.1)
fault_so text certificate name v (Checked (checks.Text x)) t h = absurd h
fault_so text certificate name v (Checked (checks.Typing x)) t h = absurd h
fault_so text certificate name v (Checked (checks.Certificate x)) t h = absurd h
fault_so text certificate name v (Checked (checks.UnknownRow x)) t h = absurd h
fault_so text certificate name v (Checked (checks.MissingRow x)) t h = absurd h
fault_so text certificate name v (Checked (checks.RangeStart x)) t h = absurd h
fault_so text certificate name v (Checked (checks.RangeLink x)) t h = absurd h
fault_so text certificate name v (Checked (checks.RangeKept x)) t h = absurd h
fault_so text certificate name v (Checked (checks.IndexOrDivisor x)) t h = absurd h
fault_so text certificate name v (Checked (checks.Charge x)) t h = absurd h
fault_so text certificate name v (Checked (checks.Weight x)) t h = absurd h
fault_so text certificate name v (Checked (checks.Depth x)) t h = absurd h
fault_so text certificate name v (Checked (checks.UnknownChannel x)) t h = absurd h
fault_so text certificate name v (Checked (checks.MissingChannel x)) t h = absurd h
fault_so text certificate name v (Checked (checks.Far x)) t h = absurd h
fault_so text certificate name v (Checked (checks.Channel x)) t h = absurd h

none_there : (ds : List Device) (name : List ℕ) (k : ℕ) (d : Device) → AllByRecursion (λ (d : Device). is_same_path d.name name ≡ false) ds → slice_get ds k ≡ Some d → is_same_path d.name name ≡ true → ⊥
none_there ds name k d a h t = (let f = all_got (λ (d : Device). is_same_path d.name name ≡ false) ds k d a h in let g : true ≡ false = sym t ∙ f in absurd cc)

pub memory_so : (v : Verified) (name : List ℕ) (f : Refusal) → IsThere (system_in v) name → IsMissing v name f → f ≡ no_memory
memory_so v name (Checked checks.OutOfMemory) t h = refl
memory_so v name Limit t h = absurd h
memory_so v name (NoDevice shown) t h = absurd (none_there (system_in v).devices name t.0 t.1 h.0 t.2 t.3)
memory_so v name (Checked (checks.Text x)) t h = absurd h
memory_so v name (Checked (checks.Typing x)) t h = absurd h
memory_so v name (Checked (checks.Certificate x)) t h = absurd h
memory_so v name (Checked (checks.UnknownRow x)) t h = absurd h
memory_so v name (Checked (checks.MissingRow x)) t h = absurd h
memory_so v name (Checked (checks.RangeStart x)) t h = absurd h
memory_so v name (Checked (checks.RangeLink x)) t h = absurd h
memory_so v name (Checked (checks.RangeKept x)) t h = absurd h
memory_so v name (Checked (checks.IndexOrDivisor x)) t h = absurd h
memory_so v name (Checked (checks.Charge x)) t h = absurd h
memory_so v name (Checked (checks.Weight x)) t h = absurd h
memory_so v name (Checked (checks.Depth x)) t h = absurd h
memory_so v name (Checked (checks.UnknownChannel x)) t h = absurd h
memory_so v name (Checked (checks.MissingChannel x)) t h = absurd h
memory_so v name (Checked (checks.Far x)) t h = absurd h
memory_so v name (Checked (checks.Channel x)) t h = absurd h

-- what a refusal of the texts and the name says is so, whatever the device begins with
pub begin_fault : (text certificate name : List ℕ) (first next : ℕ) (f : Refusal) → IsLoadFault text certificate name f → IsBeginFault text certificate name first next f
begin_fault text certificate name first next (Checked refusal) h = h
begin_fault text certificate name first next (NoDevice shown) h = h
begin_fault text certificate name first next Limit h = absurd h
