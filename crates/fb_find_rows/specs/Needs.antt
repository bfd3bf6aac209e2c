-- How deep queues have to be for what comes from outside, and rows DEPTH that say so.
-- This project's profile.
use Rattle.std.specs.Prelude.{ℕ, ◌≡◌, ◌+◌, false, true, List, [], ◌∷◌, ◌++◌, map, string_bytes}
use Rattle.fb_model.specs.Names.{Name, Path, is_in}
use Rattle.fb_model.specs.System as book
use Rattle.fb_model.specs.Wires.{resource_leaves}
use Rattle.fb_model.specs.Certificates as certs
use Rattle.fb_cert.specs.Views.{Rows, Table}
use Rattle.fb_cert.specs.Adding.{is_upper_path}
use Rattle.fb_flat.specs.declared.flat.FlatResource.{FlatResource}
use Rattle.fb_flat.specs.declared.flat.FlatDevice.{FlatDevice}
use Rattle.fb_model.specs.Finding.{needed_depth}
use Rattle.fb_faults.specs.declared.no_bound.NoBound.{NoBound}
use Rattle.fb_faults.specs.declared.no_bound.NoBound.TheVariants.{OutOfMemory, Cycle, NoRange, Limit}

-- ---- rows

abbrev pub paths : Table ℕ → List Name
paths rows = map (λ r. r.0) rows

-- the paths of a device's resources
abbrev pub resource_texts : FlatDevice → List Name
resource_texts d = map (λ (r : FlatResource). string_bytes r.path) d.resources.items

-- paths in upper case, none of them among those before it
abbrev pub AreFresh : List Name → List Name → Type 0
AreFresh before [] = Unit {0}
AreFresh before (t ∷ ts) = (is_upper_path t ≡ true) × (is_in t before ≡ false) × AreFresh (before ++ t ∷ []) ts

-- rows DEPTH behind those that there are
abbrev pub with_more : Table ℕ → Rows → Rows
with_more more rows = record rows { depths = rows.depths ++ more }

-- those of resources, by their numbers from n on
abbrev pub rows_from : certs.Certificate → ℕ → Path → List FlatResource → List book.Resource → Table ℕ
rows_from cert n path [] rs = []
rows_from cert n path (f ∷ fs) [] = []
rows_from cert n path (f ∷ fs) (r ∷ rs) = (string_bytes f.path, needed_depth cert (resource_leaves n path r)) ∷ rows_from cert (n + 1) path fs rs

abbrev pub device_rows : certs.Certificate → FlatDevice → book.Device → Table ℕ
device_rows cert f d = rows_from cert 0 (d.name ∷ []) f.resources.items d.resources

abbrev pub all_rows : certs.Certificate → List FlatDevice → List book.Device → Table ℕ
all_rows cert [] ds = []
all_rows cert (f ∷ fs) [] = []
all_rows cert (f ∷ fs) (d ∷ ds) = device_rows cert f d ++ all_rows cert fs ds

-- ---- above the limit

-- want of memory, or so it is of a resource
abbrev pub IsPastFault : (Name → Type 0) → NoBound → Type 0
IsPastFault P OutOfMemory = Unit {0}
IsPastFault P (Cycle places) = ⊥
IsPastFault P (NoRange path) = ⊥
IsPastFault P (Limit resource) = P (string_bytes resource)
