-- Queues with room for bursts: as deep as so many arrivals of each kind need at once. This project's profile.
use Rattle.std.specs.Prelude.{ℕ, ◌+◌, Some, None, slice_get, ◌*◌, max, min, List, [], ◌∷◌, ◌++◌, map, if◌then◌else◌}
use Rattle.fb_model.specs.Names.{Path, path_eq}
use Rattle.fb_model.specs.System.{Device, Resource}
use Rattle.fb_model.specs.Wires.{Leaf, resource_leaves}
use Rattle.fb_model.specs.Certificates.{Certificate, DepthRow}
use Rattle.fb_model.specs.CertificateText.{most_places, names_in}
use Rattle.fb_cert.specs.Views.{Rows, book_of, with_depth_at}
use Rattle.fb_model.specs.Finding.{arrival_of}

-- the places of one arrival of each kind among these leaves
abbrev pub arrivals_of : Certificate → List Leaf → ℕ
arrivals_of cert [] = 0
arrivals_of cert (leaf ∷ rest) = arrival_of cert leaf + arrivals_of cert rest

-- at the resource of a path among these of a device, numbered from n on
abbrev pub arrivals_in : Certificate → Path → ℕ → Path → List Resource → ℕ
arrivals_in cert path n device [] = 0
arrivals_in cert path n device (r ∷ rs) = (if path_eq path (device ++ r.name ∷ []) then arrivals_of cert (resource_leaves n device r) else 0) + arrivals_in cert path (n + 1) device rs

-- and among those of all devices
abbrev pub arrivals_at : Certificate → Path → List Device → ℕ
arrivals_at cert path [] = 0
arrivals_at cert path (d ∷ ds) = arrivals_in cert path 0 (d.name ∷ []) d.resources + arrivals_at cert path ds

-- the places of so many arrivals of each kind at the resource of a path, as far as a row can say; no fewer than it had
abbrev pub roomy_depth : ℕ → List Device → Certificate → Path → ℕ → ℕ
roomy_depth times ds cert path depth = max (min (arrivals_at cert path ds * times) most_places) depth

-- the same certificate but for its depths, each of which gives room for so many arrivals of each kind
abbrev pub roomy : ℕ → List Device → Certificate → Certificate
roomy times ds cert = record cert { depths = map {A = DepthRow} (λ r. record r { depth = roomy_depth times ds cert r.path r.depth }) cert.depths }

-- the same of rows
abbrev pub roomy_rows : ℕ → List Device → Rows → Rows
roomy_rows times ds rows = record rows { depths = map (λ r. (r.0, roomy_depth times ds (book_of rows) (names_in r.0) r.1)) rows.depths }

-- the rows with room in the row at an index alone; past the last one nothing changes
abbrev pub roomy_at : ℕ → ℕ → List Device → Rows → Rows
roomy_at index times ds rows = elim (slice_get rows.depths index) [ None ↦ rows | Some r ↦ with_depth_at index (roomy_depth times ds (book_of rows) (names_in r.0) r.1) rows ]
