-- A certificate that fits still fits with room.
use Rattle.std.proofs.Common.{◌≡◌, ◌≤◌, ◌+◌, ◌*◌, ℕ, Bool, true, false, refl, ap, ◌∙◌, arith, min, List, [], ◌∷◌, map}
use Rattle.std.specs.Prelude.{◌&&◌, ◌==◌, if◌then◌else◌}
use Rattle.std.specs.List.{list_any}
use Rattle.std.proofs.Math.Nat.{le-max_right}
use Rattle.fb_model.specs.Names.{Path, at_place, path_eq}
use Rattle.fb_model.specs.System.{Device, System}
use Rattle.fb_model.specs.Services.{begin}
use Rattle.fb_model.specs.Wires.{Leaf, leaves}
use Rattle.fb_model.specs.Certificates.{Certificate, DepthRow, places_of, depth_at, depth_of, depth_rows, kind_arrivals, is_restart, begin_places, ArrivalsFit, DeviceFits, FarFits, PlaceRows, Range_rows, Charge_rows, Weight_rows, Far_rows, Far_state_rows, AreRowsOf, required, given, all_leaves, AllRows, Fits}
use Rattle.fb_model.proofs.Lists.{all_weaker}
use Rattle.fb_find_room.specs.Room.{arrivals_at, roomy, roomy_depth}

module _ (times : ℕ) (ds : List Device) (cert : Certificate) where
  abbrev row : DepthRow → DepthRow
  row r = record r { depth = roomy_depth times ds cert r.path r.depth }

  here : (is : Bool) (r : DepthRow) (old new : ℕ) → old ≤ new → (if is then r.depth else old) ≤ (if is then roomy_depth times ds cert r.path r.depth else new)
  here true r old new l = le-max_right (min (arrivals_at cert r.path ds * times) 4096) r.depth
  here false r old new l = l

  -- no depth is smaller than it was
  grown : (rs : List DepthRow) (path : Path) → depth_at rs path ≤ depth_at (map row rs) path
  grown [] path = omega arith
  grown (r ∷ rs) path = here (path_eq r.path path) r (depth_at rs path) (depth_at (map row rs) path) (grown rs path)

  same_paths : (rs : List DepthRow) → depth_rows (map row rs) ≡ depth_rows rs
  same_paths [] = refl
  same_paths (r ∷ rs) = ap (λ ps. r.path ∷ ps) (same_paths rs)

  depth_grown : (d : Device) (q : ℕ) → depth_of cert d q ≤ depth_of (roomy times ds cert) d q
  depth_grown d q = grown cert.depths (d.name ∷ Rattle.fb_model.specs.Certificates.name_at d.resources q ∷ [])

  arrives : (d : Device) (leaf : Leaf) → ArrivalsFit cert d leaf → ArrivalsFit (roomy times ds cert) d leaf
  arrives d leaf h =
      all_weaker (λ e. (places_of cert).weight (at_place leaf.path e) ≤ depth_of cert d leaf.home) (λ e. (places_of cert).weight (at_place leaf.path e) ≤ depth_of (roomy times ds cert) d leaf.home) (kind_arrivals leaf.kind)
      (λ e l. let g = depth_grown d leaf.home in omega (arith, l, g)) h

  same_begins : (all : List Leaf) (q : ℕ) → begin_places (roomy times ds cert) all q ≡ begin_places cert all q
  same_begins [] q = refl
  same_begins (leaf ∷ rest) q = ap (λ n. (if is_restart leaf.kind && (leaf.home == q) then (places_of cert).weight (at_place leaf.path begin) else 0) + n) (same_begins rest q)

  device_fits : (d : Device) → DeviceFits cert d → DeviceFits (roomy times ds cert) d
  device_fits d f = record {
    steps = f.steps;
    places = f.places;
    arrivals = all_weaker (ArrivalsFit cert d) (ArrivalsFit (roomy times ds cert) d) (leaves d) (arrives d) f.arrivals;
    begins = λ q. let b = f.begins q in let s = same_begins (leaves d) q in let g = depth_grown d q in omega (arith, b, s, g);
  }

  row_places_same : (all : List Leaf) (kind : PlaceRows) → AreRowsOf (required kind cert.repeats all) (given kind cert) → AreRowsOf (required kind cert.repeats all) (given kind (roomy times ds cert))
  row_places_same all Range_rows h = h
  row_places_same all Charge_rows h = h
  row_places_same all Weight_rows h = h
  row_places_same all Far_rows h = h
  row_places_same all Far_state_rows h = h

  pub fits : (s : System) → Fits s cert → Fits s (roomy times ds cert)
  fits s f = record {
    followed = f.followed;
    rows = record {
      places = λ kind. row_places_same (all_leaves s.devices) kind (f.rows.places kind);
      depths = λ path. ap (list_any (path_eq path)) (same_paths cert.depths) ∙ f.rows.depths path;
      channels = f.rows.channels;
    };
    clear = f.clear;
    devices = all_weaker (DeviceFits cert) (DeviceFits (roomy times ds cert)) s.devices device_fits f.devices;
    far = λ repeats is. let h = f.far repeats is in record { devices = h.devices; channels = h.channels };
  }
