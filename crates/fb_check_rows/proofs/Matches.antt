-- The rows of a certificate that are those of leaf tables are those that the system must have, and other ones are not.
use Rattle.std.proofs.Common.{◌≡◌, ℕ, List, [], ◌∷◌, map, Option, Some, None, refl, sym, ap, ◌∙◌, inl, inr, Result, Ok, Err, IfErr, string_bytes}
use Rattle.std.specs.List.{list_any, AllByRecursion}
use Rattle.fb_model.specs.Names.{Name, Place, place_eq, path_eq, is_in}
use Rattle.fb_model.specs.System as book
use Rattle.fb_model_laws.specs.Words.{IsWordyDevice}
use Rattle.fb_model.specs.Certificates as cert
use Rattle.fb_model.specs.Certificates.{PlaceRows, Range_rows, Charge_rows, Weight_rows, Far_rows, Far_state_rows, given, with_repeats, row_places, range_places, far_places, depth_paths, AllRows}
use Rattle.fb_model.specs.CertificateText.{names_in, place_of}
use Rattle.fb_flat.specs.declared.flat.FlatDevice.{FlatDevice}
use Rattle.fb_flat.specs.Tables.{AreDevices}
use Rattle.fb_model.specs.Spans.{Span}
use Rattle.fb_cert.specs.declared.certificate.Amount.{Amount}
use Rattle.fb_cert.specs.Views.{Table, Rows, range_rows, amount_rows, depth_rows, far_rows, book_of}
use Rattle.fb_check_rows.specs.declared.kind.RowKind.TheVariants.{Charge, Weight, Depth}
use Rattle.fb_check_rows.specs.declared.kind.PathRows.{PathRows}
use Rattle.fb_check_rows.specs.declared.kind.PathRows.TheVariants.{Charges, Weights, Ranges, Depths, Fars, FarStates}
use Rattle.fb_faults.specs.declared.row.RowFault.{RowFault}
use Rattle.fb_faults.specs.declared.row.RowFault.TheVariants.{OutOfMemory, Unknown, Missing, UnknownChannel, MissingChannel}
use Rattle.fb_check_rows.specs.Texts.{paths, paths_of, texts_of, texts_due, HaveSameRows, HaveOtherRows}
use Rattle.fb_check_rows.specs.Channels.{IsOtherChannel}
use Rattle.fb_check_rows.specs.Faults.{IsDifference, IsRowFault, HasNoRowTwice}
use Rattle.fb_model.specs.Misfits.{due, is_at, is_among, unknown_place, unknown_depth, missing_place, missing_depth}
use Rattle.fb_check_rows.proofs.Places.{same_places, same_paths, any_place, any_path}
use Rattle.fb_check_rows.proofs.Systems.{devices_placed, devices_named, devices_ranged}
use Rattle.fb_check_rows.proofs.Channels.{due_same, rows_same}

-- ---- rows of certificates

ranges_are : (rows : Table Span) → range_places (range_rows rows) ≡ map place_of (paths rows)
ranges_are [] = refl
ranges_are (r ∷ rows) = ap (λ ps. place_of r.0 ∷ ps) (ranges_are rows)

places_are : (rows : Table Amount) → row_places (amount_rows rows) ≡ map place_of (paths rows)
places_are [] = refl
places_are (r ∷ rows) = ap (λ ps. place_of r.0 ∷ ps) (places_are rows)

fars_are : (rows : Table ℕ) → far_places (far_rows rows) ≡ map place_of (paths rows)
fars_are [] = refl
fars_are (r ∷ rows) = ap (λ ps. place_of r.0 ∷ ps) (fars_are rows)

paths_are : (rows : Table ℕ) → cert.depth_rows (depth_rows rows) ≡ map names_in (paths rows)
paths_are [] = refl
paths_are (r ∷ rows) = ap (λ ps. names_in r.0 ∷ ps) (paths_are rows)

-- the rows of places, by their paths
abbrev by_path : PlaceRows → PathRows
by_path Range_rows = Ranges
by_path Charge_rows = Charges
by_path Weight_rows = Weights
by_path Far_rows = Fars
by_path Far_state_rows = FarStates

given_are : (rows : Rows) (kind : PlaceRows) → given kind (book_of rows) ≡ map place_of (paths_of (by_path kind) rows)
given_are rows Range_rows = ranges_are rows.ranges
given_are rows Charge_rows = places_are rows.charges
given_are rows Weight_rows = places_are rows.weights
given_are rows Far_rows = fars_are rows.fars
given_are rows Far_state_rows = fars_are rows.far_states

with_places : (repeats : Option ℕ) (texts : List Name) → map place_of (with_repeats repeats texts) ≡ with_repeats repeats (map place_of texts)
with_places None texts = refl
with_places (Some r) texts = refl

module _ (s : book.System) (devices : List FlatDevice) (rows : Rows) (are : AreDevices devices s.devices) (plain : AllByRecursion IsWordyDevice s.devices) where
  -- the rows of places that must be there
  due_are : (kind : PlaceRows) → map place_of (texts_due rows.repeats (by_path kind) devices) ≡ due s (book_of rows) kind
  due_are Range_rows = devices_ranged devices s.devices are plain
  due_are Charge_rows = devices_placed Charge devices s.devices are plain
  due_are Weight_rows = devices_placed Weight devices s.devices are plain
  due_are Far_rows = with_places rows.repeats (texts_of Weight devices) ∙ ap (with_repeats rows.repeats) (devices_placed Weight devices s.devices are plain)
  due_are Far_state_rows = with_places rows.repeats (texts_of Charge devices) ∙ ap (with_repeats rows.repeats) (devices_placed Charge devices s.devices are plain)

  -- ---- the same rows

  pub all_rows : HasNoRowTwice (book_of rows) → HaveSameRows devices rows → AllRows s (book_of rows)
  all_rows once h =
      record {
        places =
            λ kind.
            record {
              same =
                  λ p.
                  ap (list_any (place_eq p)) (given_are rows kind)
                  ∙ same_places p (paths_of (by_path kind) rows) (texts_due rows.repeats (by_path kind) devices) (h.paths (by_path kind))
                  ∙ ap (list_any (place_eq p)) (due_are kind);
              once = once.once kind;
            };
        depths = λ path. ap (list_any (path_eq path)) (paths_are rows.depths) ∙ same_paths path (paths_of Depths rows) (texts_of Depth devices) (h.paths Depths) ∙ ap (list_any (path_eq path)) (devices_named devices s.devices are);
        channels = λ c. rows_same c rows.channels ∙ h.channels c ∙ due_same rows.repeats c devices s.devices are;
      }

  -- ---- other rows

  place_stands : (kind : PlaceRows) (path : Name) → is_at path (given kind (book_of rows)) ≡ is_in path (paths_of (by_path kind) rows)
  place_stands kind path = ap (is_at path) (given_are rows kind) ∙ any_place path (paths_of (by_path kind) rows)

  depth_stands : (path : Name) → is_among path (cert.depth_rows (depth_rows rows.depths)) ≡ is_in path (paths_of Depths rows)
  depth_stands path = ap (is_among path) (paths_are rows.depths) ∙ any_path path (paths rows.depths)

  place_due : (kind : PlaceRows) (path : Name) → is_at path (due s (book_of rows) kind) ≡ is_in path (texts_due rows.repeats (by_path kind) devices)
  place_due kind path = ap (is_at path) (sym (due_are kind)) ∙ any_place path (texts_due rows.repeats (by_path kind) devices)

  depth_due : (path : Name) → is_among path (depth_paths s.devices) ≡ is_in path (texts_of Depth devices)
  depth_due path = ap (is_among path) (sym (devices_named devices s.devices are)) ∙ any_path path (texts_of Depth devices)

  place_fault : (kind : PlaceRows) (f : RowFault) → IsDifference (texts_due rows.repeats (by_path kind) devices) (paths_of (by_path kind) rows) f → IsRowFault s (book_of rows) f
  place_fault kind OutOfMemory h = tt
  place_fault kind (Unknown path) h = unknown_place kind (place_stands kind (string_bytes path) ∙ h.0) (place_due kind (string_bytes path) ∙ h.1)
  place_fault kind (Missing path) h = missing_place kind (place_stands kind (string_bytes path) ∙ h.0) (place_due kind (string_bytes path) ∙ h.1)
  place_fault kind (UnknownChannel c) h = absurd h
  place_fault kind (MissingChannel c) h = absurd h

  depth_fault : (f : RowFault) → IsDifference (texts_of Depth devices) (paths_of Depths rows) f → IsRowFault s (book_of rows) f
  depth_fault OutOfMemory h = tt
  depth_fault (Unknown path) h = unknown_depth (depth_stands (string_bytes path) ∙ h.0) (depth_due (string_bytes path) ∙ h.1)
  depth_fault (Missing path) h = missing_depth (depth_stands (string_bytes path) ∙ h.0) (depth_due (string_bytes path) ∙ h.1)
  depth_fault (UnknownChannel c) h = absurd h
  depth_fault (MissingChannel c) h = absurd h

  path_fault : (kind : PathRows) (f : RowFault) → IsDifference (texts_due rows.repeats kind devices) (paths_of kind rows) f → IsRowFault s (book_of rows) f
  path_fault Charges f h = place_fault Charge_rows f h
  path_fault Weights f h = place_fault Weight_rows f h
  path_fault Ranges f h = place_fault Range_rows f h
  path_fault Depths f h = depth_fault f h
  path_fault Fars f h = place_fault Far_rows f h
  path_fault FarStates f h = place_fault Far_state_rows f h

  channel_fault : (f : RowFault) → IsOtherChannel devices rows f → IsRowFault s (book_of rows) f
  channel_fault OutOfMemory h = tt
  channel_fault (Unknown path) h = absurd h
  channel_fault (Missing path) h = absurd h
  channel_fault (UnknownChannel c) h = (rows_same c rows.channels ∙ h.0, sym (due_same rows.repeats c devices s.devices are) ∙ h.1)
  channel_fault (MissingChannel c) h = (rows_same c rows.channels ∙ h.0, sym (due_same rows.repeats c devices s.devices are) ∙ h.1)

  pub fault_is : (f : RowFault) → HaveOtherRows devices rows f → IsRowFault s (book_of rows) f
  fault_is f (inl h) = path_fault h.0 f h.1
  fault_is f (inr h) = channel_fault f h

-- ---- results

pub err_weaker : {X E : Type 0} (P Q : E → Type 0) → ((e : E) → P e → Q e) → (r : Result X E) → IfErr r P → IfErr r Q
err_weaker P Q g (Ok x) h = tt
err_weaker P Q g (Err e) h = g e h
