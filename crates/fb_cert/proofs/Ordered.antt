-- The rows in the order in which they are printed are those rows, a text can say each, and none stands twice.
use Rattle.std.proofs.Common.{◌≡◌, ℕ, Bool, false, Option, None, Some, List, [], ◌∷◌, ◌++◌, map, refl, sym, ap, ◌∙◌, append_assoc}
use Rattle.std.specs.Prelude.{flat_map, IfSome}
use Rattle.std.specs.List.{list_any, AllByRecursion}
use Rattle.std.proofs.lemmas.List.{append-nil}
use Rattle.fb_model.specs.Spans.{Span}
use Rattle.fb_model.specs.CertificateText.{TextRow, repeats, range, charge, weight, depth, far, far_state, channel, is_same, most_repeats, most_places, most_steps}
use Rattle.fb_cert.specs.declared.certificate.Amount.{Amount}
use Rattle.fb_cert.specs.declared.kind.Kind.{Kind}
use Rattle.fb_cert.specs.declared.kind.Kind.TheVariants as kinds
use Rattle.fb_cert.specs.Rows.{Rows, no_rows, has_path, has_number}
use Rattle.fb_cert.specs.Views.{has_row, with_row}
use Rattle.fb_cert.specs.Sayable.{IsRange, IsAmount, IsWithin, IsChannel, IsSayable, AreRows, SaysAtPath, AreSayable}
use Rattle.fb_cert.specs.Printed.{repeats_entries, entries_of, entries}
use Rattle.fb_cert.proofs.ByKind.{rows_in, has_in, with_in, AreNew}

-- behind those done, entries that a text can say make the rows whole, and none repeats one before it
pub record Fills (done es : List TextRow) (whole : Rows) : Type 0 where
  pub new : AreNew done es
  pub are : rows_in (done ++ es) ≡ whole
  pub said : AllByRecursion IsSayable es

-- the entries of these kinds do so behind all that make the rows so far
abbrev FillsFrom : Rows → List Kind → Rows → Type 0
FillsFrom whole ks now = (done : List TextRow) → rows_in done ≡ now → Fills done (flat_map (λ k. entries_of k whole) ks) whole

-- those of one kind, where the others behind them do so
kind_fills : {R : Type 0} (Such : R → Type 0) (stands : R → List R → Bool) (f : R → TextRow) (put : List R → Rows)
    → ((r : R) → Such r → IsSayable (f r))
    → ((r : R) (rs : List R) → has_row (f r) (put rs) ≡ stands r rs)
    → ((r : R) (rs : List R) → with_row (f r) (put rs) ≡ put (rs ++ r ∷ []))
    → (whole : Rows) (ks : List Kind) (before rs : List R) → FillsFrom whole ks (put (before ++ rs)) → AreRows Such stands before rs
    → (done : List TextRow) → rows_in done ≡ put before → Fills done (map f rs ++ flat_map (λ k. entries_of k whole) ks) whole
kind_fills Such stands f put says has more whole ks before [] next h done e = next done (e ∙ ap put (sym (append-nil before)))
kind_fills Such stands f put says has more whole ks before (r ∷ rs) next h done e =
    let new : list_any (is_same (f r)) done ≡ false = sym (has_in (f r) done) ∙ ap (has_row (f r)) e ∙ has r before ∙ h.1 in
    let rest =
    kind_fills Such stands f put says has more whole ks (before ++ r ∷ []) rs (λ d g. next d (g ∙ ap put (append_assoc before (r ∷ []) rs))) h.2 (done ++ f r ∷ [])
    (sym (with_in (f r) done new) ∙ ap (with_row (f r)) e ∙ more r before) in
    record { new = (new, rest.new); are = ap rows_in (sym (append_assoc done (f r ∷ []) (map f rs ++ flat_map (λ k. entries_of k whole) ks))) ∙ rest.are; said = (says r h.0, rest.said) }

repeats_fill : (whole : Rows) (ks : List Kind) (o : Option ℕ) → FillsFrom whole ks (record no_rows { repeats = o }) → IfSome o (IsWithin 1 most_repeats) → Fills [] (repeats_entries o ++ flat_map (λ k. entries_of k whole) ks) whole
repeats_fill whole ks None next h = next [] refl
repeats_fill whole ks (Some n) next h = let rest = next (repeats n ∷ []) refl in record { new = (refl, rest.new); are = rest.are; said = (h, rest.said) }

-- the same, where each row has a path
path_fills : {V : Type 0} (Such : V → Type 0) (f : (List ℕ) × V → TextRow) (put : List ((List ℕ) × V) → Rows)
    → ((r : (List ℕ) × V) → SaysAtPath Such r → IsSayable (f r))
    → ((r : (List ℕ) × V) (rs : List ((List ℕ) × V)) → has_row (f r) (put rs) ≡ has_path r.0 rs)
    → ((r : (List ℕ) × V) (rs : List ((List ℕ) × V)) → with_row (f r) (put rs) ≡ put (rs ++ r ∷ []))
    → (whole : Rows) (ks : List Kind) (rs : List ((List ℕ) × V)) → FillsFrom whole ks (put rs) → AreRows (SaysAtPath Such) (λ r before. has_path r.0 before) [] rs
    → (done : List TextRow) → rows_in done ≡ put [] → Fills done (map f rs ++ flat_map (λ k. entries_of k whole) ks) whole
path_fills Such f put says has more whole ks rs next h done e = kind_fills (SaysAtPath Such) (λ r before. has_path r.0 before) f put says has more whole ks [] rs next h done e

abbrev as_range : (List ℕ) × Span → TextRow
as_range r = range r.0 r.1.low r.1.high

abbrev as_charge : (List ℕ) × Amount → TextRow
as_charge r = charge r.0 r.1.steps r.1.places

abbrev as_weight : (List ℕ) × Amount → TextRow
as_weight r = weight r.0 r.1.steps r.1.places

abbrev as_depth : (List ℕ) × ℕ → TextRow
as_depth r = depth r.0 r.1

abbrev as_far : (List ℕ) × ℕ → TextRow
as_far r = far r.0 r.1

abbrev as_far_state : (List ℕ) × ℕ → TextRow
as_far_state r = far_state r.0 r.1

abbrev as_channel : ℕ × ℕ → TextRow
as_channel r = channel r.0 r.1

pub entries_fill : (rows : Rows) → AreSayable rows → Fills [] (entries rows) rows
entries_fill rows h =
    let last : FillsFrom rows [] rows = λ done e. record { new = tt; are = ap rows_in (append-nil done) ∙ e; said = tt } in
    let channels : FillsFrom rows (kinds.Channel ∷ []) (record rows { channels = [] }) =
    kind_fills IsChannel (λ r before. has_number r.0 before) as_channel (λ t. record rows { channels = t }) (λ r s. s) (λ r t. refl) (λ r t. refl) rows [] [] rows.channels last h.channels_are in
    let far_states : FillsFrom rows (kinds.FarState ∷ kinds.Channel ∷ []) (record rows { far_states = []; channels = [] }) =
    path_fills (IsWithin 0 most_steps) as_far_state (λ t. record rows { far_states = t; channels = [] }) (λ r s. s) (λ r t. refl) (λ r t. refl) rows (kinds.Channel ∷ []) rows.far_states channels h.far_states_are in
    let fars : FillsFrom rows (kinds.Far ∷ kinds.FarState ∷ kinds.Channel ∷ []) (record rows { fars = []; far_states = []; channels = [] }) =
    path_fills (IsWithin 0 most_steps) as_far (λ t. record rows { fars = t; far_states = []; channels = [] }) (λ r s. s) (λ r t. refl) (λ r t. refl) rows (kinds.FarState ∷ kinds.Channel ∷ []) rows.fars far_states h.fars_are in
    let depths : FillsFrom rows (kinds.Depth ∷ kinds.Far ∷ kinds.FarState ∷ kinds.Channel ∷ []) (record rows { depths = []; fars = []; far_states = []; channels = [] }) =
    path_fills (IsWithin 1 most_places) as_depth (λ t. record rows { depths = t; fars = []; far_states = []; channels = [] }) (λ r s. s) (λ r t. refl) (λ r t. refl) rows (kinds.Far ∷ kinds.FarState ∷ kinds.Channel ∷ []) rows.depths fars h.depths_are in
    let weights : FillsFrom rows (kinds.Weight ∷ kinds.Depth ∷ kinds.Far ∷ kinds.FarState ∷ kinds.Channel ∷ []) (record no_rows { repeats = rows.repeats; ranges = rows.ranges; charges = rows.charges }) =
    path_fills IsAmount as_weight (λ t. record no_rows { repeats = rows.repeats; ranges = rows.ranges; charges = rows.charges; weights = t }) (λ r s. s) (λ r t. refl) (λ r t. refl) rows (kinds.Depth ∷ kinds.Far ∷ kinds.FarState ∷ kinds.Channel ∷ []) rows.weights depths h.weights_are in
    let charges : FillsFrom rows (kinds.Charge ∷ kinds.Weight ∷ kinds.Depth ∷ kinds.Far ∷ kinds.FarState ∷ kinds.Channel ∷ []) (record no_rows { repeats = rows.repeats; ranges = rows.ranges }) =
    path_fills IsAmount as_charge (λ t. record no_rows { repeats = rows.repeats; ranges = rows.ranges; charges = t }) (λ r s. s) (λ r t. refl) (λ r t. refl) rows (kinds.Weight ∷ kinds.Depth ∷ kinds.Far ∷ kinds.FarState ∷ kinds.Channel ∷ []) rows.charges weights h.charges_are in
    let ranges : FillsFrom rows (kinds.Range ∷ kinds.Charge ∷ kinds.Weight ∷ kinds.Depth ∷ kinds.Far ∷ kinds.FarState ∷ kinds.Channel ∷ []) (record no_rows { repeats = rows.repeats }) =
    path_fills IsRange as_range (λ t. record no_rows { repeats = rows.repeats; ranges = t }) (λ r s. s) (λ r t. refl) (λ r t. refl) rows (kinds.Charge ∷ kinds.Weight ∷ kinds.Depth ∷ kinds.Far ∷ kinds.FarState ∷ kinds.Channel ∷ []) rows.ranges charges h.ranges_are in
    repeats_fill rows (kinds.Range ∷ kinds.Charge ∷ kinds.Weight ∷ kinds.Depth ∷ kinds.Far ∷ kinds.FarState ∷ kinds.Channel ∷ []) rows.repeats ranges h.repeats_are
