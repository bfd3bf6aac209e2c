-- Rows are added one after another.
use Rattle.std.specs.Prelude.{◌&&◌, ◌||◌}
use Rattle.std.proofs.Common.{ℕ, zero, suc, ◌≡◌, ◌+◌, ◌<◌, ◌≤◌, Bool, true, false, not, List, [], ◌∷◌, ◌++◌, length, slice_index, slice_index_or, take, refl, sym, ◌∙◌, ap, arith, if◌then◌else◌}
use Rattle.std.specs.List.{All, IsDistinct}
use Rattle.std.specs.Str.{bytes_eq}
use Rattle.fb_model.specs.Names.{Name, is_in}
use Rattle.fb_model.specs.CertificateText.{charge, weight, most_steps, most_places}
use Rattle.fb_model.proofs.Names.{eq_turned}
use Rattle.fb_find_laws.proofs.Lists.{differ}
use Rattle.fb_cert.specs.declared.certificate.Amount.{Amount}
use Rattle.fb_cert.specs.Views.{Table, Rows, amount, has_path, has_row, with_row}
use Rattle.fb_cert.specs.Adding.{is_upper_path, is_amount, is_sayable}
use Rattle.fb_find_rows.specs.Numbers.{amounts_from, amounts, CanBeSaid, with_charges, with_weights}

-- ---- rows so far

amounts_more : (k : ℕ) (xs : List Name) (t : Name) (s p : List ℕ) → amounts_from k (xs ++ t ∷ []) s p ≡ amounts_from k xs s p ++ (t, amount (slice_index s (k + length xs)) (slice_index p (k + length xs))) ∷ []
amounts_more k [] t s p = ap (λ n. (t, amount (slice_index s n) (slice_index p n)) ∷ []) (let e : k ≡ k + 0 = omega arith in e)
amounts_more k (x ∷ xs) t s p =
    ap (λ r. (x, amount (slice_index s k) (slice_index p k)) ∷ r) (amounts_more (k + 1) xs t s p)
    ∙ ap (λ n. (x, amount (slice_index s k) (slice_index p k)) ∷ (amounts_from (k + 1) xs s p ++ (t, amount (slice_index s n) (slice_index p n)) ∷ [])) (let e : k + 1 + length xs ≡ k + length (x ∷ xs) = omega arith in e)

same_paths : (k : ℕ) (t : Name) (xs : List Name) (s p : List ℕ) → has_path t (amounts_from k xs s p) ≡ is_in t xs
same_paths k t [] s p = refl
same_paths k t (x ∷ xs) s p = ap (λ b. bytes_eq t x || b) (same_paths (k + 1) t xs s p)

none_before : (xs : List Name) (t : Name) → ((j : ℕ) → j < length xs → bytes_eq t (slice_index_or xs j []) ≡ false) → is_in t xs ≡ false
none_before [] t h = refl
none_before (x ∷ xs) t h = by (bytes_eq t x) (h 0 (omega arith)) (none_before xs t (λ j l. h (suc j) (omega (arith, l)))) where
  by : (b : Bool) → b ≡ false → is_in t xs ≡ false → (b || is_in t xs) ≡ false
  by true e k = absurd cc
  by false e k = k

taken : (xs : List Name) (i j : ℕ) → j < i → j < length xs → slice_index_or (take i xs) j [] ≡ slice_index_or xs j []
taken [] i j l h = absurd (omega (arith, h))
taken (x ∷ xs) zero j l h = absurd (omega (arith, l))
taken (x ∷ xs) (suc i) zero l h = refl
taken (x ∷ xs) (suc i) (suc j) l h = taken xs i j (omega (arith, l)) (omega (arith, h))

few : (xs : List Name) (i : ℕ) → i ≤ length xs → length (take i xs) ≡ i
few [] zero h = refl
few [] (suc i) h = absurd (omega (arith, h))
few (x ∷ xs) zero h = refl
few (x ∷ xs) (suc i) h = ap suc (few xs i (omega (arith, h)))

new_path : (xs : List Name) (i : ℕ) (s p : List ℕ) → IsDistinct bytes_eq xs → i < length xs → has_path (slice_index_or xs i []) (amounts (take i xs) s p) ≡ false
new_path xs i s p d l =
    same_paths 0 (slice_index_or xs i []) (take i xs) s p
    ∙ none_before (take i xs) (slice_index_or xs i []) (λ j h.
    let m : j < i = omega (arith, h, few xs i (omega (arith, l))) in
    ap (bytes_eq (slice_index_or xs i [])) (taken xs i j m (omega (arith, m, l))) ∙ (eq_turned (slice_index_or xs i []) (slice_index_or xs j []) ∙ differ xs j i d m l))

one_more : (xs : List Name) (i : ℕ) → i < length xs → take (i + 1) xs ≡ take i xs ++ slice_index_or xs i [] ∷ []
one_more [] i l = absurd (omega (arith, l))
one_more (x ∷ xs) zero l = refl
one_more (x ∷ xs) (suc i) l = rw (let e : suc i + 1 ≡ suc (i + 1) = omega arith in e) (ap (λ ys. x ∷ ys) (one_more xs i (omega (arith, l))))

table_more : (xs : List Name) (i : ℕ) (s p : List ℕ) → i < length xs → amounts (take (i + 1) xs) s p ≡ amounts (take i xs) s p ++ (slice_index_or xs i [], amount (slice_index s i) (slice_index p i)) ∷ []
table_more xs i s p l =
    ap (λ ys. amounts ys s p) (one_more xs i l)
    ∙ (amounts_more 0 (take i xs) (slice_index_or xs i []) s p
    ∙ ap (λ n. amounts (take i xs) s p ++ (slice_index_or xs i [], amount (slice_index s n) (slice_index p n)) ∷ []) (let e : 0 + length (take i xs) ≡ i = omega (arith, few xs i (omega (arith, l))) in e))

-- ---- a row can be said

upper_at : (xs : List Name) (i : ℕ) → All (λ t. is_upper_path t ≡ true) xs → i < length xs → is_upper_path (slice_index_or xs i []) ≡ true
upper_at xs i h l = h i [] l

small_at : (limit : ℕ) (ns : List ℕ) (i : ℕ) → All (λ n. n ≤ limit) ns → slice_index ns i ≤ limit
small_at limit [] i h = omega arith
small_at limit (n ∷ ns) zero h = h 0 0 (omega arith)
small_at limit (n ∷ ns) (suc i) h = small_at limit ns i (λ j d l. h (suc j) d (omega (arith, l)))

sayable : (t : Name) (s k : ℕ) → is_upper_path t ≡ true → s ≤ most_steps → k ≤ most_places → (is_upper_path t && is_amount s k) ≡ true
sayable t s k u a b = by (is_upper_path t) u where
  amounts_fit : is_amount s k ≡ true
  amounts_fit = grind arith

  by : (b : Bool) → b ≡ true → (b && is_amount s k) ≡ true
  by true e = amounts_fit
  by false e = absurd cc

both : (a b : Bool) → a ≡ true → b ≡ false → (a && not b) ≡ true
both a b e f = rw (e, f) refl

pub charge_step : (texts : List Name) (i : ℕ) (s p : List ℕ) (old new initial : Rows) (said : Bool) → IsDistinct bytes_eq texts → CanBeSaid texts s p → i < length texts → old ≡ with_charges (amounts (take i texts) s p) initial
    → said ≡ (is_sayable (charge (slice_index_or texts i []) (slice_index s i) (slice_index p i)) && not (has_row (charge (slice_index_or texts i []) (slice_index s i) (slice_index p i)) old))
    → new ≡ (if said then with_row (charge (slice_index_or texts i []) (slice_index s i) (slice_index p i)) old else old)
    → new ≡ with_charges (amounts (take (i + 1) texts) s p) initial
charge_step texts i s p old new initial said d c l e tells made =
    let t = slice_index_or texts i [] in
    let can = sayable t (slice_index s i) (slice_index p i) (upper_at texts i c.paths l) (small_at most_steps s i c.few_steps) (small_at most_places p i c.few_places) in
    let fresh : has_path t old.charges ≡ false = ap (λ (r : Rows). has_path t r.charges) e ∙ new_path texts i s p d l in
    let yes : said ≡ true = tells ∙ both (is_upper_path t && is_amount (slice_index s i) (slice_index p i)) (has_path t old.charges) can fresh in
    made
    ∙ (ap (λ (b : Bool). if b then with_row (charge t (slice_index s i) (slice_index p i)) old else old) yes
    ∙ (ap (λ (r : Rows). with_row (charge t (slice_index s i) (slice_index p i)) r) e ∙ ap (λ (rs : Table Amount). with_charges rs initial) (sym (table_more texts i s p l))))

pub weight_step : (texts : List Name) (i : ℕ) (s p : List ℕ) (old new initial : Rows) (said : Bool) → IsDistinct bytes_eq texts → CanBeSaid texts s p → i < length texts → old ≡ with_weights (amounts (take i texts) s p) initial
    → said ≡ (is_sayable (weight (slice_index_or texts i []) (slice_index s i) (slice_index p i)) && not (has_row (weight (slice_index_or texts i []) (slice_index s i) (slice_index p i)) old))
    → new ≡ (if said then with_row (weight (slice_index_or texts i []) (slice_index s i) (slice_index p i)) old else old)
    → new ≡ with_weights (amounts (take (i + 1) texts) s p) initial
weight_step texts i s p old new initial said d c l e tells made =
    let t = slice_index_or texts i [] in
    let can = sayable t (slice_index s i) (slice_index p i) (upper_at texts i c.paths l) (small_at most_steps s i c.few_steps) (small_at most_places p i c.few_places) in
    let fresh : has_path t old.weights ≡ false = ap (λ (r : Rows). has_path t r.weights) e ∙ new_path texts i s p d l in
    let yes : said ≡ true = tells ∙ both (is_upper_path t && is_amount (slice_index s i) (slice_index p i)) (has_path t old.weights) can fresh in
    made
    ∙ (ap (λ (b : Bool). if b then with_row (weight t (slice_index s i) (slice_index p i)) old else old) yes
    ∙ (ap (λ (r : Rows). with_row (weight t (slice_index s i) (slice_index p i)) r) e ∙ ap (λ (rs : Table Amount). with_weights rs initial) (sym (table_more texts i s p l))))

pub all_taken : (xs : List Name) (i : ℕ) → length xs ≤ i → take i xs ≡ xs
all_taken [] zero h = refl
all_taken [] (suc i) h = refl
all_taken (x ∷ xs) zero h = absurd (omega (arith, h))
all_taken (x ∷ xs) (suc i) h = ap (λ ys. x ∷ ys) (all_taken xs i (omega (arith, h)))

pub no_charges : (rows : Rows) → rows.charges ≡ [] → rows ≡ with_charges [] rows
no_charges rows e = ap (λ (rs : Table Amount). with_charges rs rows) e

pub no_weights : (rows : Rows) → rows.weights ≡ [] → rows ≡ with_weights [] rows
no_weights rows e = ap (λ (rs : Table Amount). with_weights rs rows) e

-- the same, by the row that was added
pub charge_put : (texts : List Name) (i : ℕ) (s p : List ℕ) (t : Name) (a b : ℕ) (old new initial : Rows) (said : Bool) → IsDistinct bytes_eq texts → CanBeSaid texts s p → i < length texts → slice_index_or texts i [] ≡ t → slice_index s i ≡ a → slice_index p i ≡ b
    → old ≡ with_charges (amounts (take i texts) s p) initial → said ≡ (is_sayable (charge t a b) && not (has_row (charge t a b) old)) → new ≡ (if said then with_row (charge t a b) old else old)
    → new ≡ with_charges (amounts (take (i + 1) texts) s p) initial
charge_put texts i s p t a b old new initial said d c l et ea eb e tells made =
    charge_step texts i s p old new initial said d c l e
    (tells ∙ (ap (λ u. is_sayable (charge u a b) && not (has_row (charge u a b) old)) (sym et) ∙ (ap (λ n. is_sayable (charge (slice_index_or texts i []) n b) && not (has_row (charge (slice_index_or texts i []) n b) old)) (sym ea) ∙ ap (λ n. is_sayable (charge (slice_index_or texts i []) (slice_index s i) n) && not (has_row (charge (slice_index_or texts i []) (slice_index s i) n) old)) (sym eb))))
    (made ∙ (ap (λ u. if said then with_row (charge u a b) old else old) (sym et) ∙ (ap (λ n. if said then with_row (charge (slice_index_or texts i []) n b) old else old) (sym ea) ∙ ap (λ n. if said then with_row (charge (slice_index_or texts i []) (slice_index s i) n) old else old) (sym eb))))

pub weight_put : (texts : List Name) (i : ℕ) (s p : List ℕ) (t : Name) (a b : ℕ) (old new initial : Rows) (said : Bool) → IsDistinct bytes_eq texts → CanBeSaid texts s p → i < length texts → slice_index_or texts i [] ≡ t → slice_index s i ≡ a → slice_index p i ≡ b
    → old ≡ with_weights (amounts (take i texts) s p) initial → said ≡ (is_sayable (weight t a b) && not (has_row (weight t a b) old)) → new ≡ (if said then with_row (weight t a b) old else old)
    → new ≡ with_weights (amounts (take (i + 1) texts) s p) initial
weight_put texts i s p t a b old new initial said d c l et ea eb e tells made =
    weight_step texts i s p old new initial said d c l e
    (tells ∙ (ap (λ u. is_sayable (weight u a b) && not (has_row (weight u a b) old)) (sym et) ∙ (ap (λ n. is_sayable (weight (slice_index_or texts i []) n b) && not (has_row (weight (slice_index_or texts i []) n b) old)) (sym ea) ∙ ap (λ n. is_sayable (weight (slice_index_or texts i []) (slice_index s i) n) && not (has_row (weight (slice_index_or texts i []) (slice_index s i) n) old)) (sym eb))))
    (made ∙ (ap (λ u. if said then with_row (weight u a b) old else old) (sym et) ∙ (ap (λ n. if said then with_row (weight (slice_index_or texts i []) n b) old else old) (sym ea) ∙ ap (λ n. if said then with_row (weight (slice_index_or texts i []) (slice_index s i) n) old else old) (sym eb))))
