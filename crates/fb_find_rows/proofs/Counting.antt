-- Rows with one number are added one after another.
use Rattle.std.specs.Prelude.{◌&&◌, ◌||◌}
use Rattle.std.proofs.Common.{ℕ, zero, suc, ◌≡◌, ◌+◌, ◌<◌, ◌≤◌, ◌==◌, Bool, true, false, not, List, [], ◌∷◌, ◌++◌, length, slice_index, slice_index_or, take, refl, sym, ◌∙◌, ap, ap₂, arith, if◌then◌else◌}
use Rattle.std.specs.List.{All, AllByRecursion, IsDistinct, list_any}
use Rattle.std.specs.Str.{bytes_eq}
use Rattle.fb_model.specs.Names.{Name}
use Rattle.fb_model.specs.CertificateText.{far, far_state, channel, most_steps, most_channel}
use Rattle.fb_model.proofs.Names.{eq_turned}
use Rattle.fb_model.proofs.Networks.{number_turned}
use Rattle.fb_find_laws.proofs.Lists.{differ}
use Rattle.fb_cert.specs.Views.{Table, Rows, has_path, has_number, has_row, with_row}
use Rattle.fb_cert.specs.Adding.{is_upper_path, is_within, is_sayable}
use Rattle.fb_find_rows.specs.Numbers.{counts_from, counts, with_fars, with_far_states, with_channels}

-- ---- rows so far

module _ {K : Type 0} (eq : K → K → Bool) (other : K) where
  counts_more : (k : ℕ) (xs : List K) (x : K) (s : List ℕ) → counts_from k (xs ++ x ∷ []) s ≡ counts_from k xs s ++ (x, slice_index s (k + length xs)) ∷ []
  counts_more k [] x s = ap (λ n. (x, slice_index s n) ∷ []) (let e : k ≡ k + 0 = omega arith in e)
  counts_more k (y ∷ xs) x s =
      ap (λ r. (y, slice_index s k) ∷ r) (counts_more (k + 1) xs x s)
      ∙ ap (λ n. (y, slice_index s k) ∷ (counts_from (k + 1) xs s ++ (x, slice_index s n) ∷ [])) (let e : k + 1 + length xs ≡ k + length (y ∷ xs) = omega arith in e)

  same_keys : (k : ℕ) (x : K) (xs : List K) (s : List ℕ) → list_any (λ (r : K × ℕ). eq x r.0) (counts_from k xs s) ≡ list_any (eq x) xs
  same_keys k x [] s = refl
  same_keys k x (y ∷ xs) s = ap (λ b. eq x y || b) (same_keys (k + 1) x xs s)

  none_before : (xs : List K) (x : K) → ((j : ℕ) → j < length xs → eq x (slice_index_or xs j other) ≡ false) → list_any (eq x) xs ≡ false
  none_before [] x h = refl
  none_before (y ∷ xs) x h = by (eq x y) (h 0 (omega arith)) (none_before xs x (λ j l. h (suc j) (omega (arith, l)))) where
    by : (b : Bool) → b ≡ false → list_any (eq x) xs ≡ false → (b || list_any (eq x) xs) ≡ false
    by true e k = absurd cc
    by false e k = k

  -- a key that none before it is has no row yet
  pub new_key : (xs : List K) (i : ℕ) (x : K) (s : List ℕ) → i < length xs → ((j : ℕ) → j < i → eq x (slice_index_or xs j other) ≡ false) → list_any (λ (r : K × ℕ). eq x r.0) (counts (take i xs) s) ≡ false
  new_key xs i x s l h =
      same_keys 0 x (take i xs) s
      ∙ none_before (take i xs) x (λ j k.
      let m : j < i = omega (arith, k, few_of xs i (omega (arith, l))) in
      ap (eq x) (taken_of xs i j m (omega (arith, m, l))) ∙ h j m)
    where
      few_of : (xs : List K) (i : ℕ) → i ≤ length xs → length (take i xs) ≡ i
      few_of [] zero h = refl
      few_of [] (suc i) h = absurd (omega (arith, h))
      few_of (x ∷ xs) zero h = refl
      few_of (x ∷ xs) (suc i) h = ap suc (few_of xs i (omega (arith, h)))

      taken_of : (xs : List K) (i j : ℕ) → j < i → j < length xs → slice_index_or (take i xs) j other ≡ slice_index_or xs j other
      taken_of [] i j l h = absurd (omega (arith, h))
      taken_of (x ∷ xs) zero j l h = absurd (omega (arith, l))
      taken_of (x ∷ xs) (suc i) zero l h = refl
      taken_of (x ∷ xs) (suc i) (suc j) l h = taken_of xs i j (omega (arith, l)) (omega (arith, h))

  one_more : (xs : List K) (i : ℕ) → i < length xs → (take (i + 1) xs ≡ take i xs ++ slice_index_or xs i other ∷ []) × (length (take i xs) ≡ i)
  one_more [] i l = absurd (omega (arith, l))
  one_more (x ∷ xs) zero l = (refl, refl)
  one_more (x ∷ xs) (suc i) l = let k = one_more xs i (omega (arith, l)) in (rw (let e : suc i + 1 ≡ suc (i + 1) = omega arith in e) (ap (λ ys. x ∷ ys) k.0), ap suc k.1)

  -- the rows with the next
  pub one_step : (xs : List K) (i : ℕ) (x : K) (s : List ℕ) (n : ℕ) → i < length xs → slice_index_or xs i other ≡ x → slice_index s i ≡ n → counts (take i xs) s ++ (x, n) ∷ [] ≡ counts (take (i + 1) xs) s
  one_step xs i x s n l e f =
      let k = one_more xs i l in
      sym
      (ap (λ ys. counts ys s) k.0
      ∙ counts_more 0 (take i xs) (slice_index_or xs i other) s
      ∙ ap (λ m. counts (take i xs) s ++ (slice_index_or xs i other, slice_index s m) ∷ []) (let g : 0 + length (take i xs) ≡ i = omega (arith, k.1) in g)
      ∙ ap₂ (λ y m. counts (take i xs) s ++ (y, m) ∷ []) e f)

-- ---- a row can be said

both : (a b : Bool) → a ≡ true → b ≡ false → (a && not b) ≡ true
both a b e f = rw (e, f) refl

within : (low high n : ℕ) → low ≤ n → n ≤ high → is_within low high n ≡ true
within low high n a b = grind arith

and_true : (a b : Bool) → a ≡ true → b ≡ true → (a && b) ≡ true
and_true a b e f = rw (e, f) refl

module _ (t : Name) (n : ℕ) (table : Table ℕ) (old new initial : Rows) (said : Bool) (upper : is_upper_path t ≡ true) (small : n ≤ most_steps) (fresh : has_path t table ≡ false) where
  can : (is_upper_path t && is_within 0 most_steps n) ≡ true
  can = and_true (is_upper_path t) (is_within 0 most_steps n) upper (within 0 most_steps n (omega arith) small)

  pub far_put : old ≡ with_fars table initial → said ≡ (is_sayable (far t n) && not (has_row (far t n) old)) → new ≡ (if said then with_row (far t n) old else old) → new ≡ with_fars (table ++ (t, n) ∷ []) initial
  far_put e tells made =
      let yes : said ≡ true = tells ∙ both (is_upper_path t && is_within 0 most_steps n) (has_path t old.fars) can (ap (λ (r : Rows). has_path t r.fars) e ∙ fresh) in
      made ∙ ap (λ (b : Bool). if b then with_row (far t n) old else old) yes ∙ ap (λ (r : Rows). with_row (far t n) r) e

  pub far_state_put : old ≡ with_far_states table initial → said ≡ (is_sayable (far_state t n) && not (has_row (far_state t n) old)) → new ≡ (if said then with_row (far_state t n) old else old) → new ≡ with_far_states (table ++ (t, n) ∷ []) initial
  far_state_put e tells made =
      let yes : said ≡ true = tells ∙ both (is_upper_path t && is_within 0 most_steps n) (has_path t old.far_states) can (ap (λ (r : Rows). has_path t r.far_states) e ∙ fresh) in
      made ∙ ap (λ (b : Bool). if b then with_row (far_state t n) old else old) yes ∙ ap (λ (r : Rows). with_row (far_state t n) r) e

pub channel_put : (c n : ℕ) (rows : List (ℕ × ℕ)) (old new initial : Rows) (said : Bool) → c ≤ most_channel → n ≤ most_steps → has_number c rows ≡ false
    → old ≡ with_channels rows initial → said ≡ (is_sayable (channel c n) && not (has_row (channel c n) old)) → new ≡ (if said then with_row (channel c n) old else old) → new ≡ with_channels (rows ++ (c, n) ∷ []) initial
channel_put c n rows old new initial said low small fresh e tells made =
    let can : (is_within 0 most_channel c && is_within 0 most_steps n) ≡ true = and_true (is_within 0 most_channel c) (is_within 0 most_steps n) (within 0 most_channel c (omega arith) low) (within 0 most_steps n (omega arith) small) in
    let yes : said ≡ true = tells ∙ both (is_within 0 most_channel c && is_within 0 most_steps n) (has_number c old.channels) can (ap (λ (r : Rows). has_number c r.channels) e ∙ fresh) in
    made ∙ ap (λ (b : Bool). if b then with_row (channel c n) old else old) yes ∙ ap (λ (r : Rows). with_row (channel c n) r) e

-- ---- keys that are apart

-- a text that stands later is none of those before it
pub text_apart : (xs : List Name) (i : ℕ) (x : Name) → IsDistinct bytes_eq xs → i < length xs → slice_index_or xs i [] ≡ x → (j : ℕ) → j < i → bytes_eq x (slice_index_or xs j []) ≡ false
text_apart xs i x d l e j h = ap (λ y. bytes_eq y (slice_index_or xs j [])) (sym e) ∙ (eq_turned (slice_index_or xs i []) (slice_index_or xs j []) ∙ differ xs j i d h l)

number_all : (P : ℕ → Type 0) (xs : List ℕ) (k : ℕ) → k < length xs → AllByRecursion P xs → P (slice_index_or xs k 0)
number_all P [] k h a = absurd (omega (arith, h))
number_all P (x ∷ xs) zero h a = a.0
number_all P (x ∷ xs) (suc k) h a = number_all P xs k (omega (arith, h)) a.1

numbers_differ : (xs : List ℕ) (j k : ℕ) → IsDistinct (λ a b. a == b) xs → j < k → k < length xs → (slice_index_or xs j 0 == slice_index_or xs k 0) ≡ false
unfolding IsDistinct
numbers_differ [] j k d h l = absurd (omega (arith, l))
numbers_differ (x ∷ xs) j zero d h l = absurd (omega (arith, h))
numbers_differ (x ∷ xs) zero (suc k) d h l = number_all (λ y. (x == y) ≡ false) xs k (omega (arith, l)) d.0
numbers_differ (x ∷ xs) (suc j) (suc k) d h l = numbers_differ xs j k d.1 (omega (arith, h)) (omega (arith, l))

pub number_apart : (xs : List ℕ) (i x : ℕ) → IsDistinct (λ a b. a == b) xs → i < length xs → slice_index_or xs i 0 ≡ x → (j : ℕ) → j < i → (x == slice_index_or xs j 0) ≡ false
number_apart xs i x d l e j h = ap (λ y. y == slice_index_or xs j 0) (sym e) ∙ (number_turned (slice_index_or xs i 0) (slice_index_or xs j 0) ∙ numbers_differ xs j i d h l)

-- ---- all rows

pub all_of : {K : Type 0} (xs : List K) (i : ℕ) → length xs ≤ i → take i xs ≡ xs
all_of [] zero h = refl
all_of [] (suc i) h = refl
all_of (x ∷ xs) zero h = absurd (omega (arith, h))
all_of (x ∷ xs) (suc i) h = ap (λ ys. x ∷ ys) (all_of xs i (omega (arith, h)))

pub upper_at : (xs : List Name) (i : ℕ) (x : Name) → All (λ t. is_upper_path t ≡ true) xs → i < length xs → slice_index_or xs i [] ≡ x → is_upper_path x ≡ true
upper_at xs i x h l e = ap is_upper_path (sym e) ∙ h i [] l

pub small_at : (ns : List ℕ) (i n : ℕ) → All (λ n. n ≤ most_steps) ns → slice_index ns i ≡ n → n ≤ most_steps
small_at [] i n h e = omega (arith, e)
small_at (m ∷ ns) zero n h e = let k : m ≤ most_steps = h 0 0 (omega arith) in omega (arith, k, e)
small_at (m ∷ ns) (suc i) n h e = small_at ns i n (λ j d l. h (suc j) d (omega (arith, l))) e
