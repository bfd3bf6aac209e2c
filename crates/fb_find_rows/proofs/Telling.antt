-- The numbers of rows are those that they were made of.
use Rattle.std.proofs.Common.{ℕ, zero, suc, ◌≡◌, ◌+◌, ◌≤◌, List, [], ◌∷◌, ◌++◌, length, map, take, drop, slice_index, refl, ◌∙◌, ap, ap₂, arith}
use Rattle.fb_model.specs.Names.{Name}
use Rattle.fb_model.specs.Certificates as book
use Rattle.fb_model.specs.CertificateText.{place_of}
use Rattle.fb_cert.specs.declared.certificate.Amount.{Amount}
use Rattle.fb_cert.specs.Views.{Table, Rows, amount_rows, far_rows, channel_rows, book_of}
use Rattle.fb_find_laws.specs.Finding.{HasNumbers, HasFarNumbers}
use Rattle.fb_find_rows.specs.Numbers.{amounts_from, amounts, counts_from, counts}

places_are : (k : ℕ) (ts : List Name) (s p : List ℕ) → book.row_places (amount_rows (amounts_from k ts s p)) ≡ map place_of ts
places_are k [] s p = refl
places_are k (t ∷ ts) s p = ap (λ ps. place_of t ∷ ps) (places_are (k + 1) ts s p)

-- so many numbers of a list, from number k on
abbrev numbers_from : ℕ → ℕ → List ℕ → List ℕ
numbers_from k zero s = []
numbers_from k (suc n) s = slice_index s k ∷ numbers_from (k + 1) n s

steps_from : (k : ℕ) (ts : List Name) (s p : List ℕ) → map (λ (r : book.Row). r.steps) (amount_rows (amounts_from k ts s p)) ≡ numbers_from k (length ts) s
steps_from k [] s p = refl
steps_from k (t ∷ ts) s p = ap (λ ns. slice_index s k ∷ ns) (steps_from (k + 1) ts s p)

places_from : (k : ℕ) (ts : List Name) (s p : List ℕ) → map (λ (r : book.Row). r.places) (amount_rows (amounts_from k ts s p)) ≡ numbers_from k (length ts) p
places_from k [] s p = refl
places_from k (t ∷ ts) s p = ap (λ ns. slice_index p k ∷ ns) (places_from (k + 1) ts s p)

one_later : (k n x : ℕ) (s : List ℕ) → numbers_from (k + 1) n (x ∷ s) ≡ numbers_from k n s
one_later k zero x s = refl
one_later k (suc n) x s = ap (λ y. y ∷ numbers_from (k + 1 + 1) n (x ∷ s)) (at k) ∙ ap (λ ns. slice_index s k ∷ ns) (one_later (k + 1) n x s) where
  at : (k : ℕ) → slice_index (x ∷ s) (k + 1) ≡ slice_index s k
  at k = rw (let e : k + 1 ≡ suc k = omega arith in e) refl

-- the first numbers of a list
firsts : (n : ℕ) (s : List ℕ) → n ≤ length s → numbers_from 0 n s ≡ take n s
firsts zero s h = refl
firsts (suc n) [] h = absurd (omega (arith, h))
firsts (suc n) (x ∷ s) h = ap (λ ns. x ∷ ns) (one_later 0 n x s ∙ firsts n s (omega (arith, h)))

whole : (n : ℕ) (s : List ℕ) → n ≡ length s → take n s ≡ s
whole zero [] e = refl
whole zero (x ∷ s) e = absurd (omega (arith, e))
whole (suc n) [] e = absurd (omega (arith, e))
whole (suc n) (x ∷ s) e = ap (λ ns. x ∷ ns) (whole n s (omega (arith, e)))

left : (n : ℕ) (s : List ℕ) → n ≤ length s → length (drop n s) + n ≡ length s
left zero s h = omega arith
left (suc n) [] h = absurd (omega (arith, h))
left (suc n) (x ∷ s) h = omega (arith, left n s (omega (arith, h)))

parts : (n : ℕ) (s : List ℕ) → take n s ++ drop n s ≡ s
parts zero s = refl
parts (suc n) [] = refl
parts (suc n) (x ∷ s) = ap (λ ns. x ∷ ns) (parts n s)

parted : (m n : ℕ) (s : List ℕ) → m ≤ length s → take m s ++ take n (drop m s) ≡ take (m + n) s
parted zero n s h = rw (let e : 0 + n ≡ n = omega arith in e) refl
parted (suc m) n [] h = absurd (omega (arith, h))
parted (suc m) n (x ∷ s) h = rw (let e : suc m + n ≡ suc (m + n) = omega arith in e) (ap (λ ns. x ∷ ns) (parted m n s (omega (arith, h))))

both_parts : (m n : ℕ) (s : List ℕ) → m + n ≤ length s → numbers_from 0 m s ++ numbers_from 0 n (drop m s) ≡ take (m + n) s
both_parts m n s h =
    let l : m ≤ length s = omega (arith, h) in
    let r : n ≤ length (drop m s) = omega (arith, h, left m s l) in
    ap (λ ns. ns ++ numbers_from 0 n (drop m s)) (firsts m s l) ∙ (ap (λ ns. take m s ++ ns) (firsts n (drop m s) r) ∙ parted m n s l)

module _ (states events : List Name) (s p : List ℕ) (rows : Rows) (c : rows.charges ≡ amounts states s p) (w : rows.weights ≡ amounts events (drop (length states) s) (drop (length states) p)) where
  charges_told : book.row_places (amount_rows rows.charges) ≡ map place_of states
  charges_told = ap (λ (t : Table Amount). book.row_places (amount_rows t)) c ∙ places_are 0 states s p

  weights_told : book.row_places (amount_rows rows.weights) ≡ map place_of events
  weights_told = ap (λ (t : Table Amount). book.row_places (amount_rows t)) w ∙ places_are 0 events (drop (length states) s) (drop (length states) p)

  -- the numbers of states and events are the first of all
  pub steps_told : length states + length events ≤ length s → HasNumbers (λ r. r.steps) states events (book_of rows) (take (length states + length events) s)
  steps_told e = record {
    charges_are = charges_told;
    weights_are = weights_told;
    numbers =
        ap (λ (t : Table Amount). map (λ (r : book.Row). r.steps) (amount_rows t) ++ map (λ (r : book.Row). r.steps) (amount_rows rows.weights)) c
        ∙ (ap (λ (t : Table Amount). map (λ (r : book.Row). r.steps) (amount_rows (amounts states s p)) ++ map (λ (r : book.Row). r.steps) (amount_rows t)) w
        ∙ (ap (λ ns. ns ++ map (λ (r : book.Row). r.steps) (amount_rows (amounts events (drop (length states) s) (drop (length states) p)))) (steps_from 0 states s p)
        ∙ (ap (λ ns. numbers_from 0 (length states) s ++ ns) (steps_from 0 events (drop (length states) s) (drop (length states) p)) ∙ both_parts (length states) (length events) s e)));
  }

  pub places_told : length states + length events ≤ length p → HasNumbers (λ r. r.places) states events (book_of rows) (take (length states + length events) p)
  places_told e = record {
    charges_are = charges_told;
    weights_are = weights_told;
    numbers =
        ap (λ (t : Table Amount). map (λ (r : book.Row). r.places) (amount_rows t) ++ map (λ (r : book.Row). r.places) (amount_rows rows.weights)) c
        ∙ (ap (λ (t : Table Amount). map (λ (r : book.Row). r.places) (amount_rows (amounts states s p)) ++ map (λ (r : book.Row). r.places) (amount_rows t)) w
        ∙ (ap (λ ns. ns ++ map (λ (r : book.Row). r.places) (amount_rows (amounts events (drop (length states) s) (drop (length states) p)))) (places_from 0 states s p)
        ∙ (ap (λ ns. numbers_from 0 (length states) p ++ ns) (places_from 0 events (drop (length states) s) (drop (length states) p)) ∙ both_parts (length states) (length events) p e)));
  }

-- ---- the network

far_places_are : (k : ℕ) (ts : List Name) (s : List ℕ) → book.far_places (far_rows (counts_from k ts s)) ≡ map place_of ts
far_places_are k [] s = refl
far_places_are k (t ∷ ts) s = ap (λ ps. place_of t ∷ ps) (far_places_are (k + 1) ts s)

fars_from : (k : ℕ) (ts : List Name) (s : List ℕ) → map (λ (r : book.FarRow). r.steps) (far_rows (counts_from k ts s)) ≡ numbers_from k (length ts) s
fars_from k [] s = refl
fars_from k (t ∷ ts) s = ap (λ ns. slice_index s k ∷ ns) (fars_from (k + 1) ts s)

channels_from : (k : ℕ) (cs s : List ℕ) → map (λ (r : book.ChannelRow). r.steps) (channel_rows (counts_from k cs s)) ≡ numbers_from k (length cs) s
channels_from k [] s = refl
channels_from k (c ∷ cs) s = ap (λ ns. slice_index s k ∷ ns) (channels_from (k + 1) cs s)

channels_are : (k : ℕ) (cs s : List ℕ) → book.channel_rows (channel_rows (counts_from k cs s)) ≡ cs
channels_are k [] s = refl
channels_are k (c ∷ cs) s = ap (λ ns. c ∷ ns) (channels_are (k + 1) cs s)

-- the numbers of three kinds one after another
all_parts : (m n o : ℕ) (s : List ℕ) → length s ≡ m + (n + o) → numbers_from 0 m s ++ (numbers_from 0 n (drop m s) ++ numbers_from 0 o (drop n (drop m s))) ≡ s
all_parts m n o s e =
    let l : m ≤ length s = omega (arith, e) in
    let d = drop m s in
    let h : n + o ≡ length d = omega (arith, e, left m s l) in
    ap₂ (λ xs ys. xs ++ ys) (firsts m s l) (both_parts n o d (omega (arith, h)) ∙ whole (n + o) d h) ∙ parts m s

pub far_told : (states events : List Name) (channels s : List ℕ) (rows : Rows) → rows.far_states ≡ counts states s → rows.fars ≡ counts events (drop (length states) s) → rows.channels ≡ counts channels (drop (length events) (drop (length states) s))
    → length s ≡ length states + (length events + length channels) → HasFarNumbers states events channels (book_of rows) s
far_told states events channels s rows x y z e = record {
  states_are = ap (λ (t : Table ℕ). book.far_places (far_rows t)) x ∙ far_places_are 0 states s;
  events_are = ap (λ (t : Table ℕ). book.far_places (far_rows t)) y ∙ far_places_are 0 events (drop (length states) s);
  channels_are = ap (λ (t : List (ℕ × ℕ)). book.channel_rows (channel_rows t)) z ∙ channels_are 0 channels (drop (length events) (drop (length states) s));
  numbers =
      ap₂ (λ xs ys. xs ++ ys) (ap (λ (t : Table ℕ). map (λ (r : book.FarRow). r.steps) (far_rows t)) x ∙ fars_from 0 states s)
      (ap₂ (λ xs ys. xs ++ ys) (ap (λ (t : Table ℕ). map (λ (r : book.FarRow). r.steps) (far_rows t)) y ∙ fars_from 0 events (drop (length states) s))
      (ap (λ (t : List (ℕ × ℕ)). map (λ (r : book.ChannelRow). r.steps) (channel_rows t)) z ∙ channels_from 0 channels (drop (length events) (drop (length states) s))))
      ∙ all_parts (length states) (length events) (length channels) s e;
}
