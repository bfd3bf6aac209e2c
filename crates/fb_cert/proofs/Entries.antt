-- What is read as a row is one, and each such is read.
use Rattle.std.proofs.Common.{◌≡◌, ℕ, ℤ, ◌⊎◌, true, false, cond, List, [], ◌∷◌, ◌<◌, ◌≤◌, length, Option, Some, None, is_some, arith, refl, sym, ap, subst, ◌∙◌, inl, inr, codes}
use Rattle.std.specs.Prelude.{int_le}
use Rattle.std.specs.Option.{option_map}
use Rattle.std.specs.Str.{bytes_eq}
use Rattle.fb_model.specs.CertificateText.{IsNumberIn, IsWhole, IsDotted, TextRow, repeats, range, charge, weight, depth, far, far_state, channel, IsHead, head, IsTextRow, a_repeats, a_range, a_charge, a_weight, a_depth, a_far, a_far_state, a_channel, most_steps, most_places, most_repeats, most_channel, begins_cert}
use Rattle.fb_model.specs.Spans.{Span, span}
use Rattle.fb_cert.specs.declared.certificate.Amount.{Amount}
use denote.Ref.{Bor}
use Rattle.fb_cert.specs.Views.{amount, texts}
use Rattle.fb_cert.specs.Reading.{number_in, whole_in, between, interval_in, with_interval, is_path, both, amount_in, channel_in, row_of_two, row_at_path, row_of_three, with_amount, row_of_four, text_row_at, is_head}
use Rattle.fb_cert.proofs.Deciding.{chosen, both_true, text_is}
use Rattle.fb_cert.proofs.Numbers.{number_found, number_read, some_of, whole_found, whole_read}
use Rattle.fb_cert.proofs.Paths.{dotted_found, dotted_read}

-- ---- numbers of a row

-- what two numbers make
record IsBoth {A : Type 0} (f : ℕ → ℕ → A) (x y : Option ℕ) (a : A) : Type 0 where
  one : ℕ
  other : ℕ
  first : x ≡ Some one
  second : y ≡ Some other
  is : f one other ≡ a

both_found : {A : Type 0} (f : ℕ → ℕ → A) (x y : Option ℕ) (a : A) → both f x y ≡ Some a → IsBoth f x y a
both_found f None y a e = absurd (cc)
both_found f (Some s) None a e = absurd (cc)
both_found f (Some s) (Some k) a e = let same : f s k ≡ a = cc in record { one = s; other = k; first = refl; second = refl; is = same }

-- what two numbers of a range are
record IsBetween (l h : Option ℤ) (s : Span) : Type 0 where
  low : l ≡ Some s.low
  high : h ≡ Some s.high
  ordered : int_le s.low s.high ≡ true

between_found : (l h : Option ℤ) (s : Span) → between l h ≡ Some s → IsBetween l h s
between_found None h s e = absurd (cc)
between_found (Some l) None s e = absurd (cc)
between_found (Some l) (Some h) s e =
    elim (chosen (int_le l h) (Some (span l h)) None (Some s) e) [
      | inl p ↦ (let same : span l h ≡ s = cc in
          record { low = ap (λ x. Some x.low) same; high = ap (λ x. Some x.high) same; ordered = ap (λ x. int_le x.low x.high) (sym same) ∙ p.0 })
      | inr p ↦ absurd (cc)
    ]

interval_found : (p : List ℕ) (o : Option Span) (e : TextRow) → with_interval p o ≡ Some e → (s : Span) × (o ≡ Some s) × (range p s.low s.high ≡ e)
interval_found p None e h = absurd (cc)
interval_found p (Some s) e h = let same : range p s.low s.high ≡ e = cc in (s, refl, same)

abbrev IsAmountRow : List ℕ → List ℕ → Amount → TextRow → Type 0
IsAmountRow w p a e = ((w ≡ codes "CHARGE") × (charge p a.steps a.places ≡ e)) ⊎ ((w ≡ codes "WEIGHT") × (weight p a.steps a.places ≡ e))

amount_found : (w p : List ℕ) (r : Option Amount) (e : TextRow) → with_amount w p r ≡ Some e → (a : Amount) × (r ≡ Some a) × IsAmountRow w p a e
amount_found w p None e h = absurd (cc)
amount_found w p (Some a) e h =
    elim (chosen (bytes_eq w (codes "CHARGE")) (Some (charge p a.steps a.places)) (cond (bytes_eq w (codes "WEIGHT")) (Some (weight p a.steps a.places)) None) (Some e) h) [
      | inl q ↦ (let same : charge p a.steps a.places ≡ e = cc in (a, refl, inl (text_is w (codes "CHARGE") q.0, same)))
      | inr q ↦ elim (chosen (bytes_eq w (codes "WEIGHT")) (Some (weight p a.steps a.places)) None (Some e) q.1) [
        | inl r ↦ (let same : weight p a.steps a.places ≡ e = cc in (a, refl, inr (text_is w (codes "WEIGHT") r.0, same)))
        | inr r ↦ absurd (cc)
      ]
    ]

-- ---- rows

two_found : (w n : List ℕ) (e : TextRow) → row_of_two w n ≡ Some e → IsTextRow (w ∷ n ∷ []) e
two_found w n e h =
    elim (chosen (bytes_eq w (codes "REPEATS")) (option_map repeats (number_in 1 most_repeats n)) None (Some e) h) [
      | inl q ↦ (let f = some_of repeats (number_in 1 most_repeats n) e q.1 in
          subst (IsTextRow (w ∷ n ∷ [])) f.2 (subst (λ v. IsTextRow (v ∷ n ∷ []) (repeats f.0)) (sym (text_is w (codes "REPEATS") q.0)) (a_repeats (number_found 1 most_repeats f.0 n f.1))))
      | inr q ↦ absurd (cc)
    ]

channel_found : (w c n : List ℕ) (e : TextRow) → w ≡ codes "CHANNEL" → channel_in c n ≡ Some e → IsTextRow (w ∷ c ∷ n ∷ []) e
channel_found w c n e is h =
    let b = both_found channel (number_in 0 most_channel c) (number_in 0 most_steps n) e h in
    subst (IsTextRow (w ∷ c ∷ n ∷ [])) b.is (subst (λ v. IsTextRow (v ∷ c ∷ n ∷ []) (channel b.one b.other)) (sym is) (a_channel (number_found 0 most_channel b.one c b.first) (number_found 0 most_steps b.other n b.second)))

-- a word, and one number behind a path
numbered_found : (w v p n : List ℕ) (f : ℕ → TextRow) (low high : ℕ) (e : TextRow) → ((m : ℕ) → IsNumberIn low high n m → IsTextRow (v ∷ p ∷ n ∷ []) (f m)) → bytes_eq w v ≡ true → option_map f (number_in low high n) ≡ Some e → IsTextRow (w ∷ p ∷ n ∷ []) e
numbered_found w v p n f low high e says is h =
    let m = some_of f (number_in low high n) e h in
    subst (IsTextRow (w ∷ p ∷ n ∷ [])) m.2 (subst (λ u. IsTextRow (u ∷ p ∷ n ∷ []) (f m.0)) (sym (text_is w v is)) (says m.0 (number_found low high m.0 n m.1)))

at_path_found : (w p n : List ℕ) (e : TextRow) → IsDotted p → row_at_path w p n ≡ Some e → IsTextRow (w ∷ p ∷ n ∷ []) e
at_path_found w p n e d h =
    let third : Option TextRow = cond (bytes_eq w (codes "FARSTATE")) (option_map (far_state p) (number_in 0 most_steps n)) None in
    let second : Option TextRow = cond (bytes_eq w (codes "FAR")) (option_map (far p) (number_in 0 most_steps n)) third in
    elim (chosen (bytes_eq w (codes "DEPTH")) (option_map (depth p) (number_in 1 most_places n)) second (Some e) h) [
      | inl q ↦ numbered_found w (codes "DEPTH") p n (depth p) 1 most_places e (λ m k. a_depth d k) q.0 q.1
      | inr q ↦ elim (chosen (bytes_eq w (codes "FAR")) (option_map (far p) (number_in 0 most_steps n)) third (Some e) q.1) [
        | inl r ↦ numbered_found w (codes "FAR") p n (far p) 0 most_steps e (λ m k. a_far d k) r.0 r.1
        | inr r ↦ elim (chosen (bytes_eq w (codes "FARSTATE")) (option_map (far_state p) (number_in 0 most_steps n)) None (Some e) r.1) [
          | inl t ↦ numbered_found w (codes "FARSTATE") p n (far_state p) 0 most_steps e (λ m k. a_far_state d k) t.0 t.1
          | inr t ↦ absurd (cc)
        ]
      ]
    ]

three_found : (w p n : List ℕ) (e : TextRow) → row_of_three w p n ≡ Some e → IsTextRow (w ∷ p ∷ n ∷ []) e
three_found w p n e h =
    elim (chosen (bytes_eq w (codes "CHANNEL")) (channel_in p n) (cond (is_path p) (row_at_path w p n) None) (Some e) h) [
      | inl q ↦ channel_found w p n e (text_is w (codes "CHANNEL") q.0) q.1
      | inr q ↦ elim (chosen (is_path p) (row_at_path w p n) None (Some e) q.1) [
        | inl r ↦ at_path_found w p n e (dotted_found p r.0) r.1
        | inr r ↦ absurd (cc)
      ]
    ]

range_found : (p l h : List ℕ) (e : TextRow) → is_path p ≡ true → with_interval p (interval_in l h) ≡ Some e → IsTextRow (codes "RANGE" ∷ p ∷ l ∷ h ∷ []) e
range_found p l h e d k =
    let f = interval_found p (interval_in l h) e k in
    let b = between_found (whole_in l) (whole_in h) f.0 f.1 in
    subst (IsTextRow (codes "RANGE" ∷ p ∷ l ∷ h ∷ [])) f.2 (a_range (dotted_found p d) (whole_found l f.0.low b.low) (whole_found h f.0.high b.high) b.ordered)

amounts_found : (w p s k : List ℕ) (e : TextRow) → is_path p ≡ true → with_amount w p (amount_in s k) ≡ Some e → IsTextRow (w ∷ p ∷ s ∷ k ∷ []) e
amounts_found w p s k e d h =
    let f = amount_found w p (amount_in s k) e h in
    let b = both_found amount (number_in 0 most_steps s) (number_in 0 most_places k) f.0 f.1 in
    let steps : number_in 0 most_steps s ≡ Some f.0.steps = b.first ∙ ap (λ a. Some a.steps) b.is in
    let places : number_in 0 most_places k ≡ Some f.0.places = b.second ∙ ap (λ a. Some a.places) b.is in
    elim f.2 [
      | inl r ↦ subst (IsTextRow (w ∷ p ∷ s ∷ k ∷ [])) r.1 (subst (λ v. IsTextRow (v ∷ p ∷ s ∷ k ∷ []) (charge p f.0.steps f.0.places)) (sym r.0) (a_charge (dotted_found p d) (number_found 0 most_steps f.0.steps s steps) (number_found 0 most_places f.0.places k places)))
      | inr r ↦ subst (IsTextRow (w ∷ p ∷ s ∷ k ∷ [])) r.1 (subst (λ v. IsTextRow (v ∷ p ∷ s ∷ k ∷ []) (weight p f.0.steps f.0.places)) (sym r.0) (a_weight (dotted_found p d) (number_found 0 most_steps f.0.steps s steps) (number_found 0 most_places f.0.places k places)))
    ]

abbrev numbered : List ℕ → List ℕ → List ℕ → List ℕ → Option TextRow
numbered w p s k = cond (bytes_eq w (codes "RANGE")) (with_interval p (interval_in s k)) (with_amount w p (amount_in s k))

four_found : (w p s k : List ℕ) (e : TextRow) → row_of_four w p s k ≡ Some e → IsTextRow (w ∷ p ∷ s ∷ k ∷ []) e
four_found w p s k e h =
    elim (chosen (is_path p) (numbered w p s k) None (Some e) h) [
      | inl q ↦ elim (chosen (bytes_eq w (codes "RANGE")) (with_interval p (interval_in s k)) (with_amount w p (amount_in s k)) (Some e) q.1) [
        | inl r ↦ subst (λ v. IsTextRow (v ∷ p ∷ s ∷ k ∷ []) e) (sym (text_is w (codes "RANGE") r.0)) (range_found p s k e q.0 r.1)
        | inr r ↦ amounts_found w p s k e q.0 r.1
      ]
      | inr q ↦ absurd (cc)
    ]

pub entry_found : (ws : List (List ℕ)) (e : TextRow) → text_row_at ws ≡ Some e → IsTextRow ws e
entry_found [] e h = absurd (cc)
entry_found (w ∷ []) e h = absurd (cc)
entry_found (w ∷ n ∷ []) e h = two_found w n e h
entry_found (w ∷ p ∷ n ∷ []) e h = three_found w p n e h
entry_found (w ∷ p ∷ s ∷ k ∷ []) e h = four_found w p s k e h
entry_found (w ∷ p ∷ s ∷ k ∷ x ∷ xs) e h = absurd (cc)

both_read : {A : Type 0} (f : ℕ → ℕ → A) {x y : Option ℕ} {m n : ℕ} → x ≡ Some m → y ≡ Some n → both f x y ≡ Some (f m n)
both_read f {x} {y} {m} {n} h g = ap (λ r. both f r y) h ∙ ap (both f (Some m)) g

amount_read : (s k : List ℕ) (steps places : ℕ) → IsNumberIn 0 most_steps s steps → IsNumberIn 0 most_places k places → amount_in s k ≡ Some (amount steps places)
amount_read s k steps places h g = both_read amount (number_read 0 most_steps steps s h) (number_read 0 most_places places k g)

-- what stands behind the word, where a path does
path_read : (w p n : List ℕ) → IsDotted p → cond (is_path p) (row_at_path w p n) None ≡ row_at_path w p n
path_read w p n d = ap (λ b. cond b (row_at_path w p n) None) (dotted_read p d)

four_read : (w p s k : List ℕ) → IsDotted p → row_of_four w p s k ≡ numbered w p s k
four_read w p s k d = ap (λ b. cond b (numbered w p s k) None) (dotted_read p d)

interval_read : (l h : List ℕ) (low high : ℤ) → IsWhole l low → IsWhole h high → int_le low high ≡ true → interval_in l h ≡ Some (span low high)
interval_read l h low high a b k =
    ap (λ r. between r (whole_in h)) (whole_read l low a)
    ∙ ap (between (Some low)) (whole_read h high b)
    ∙ ap (λ t. cond t (Some (span low high)) None) k

pub entry_read : (ws : List (List ℕ)) (e : TextRow) → IsTextRow ws e → text_row_at ws ≡ Some e
entry_read ws e (a_repeats {r} {n} h) = ap (option_map repeats) (number_read 1 most_repeats n r h)
entry_read ws e (a_range {p} {l} {h} {low} {high} d a b k) = four_read (codes "RANGE") p l h d ∙ ap (with_interval p) (interval_read l h low high a b k)
entry_read ws e (a_charge {p} {s} {k} {steps} {places} d h g) = four_read (codes "CHARGE") p s k d ∙ ap (with_amount (codes "CHARGE") p) (amount_read s k steps places h g)
entry_read ws e (a_weight {p} {s} {k} {steps} {places} d h g) = four_read (codes "WEIGHT") p s k d ∙ ap (with_amount (codes "WEIGHT") p) (amount_read s k steps places h g)
entry_read ws e (a_depth {p} {d = s} {n} d h) = path_read (codes "DEPTH") p s d ∙ ap (option_map (depth p)) (number_read 1 most_places n s h)
entry_read ws e (a_far {p} {s} {steps} d h) = path_read (codes "FAR") p s d ∙ ap (option_map (far p)) (number_read 0 most_steps steps s h)
entry_read ws e (a_far_state {p} {s} {steps} d h) = path_read (codes "FARSTATE") p s d ∙ ap (option_map (far_state p)) (number_read 0 most_steps steps s h)
entry_read ws e (a_channel {c} {s} {number} {steps} h g) = both_read channel (number_read 0 most_channel number c h) (number_read 0 most_steps steps s g)

-- one word or none is no row
pub few_none : (ws : List (Bor (List ℕ))) → length ws < 2 → text_row_at (texts ws) ≡ None
few_none [] h = refl
few_none (w ∷ []) h = refl
few_none (w ∷ p ∷ ws) h = absurd (omega arith)

-- nor are five words or more
pub many_none : (ws : List (Bor (List ℕ))) → 5 ≤ length ws → text_row_at (texts ws) ≡ None
many_none [] h = refl
many_none (w ∷ []) h = refl
many_none (w ∷ p ∷ []) h = absurd (omega arith)
many_none (w ∷ p ∷ d ∷ []) h = absurd (omega arith)
many_none (w ∷ p ∷ s ∷ k ∷ []) h = absurd (omega arith)
many_none (w ∷ p ∷ s ∷ k ∷ x ∷ ws) h = refl

-- such a row begins with another word than CERT
pub entry_no_cert : (ws : List (List ℕ)) (e : TextRow) → IsTextRow ws e → begins_cert ws ≡ false
entry_no_cert ws e (a_repeats h) = refl
entry_no_cert ws e (a_range d a b k) = refl
entry_no_cert ws e (a_charge d h g) = refl
entry_no_cert ws e (a_weight d h g) = refl
entry_no_cert ws e (a_depth d h) = refl
entry_no_cert ws e (a_far d h) = refl
entry_no_cert ws e (a_far_state d h) = refl
entry_no_cert ws e (a_channel h g) = refl

-- ---- the first row

some_one : (r : Option ℕ) → is_some r ≡ true → (n : ℕ) × (r ≡ Some n)
some_one None h = absurd (cc)
some_one (Some n) h = (n, refl)

pub head_found : (ws : List (List ℕ)) → is_head ws ≡ true → IsHead ws
head_found [] h = absurd (cc)
head_found (w ∷ []) h = absurd (cc)
head_found (w ∷ n ∷ []) h =
    let t = both_true (bytes_eq w (codes "CERT")) (is_some (number_in 1 1 n)) h in
    let s = some_one (number_in 1 1 n) t.1 in
    let i : IsNumberIn 1 1 n s.0 = number_found 1 1 s.0 n s.1 in
    let one : s.0 ≡ 1 = let low = i.at_least in let high = i.at_most in omega arith in
    subst (λ v. IsHead (v ∷ n ∷ [])) (sym (text_is w (codes "CERT") t.0)) (head (subst (IsNumberIn 1 1 n) one i))
head_found (w ∷ n ∷ x ∷ xs) h = absurd (cc)

pub head_read : (ws : List (List ℕ)) → IsHead ws → is_head ws ≡ true
head_read ws (head {n} h) = ap is_some (number_read 1 1 1 n h)
