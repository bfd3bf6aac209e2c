-- Rows that a text can say, and one more.
use Rattle.std.proofs.Common.{◌≡◌, ℕ, zero, suc, ℤ, ◌≤ℤ◌, int_le, arith, Bool, true, false, not, ◌||◌, Result, Ok, Err, IfOk, IfErr, List, [], ◌∷◌, ◌++◌, refl, sym, ap, ◌∙◌, subst, append_assoc}
use Rattle.std.specs.Prelude.{nat_le}
use Rattle.std.specs.Str.{bytes_eq}
use Rattle.indexmap.specs.IndexMap.{set_value_at}
use Rattle.std.proofs.lemmas.List.{append-nil}
use Rattle.std.proofs.lemmas.Int.{ints}
use Rattle.std.proofs.lemmas.Bool.{leb-true}
use Rattle.std.proofs.lemmas.Slice.Eq.{bytes_eq-Decides}
use Rattle.fb_model.specs.Spelling.{upper}
use Rattle.fb_model.specs.Spans.{span}
use Rattle.fb_model.specs.CertificateText.{TextRow, repeats, range, charge, weight, depth, far, far_state, channel, IsDotted, most_steps, most_places}
use Rattle.fb_cert.specs.Rows.{Table, Rows, no_rows, has_path, has_number, with_depth_at}
use Rattle.fb_cert.specs.Views.{amount, has_row, with_row, AddsRow}
use Rattle.fb_cert.specs.Sayable.{IsUpperPath, IsRange, IsAmount, IsWithin, IsChannel, IsSayable, AreRows, SaysAtPath, ArePathRows, AreSayable}
use Rattle.fb_cert.specs.Reading.{is_path}
use Rattle.fb_cert.specs.Adding.{is_upper, is_upper_path, is_amount, is_within}
use Rattle.fb_cert.proofs.Deciding.{both_true, true_both, text_is}
use Rattle.fb_cert.proofs.Paths.{dotted_found, dotted_read}

-- ---- a row more

rows_more : {R : Type 0} (Such : R → Type 0) (stands : R → List R → Bool) (before rs : List R) (r : R) → AreRows Such stands before rs → Such r → stands r (before ++ rs) ≡ false → AreRows Such stands before (rs ++ r ∷ [])
rows_more Such stands before [] r h s n = (s, subst (λ t. stands r t ≡ false) (append-nil before) n, tt)
rows_more Such stands before (x ∷ rs) r h s n = (h.0, h.1, rows_more Such stands (before ++ x ∷ []) rs r h.2 s (subst (λ t. stands r t ≡ false) (sym (append_assoc before (x ∷ []) rs)) n))

path_more : {V : Type 0} (Such : V → Type 0) (rs : Table V) (p : List ℕ) (v : V) → ArePathRows Such rs → IsUpperPath p × Such v → has_path p rs ≡ false → ArePathRows Such (rs ++ (p, v) ∷ [])
path_more Such rs p v h s n = rows_more (SaysAtPath Such) (λ r before. has_path r.0 before) [] rs (p, v) h s n

pub sayable_with : (e : TextRow) (rs : Rows) → AreSayable rs → IsSayable e → has_row e rs ≡ false → AreSayable (with_row e rs)
sayable_with (repeats n) rs a s f =
    record { repeats_are = s; ranges_are = a.ranges_are; charges_are = a.charges_are; weights_are = a.weights_are; depths_are = a.depths_are; fars_are = a.fars_are; far_states_are = a.far_states_are; channels_are = a.channels_are }
sayable_with (range p l h) rs a s f =
    record { repeats_are = a.repeats_are; ranges_are = path_more IsRange rs.ranges p (span l h) a.ranges_are s f; charges_are = a.charges_are; weights_are = a.weights_are; depths_are = a.depths_are; fars_are = a.fars_are; far_states_are = a.far_states_are; channels_are = a.channels_are }
sayable_with (charge p q k) rs a s f =
    record { repeats_are = a.repeats_are; ranges_are = a.ranges_are; charges_are = path_more IsAmount rs.charges p (amount q k) a.charges_are s f; weights_are = a.weights_are; depths_are = a.depths_are; fars_are = a.fars_are; far_states_are = a.far_states_are; channels_are = a.channels_are }
sayable_with (weight p q k) rs a s f =
    record { repeats_are = a.repeats_are; ranges_are = a.ranges_are; charges_are = a.charges_are; weights_are = path_more IsAmount rs.weights p (amount q k) a.weights_are s f; depths_are = a.depths_are; fars_are = a.fars_are; far_states_are = a.far_states_are; channels_are = a.channels_are }
sayable_with (depth p n) rs a s f =
    record { repeats_are = a.repeats_are; ranges_are = a.ranges_are; charges_are = a.charges_are; weights_are = a.weights_are; depths_are = path_more (IsWithin 1 most_places) rs.depths p n a.depths_are s f; fars_are = a.fars_are; far_states_are = a.far_states_are; channels_are = a.channels_are }
sayable_with (far p n) rs a s f =
    record { repeats_are = a.repeats_are; ranges_are = a.ranges_are; charges_are = a.charges_are; weights_are = a.weights_are; depths_are = a.depths_are; fars_are = path_more (IsWithin 0 most_steps) rs.fars p n a.fars_are s f; far_states_are = a.far_states_are; channels_are = a.channels_are }
sayable_with (far_state p n) rs a s f =
    record { repeats_are = a.repeats_are; ranges_are = a.ranges_are; charges_are = a.charges_are; weights_are = a.weights_are; depths_are = a.depths_are; fars_are = a.fars_are; far_states_are = path_more (IsWithin 0 most_steps) rs.far_states p n a.far_states_are s f; channels_are = a.channels_are }
sayable_with (channel c n) rs a s f =
    record { repeats_are = a.repeats_are; ranges_are = a.ranges_are; charges_are = a.charges_are; weights_are = a.weights_are; depths_are = a.depths_are; fars_are = a.fars_are; far_states_are = a.far_states_are; channels_are = rows_more IsChannel (λ r before. has_number r.0 before) [] rs.channels (c, n) a.channels_are s f }

pub sayable_none : AreSayable no_rows
sayable_none = record { repeats_are = tt; ranges_are = tt; charges_are = tt; weights_are = tt; depths_are = tt; fars_are = tt; far_states_are = tt; channels_are = tt }

-- ---- tests

pub path_said : (p : List ℕ) → is_upper_path p ≡ true → IsUpperPath p
path_said p h = let t = both_true (is_path p) (is_upper p) h in (dotted_found p t.0, text_is (upper p) p t.1)

-- names in upper case that are joined by dots pass the test
pub path_sayable : (p : List ℕ) → IsDotted p → upper p ≡ p → is_upper_path p ≡ true
path_sayable p d u = true_both (is_path p) (is_upper p) (dotted_read p d) ((bytes_eq-Decides (upper p) p).1 u)

pub amount_said : (s k : ℕ) → is_amount s k ≡ true → IsAmount (amount s k)
amount_said s k h = let t = both_true (nat_le s most_steps) (nat_le k most_places) h in record { steps_fit = leb-true s most_steps t.0; places_fit = leb-true k most_places t.1 }

pub within_said : (low high n : ℕ) → is_within low high n ≡ true → IsWithin low high n
within_said low high n h = let t = both_true (nat_le low n) (nat_le n high) h in record { some = leb-true low n t.0; fits = leb-true n high t.1 }

was_not : (b : Bool) → true ≡ not b → b ≡ false
was_not true h = absurd (cc)
was_not false h = refl

-- a row is added, or the rows are as before
pub added_sayable : {E : Type 0} (r : Result Bool E) (old new : Rows) (e : TextRow) → AreSayable old → IsSayable e → IfOk r (λ said. AddsRow old e new said) → IfErr r (λ _. new ≡ old) → AreSayable new
added_sayable (Err x) old new e a s h k = subst AreSayable (sym k) a
added_sayable (Ok true) old new e a s h k = subst AreSayable (sym h.1) (sayable_with e old a s (was_not (has_row e old) h.0))
added_sayable (Ok false) old new e a s h k = subst AreSayable (sym h.1) a

pub int_le_true : (a b : ℤ) → a ≤ℤ b → int_le a b ≡ true
int_le_true a b h = grind (arith, ints)

-- ---- another depth

-- rows of the same paths
abbrev AreAlike : Table ℕ → Table ℕ → Type 0
AreAlike rs ss = (p : List ℕ) → has_path p rs ≡ has_path p ss

alike_more : (rs ss : Table ℕ) (p : List ℕ) (n m : ℕ) → AreAlike rs ss → AreAlike (rs ++ (p, n) ∷ []) (ss ++ (p, m) ∷ [])
alike_more rs ss p n m h q = at_end rs n ∙ ap (λ b. b || (bytes_eq q p || false)) (h q) ∙ sym (at_end ss m)
  where
    or_assoc : (a b c : Bool) → a || (b || c) ≡ (a || b) || c
    or_assoc true b c = refl
    or_assoc false b c = refl

    at_end : (ts : Table ℕ) (k : ℕ) → has_path q (ts ++ (p, k) ∷ []) ≡ has_path q ts || (bytes_eq q p || false)
    at_end [] k = refl
    at_end (t ∷ ts) k = ap (λ b. bytes_eq q t.0 || b) (at_end ts k) ∙ or_assoc (bytes_eq q t.0) (has_path q ts) (bytes_eq q p || false)

abbrev DepthsAre : Table ℕ → Table ℕ → Type 0
DepthsAre before rs = AreRows (SaysAtPath (IsWithin 1 most_places)) (λ r earlier. has_path r.0 earlier) before rs

depths_alike : (before other rs : Table ℕ) → AreAlike other before → DepthsAre before rs → DepthsAre other rs
depths_alike before other [] same h = tt
depths_alike before other (r ∷ rs) same h = (h.0, same r.0 ∙ h.1, depths_alike (before ++ r ∷ []) (other ++ r ∷ []) rs (alike_more other before r.0 r.1 r.1 same) h.2)

depths_set : (before other rs : Table ℕ) (i n : ℕ) → AreAlike other before → IsWithin 1 most_places n → DepthsAre before rs → DepthsAre other (set_value_at rs i n)
depths_set before other [] i n same w h = tt
depths_set before other (r ∷ rs) zero n same w h = ((h.0.0, w), same r.0 ∙ h.1, depths_alike (before ++ r ∷ []) (other ++ (r.0, n) ∷ []) rs (alike_more other before r.0 n r.1 same) h.2)
depths_set before other (r ∷ rs) (suc i) n same w h = (h.0, same r.0 ∙ h.1, depths_set (before ++ r ∷ []) (other ++ r ∷ []) rs i n (alike_more other before r.0 r.1 r.1 same) w h.2)

pub sayable_depth : (rs : Rows) (i n : ℕ) → AreSayable rs → IsWithin 1 most_places n → AreSayable (with_depth_at i n rs)
sayable_depth rs i n a w =
    record { repeats_are = a.repeats_are; ranges_are = a.ranges_are; charges_are = a.charges_are; weights_are = a.weights_are; depths_are = depths_set [] [] rs.depths i n (λ p. refl) w a.depths_are; fars_are = a.fars_are; far_states_are = a.far_states_are; channels_are = a.channels_are }
