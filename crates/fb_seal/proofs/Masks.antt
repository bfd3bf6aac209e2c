-- Bits of masks.
use Rattle.std.proofs.Common.{arith, ◌≡◌, ◌≢◌, ◌⊎◌, inl, inr, ℕ, ◌+◌, ◌-◌, ◌*◌, ◌/◌, ◌%◌, ◌^◌, ◌<◌, ◌≤◌, true, refl, sym, ◌∙◌, ap}
use Rattle.std.specs.Prelude.{◌==◌, bit_or}
use Rattle.std.specs.Int.Bits.{or_zero_r}
use Rattle.std.proofs.lemmas.Bool.{agree_below_at, cases_eq, cases_order, eqb-true}
use Rattle.std.proofs.lemmas.Nat.{or_shr, or_mod, shl-shr, shr-shr, field_of, mod-pow-add, pow-add, pow_below}
use Rattle.std.proofs.Math.Nat.{div-eq_of_lt, mul_assoc, mul_comm}
use Rattle.fb_seal.specs.Window.{bit}

-- all bits of the greatest mask are set
pub all_set : (i : ℕ) → i < 64 → bit 18446744073709551615 i ≡ 1
all_set i lt = eqb-true (bit 18446744073709551615 i) 1 (agree_below_at (λ k. bit 18446744073709551615 k == 1) (λ k. true) 64 i refl lt)

-- what is cut off above does not change a bit below
cut : (n i : ℕ) → i < 64 → bit (n % 2 ^ 64) i ≡ n / 2 ^ i % 2
cut n i lt =
    let split : 64 ≡ (64 - i) + i = omega arith in
    let more : 64 - i ≡ (63 - i) + 1 = omega arith in
    let first : n % 2 ^ 64 / 2 ^ i ≡ n % 2 ^ ((64 - i) + i) / 2 ^ i = ap (λ (k : ℕ). n % 2 ^ k / 2 ^ i) split in
    let second : n / 2 ^ i % 2 ^ (64 - i) ≡ n / 2 ^ i % 2 ^ ((63 - i) + 1) = ap (λ (k : ℕ). n / 2 ^ i % 2 ^ k) more in
    let whole : n % 2 ^ 64 / 2 ^ i ≡ (n / 2 ^ i / 2 % 2 ^ (63 - i)) * 2 + n / 2 ^ i % 2 = first ∙ field_of n (64 - i) i ∙ second ∙ mod-pow-add (n / 2 ^ i) (63 - i) 1 in
    let last : ((n / 2 ^ i / 2 % 2 ^ (63 - i)) * 2 + n / 2 ^ i % 2) % 2 ≡ n / 2 ^ i % 2 = two (n / 2 ^ i / 2 % 2 ^ (63 - i)) (n / 2 ^ i) in
    ap (λ (k : ℕ). k % 2) whole ∙ last
  where
    two : (a b : ℕ) → (a * 2 + b % 2) % 2 ≡ b % 2
    two a b = omega arith

-- a shifted mask: the bits above the shift
pub shifted_up : (m d e : ℕ) → d + e < 64 → bit (m * 2 ^ d % 2 ^ 64) (d + e) ≡ bit m e
shifted_up m d e lt =
    let moved : m * 2 ^ d / 2 ^ (d + e) ≡ m / 2 ^ e = sym (shr-shr (m * 2 ^ d) d e) ∙ ap (λ (k : ℕ). k / 2 ^ e) (shl-shr m d) in
    cut (m * 2 ^ d) (d + e) lt ∙ ap (λ (k : ℕ). k % 2) moved

-- and those below it
pub shifted_in : (m i e : ℕ) → i < 64 → bit (m * 2 ^ (i + (e + 1)) % 2 ^ 64) i ≡ 0
shifted_in m i e lt =
    let power : 2 ^ (i + (e + 1)) ≡ (2 ^ e * 2) * 2 ^ i = pow-add 2 i (e + 1) ∙ ap (λ (k : ℕ). 2 ^ i * k) (pow-add 2 e 1) ∙ mul_comm (2 ^ i) (2 ^ e * 2) in
    let times : m * 2 ^ (i + (e + 1)) ≡ (m * 2 ^ e * 2) * 2 ^ i =
    ap (λ (k : ℕ). m * k) power ∙ sym (mul_assoc m (2 ^ e * 2) (2 ^ i)) ∙ ap (λ (k : ℕ). k * 2 ^ i) (sym (mul_assoc m (2 ^ e) 2)) in
    let moved : m * 2 ^ (i + (e + 1)) / 2 ^ i ≡ m * 2 ^ e * 2 = ap (λ (k : ℕ). k / 2 ^ i) times ∙ shl-shr (m * 2 ^ e * 2) i in
    let even : m * 2 ^ e * 2 % 2 ≡ 0 = two (m * 2 ^ e) in
    cut (m * 2 ^ (i + (e + 1))) i lt ∙ ap (λ (k : ℕ). k % 2) moved ∙ even
  where
    two : (a : ℕ) → a * 2 % 2 ≡ 0
    two a = omega arith

-- bits of two masks
both : (a b i : ℕ) → bit (bit_or a b) i ≡ bit_or (bit a i) (bit b i)
both a b i = ap (λ (k : ℕ). k % 2) (or_shr a b i) ∙ or_mod (a / 2 ^ i) (b / 2 ^ i) 1

-- 1 has its lowest bit alone
pub one_low : (i : ℕ) → 0 < i → bit 1 i ≡ 0
one_low i lt = let less : 1 < 2 ^ i = pow_below 0 i lt in let none : 1 / 2 ^ i ≡ 0 = div-eq_of_lt less in ap (λ (k : ℕ). k % 2) none

at_index : (m i j : ℕ) → i ≡ j → bit m i ≡ bit m j
at_index m i j e = ap (bit m) e

-- ---- a mask that is shifted, and its lowest bit set

abbrev pub shifted : ℕ → ℕ → ℕ
shifted mask by = bit_or (mask * 2 ^ by % 2 ^ 64) 1

pub first_set : (mask by : ℕ) → 0 < by → by < 64 → bit (shifted mask by) 0 ≡ 1
first_set mask by lt fits =
    let e : by ≡ 0 + ((by - 1) + 1) = omega arith in
    let low : bit (mask * 2 ^ by % 2 ^ 64) 0 ≡ 0 = ap (λ (k : ℕ). bit (mask * 2 ^ k % 2 ^ 64) 0) e ∙ shifted_in mask 0 (by - 1) (omega arith) in
    both (mask * 2 ^ by % 2 ^ 64) 1 0 ∙ ap (λ (k : ℕ). bit_or k 1) low

pub between_clear : (mask by i : ℕ) → 0 < i → i < by → i < 64 → bit (shifted mask by) i ≡ 0
between_clear mask by i lt less fits =
    let e : by ≡ i + ((by - i - 1) + 1) = omega arith in
    let low : bit (mask * 2 ^ by % 2 ^ 64) i ≡ 0 = ap (λ (k : ℕ). bit (mask * 2 ^ k % 2 ^ 64) i) e ∙ shifted_in mask i (by - i - 1) fits in
    both (mask * 2 ^ by % 2 ^ 64) 1 i ∙ ap (λ (k : ℕ). bit_or k (bit 1 i)) low ∙ ap (λ (k : ℕ). bit_or 0 k) (one_low i lt)

pub others_kept : (mask by i : ℕ) → 0 < by → by ≤ i → i < 64 → bit (shifted mask by) i ≡ bit mask (i - by)
others_kept mask by i lt le fits =
    let e : i ≡ by + (i - by) = omega arith in
    let up : bit (mask * 2 ^ by % 2 ^ 64) i ≡ bit mask (i - by) = at_index (mask * 2 ^ by % 2 ^ 64) i (by + (i - by)) e ∙ shifted_up mask by (i - by) (omega arith) in
    both (mask * 2 ^ by % 2 ^ 64) 1 i ∙ ap (λ (k : ℕ). bit_or k (bit 1 i)) up ∙ ap (bit_or (bit mask (i - by))) (one_low i (omega arith)) ∙ or_zero_r (bit mask (i - by))

-- ---- a mask with one more bit

abbrev pub marked : ℕ → ℕ → ℕ
marked mask d = bit_or mask (1 * 2 ^ d % 2 ^ 64)

set_bit : (b : ℕ) → b < 2 → bit_or b 1 ≡ 1
set_bit b lt = one_of (cases_eq b 0)
  where
    one_of : (b ≡ 0) ⊎ (b ≡ 0 → ⊥) → bit_or b 1 ≡ 1
    one_of (inl e) = ap (λ (k : ℕ). bit_or k 1) e
    one_of (inr ne) =
        let e : b ≡ 1 = omega arith in
        ap (λ (k : ℕ). bit_or k 1) e

pub is_marked : (mask d : ℕ) → d < 64 → bit (marked mask d) d ≡ 1
is_marked mask d lt =
    let e : d ≡ d + 0 = omega arith in
    let one : bit (1 * 2 ^ d % 2 ^ 64) d ≡ 1 = at_index (1 * 2 ^ d % 2 ^ 64) d (d + 0) e ∙ shifted_up 1 d 0 (omega arith) in
    both mask (1 * 2 ^ d % 2 ^ 64) d ∙ ap (bit_or (bit mask d)) one ∙ set_bit (bit mask d) (omega arith)

pub not_marked : (mask d i : ℕ) → d < 64 → i < 64 → i ≢ d → bit (marked mask d) i ≡ bit mask i
not_marked mask d i lt fits ne = both mask (1 * 2 ^ d % 2 ^ 64) i ∙ ap (bit_or (bit mask i)) (clear (cases_order i d)) ∙ or_zero_r (bit mask i)
  where
    clear : (i ≡ d) ⊎ ((i < d) ⊎ (d < i)) → bit (1 * 2 ^ d % 2 ^ 64) i ≡ 0
    clear (inl same) = absurd (ne same)
    clear (inr (inl less)) =
        let e : d ≡ i + ((d - i - 1) + 1) = omega arith in
        ap (λ (k : ℕ). bit (1 * 2 ^ k % 2 ^ 64) i) e ∙ shifted_in 1 i (d - i - 1) fits
    clear (inr (inr more)) =
        let e : i ≡ d + (i - d) = omega arith in
        at_index (1 * 2 ^ d % 2 ^ 64) i (d + (i - d)) e ∙ shifted_up 1 d (i - d) (omega arith) ∙ one_low (i - d) (omega arith)
