-- The digits that are printed of a number write that number.
use Rattle.std.proofs.Common.{◌≡◌, ℕ, ℤ, pos, negsuc, suc, ◌+◌, ◌-◌, ◌*◌, ◌/◌, ◌%◌, ◌^◌, ◌<◌, ◌≤◌, true, List, [], ◌∷◌, ◌++◌, length, refl, ap, ◌∙◌, arith}
use Rattle.std.specs.List.{AllByRecursion}
use Rattle.std.specs.Fmt.{decimal, signed_decimal}
use Rattle.std.specs.Int.RustNames.{FitsSigned}
use mir.Syntax.{w64}
use Rattle.std.proofs.lemmas.Bool.{le-leb}
use Rattle.std.proofs.lemmas.Fmt.{decimal_by_steps}
use Rattle.fb_model.specs.Spelling.{is_digit}
use Rattle.fb_model.specs.CertificateText.{decimal_from, IsNumberIn, IsWhole, plain, negative, most_lint}
use Rattle.fb_cert.proofs.Deciding.{true_both}

-- one digit or more that write the number
pub record Writes (n : ℕ) (ds : List ℕ) : Type 0 where
  pub some : 0 < length ds
  pub digits : AllByRecursion (λ c. is_digit c ≡ true) ds
  pub value : decimal_from 0 ds ≡ n

is_a_digit : (c : ℕ) → 48 ≤ c → c ≤ 57 → is_digit c ≡ true
is_a_digit c l h = true_both _ _ (le-leb 48 c l) (le-leb c 57 h)

-- a digit more
digits_more : (ds : List ℕ) (c : ℕ) → AllByRecursion (λ b. is_digit b ≡ true) ds → is_digit c ≡ true → AllByRecursion (λ b. is_digit b ≡ true) (ds ++ c ∷ [])
digits_more [] c h k = (k, tt)
digits_more (d ∷ ds) c h k = (h.0, digits_more ds c h.1 k)

value_more : (v : ℕ) (ds : List ℕ) (c : ℕ) → decimal_from v (ds ++ c ∷ []) ≡ decimal_from v ds * 10 + (c - 48)
value_more v [] c = refl
value_more v (d ∷ ds) c = value_more (v * 10 + (d - 48)) ds c

length_more : (ds : List ℕ) (c : ℕ) → 0 < length (ds ++ c ∷ [])
length_more [] c = omega arith
length_more (d ∷ ds) c = omega arith

one_digit : (n : ℕ) → n < 10 → Writes n ((48 + n) ∷ [])
one_digit n h = record { some = omega arith; digits = (is_a_digit (48 + n) (omega arith) (omega arith), tt); value = omega arith }

more_digits : (n : ℕ) (ds : List ℕ) → 10 ≤ n → Writes (n / 10) ds → Writes n (ds ++ ((48 + n % 10) ∷ []))
more_digits n ds h w =
    let v : decimal_from 0 ds ≡ n / 10 = w.value in
    record {
      some = length_more ds (48 + n % 10);
      digits = digits_more ds (48 + n % 10) w.digits (is_a_digit (48 + n % 10) (omega arith) (omega arith));
      value = value_more 0 ds (48 + n % 10) ∙ ap (λ d. d * 10 + ((48 + n % 10) - 48)) v ∙ omega arith;
    }

pub decimal_writes : (n : ℕ) → n < 2 ^ 64 → Writes n (decimal n)
decimal_writes n h = decimal_by_steps Writes one_digit more_digits n h

pub decimal_is : (low high n : ℕ) → low ≤ n → n ≤ high → n < 2 ^ 64 → IsNumberIn low high (decimal n) n
decimal_is low high n l h f = let w = decimal_writes n f in record { some = w.some; digits = w.digits; value = w.value; at_least = l; at_most = h }

pub signed_is : (z : ℤ) → FitsSigned w64 z → IsWhole (signed_decimal z) z
signed_is (pos n) h = plain (decimal_is 0 most_lint n (omega arith) (let f = h.sfits in omega arith) (let f = h.sfits in omega arith))
signed_is (negsuc n) h = negative (decimal_is 0 (most_lint + 1) (suc n) (omega arith) (let f = h.sfits in omega arith) (let f = h.sfits in omega arith))
