-- What `parse` reads as a number.
use Rattle.std.proofs.Common.{◌≡◌, ◌≢◌, ℕ, ◌+◌, ◌^◌, ◌<◌, ◌≤◌, ◌==◌, List, [], ◌∷◌, length, drop, get_or, Bool, true, false, not, ◌&&◌, cond, Result, Ok, Err, Option, Some, None, refl, sym, subst, ◌∙◌, ap, arith, rules, tests}
use Rattle.std.specs.Prelude.{ℤ, pos, neg_ℤ, nat_lt, slice_index}
use Rattle.std.specs.Fmt.{decimal}
use Rattle.std.specs.List.{AllByRecursion}
use Rattle.std.specs.Result.{OkIff, result_ok}
use Rattle.std.specs.Option.{option_map}
use Rattle.std.specs.Str.{all_ascii_digits}
use Rattle.std.specs.Str.Parse.{ParsesUnsigned, ParsesSigned}
use Rattle.std.proofs.lemmas.Str.Parse.{IsNumeralModel, numerals_by_fold, tells_all_ascii_digits, parse_plain, parse_signed_plain, parse_signed_minus}
use Rattle.std.proofs.lemmas.Fmt.{decimal_is_IsNumeral, digits_decimal, digits_value-decimal}
use Rattle.fb_model.specs.CertificateText.{decimal_from}
use Rattle.fb_numbers.specs.Numbers.{number_below, number_in, long_number_in, wide_number_in, value_in}
use mir.Syntax.{w64}

own : IsNumeralModel (λ ds. all_ascii_digits ds ≡ true) (decimal_from 0)
own = numerals_by_fold (λ ds. all_ascii_digits ds ≡ true) tells_all_ascii_digits decimal_from (record { empty = λ n. refl; more = λ n c cs k. refl })

-- the tests of a number, as facts
holds : (n v limit : ℕ) (a : Bool) → a ≡ true → 0 < n → v < limit → (a && not (n == 0) && nat_lt v limit) ≡ true
holds n v limit a e p q = first_of (search (rules, tests, e, p, q), grind (arith, e, p, q))

facts : (n v limit : ℕ) (a : Bool) → (a && not (n == 0) && nat_lt v limit) ≡ true → (a ≡ true) × (0 < n) × (v < limit)
facts n v limit a h = first_of (search (rules, tests, h), grind (arith, h))

-- `parse` answers just where a test holds
answers : {T E : Type 0} (r : Result T E) (Q : Type 0) (v : T) (b : Bool) → OkIff r Q v → (Q → b ≡ true) → (b ≡ true → Q) → result_ok r ≡ cond b (Some v) None
answers (Ok x) Q v true h f g = ap Some h.1
answers (Ok x) Q v false h f g = let e = f h.0 in absurd cc
answers (Err e) Q v true h f g = absurd (h (g refl))
answers (Err e) Q v false h f g = refl

below : {T E : Type 0} (bs : List ℕ) (limit : ℕ) (r : Result T E) (g : ℕ → T) → OkIff r ((all_ascii_digits bs ≡ true) × (0 < length bs) × (decimal_from 0 bs < limit)) (g (decimal_from 0 bs)) → result_ok r ≡ option_map g (number_below limit bs)
below {T} bs limit r g h =
    let b : Bool = all_ascii_digits bs && not (length bs == 0) && nat_lt (decimal_from 0 bs) limit in
    answers r _ _ b h (λ q. holds (length bs) (decimal_from 0 bs) limit (all_ascii_digits bs) q.0 q.1 q.2) (facts (length bs) (decimal_from 0 bs) limit (all_ascii_digits bs))
    ∙ mapped b
  where
    mapped : (b : Bool) → cond b (Some (g (decimal_from 0 bs))) None ≡ option_map g (cond b (Some (decimal_from 0 bs)) None)
    mapped true = refl
    mapped false = refl

same : (o : Option ℕ) → option_map (λ n. n) o ≡ o
same (Some n) = refl
same None = refl

no_plus : (bs : List ℕ) → (slice_index bs 0 == 43) ≡ false → get_or bs 0 0 ≢ 43
no_plus bs h = grind (arith, h)

pub number : {E : Type 0} (bs : List ℕ) (r : Result ℕ E) → (slice_index bs 0 == 43) ≡ false → ParsesUnsigned 16 10 bs r → result_ok r ≡ number_in bs
number bs r n h = below bs (2 ^ 16) r (λ k. k) (parse_plain own 16 bs r h (no_plus bs n)) ∙ same (number_in bs)

pub long_number : {E : Type 0} (bs : List ℕ) (r : Result ℕ E) → (slice_index bs 0 == 43) ≡ false → ParsesUnsigned 32 10 bs r → result_ok r ≡ long_number_in bs
long_number bs r n h = below bs (2 ^ 32) r (λ k. k) (parse_plain own 32 bs r h (no_plus bs n)) ∙ same (long_number_in bs)

pub wide_number : {E : Type 0} (bs : List ℕ) (r : Result ℕ E) → (slice_index bs 0 == 43) ≡ false → ParsesUnsigned 64 10 bs r → result_ok r ≡ wide_number_in bs
wide_number bs r n h = below bs (2 ^ 64) r (λ k. k) (parse_plain own 64 bs r h (no_plus bs n)) ∙ same (wide_number_in bs)

at_most : {T E : Type 0} (r : Result T E) (A B : Type 0) (n k : ℕ) (v : T) → OkIff r (A × B × (n ≤ k)) v → OkIff r (A × B × (n < k + 1)) v
at_most (Ok x) A B n k v h = ((h.0.0, h.0.1, omega (arith, h.0.2)), h.1)
at_most (Err e) A B n k v h = λ q. h (q.0, q.1, omega (arith, q.2))

pub value : {E : Type 0} (bs : List ℕ) (r : Result ℤ E) → (slice_index bs 0 == 43) ≡ false → ParsesSigned w64 10 bs r → result_ok r ≡ value_in bs
value {E} bs r n h = by (slice_index bs 0 == 45) refl
  where
    by : (b : Bool) → (slice_index bs 0 == 45) ≡ b → result_ok r ≡ cond b (option_map (λ k. neg_ℤ (pos k)) (number_below (2 ^ 63 + 1) (drop 1 bs))) (option_map pos (number_below (2 ^ 63) bs))
    by true e = below (drop 1 bs) (2 ^ 63 + 1) r (λ k. neg_ℤ (pos k)) (at_most r _ _ _ (2 ^ 63) _ (parse_signed_minus own w64 bs r h (grind (arith, e))))
    by false e = below bs (2 ^ 63) r pos (parse_signed_plain own w64 bs r h (no_plus bs n) (grind (arith, e)))

-- ---- what a number is written as is read as that number

read_below : (limit n : ℕ) → n < 2 ^ 64 → n < limit → number_below limit (decimal n) ≡ Some n
read_below limit n h l =
    let is : decimal_from 0 (decimal n) ≡ n = digits_value-decimal own n h in
    let passes = holds (length (decimal n)) (decimal_from 0 (decimal n)) limit (all_ascii_digits (decimal n)) (digits_decimal own n h) (decimal_is_IsNumeral n h).0.0 (subst (λ k. k < limit) (sym is) l) in
    ap (λ b. cond b (Some (decimal_from 0 (decimal n))) None) passes ∙ ap Some is

pub long_number_of : (n : ℕ) → n < 2 ^ 32 → long_number_in (decimal n) ≡ Some n
long_number_of n h = read_below (2 ^ 32) n (omega (arith, h)) h

pub wide_number_of : (n : ℕ) → n < 2 ^ 64 → wide_number_in (decimal n) ≡ Some n
wide_number_of n h = read_below (2 ^ 64) n h h

-- and has no space in it
solid_digits : (cs : List ℕ) → all_ascii_digits cs ≡ true → AllByRecursion (λ c. (c == 32) ≡ false) cs
solid_digits [] h = tt
solid_digits (c ∷ cs) h = let k = tells_all_ascii_digits.parts c cs h in (grind (arith, k.0), solid_digits cs k.1)

pub decimal_solid : (n : ℕ) → n < 2 ^ 64 → AllByRecursion (λ c. (c == 32) ≡ false) (decimal n)
decimal_solid n h = solid_digits (decimal n) (digits_decimal own n h)
