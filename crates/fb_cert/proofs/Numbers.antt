-- What is read as a number is one within the bounds, and each such is read.
use Rattle.std.proofs.Common.{◌≡◌, ℕ, ℤ, pos, ◌+◌, ◌-◌, ◌*◌, ◌≤◌, true, cond, List, [], ◌∷◌, Option, Some, None, refl, sym, ap, subst, ◌∙◌, arith, inl, inr}
use Rattle.std.specs.Prelude.{nat_lt, neg_ℤ, ◌==◌}
use Rattle.std.specs.Option.{option_map}
use Rattle.std.specs.List.{AllByRecursion}
use Rattle.std.proofs.lemmas.Bool.{ltb-false, le-ltb, false_from_ne_true, eqb-true}
use Rattle.fb_model.specs.Spelling.{is_digit}
use Rattle.fb_model.specs.CertificateText.{decimal_from, IsNumberIn, IsWhole, plain, negative, most_lint}
use Rattle.fb_cert.specs.Reading.{digits_to, at_least, number_in, whole_in}
use Rattle.fb_cert.proofs.Deciding.{chosen, some_length}

abbrev Digits : List ℕ → Type 0
Digits cs = AllByRecursion (λ c. is_digit c ≡ true) cs

digits_found : (high v n : ℕ) (cs : List ℕ) → v ≤ high → digits_to high v cs ≡ Some n → Digits cs × (decimal_from v cs ≡ n) × (n ≤ high)
digits_found high v n [] h e = let m : v ≡ n = cc in (tt, m, omega arith)
digits_found high v n (c ∷ cs) h e =
    elim (chosen (is_digit c) (cond (nat_lt high (v * 10 + (c - 48))) None (digits_to high (v * 10 + (c - 48)) cs)) None (Some n) e) [
      | inl p ↦ elim (chosen (nat_lt high (v * 10 + (c - 48))) None (digits_to high (v * 10 + (c - 48)) cs) (Some n) p.1) [
        | inl q ↦ absurd (cc)
        | inr q ↦ (let r = digits_found high (v * 10 + (c - 48)) n cs (ltb-false high (v * 10 + (c - 48)) q.0) q.1 in ((p.0, r.0), r.1, r.2))
      ]
      | inr p ↦ absurd (cc)
    ]

grows : (v : ℕ) (cs : List ℕ) → v ≤ decimal_from v cs
grows v [] = omega arith
grows v (c ∷ cs) = let h = grows (v * 10 + (c - 48)) cs in omega arith

digits_read : (high v : ℕ) (cs : List ℕ) → Digits cs → decimal_from v cs ≤ high → digits_to high v cs ≡ Some (decimal_from v cs)
digits_read high v [] d h = refl
digits_read high v (c ∷ cs) d h =
    let w : ℕ = v * 10 + (c - 48) in
    let l : w ≤ high = omega (arith, grows w cs) in
    ap (λ b. cond b (cond (nat_lt high w) None (digits_to high w cs)) None) d.0
    ∙ ap (λ b. cond b None (digits_to high w cs)) (le-ltb high w l)
    ∙ digits_read high w cs d.1 h

at_least_found : (low n : ℕ) (r : Option ℕ) → at_least low r ≡ Some n → (r ≡ Some n) × (low ≤ n)
at_least_found low n None e = absurd (cc)
at_least_found low n (Some m) e =
    elim (chosen (nat_lt m low) None (Some m) (Some n) e) [
      | inl p ↦ absurd (cc)
      | inr p ↦ (let same : m ≡ n = cc in let l = ltb-false m low p.0 in (p.1, omega arith))
    ]

some_digits : (low high c : ℕ) (cs : List ℕ) → number_in low high (c ∷ cs) ≡ at_least low (digits_to high 0 (c ∷ cs))
some_digits low high c cs = ap (λ b. cond b None (at_least low (digits_to high 0 (c ∷ cs)))) (some_length c cs)

pub number_found : (low high n : ℕ) (cs : List ℕ) → number_in low high cs ≡ Some n → IsNumberIn low high cs n
number_found low high n [] e = absurd (cc)
number_found low high n (c ∷ cs) e =
    let a = at_least_found low n (digits_to high 0 (c ∷ cs)) (sym (some_digits low high c cs) ∙ e) in
    let d = digits_found high 0 n (c ∷ cs) (omega arith) a.0 in
    record { some = omega arith; digits = d.0; value = d.1; at_least = a.1; at_most = d.2 }

pub number_read : (low high n : ℕ) (cs : List ℕ) → IsNumberIn low high cs n → number_in low high cs ≡ Some n
number_read low high n [] h = let l = h.some in absurd (omega arith)
number_read low high n (c ∷ cs) h =
    let e : decimal_from 0 (c ∷ cs) ≡ n = h.value in
    let within : decimal_from 0 (c ∷ cs) ≤ high = let l = h.at_most in omega arith in
    let r : digits_to high 0 (c ∷ cs) ≡ Some n = digits_read high 0 (c ∷ cs) h.digits within ∙ ap Some e in
    some_digits low high c cs ∙ ap (at_least low) r ∙ ap (λ b. cond b None (Some n)) (le-ltb n low h.at_least)

-- it is not above the bound
pub number_most : (low high n : ℕ) (cs : List ℕ) → number_in low high cs ≡ Some n → n ≤ high
number_most low high n cs e = (number_found low high n cs e).at_most

-- ---- numbers with a sign

-- a word without a minus is digits alone
pub whole_plain : (cs : List ℕ) → ((rest : List ℕ) → cs ≡ 45 ∷ rest → ⊥) → whole_in cs ≡ option_map pos (number_in 0 most_lint cs)
whole_plain [] h = refl
whole_plain (c ∷ cs) h = ap (λ b. cond b (option_map (λ n. neg_ℤ (pos n)) (number_in 0 (most_lint + 1) cs)) (option_map pos (number_in 0 most_lint (c ∷ cs)))) (false_from_ne_true (c == 45) (λ e. h cs (ap (λ x. x ∷ cs) (eqb-true c 45 e))))

pub some_of : {A B : Type 0} (f : A → B) (o : Option A) (y : B) → option_map f o ≡ Some y → (x : A) × (o ≡ Some x) × (f x ≡ y)
some_of f None y e = absurd (cc)
some_of f (Some x) y e = let same : f x ≡ y = cc in (x, refl, same)

pub whole_found : (cs : List ℕ) (z : ℤ) → whole_in cs ≡ Some z → IsWhole cs z
whole_found [] z e = absurd (cc)
whole_found (c ∷ cs) z e =
    elim (chosen (c == 45) (option_map (λ n. neg_ℤ (pos n)) (number_in 0 (most_lint + 1) cs)) (option_map pos (number_in 0 most_lint (c ∷ cs))) (Some z) e) [
      | inl p ↦ (let n = some_of (λ n. neg_ℤ (pos n)) (number_in 0 (most_lint + 1) cs) z p.1 in
          subst (IsWhole (c ∷ cs)) n.2 (subst (λ x. IsWhole (x ∷ cs) (neg_ℤ (pos n.0))) (sym (eqb-true c 45 p.0)) (negative (number_found 0 (most_lint + 1) n.0 cs n.1))))
      | inr p ↦ (let n = some_of pos (number_in 0 most_lint (c ∷ cs)) z p.1 in
          subst (IsWhole (c ∷ cs)) n.2 (plain (number_found 0 most_lint n.0 (c ∷ cs) n.1)))
    ]

-- what begins with a minus is no digits
no_minus : (low high n : ℕ) (cs rest : List ℕ) → IsNumberIn low high cs n → cs ≡ 45 ∷ rest → ⊥
no_minus low high n cs rest h e =
    let d : Digits (45 ∷ rest) = subst Digits e h.digits in
    let b : is_digit 45 ≡ true = d.0 in
    absurd (cc)

pub whole_read : (cs : List ℕ) (z : ℤ) → IsWhole cs z → whole_in cs ≡ Some z
whole_read cs z (plain {n} h) = whole_plain cs (λ rest e. no_minus 0 most_lint n cs rest h e) ∙ ap (option_map pos) (number_read 0 most_lint n cs h)
whole_read cs z (negative {cs = ds} {n} h) = ap (option_map (λ m. neg_ℤ (pos m))) (number_read 0 (most_lint + 1) n ds h)
