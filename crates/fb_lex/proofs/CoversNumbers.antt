-- What is found at the characters of a number is no less than the number.
use Rattle.std.proofs.Common.{◌≡◌, ℕ, ◌+◌, ◌*◌, ◌<◌, ◌≤◌, Bool, true, false, cond, List, [], ◌∷◌, ◌++◌, length, Option, Some, None, refl, sym, ap, subst, ◌∙◌, arith, append_assoc, length-append}
use Rattle.std.specs.Prelude.{◌==◌, ◌&&◌, not}
use Rattle.std.proofs.lemmas.Bool.{eqb-true, false_from_ne_true}
use Rattle.fb_model.specs.Spelling.{digit_value, is_digit_in, IsDigits, no_more, digit, joined, IsWhole, whole, IsBase, binary, octal, hexadecimal, IsNumber, decimal, based}
use Rattle.fb_lex.specs.Scanning.{or_else, with_rest, digits_at, from_digit, whole_at, behind_hash, named_base, base_at, in_base, number_at}
use Rattle.fb_lex.proofs.Digits.{digits_digit, digits_joined}
use Rattle.fb_lex.proofs.Words.{both_true}
use Rattle.fb_lex.proofs.Sound.{ReadsAs, digits_sound, whole_sound, ReadsBase, base_sound}

-- What is found where something stands before a rest: no less, and that very thing where it is no more.
pub record Covers {A : Type 0} (q : Option (A × List ℕ)) (k : A) (rest : List ℕ) : Type 0 where
  pub found : A
  pub left : List ℕ
  pub is : q ≡ Some (found, left)
  pub no_less : length left ≤ length rest
  pub same : length left ≡ length rest → found ≡ k

pub empty : (xs : List ℕ) → length xs ≡ 0 → xs ≡ []
empty [] h = refl
empty (x ∷ xs) h = absurd (omega arith)

-- a digit is no other character
pub digit_is_not : (base c x : ℕ) → is_digit_in base x ≡ false → is_digit_in base c ≡ true → (c == x) ≡ false
digit_is_not base c x f h = false_from_ne_true (c == x) (λ t. let e = ap (is_digit_in base) (eqb-true c x t) in absurd cc)

-- ---- digits

pub digits_more : {base v n : ℕ} {cs : List ℕ} → IsDigits base v cs n → (rest : List ℕ) → digits_at base v (cs ++ rest) ≡ digits_at base n rest
digits_more no_more rest = refl
digits_more {base = base} (digit {v = v} {c = c} {cs = cs} h t) rest = digits_digit base v c (cs ++ rest) h ∙ digits_more t rest
digits_more {base = base} (joined {v = v} {c = c} {cs = cs} h t) rest = digits_joined base v 95 c (cs ++ rest) refl h ∙ digits_more t rest

digits_none : {base v n : ℕ} {cs : List ℕ} → IsDigits base v cs n → length cs ≡ 0 → n ≡ v
digits_none no_more h = refl
digits_none (digit d t) h = absurd (omega arith)
digits_none (joined d t) h = absurd (omega arith)

whole_first : (base c : ℕ) (cs : List ℕ) → is_digit_in base c ≡ true → whole_at base (c ∷ cs) ≡ Some (digits_at base (digit_value c) cs)
whole_first base c cs h = ap (λ b. from_digit base (with_rest cs (cond b (Some (digit_value c)) None))) h

pub whole_covers : {base n : ℕ} {cs : List ℕ} → IsWhole base cs n → (rest : List ℕ) → Covers (whole_at base (cs ++ rest)) n rest
whole_covers {base = base} (whole {c = c} {n = n} {cs = cs} h t) rest =
    let d = digits_sound base rest n in
    let r = digits_at base n rest in
    let len = ap length d.2 ∙ length-append d.0 r.1 in
    record {
      found = r.0;
      left = r.1;
      is = whole_first base c (cs ++ rest) h ∙ ap Some (digits_more t rest);
      no_less = omega arith;
      same = λ f. digits_none d.1 (omega arith);
    }

-- characters at which no digit goes on
unfoldable pub stops : List ℕ → Bool
stops [] = true
stops (c ∷ cs) = not (is_digit_in 10 c) && not (c == 95)

pub not_true : (b : Bool) → not b ≡ true → b ≡ false
not_true true h = absurd cc
not_true false h = refl

digits_stop : (v : ℕ) (bytes : List ℕ) → stops bytes ≡ true → digits_at 10 v bytes ≡ (v, bytes)
unfolding digits_at stops
digits_stop v [] h = refl
digits_stop v (c ∷ []) h = let p = both_true (not (is_digit_in 10 c)) (not (c == 95)) h in ap (λ b. cond b (v * 10 + digit_value c, []) (v, c ∷ [])) (not_true (is_digit_in 10 c) p.0)
digits_stop v (c ∷ d ∷ cs) h =
    let p = both_true (not (is_digit_in 10 c)) (not (c == 95)) h in
    ap (λ b. cond b (digits_at 10 (v * 10 + digit_value c) (d ∷ cs)) (cond ((c == 95) && is_digit_in 10 d) (digits_at 10 (v * 10 + digit_value d) cs) (v, c ∷ d ∷ cs))) (not_true (is_digit_in 10 c) p.0)
    ∙ ap (λ b. cond (b && is_digit_in 10 d) (digits_at 10 (v * 10 + digit_value d) cs) (v, c ∷ d ∷ cs)) (not_true (c == 95) p.1)

pub whole_stop : {n : ℕ} {cs : List ℕ} → IsWhole 10 cs n → (rest : List ℕ) → stops rest ≡ true → whole_at 10 (cs ++ rest) ≡ Some (n, rest)
whole_stop (whole {c = c} {n = n} {cs = cs} h t) rest s = whole_first 10 c (cs ++ rest) h ∙ ap Some (digits_more t rest ∙ digits_stop n rest s)

-- ---- a base before the digits

whole_less : (base : ℕ) (bytes : List ℕ) (v : ℕ) (left : List ℕ) → whole_at base bytes ≡ Some (v, left) → length left < length bytes
whole_less base bytes v left e = by_read (subst (λ q. ReadsAs (IsWhole base) bytes q) e (whole_sound base bytes)) where
  whole_some : {n : ℕ} {cs : List ℕ} → IsWhole base cs n → 0 < length cs
  whole_some (whole h t) = omega arith

  by_read : ReadsAs (IsWhole base) bytes (Some (v, left)) → length left < length bytes
  by_read r = let a = whole_some r.1 in let b = ap length r.2 in let d = length-append r.0 left in omega arith

base_less : (bytes : List ℕ) (base : ℕ) (rest : List ℕ) → base_at bytes ≡ Some (base, rest) → length rest + 2 ≤ length bytes
base_less bytes base rest e = by_read (subst (λ q. ReadsBase bytes q) e (base_sound bytes)) where
  base_some : {b : ℕ} {cs : List ℕ} → IsBase b cs → 2 ≤ length cs
  base_some binary = omega arith
  base_some octal = omega arith
  base_some hexadecimal = omega arith

  by_read : ReadsBase bytes (Some (base, rest)) → length rest + 2 ≤ length bytes
  by_read r = let a = base_some r.1 in let b = ap length r.2 in let d = length-append r.0 rest in omega arith

based_less : (bytes : List ℕ) (v : ℕ) (left : List ℕ) → in_base (base_at bytes) ≡ Some (v, left) → length left + 3 ≤ length bytes
based_less bytes v left e = by_base (base_at bytes) refl e where
  by_base : (q : Option (ℕ × List ℕ)) → base_at bytes ≡ q → in_base q ≡ Some (v, left) → length left + 3 ≤ length bytes
  by_base None f g = absurd cc
  by_base (Some (base, rest)) f g = let a = base_less bytes base rest f in let b = whole_less base rest v left g in omega arith

no_hash : List ℕ → Bool
no_hash [] = true
no_hash (c ∷ cs) = not (c == 35)

digits_no_hash : {base v n : ℕ} {cs : List ℕ} → IsDigits base v cs n → no_hash cs ≡ true
unfolding no_hash
digits_no_hash no_more = refl
digits_no_hash {base = base} (digit {c = c} h t) = ap not (digit_is_not base c 35 refl h)
digits_no_hash (joined h t) = refl

same_rest : (a b : ℕ) (x y : List ℕ) (q : Option (ℕ × List ℕ)) → q ≡ Some (a, x) → q ≡ Some (b, y) → length x ≡ length y
same_rest a b x y q f g = ap (λ (p : ℕ × List ℕ). length p.1) (let s : (a, x) ≡ (b, y) = cc in s)

hash_less : (cs rest : List ℕ) (base : ℕ) (left : List ℕ) → no_hash cs ≡ true → behind_hash (cs ++ rest) ≡ Some (base, left) → length left < length rest
unfolding no_hash
hash_less [] [] base left h e = absurd cc
hash_less [] (c ∷ rest) base left h e = by_test (c == 35) e where
  by_test : (b : Bool) → cond {A = Option (ℕ × List ℕ)} b (Some (16, rest)) None ≡ Some (base, left) → length left < length (c ∷ rest)
  by_test true f = let q = same_rest 16 base rest left (Some (16, rest)) refl f in omega arith
  by_test false f = absurd cc
hash_less (c ∷ cs) rest base left h e = let g = sym (ap (λ b. cond {A = Option (ℕ × List ℕ)} b (Some (16, cs ++ rest)) None) (not_true (c == 35) h)) ∙ e in absurd cc

-- where a decimal number stands, a number with a base is longer
digits_longer : (c : ℕ) (rest : List ℕ) (v : ℕ) (left : List ℕ) {w n : ℕ} {cs : List ℕ} → IsDigits 10 w cs n → in_base (base_at (c ∷ (cs ++ rest))) ≡ Some (v, left) → length left < length rest
digits_longer c rest v left no_more e = let a = based_less (c ∷ rest) v left e in omega arith
digits_longer c rest v left (digit {c = d} {cs = cs} g t) e =
    by_base (base_at (c ∷ d ∷ (cs ++ rest))) (sym (ap (λ b. cond b (named_base c (cs ++ rest)) (cond ((c == 49) && (d == 54)) (behind_hash (cs ++ rest)) None)) (digit_is_not 10 d 35 refl g))) e where
      by_base : (q : Option (ℕ × List ℕ)) → cond ((c == 49) && (d == 54)) (behind_hash (cs ++ rest)) None ≡ q → in_base q ≡ Some (v, left) → length left < length rest
      by_base None f k = absurd cc
      by_base (Some (base, more)) f k = by_test ((c == 49) && (d == 54)) f where
        by_test : (b : Bool) → cond b (behind_hash (cs ++ rest)) None ≡ Some (base, more) → length left < length rest
        by_test true x = let a = hash_less cs rest base more (digits_no_hash t) x in let b = whole_less base more v left k in omega arith
        by_test false x = absurd cc
digits_longer c rest v left (joined {c = d} {cs = cs} g t) e = by_test (c == 49) e where
  by_test : (b : Bool) → in_base (cond (b && false) (behind_hash (d ∷ (cs ++ rest))) None) ≡ Some (v, left) → length left < length rest
  by_test true f = absurd cc
  by_test false f = absurd cc

based_longer : {n : ℕ} {cs : List ℕ} → IsWhole 10 cs n → (rest : List ℕ) (v : ℕ) (left : List ℕ) → in_base (base_at (cs ++ rest)) ≡ Some (v, left) → length left < length rest
based_longer (whole {c = c} h t) rest v left e = digits_longer c rest v left t e

based_front : {base : ℕ} {front : List ℕ} → IsBase base front → (bytes : List ℕ) → base_at (front ++ bytes) ≡ Some (base, bytes)
based_front binary bytes = refl
based_front octal bytes = refl
based_front hexadecimal bytes = refl

pub number_covers : {n : ℕ} {cs : List ℕ} → IsNumber cs n → (rest : List ℕ) → Covers (number_at (cs ++ rest)) n rest
unfolding number_at
number_covers (decimal {n = n} {cs = cs} w) rest = by_base (in_base (base_at (cs ++ rest))) refl where
  by_base : (q : Option (ℕ × List ℕ)) → in_base (base_at (cs ++ rest)) ≡ q → Covers (or_else q (whole_at 10 (cs ++ rest))) n rest
  by_base None e = whole_covers w rest
  by_base (Some (v, left)) e =
      let less = based_longer w rest v left e in
      record { found = v; left = left; is = refl; no_less = omega arith; same = λ f. absurd (omega arith) }
number_covers (based {base = base} {n = n} {front = front} {cs = cs} b w) rest =
    let c = whole_covers w rest in
    let e : in_base (base_at ((front ++ cs) ++ rest)) ≡ Some (c.found, c.left) = ap (λ l. in_base (base_at l)) (append_assoc front cs rest) ∙ ap in_base (based_front b (cs ++ rest)) ∙ c.is in
    record { found = c.found; left = c.left; is = ap (λ q. or_else q (whole_at 10 ((front ++ cs) ++ rest))) e; no_less = c.no_less; same = c.same }
