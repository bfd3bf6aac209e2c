-- Digits one after the other.
use Rattle.std.proofs.Common.{◌≡◌, ℕ, ◌+◌, ◌*◌, ◌<◌, Bool, true, false, cond, List, [], ◌∷◌, length, get_or, Option, Some, None, refl, ap, ◌∙◌, arith}
use Rattle.std.specs.Prelude.{◌==◌, ◌&&◌}
use Rattle.std.proofs.lemmas.Bool.Decides.{nat_tests}
use Rattle.fb_model.specs.Spelling.{digit_value, is_digit, is_digit_in}
use Rattle.fb_lex.specs.Scanning.{or_else, with_rest, joined_digit, next_digit, digits_at, from_digit, whole_at, behind_hash, named_base, base_at, in_base, number_at}
use Rattle.fb_lex.proofs.Words.{pick}

pub digits_digit : (base v c : ℕ) (bytes : List ℕ) → is_digit_in base c ≡ true → digits_at base v (c ∷ bytes) ≡ digits_at base (v * base + digit_value c) bytes
unfolding digits_at
digits_digit base v c [] h = ap (λ b. cond b (v * base + digit_value c, []) (v, c ∷ [])) h
digits_digit base v c (d ∷ cs) h =
    ap (λ b. cond b (digits_at base (v * base + digit_value c) (d ∷ cs)) (cond ((c == 95) && is_digit_in base d) (digits_at base (v * base + digit_value d) cs) (v, c ∷ d ∷ cs))) h

pub digits_joined : (base v c d : ℕ) (bytes : List ℕ) → is_digit_in base c ≡ false → (c == 95) && is_digit_in base d ≡ true → digits_at base v (c ∷ d ∷ bytes) ≡ digits_at base (v * base + digit_value d) bytes
unfolding digits_at
digits_joined base v c d cs h g =
    ap (λ b. cond b (digits_at base (v * base + digit_value c) (d ∷ cs)) (cond ((c == 95) && is_digit_in base d) (digits_at base (v * base + digit_value d) cs) (v, c ∷ d ∷ cs))) h
    ∙ ap (λ b. cond b (digits_at base (v * base + digit_value d) cs) (v, c ∷ d ∷ cs)) g

pub digits_over : (base v c : ℕ) (bytes : List ℕ) → is_digit_in base c ≡ false → joined_digit base c bytes ≡ None → digits_at base v (c ∷ bytes) ≡ (v, c ∷ bytes)
unfolding digits_at
digits_over base v c [] h g = ap (λ b. cond b (v * base + digit_value c, []) (v, c ∷ [])) h
digits_over base v c (d ∷ cs) h g =
    ap (λ b. cond b (digits_at base (v * base + digit_value c) (d ∷ cs)) (cond ((c == 95) && is_digit_in base d) (digits_at base (v * base + digit_value d) cs) (v, c ∷ d ∷ cs))) h
    ∙ by_joint (c == 95) (is_digit_in base d) g where
      by_joint : (a b : Bool) → cond a (with_rest cs (cond b (Some (digit_value d)) None)) None ≡ None → cond {A = ℕ × List ℕ} (a && b) (digits_at base (v * base + digit_value d) cs) (v, c ∷ d ∷ cs) ≡ (v, c ∷ d ∷ cs)
      by_joint true true f = absurd cc
      by_joint true false f = refl
      by_joint false b f = refl

pub digits_next : (base v : ℕ) (bytes rest : List ℕ) (n : ℕ) → next_digit base bytes ≡ Some (n, rest) → digits_at base v bytes ≡ digits_at base (v * base + n) rest
digits_next base v [] rest n e = absurd cc
digits_next base v (c ∷ cs) rest n e = by_digit (is_digit_in base c) refl e where
  by_digit : (b : Bool) → is_digit_in base c ≡ b → or_else (with_rest cs (cond b (Some (digit_value c)) None)) (joined_digit base c cs) ≡ Some (n, rest) → digits_at base v (c ∷ cs) ≡ digits_at base (v * base + n) rest
  by_digit true h f =
      let p : (digit_value c, cs) ≡ (n, rest) = cc in
      digits_digit base v c cs h ∙ ap (λ (q : ℕ × List ℕ). digits_at base (v * base + q.0) q.1) p
  by_digit false h f = by_joint cs f where
    by_joint : (bs : List ℕ) → joined_digit base c bs ≡ Some (n, rest) → digits_at base v (c ∷ bs) ≡ digits_at base (v * base + n) rest
    by_joint [] g = none (c == 95) g where
      none : (b : Bool) → cond {A = Option (ℕ × List ℕ)} b None None ≡ Some (n, rest) → digits_at base v (c ∷ []) ≡ digits_at base (v * base + n) rest
      none true k = absurd cc
      none false k = absurd cc
    by_joint (d ∷ ds) g = by_tests (c == 95) (is_digit_in base d) refl refl g where
      by_tests : (a b : Bool) → (c == 95) ≡ a → is_digit_in base d ≡ b → cond {A = Option (ℕ × List ℕ)} a (with_rest ds (cond b (Some (digit_value d)) None)) None ≡ Some (n, rest) → digits_at base v (c ∷ d ∷ ds) ≡ digits_at base (v * base + n) rest
      by_tests true true x y k =
          let p : (digit_value d, ds) ≡ (n, rest) = cc in
          digits_joined base v c d ds h (ap (λ z. z && is_digit_in base d) x ∙ y) ∙ ap (λ (q : ℕ × List ℕ). digits_at base (v * base + q.0) q.1) p
      by_tests true false x y k = absurd cc
      by_tests false b x y k = absurd cc

pub digits_none : (base v : ℕ) (bytes : List ℕ) → next_digit base bytes ≡ None → digits_at base v bytes ≡ (v, bytes)
unfolding digits_at
digits_none base v [] e = refl
digits_none base v (c ∷ cs) e = by_digit (is_digit_in base c) refl e where
  by_digit : (b : Bool) → is_digit_in base c ≡ b → or_else (with_rest cs (cond b (Some (digit_value c)) None)) (joined_digit base c cs) ≡ None → digits_at base v (c ∷ cs) ≡ (v, c ∷ cs)
  by_digit true h f = absurd cc
  by_digit false h f = digits_over base v c cs h f

-- ---- no number begins without a digit

no_digit : (c : ℕ) → is_digit c ≡ false → is_digit_in 10 c ≡ false
no_digit c h = grind (arith, nat_tests)

no_one : (c : ℕ) → is_digit c ≡ false → (c == 49) ≡ false
no_one c h = grind (arith, nat_tests)

no_two : (c : ℕ) → is_digit c ≡ false → (c == 50) ≡ false
no_two c h = grind (arith, nat_tests)

no_eight : (c : ℕ) → is_digit c ≡ false → (c == 56) ≡ false
no_eight c h = grind (arith, nat_tests)

no_base : (c d : ℕ) (cs : List ℕ) → is_digit c ≡ false → base_at (c ∷ d ∷ cs) ≡ None
no_base c d cs h =
    pick (λ q. q ≡ None) (d == 35) (named_base c cs) (cond ((c == 49) && (d == 54)) (behind_hash cs) None)
    (λ e. ap (λ b. cond b (Some (2, cs)) (cond (c == 56) (Some (8, cs)) None)) (no_two c h) ∙ ap (λ b. cond b (Some (8, cs)) None) (no_eight c h))
    (λ e. ap (λ b. cond (b && (d == 54)) (behind_hash cs) None) (no_one c h))

no_whole : (c : ℕ) (cs : List ℕ) → is_digit c ≡ false → whole_at 10 (c ∷ cs) ≡ None
no_whole c cs h = ap (λ b. from_digit 10 (with_rest cs (cond b (Some (digit_value c)) None))) (no_digit c h)

pub no_number : (bytes : List ℕ) → is_digit (get_or bytes 0 0) ≡ false → number_at bytes ≡ None
unfolding number_at
no_number [] h = refl
no_number (c ∷ []) h = no_whole c [] h
no_number (c ∷ d ∷ cs) h = ap (λ q. or_else (in_base q) (whole_at 10 (c ∷ d ∷ cs))) (no_base c d cs h) ∙ no_whole c (d ∷ cs) h

pub empty_number : (bytes : List ℕ) → length bytes < 1 → number_at bytes ≡ None
empty_number [] h = no_number [] refl
empty_number (c ∷ cs) h = absurd (omega arith)
