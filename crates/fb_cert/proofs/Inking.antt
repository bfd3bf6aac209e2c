-- Paths in upper case and numbers are printed words.
use Rattle.std.proofs.Common.{◌≡◌, ℕ, ℤ, pos, negsuc, suc, ◌-◌, ◌^◌, ◌<◌, ◌≤◌, ◌==◌, ◌⊎◌, Bool, true, false, cond, List, [], ◌∷◌, length, refl, ap, arith, inl, inr}
use Rattle.std.specs.Prelude.{◌&&◌, ◌||◌, not, nat_le, nat_lt}
use Rattle.std.specs.List.{AllByRecursion, list_all}
use Rattle.std.specs.Char.{to_ascii_uppercase}
use Rattle.std.specs.Fmt.{decimal, signed_decimal}
use Rattle.std.specs.Int.RustNames.{FitsSigned}
use mir.Syntax.{w64}
use Rattle.std.proofs.lemmas.Bool.{leb-true, ltb-true, lt-ltb, eqb-true}
use Rattle.fb_model.specs.Spelling.{is_digit, is_start, upper}
use Rattle.fb_cert.specs.Sayable.{IsUpperPath}
use Rattle.fb_cert.specs.Reading.{path_from, is_path}
use Rattle.fb_cert.proofs.Deciding.{chosen, both_true}
use Rattle.fb_cert.proofs.Paths.{dotted_read}
use Rattle.fb_cert.proofs.Decimals.{decimal_writes}
use Rattle.fb_cert.proofs.Splitting.{IsInk, IsPrinted}

either_true : (a b : Bool) → (a || b) ≡ true → (a ≡ true) ⊎ (b ≡ true)
either_true true b h = inl refl
either_true false b h = inr h

-- ---- literals

is_ink : ℕ → Bool
is_ink c = nat_lt 32 c && (to_ascii_uppercase c == c)

ink_all : (cs : List ℕ) → list_all is_ink cs ≡ true → AllByRecursion IsInk cs
unfolding is_ink
ink_all [] h = tt
ink_all (c ∷ cs) h =
    let t = both_true (is_ink c) (list_all is_ink cs) h in
    let u = both_true (nat_lt 32 c) (to_ascii_uppercase c == c) t.0 in
    (record { above = ltb-true 32 c u.0; same = eqb-true (to_ascii_uppercase c) c u.1 }, ink_all cs t.1)

-- ---- digits

digit_between : (c : ℕ) → is_digit c ≡ true → (48 ≤ c) × (c ≤ 57)
digit_between c h = let t = both_true (nat_le 48 c) (nat_le c 57) h in (leb-true 48 c t.0, leb-true c 57 t.1)

digit_ink : (c : ℕ) → is_digit c ≡ true → IsInk c
digit_ink c h = let b = digit_between c h in record { above = omega arith; same = ap (λ t. cond t c (cond (nat_lt c 123) (c - 32) c)) (lt-ltb c 97 (omega arith)) }

digits_ink : (cs : List ℕ) → AllByRecursion (λ c. is_digit c ≡ true) cs → AllByRecursion IsInk cs
digits_ink [] h = tt
digits_ink (c ∷ cs) h = (digit_ink c h.0, digits_ink cs h.1)

pub decimal_printed : (n : ℕ) → n < 2 ^ 64 → IsPrinted (decimal n)
decimal_printed n h = let w = decimal_writes n h in record { some = w.some; ink = digits_ink (decimal n) w.digits }

minus_printed : (w : List ℕ) → IsPrinted w → IsPrinted (45 ∷ w)
minus_printed w p = record { some = omega arith; ink = (record { above = omega arith; same = refl }, p.ink) }

pub signed_printed : (z : ℤ) → FitsSigned w64 z → IsPrinted (signed_decimal z)
signed_printed (pos n) h = decimal_printed n (let f = h.sfits in omega arith)
signed_printed (negsuc n) h = minus_printed (decimal (suc n)) (decimal_printed (suc n) (let f = h.sfits in omega arith))

-- ---- paths

start_above : (c : ℕ) → is_start c ≡ true → 32 < c
start_above c h =
    elim (either_true ((nat_le 65 c && nat_le c 90) || (nat_le 97 c && nat_le c 122)) (c == 95) h) [
      | inl p ↦ elim (either_true (nat_le 65 c && nat_le c 90) (nat_le 97 c && nat_le c 122) p) [
        | inl q ↦ (let l = leb-true 65 c (both_true (nat_le 65 c) (nat_le c 90) q).0 in omega arith)
        | inr q ↦ (let l = leb-true 97 c (both_true (nat_le 97 c) (nat_le c 122) q).0 in omega arith)
      ]
      | inr p ↦ (let e = eqb-true c 95 p in omega arith)
    ]

part_above : (begins : Bool) (c : ℕ) → (is_start c || (not begins && is_digit c)) ≡ true → 32 < c
part_above begins c h =
    elim (either_true (is_start c) (not begins && is_digit c) h) [
      | inl p ↦ start_above c p
      | inr p ↦ (let b = digit_between c (both_true (not begins) (is_digit c) p).1 in omega arith)
    ]

path_above : (begins : Bool) (cs : List ℕ) → path_from begins cs ≡ true → AllByRecursion (λ c. 32 < c) cs
path_above begins [] h = tt
path_above begins (c ∷ cs) h =
    elim (chosen (c == 46) (cond begins false (path_from true cs)) (cond (is_start c || (not begins && is_digit c)) (path_from false cs) false) true h) [
      | inl p ↦ (let e = eqb-true c 46 p.0 in elim (chosen begins false (path_from true cs) true p.1) [
        | inl q ↦ absurd (cc)
        | inr q ↦ (omega arith, path_above true cs q.1)
      ])
      | inr p ↦ elim (chosen (is_start c || (not begins && is_digit c)) (path_from false cs) false true p.1) [
        | inl q ↦ (part_above begins c q.0, path_above false cs q.1)
        | inr q ↦ absurd (cc)
      ]
    ]

above_ink : (cs : List ℕ) → AllByRecursion (λ c. 32 < c) cs → upper cs ≡ cs → AllByRecursion IsInk cs
above_ink [] h e = tt
above_ink (c ∷ cs) h e =
    let same : to_ascii_uppercase c ≡ c = cc in
    let rest : upper cs ≡ cs = cc in
    (record { above = h.0; same = same }, above_ink cs h.1 rest)

path_some : (cs : List ℕ) → is_path cs ≡ true → 0 < length cs
path_some [] h = absurd (cc)
path_some (c ∷ cs) h = omega arith

pub path_printed : (p : List ℕ) → IsUpperPath p → IsPrinted p
path_printed p h = let r = dotted_read p h.0 in record { some = path_some p r; ink = above_ink p (path_above true p r) h.1 }

-- ---- words of the format

pub word_printed : (w : List ℕ) → nat_lt 0 (length w) ≡ true → list_all (λ c. nat_lt 32 c && (to_ascii_uppercase c == c)) w ≡ true → IsPrinted w
unfolding is_ink
word_printed w l h = record { some = ltb-true 0 (length w) l; ink = ink_all w h }
