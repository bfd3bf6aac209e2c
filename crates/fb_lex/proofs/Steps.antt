-- The end of a comment, and that each step leaves less.
use Rattle.std.proofs.Math.Seq.{take-length}
use Rattle.std.proofs.Common.{◌-◌, ◌≤◌, get_or, take, drop, ◌≡◌, ◌≢◌, ℕ, ◌<◌, Bool, true, false, cond, List, [], ◌∷◌, ◌++◌, length, Option, Some, None, refl, sym, ap, subst, ◌∙◌, arith, inl, inr, length-append}
use Rattle.std.specs.Prelude.{◌==◌, ◌&&◌}
use Rattle.std.proofs.lemmas.Bool.{eqb-true}
use Rattle.fb_model.specs.Tokens.{Kind, Token}
use Rattle.fb_model.specs.Spelling.{is_layout, IsWhole, whole, IsNumber, decimal, based, IsWord, word, IsLexeme, a_word, a_name, a_number, a_typed, a_duration, a_sign, Closes, closed, inside, IsGap, layout, comment, OpensNone}
use Rattle.fb_lex.specs.Scanning.{closes_at, Between, past, unclosed, nothing, closed_or, comment_at, gap_at, scan}
use Rattle.fb_lex.specs.Lexing.{Passes, Gaps, one_more}
use Rattle.fb_lex.proofs.Words.{chosen, both_true}
use Rattle.fb_lex.proofs.Sound.{ReadsKind, scan_sound}

pub closes_short : (bs : List ℕ) → length bs < 2 → closes_at bs ≡ None
unfolding closes_at
closes_short [] h = refl
closes_short (c ∷ []) h = refl
closes_short (c ∷ d ∷ cs) h = absurd (omega arith)

-- ---- comments and layout

abbrev starts : ℕ → ℕ → List ℕ → Bool
starts x y [] = false
starts x y (c ∷ []) = false
starts x y (c ∷ d ∷ cs) = (c == x) && (d == y)

-- what a test for the end of a comment says
ends_is : (c d : ℕ) → (c == 42) && (d == 41) ≡ true → (c ≡ 42) × (d ≡ 41)
ends_is c d h = let p = both_true (c == 42) (d == 41) h in (eqb-true c 42 p.0, eqb-true d 41 p.1)

pub closes_found : {bytes rest : List ℕ} → Closes bytes rest → closes_at bytes ≡ Some rest
unfolding closes_at
closes_found closed = refl
closes_found (inside {c = c} {cs = []} h t) = let a = closes_found t in absurd cc
closes_found (inside {c = c} {cs = d ∷ cs} h t) = by_test ((c == 42) && (d == 41)) refl (closes_found t) h where
  by_test : {rest : List ℕ} (b : Bool) → (c == 42) && (d == 41) ≡ b → closes_at (d ∷ cs) ≡ Some rest → ((ds : List ℕ) → c ∷ d ∷ cs ≢ 42 ∷ 41 ∷ ds) → cond b (Some cs) (closes_at (d ∷ cs)) ≡ Some rest
  by_test true e f h = let p = ends_is c d e in absurd (h cs (ap (λ x. x ∷ d ∷ cs) p.0 ∙ ap (λ x. 42 ∷ x ∷ cs) p.1))
  by_test false e f h = f

pub closes_sound : (bytes rest : List ℕ) → closes_at bytes ≡ Some rest → Closes bytes rest
unfolding closes_at
closes_sound [] rest e = absurd cc
closes_sound (c ∷ []) rest e = absurd cc
closes_sound (c ∷ d ∷ cs) rest e = by_test ((c == 42) && (d == 41)) refl e (closes_sound (d ∷ cs) rest) where
  by_test : (b : Bool) → (c == 42) && (d == 41) ≡ b → cond b (Some cs) (closes_at (d ∷ cs)) ≡ Some rest → (closes_at (d ∷ cs) ≡ Some rest → Closes (d ∷ cs) rest) → Closes (c ∷ d ∷ cs) rest
  by_test true f g again =
      let p = ends_is c d f in
      let q : cs ≡ rest = cc in
      subst (λ r. Closes (c ∷ d ∷ cs) r) q (subst (λ x. Closes (x ∷ d ∷ cs) cs) (sym p.0) (subst (λ x. Closes (42 ∷ x ∷ cs) cs) (sym p.1) closed))
  by_test false f g again = inside (λ ds h. let t = ap (starts 42 41) h in absurd cc) (again g)

pub gap_sound : (bytes rest : List ℕ) → gap_at bytes ≡ past rest → IsGap bytes rest
unfolding gap_at
gap_sound [] rest e = absurd cc
gap_sound (c ∷ []) rest e =
    elim (chosen (is_layout c) (past []) nothing (past rest) e) [
      | inl p ↦ subst (λ r. IsGap (c ∷ []) r) (let q : [] ≡ rest = cc in q) (layout p.0)
      | inr p ↦ absurd cc
    ]
gap_sound (c ∷ d ∷ cs) rest e =
    elim (chosen (is_layout c) (past (d ∷ cs)) (cond ((c == 40) && (d == 42)) (closed_or (closes_at cs)) nothing) (past rest) e) [
      | inl p ↦ subst (λ r. IsGap (c ∷ d ∷ cs) r) (let q : d ∷ cs ≡ rest = cc in q) (layout p.0)
      | inr p ↦ elim (chosen ((c == 40) && (d == 42)) (closed_or (closes_at cs)) nothing (past rest) p.1) [
        | inl q ↦ in_comment (closes_at cs) refl q.0 q.1
        | inr q ↦ absurd cc
      ]
    ] where
      in_comment : (o : Option (List ℕ)) → closes_at cs ≡ o → (c == 40) && (d == 42) ≡ true → closed_or o ≡ past rest → IsGap (c ∷ d ∷ cs) rest
      in_comment None f h g = absurd cc
      in_comment (Some r) f h g =
          let p = both_true (c == 40) (d == 42) h in
          let q : r ≡ rest = cc in
          let found = subst (λ x. IsGap (40 ∷ 42 ∷ cs) x) q (comment (closes_sound cs r f)) in
          subst (λ x. IsGap (x ∷ d ∷ cs) rest) (sym (eqb-true c 40 p.0)) (subst (λ x. IsGap (40 ∷ x ∷ cs) rest) (sym (eqb-true d 42 p.1)) found)

pub gap_found : {bytes rest : List ℕ} → IsGap bytes rest → gap_at bytes ≡ past rest
unfolding gap_at
gap_found (layout {c = c} {rest = rest} h) = ap (λ b. cond b (past rest) (comment_at (c ∷ rest))) h
gap_found (comment {cs = cs} t) = ap closed_or (closes_found t)

-- where no gap is seen, no comment begins
pub gap_none : (bytes : List ℕ) → gap_at bytes ≡ nothing → OpensNone bytes
unfolding gap_at
gap_none bytes e cs h = no_gap (closes_at cs) (sym (ap gap_at h) ∙ e) where
  no_gap : (o : Option (List ℕ)) → closed_or o ≡ nothing → ⊥
  no_gap None f = absurd cc
  no_gap (Some r) f = absurd cc

-- one more layout character is passed
pub layout_more : {bytes : List ℕ} (rest : List ℕ) → 1 ≤ length rest → is_layout (get_or rest 0 0) ≡ true → Gaps bytes rest → Gaps bytes (take (length rest - 1) (drop 1 rest))
layout_more [] l h g = absurd (omega arith)
layout_more {bytes = bytes} (c ∷ cs) l h g =
    let n : length (c ∷ cs) - 1 ≡ length cs = omega arith in
    subst (λ xs. Gaps bytes xs) (sym (ap (λ k. take k cs) n ∙ take-length cs)) (one_more g (layout h))

closes_shorter : {bytes rest : List ℕ} → Closes bytes rest → length rest < length bytes
closes_shorter closed = omega arith
closes_shorter (inside h t) = let a = closes_shorter t in omega arith

pub gap_shorter : {bytes rest : List ℕ} → IsGap bytes rest → length rest < length bytes
gap_shorter (layout h) = omega arith
gap_shorter (comment t) = let a = closes_shorter t in omega arith

-- ---- tokens

whole_long : {base n : ℕ} {cs : List ℕ} → IsWhole base cs n → 0 < length cs
whole_long (whole h t) = omega arith

pub number_long : {n : ℕ} {cs : List ℕ} → IsNumber cs n → 0 < length cs
number_long (decimal w) = whole_long w
number_long (based {front = front} {cs = cs} b w) = let a = whole_long w in let d = length-append front cs in omega arith

word_long : {cs : List ℕ} → IsWord cs → 0 < length cs
word_long (word h p) = omega arith

pub lexeme_long : {lexeme : List ℕ} {k : Kind} → IsLexeme lexeme k → 0 < length lexeme
lexeme_long (a_word w e) = word_long w
lexeme_long (a_name w n) = word_long w
lexeme_long (a_number n) = number_long n
lexeme_long (a_typed k cs sign ds e f h s n) = let d = length-append cs (35 ∷ (sign ++ ds)) in omega arith
lexeme_long (a_duration cs sign ds h s n) = let d = length-append cs (35 ∷ (sign ++ ds)) in omega arith
lexeme_long (a_sign e) = omega arith

pub scan_shorter : (bytes rest : List ℕ) (k : Kind) → scan bytes ≡ Some (k, rest) → length rest < length bytes
scan_shorter bytes rest k e =
    let r : ReadsKind bytes (Some (k, rest)) = subst (λ q. ReadsKind bytes q) e (scan_sound bytes) in
    let a = lexeme_long r.1 in
    let b = ap length r.2 in
    let d = length-append r.0 rest in
    omega arith

pub passes_shorter : (total : ℕ) (bytes rest : List ℕ) (before after : List Token) → Passes total bytes rest before after (gap_at bytes) → length rest < length bytes
passes_shorter total bytes rest before after h = by_gap (gap_at bytes) refl h where
  by_gap : (q : Between) → gap_at bytes ≡ q → Passes total bytes rest before after q → length rest < length bytes
  by_gap (past left) e p = let a = gap_shorter (gap_sound bytes left e) in let b = ap length p.0 in omega arith
  by_gap unclosed e p = absurd p
  by_gap nothing e p = scan_shorter bytes rest p.0 p.1
