-- A text that is cut before one of its tokens, or at its end, and goes on with a space.
use Rattle.std.proofs.Common.{◌≡◌, ℕ, ◌+◌, ◌-◌, List, [], ◌∷◌, ◌++◌, length, refl, sym, ap, subst, ◌∙◌, arith}
use Rattle.std.proofs.lemmas.List.{append_assoc, length-append}
use Rattle.fb_model.specs.Tokens.{Kind, Token, token}
use Rattle.fb_model.specs.Spelling.{Closes, closed, inside, IsGap, layout, comment, Stands, Spells, end, gap, next}
use Rattle.fb_read.specs.Faults.{start_or}
use Rattle.fb_text_laws.proofs.Lexemes.{Spelled, second, lexemes, parted, opening, opening_plain}
use Rattle.fb_text_laws.proofs.Placed.{Placed, all_placed, one_placed, AllSpelled, all_spelled, one_spelled}

-- ---- layout and tokens before other characters

-- what closes a comment, before any characters
record Closing (cs rest : List ℕ) : Type 0 where
  first : ℕ
  others : List ℕ
  is : cs ≡ first ∷ (others ++ rest)
  moves : (more : List ℕ) → Closes (first ∷ (others ++ more)) more

closes_moves : {cs rest : List ℕ} → Closes cs rest → Closing cs rest
closes_moves closed = record { first = 42; others = 41 ∷ []; is = refl; moves = λ more. closed }
closes_moves {rest = rest} (inside {c = c} {cs = cs} apart t) =
    let r = closes_moves t in
    record {
      first = c;
      others = r.first ∷ r.others;
      is = ap (λ l. c ∷ l) r.is;
      moves = λ more. inside (λ ds e. apart (r.others ++ rest) (let a : c ≡ 42 = cc in let b : r.first ≡ 41 = cc in let d : cs ≡ r.first ∷ (r.others ++ rest) = r.is in cc)) (r.moves more);
    }

gap_moves : {bytes rest : List ℕ} → IsGap bytes rest → (g : List ℕ) × (bytes ≡ g ++ rest) × ((more : List ℕ) → IsGap (g ++ more) more)
gap_moves (layout {c = c} h) = (c ∷ [], refl, λ more. layout h)
gap_moves (comment t) = let r = closes_moves t in (40 ∷ 42 ∷ r.first ∷ r.others, ap (λ l. 40 ∷ 42 ∷ l) r.is, λ more. comment (r.moves more))

-- a token that stands before some characters stands before the first of these and a space
stands_moves : {bytes lexeme rest : List ℕ} {k : Kind} → Stands bytes lexeme rest k → (p left : List ℕ) → rest ≡ p ++ left → (m : List ℕ) → Stands (lexeme ++ (p ++ 32 ∷ m)) lexeme (p ++ 32 ∷ m) k
stands_moves {bytes = bytes} {lexeme = lexeme} {rest = rest} st p left e m =
    record {
      is = refl;
      lexeme_is = st.lexeme_is;
      longest = λ c more after j f h.
          let r = parted p (c ∷ more) m after (second lexeme (c ∷ more) (lexemes h)) f in
          st.longest c more (r.0 ++ left) j (e ∙ (ap (λ l. l ++ left) r.1 ∙ append_assoc (c ∷ more) r.0 left)) h;
      opens_none = λ cs f.
          let r = parted (lexeme ++ p) opening m cs opening_plain (append_assoc lexeme p (32 ∷ m) ∙ f) in
          st.opens_none (r.0 ++ left) (st.is ∙ (ap (λ l. lexeme ++ l) e ∙ (sym (append_assoc lexeme p left) ∙ (ap (λ l. l ++ left) r.1 ∙ append_assoc opening r.0 left))));
    }

-- a token that is spelled so stands before a space
spelled_stands : {k : Kind} (s : Spelled k) (m : List ℕ) → Stands (s.text ++ 32 ∷ m) s.text (32 ∷ m) k
spelled_stands s m =
    record {
      is = refl;
      lexeme_is = s.lexeme;
      longest = λ c more after j f h. (second s.text (c ∷ more) (lexemes h)).0 (let g : 32 ≡ c = cc in sym g);
      opens_none = λ cs f. let r = parted s.text opening m cs opening_plain f in s.no_comment r.0 r.1;
    }

-- ---- texts

-- The text goes on with a space behind the tokens before one of its own, or at its end.
pub record Cut (at : ℕ) (bytes : List ℕ) (before rest : List Token) : Type 0 where
  pub front : List ℕ
  pub left : List ℕ
  pub is : bytes ≡ front ++ left
  pub place : start_or (at + length bytes) rest ≡ at + length front
  pub goes_on : (m : List ℕ) (others : List Token) → Spells (at + length front + 1) m others → Spells at (front ++ 32 ∷ m) (before ++ others)

-- from a place where nothing was read
spaced : (at : ℕ) (m : List ℕ) (others : List Token) → Spells (at + 0 + 1) m others → Spells at (32 ∷ m) others
spaced at m others h =
    let n : at + 0 + 1 ≡ at + (length (32 ∷ m) - length m) = omega arith in
    gap (layout refl) (subst (λ n. Spells n m others) n h)

pub cut_spelled : {at : ℕ} {bytes : List ℕ} {ts : List Token} → Spells at bytes ts → (before rest : List Token) → ts ≡ before ++ rest → Cut at bytes before rest
cut_spelled {at = at} end [] rest e = record { front = []; left = []; is = refl; place = ap (λ l. start_or (at + 0) l) (sym e); goes_on = spaced at }
cut_spelled end (t ∷ before) rest e = absurd cc
cut_spelled {at = at} {bytes = bytes} (gap {rest = more} g s) before rest e =
    let a = gap_moves g in
    let r = cut_spelled s before rest e in
    let long : length bytes ≡ length a.0 + length more = ap length a.1 ∙ length-append a.0 more in
    let sum : length (a.0 ++ r.front) ≡ length a.0 + length r.front = length-append a.0 r.front in
    let from : at + length bytes ≡ at + (length bytes - length more) + length more = omega arith in
    let to : at + (length bytes - length more) + length r.front ≡ at + length (a.0 ++ r.front) = omega arith in
    record {
      front = a.0 ++ r.front;
      left = r.left;
      is = a.1 ∙ (ap (λ l. a.0 ++ l) r.is ∙ sym (append_assoc a.0 r.front r.left));
      place = ap (λ n. start_or n rest) from ∙ (r.place ∙ to);
      goes_on = λ m others h.
          let new = r.front ++ 32 ∷ m in
          let sum' : length (a.0 ++ new) ≡ length a.0 + length new = length-append a.0 new in
          let here : at + (length bytes - length more) ≡ at + (length (a.0 ++ new) - length new) = omega arith in
          let there : at + length (a.0 ++ r.front) + 1 ≡ at + (length bytes - length more) + length r.front + 1 = omega arith in
          let inner = r.goes_on m others (subst (λ n. Spells n m others) there h) in
          subst (λ l. Spells at l (before ++ others)) (sym (append_assoc a.0 r.front (32 ∷ m))) (gap (a.2 new) (subst (λ n. Spells n new (before ++ others)) here inner));
    }
cut_spelled {at = at} {bytes = bytes} (next {lexeme = lexeme} {rest = more} {k = k} {ts = ts} st f s) [] rest e =
    record { front = []; left = bytes; is = refl; place = ap (λ l. start_or (at + length bytes) l) (sym e) ∙ (let n : at ≡ at + 0 = omega arith in n); goes_on = spaced at }
cut_spelled {at = at} {bytes = bytes} (next {lexeme = lexeme} {rest = more} {k = k} {ts = ts} st f s) (t ∷ before) rest e =
    let head : token k at (at + length lexeme) ≡ t = cc in
    let tail : ts ≡ before ++ rest = cc in
    let r = cut_spelled s before rest tail in
    let long : length bytes ≡ length lexeme + length more = ap length st.is ∙ length-append lexeme more in
    let sum : length (lexeme ++ r.front) ≡ length lexeme + length r.front = length-append lexeme r.front in
    let from : at + length bytes ≡ at + length lexeme + length more = omega arith in
    let to : at + length lexeme + length r.front ≡ at + length (lexeme ++ r.front) = omega arith in
    record {
      front = lexeme ++ r.front;
      left = r.left;
      is = st.is ∙ (ap (λ l. lexeme ++ l) r.is ∙ sym (append_assoc lexeme r.front r.left));
      place = ap (λ n. start_or n rest) from ∙ (r.place ∙ to);
      goes_on = λ m others h.
          let there : at + length (lexeme ++ r.front) + 1 ≡ at + length lexeme + length r.front + 1 = omega arith in
          let inner = r.goes_on m others (subst (λ n. Spells n m others) there h) in
          let whole : Spells at (lexeme ++ (r.front ++ 32 ∷ m)) (token k at (at + length lexeme) ∷ (before ++ others)) = next (stands_moves st r.front r.left r.is m) f inner in
          subst (λ u. Spells at (lexeme ++ r.front ++ 32 ∷ m) (u ∷ (before ++ others))) head (subst (λ l. Spells at l (token k at (at + length lexeme) ∷ (before ++ others))) (sym (append_assoc lexeme r.front (32 ∷ m))) whole);
    }

-- ---- kinds that are written

-- Some characters spell tokens of these kinds.
pub record Written (at : ℕ) (ks : List Kind) : Type 0 where
  pub bytes : List ℕ
  pub tokens : List Token
  pub spells : Spells at bytes tokens
  pub placed : Placed [] ks tokens

pub write : (at : ℕ) (ks : List Kind) → AllSpelled ks → Written at ks
write at [] all_spelled = record { bytes = []; tokens = []; spells = end; placed = all_placed }
write at (k ∷ ks) (one_spelled s others) =
    let w = write (at + length s.text + 1) ks others in
    let n : at + length s.text + 1 ≡ at + length s.text + (length (32 ∷ w.bytes) - length w.bytes) = omega arith in
    record {
      bytes = s.text ++ 32 ∷ w.bytes;
      tokens = token k at (at + length s.text) ∷ w.tokens;
      spells = next (spelled_stands s w.bytes) s.fits (gap (layout refl) (subst (λ n. Spells n w.bytes w.tokens) n w.spells));
      placed = one_placed w.placed;
    }
