-- The tokens of a text, reckoned: what a stated text spells is found by computing.
use Rattle.std.proofs.Common.{◌≡◌, ℕ, zero, suc, ◌-◌, ◌≤◌, Bool, true, false, cond, List, [], ◌∷◌, ◌++◌, length, Option, None, Some, refl, sym, ap, subst, ◌∙◌, arith, append_assoc}
use Rattle.std.proofs.lemmas.List.{append-nil}
use Rattle.fb_model.specs.Tokens.{Kind, Token, token}
use Rattle.fb_model.specs.Spelling.{Spells}
use Rattle.fb_lex.specs.Scanning.{scan, Between, past, unclosed, nothing, gap_at, is_fit}
use Rattle.fb_lex.proofs.Steps.{gap_sound, gap_shorter, scan_shorter}
use Rattle.fb_lex.proofs.Whole.{Reached, at_start, steps_on, spelled_whole}

abbrev put : Token → Option (List Token) → Option (List Token)
put t None = None
put t (Some ts) = Some (t ∷ ts)

-- the token that stands at the front of what is left of a text of so many characters, and those behind it
abbrev from : ℕ → List ℕ → (List ℕ → Option (List Token)) → Option (Kind × List ℕ) → Option (List Token)
from total bytes go None = None
from total bytes go (Some p) = cond (is_fit p.0) (put (token p.0 (total - length bytes) (total - length p.1)) (go p.1)) None

abbrev on : ℕ → List ℕ → (List ℕ → Option (List Token)) → Between → Option (List Token)
on total bytes go (past rest) = go rest
on total bytes go unclosed = None
on total bytes go nothing = from total bytes go (scan bytes)

-- the tokens of what is left, in at most so many steps
abbrev pub lexed : ℕ → ℕ → List ℕ → Option (List Token)
lexed zero total bytes = None
lexed (suc n) total [] = Some []
lexed (suc n) total (c ∷ cs) = on total (c ∷ cs) (λ rest. lexed n total rest) (gap_at (c ∷ cs))

none_some : {ts : List Token} → (let none : Option (List Token) = None in none) ≡ Some ts → ⊥
none_some e = cc

same_tokens : {ts us : List Token} → Some ts ≡ Some us → ts ≡ us
same_tokens e = cc

put_is : (t : Token) (o : Option (List Token)) (ts : List Token) → put t o ≡ Some ts → (us : List Token) × (o ≡ Some us) × (t ∷ us ≡ ts)
put_is t None ts e = absurd (none_some e)
put_is t (Some us) ts e = (us, refl, same_tokens e)

lexed_on : (n total : ℕ) (text bytes : List ℕ) (before ts : List Token) → length bytes ≤ total → Reached text (total - length bytes) bytes before → lexed n total bytes ≡ Some ts → Spells 0 text (before ++ ts)
lexed_on zero total text bytes before ts le r e = absurd (none_some e)
lexed_on (suc n) total text [] before ts le r e =
    subst (λ us. Spells 0 text us) (sym (append-nil before) ∙ ap (λ us. before ++ us) (same_tokens e)) (spelled_whole text [] _ before r refl)
lexed_on (suc n) total text (c ∷ cs) before ts le r e = by (gap_at (c ∷ cs)) refl e (lexed_on n total text) where
  by : (q : Between) → gap_at (c ∷ cs) ≡ q → on total (c ∷ cs) (λ rest. lexed n total rest) q ≡ Some ts
      → ((bytes : List ℕ) (before ts : List Token) → length bytes ≤ total → Reached text (total - length bytes) bytes before → lexed n total bytes ≡ Some ts → Spells 0 text (before ++ ts)) → Spells 0 text (before ++ ts)
  by (past rest) g h next =
      let short = gap_shorter (gap_sound (c ∷ cs) rest g) in
      next rest before ts (omega arith) (steps_on total text (c ∷ cs) rest before before le r (rw g (refl, refl))) h
  by unclosed g h next = absurd (none_some h)
  by nothing g h next = read (scan (c ∷ cs)) refl h where
    read : (o : Option (Kind × List ℕ)) → scan (c ∷ cs) ≡ o → from total (c ∷ cs) (λ rest. lexed n total rest) o ≡ Some ts → Spells 0 text (before ++ ts)
    read None s i = absurd (none_some i)
    read (Some p) s i = fits (is_fit p.0) refl i where
      fits : (b : Bool) → is_fit p.0 ≡ b → cond b (put (token p.0 (total - length (c ∷ cs)) (total - length p.1)) (lexed n total p.1)) None ≡ Some ts → Spells 0 text (before ++ ts)
      fits false f j = absurd (none_some j)
      fits true f j =
          let t = token p.0 (total - length (c ∷ cs)) (total - length p.1) in
          let short = scan_shorter (c ∷ cs) p.1 p.0 s in
          let q = put_is t (lexed n total p.1) ts j in
          let on : Reached text (total - length p.1) p.1 (before ++ t ∷ []) = steps_on total text (c ∷ cs) p.1 before (before ++ t ∷ []) le r (rw g (p.0, s, f, refl)) in
          subst (λ us. Spells 0 text us) (append_assoc before (t ∷ []) q.0 ∙ ap (λ us. before ++ us) q.2) (next p.1 (before ++ t ∷ []) q.0 (omega arith) on q.1)

-- what is reckoned is spelled
pub lexed_spells : (n : ℕ) (text : List ℕ) (ts : List Token) → lexed n (length text) text ≡ Some ts → Spells 0 text ts
lexed_spells n text ts e = lexed_on n (length text) text text [] ts (omega arith) (subst (λ k. Reached text k text []) (omega arith) (at_start text)) e
