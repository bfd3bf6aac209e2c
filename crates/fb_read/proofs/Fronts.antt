-- The front and the end of a slice of tokens.
use Rattle.std.proofs.lemmas.Grind.{common_steps}
use Rattle.std.proofs.Math.ListN.{get_or}
use Rattle.std.specs.List.{slice_get}
use Rattle.fb_read.specs.Faults.{start_or, end_or}
use Rattle.std.proofs.Common.{◌≡◌, ℕ, zero, suc, ◌<◌, ◌-◌, take, drop, List, [], ◌∷◌, ◌++◌, length, Some, refl, ap, ◌∙◌, arith}
use Rattle.fb_lex.specs.declared.token.Token.{Token}
use Rattle.fb_lex.specs.Views.{tokens_of}
use Rattle.fb_model.specs.Tokens as book
use Rattle.fb_read.specs.Reading.{after}
use Rattle.fb_read.proofs.Steady.{Same, here, there}

-- what is left behind the first token
pub skipped : (ts : List Token) → tokens_of (take (length ts - 1) (drop 1 ts)) ≡ after (tokens_of ts)
skipped [] = refl
skipped (u ∷ ts) = ap tokens_of (let f : take (length (u ∷ ts) - 1) (drop 1 (u ∷ ts)) ≡ ts = grind (arith, common_steps) in f)

-- where the tokens begin that are left behind so many
pub started : (end : ℕ) (ts : List Token) (k : ℕ) (other : Token) → k < length ts → start_or end (drop k (tokens_of ts)) ≡ (get_or ts k other).start
started end [] k other lt = absurd (omega arith)
started end (t ∷ ts) zero other lt = refl
started end (t ∷ ts) (suc k) other lt = started end ts k other (omega arith)

-- where the last token ends
pub last_ends : (end : ℕ) (ts : List Token) (t : Token) → Some t ≡ slice_get ts (length ts - 1) → t.end ≡ end_or end (tokens_of ts)
last_ends end [] t e = absurd cc
last_ends end (u ∷ []) t e = let same : t ≡ u = cc in ap (λ x. x.end) same
last_ends end (u ∷ v ∷ ts) t e =
    let k : suc (suc (length ts)) - 1 ≡ suc (suc (length ts) - 1) = omega arith in
    last_ends u.end (v ∷ ts) t (e ∙ ap (slice_get (u ∷ v ∷ ts)) k)

-- what stands before the tokens that are left behind so many
pub front : (n : ℕ) (ts : List book.Token) → (p : List book.Token) × (ts ≡ p ++ drop n ts)
front zero ts = ([], refl)
front (suc n) [] = ([], refl)
front (suc n) (u ∷ ts) = let f = front n ts in (u ∷ f.0, ap (λ l. u ∷ l) f.1)

-- the same tokens in front of a token, and anything behind it
pub same_front : (p : List book.Token) {t : book.Token} {q q' : List book.Token} → Same t q q' (p ++ t ∷ q) (p ++ t ∷ q')
same_front [] = here
same_front (u ∷ p) = there (same_front p)
