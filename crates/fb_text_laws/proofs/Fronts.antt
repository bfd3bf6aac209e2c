-- Two texts that are the same up to some place.
use Rattle.std.proofs.Common.{◌≡◌, ◌⊎◌, ◌-◌, List, [], ◌∷◌, ◌++◌, take, drop, length, refl, ap, ◌∙◌, arith, inl, inr}
use Rattle.std.proofs.lemmas.List.{length-append}
use Rattle.std.proofs.Math.Seq.{take-append_seam, drop-append_seam}
use Rattle.fb_model.specs.Tokens.{Token}

-- the texts are the same up to a place, with what stands behind it in each
pub data Front (q q' : List Token) : List Token → List Token → Type 0 where
  here : Front q q' q q'
  there : {u : Token} {ts us : List Token} → Front q q' ts us → Front q q' (u ∷ ts) (u ∷ us)

-- a place behind a place
pub onward : {p p' q q' ts us : List Token} → Front p p' ts us → Front q q' p p' → Front q q' ts us
onward here g = g
onward (there f) g = there (onward f g)

-- what is the same
pub same_part : {q q' ts us : List Token} → Front q q' ts us → (p : List Token) × (ts ≡ p ++ q) × (us ≡ p ++ q')
same_part here = ([], refl, refl)
same_part (there {u = u} f) = let s = same_part f in (u ∷ s.0, ap (λ l. u ∷ l) s.1, ap (λ l. u ∷ l) s.2)

-- ---- lists that are parted

-- what stands before so many tokens, and these
pub cut : (p q : List Token) → (take (length (p ++ q) - length q) (p ++ q) ≡ p) × (drop (length (p ++ q) - length q) (p ++ q) ≡ q)
cut p q =
    let n : length (p ++ q) - length q ≡ length p = omega (arith, length-append p q) in
    (ap (λ n. take n (p ++ q)) n ∙ take-append_seam p q, ap (λ n. drop n (p ++ q)) n ∙ drop-append_seam p q)

-- Where tokens are parted before a token, and before another: at the same, or one of them stands among those before the other.
abbrev pub Compared : List Token → Token → List Token → Token → Type 0
Compared p t q u = ((p ≡ q) × (t ≡ u)) ⊎ ((m : List Token) × (q ≡ p ++ t ∷ m)) ⊎ ((m : List Token) × (p ≡ q ++ u ∷ m))

pub compare : (p q l r : List Token) (t u : Token) → p ++ t ∷ l ≡ q ++ u ∷ r → Compared p t q u
compare [] [] l r t u e = inl (refl, cc)
compare [] (v ∷ q) l r t u e = let same : v ≡ t = cc in inr (inl (q, ap (λ w. w ∷ q) same))
compare (v ∷ p) [] l r t u e = let same : v ≡ u = cc in inr (inr (p, ap (λ w. w ∷ p) same))
compare (v ∷ p) (w ∷ q) l r t u e =
    let head : v ≡ w = cc in
    let tail : p ++ t ∷ l ≡ q ++ u ∷ r = cc in
    elim (compare p q l r t u tail) [
      | inl s ↦ let both : v ∷ p ≡ w ∷ q = cc in inl (both, s.1)
      | inr (inl s) ↦ let more : w ∷ q ≡ (v ∷ p) ++ t ∷ s.0 = cc in inr (inl (s.0, more))
      | inr (inr s) ↦ let more : v ∷ p ≡ (w ∷ q) ++ u ∷ s.0 = cc in inr (inr (s.0, more))
    ]
