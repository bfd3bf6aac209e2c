-- Tokens of certain kinds, wherever they stand.
use Rattle.std.proofs.Common.{ℕ, List, [], ◌∷◌, ◌++◌}
use Rattle.fb_model.specs.Tokens.{Kind, Token, token}
use Rattle.fb_text_laws.proofs.Lexemes.{Spelled}

-- tokens of these kinds stand before a rest
pub data Placed (rest : List Token) : List Kind → List Token → Type 0 where
  all_placed : Placed rest [] rest
  one_placed : {k : Kind} {s e : ℕ} {ks : List Kind} {us : List Token} → Placed rest ks us → Placed rest (k ∷ ks) (token k s e ∷ us)

-- each of the kinds has a spelling
pub data AllSpelled : List Kind → Type 0 where
  all_spelled : AllSpelled []
  one_spelled : {k : Kind} {ks : List Kind} → Spelled k → AllSpelled ks → AllSpelled (k ∷ ks)

pub both_spelled : {ks ls : List Kind} → AllSpelled ks → AllSpelled ls → AllSpelled (ks ++ ls)
both_spelled all_spelled t = t
both_spelled (one_spelled s r) t = one_spelled s (both_spelled r t)

-- tokens of kinds and of others behind them
pub parts : (ks ls : List Kind) (rest us : List Token) → Placed rest (ks ++ ls) us → (mid : List Token) × Placed mid ks us × Placed rest ls mid
parts [] ls rest us p = (us, all_placed, p)
parts (k ∷ ks) ls rest us (one_placed {us = vs} p) = let q = parts ks ls rest vs p in (q.0, one_placed q.1, q.2)
