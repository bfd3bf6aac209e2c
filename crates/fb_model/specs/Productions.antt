-- What productions of a grammar are made of. In each relation the first list is the tokens, and the second is what is left of them.
-- The notation of IEC 61131-3 edition 3, annex A: sequence, option, repetition.
use Rattle.std.specs.Prelude.{ℕ, List, [], ◌∷◌}
use Rattle.fb_words.specs.declared.mark.Mark.{Mark}
use Rattle.fb_model.specs.Tokens.{Token, token, name, mark}

abbrev pub Gram : Type 0 → Type 1
Gram A = List Token → A → List Token → Type 0

-- a name and where it stands
pub record Word : Type 0 where
  pub text : List ℕ
  pub at : ℕ

pub data IsName : List Token → Word → List Token → Type 0 where
  a_name : {text : List ℕ} {s e : ℕ} {ts : List Token} → IsName (token (name text) s e ∷ ts) (record { text = text; at = s }) ts

-- {item}, and what follows
pub data IsMany {A : Type 0} (G : Gram A) : List Token → List A → List Token → Type 0 where
  none : {ts : List Token} → IsMany G ts [] ts
  more : {ts mid rest : List Token} {x : A} {xs : List A} → G ts x mid → IsMany G mid xs rest → IsMany G ts (x ∷ xs) rest

-- item {separator item}
pub data IsSeparated {A : Type 0} (separator : Mark) (G : Gram A) : List Token → List A → List Token → Type 0 where
  last : {ts rest : List Token} {x : A} → G ts x rest → IsSeparated separator G ts (x ∷ []) rest
  before : {ts mid rest : List Token} {s e : ℕ} {x : A} {xs : List A} → G ts x (token (mark separator) s e ∷ mid) → IsSeparated separator G mid xs rest → IsSeparated separator G ts (x ∷ xs) rest

-- [opening {item} closing]
pub data IsSection {A : Type 0} (opening closing : Mark) (G : Gram A) : List Token → List A → List Token → Type 0 where
  absent : {ts : List Token} → IsSection opening closing G ts [] ts
  present : {ts rest : List Token} {s e s' e' : ℕ} {xs : List A} → IsMany G ts xs (token (mark closing) s' e' ∷ rest) → IsSection opening closing G (token (mark opening) s e ∷ ts) xs rest
