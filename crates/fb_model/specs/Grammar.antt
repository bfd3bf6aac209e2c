-- The grammar of texts, one case a production. IEC 61499-1 edition 2, annex B (textual syntax), this project's profile.
use Rattle.std.specs.Prelude.{ℕ, List, [], ◌∷◌, Bool, true, false, None, Some}
use Rattle.fb_words.specs.declared.mark.Mark.TheVariants as m
use Rattle.fb_words.specs.declared.elem_type.ElemType.{ElemType}
use Rattle.fb_model.specs.Tokens.{Token, token, number, typed, duration, mark}
use Rattle.fb_model.specs.Productions.{Word, IsName, IsMany, IsSeparated}
use Rattle.fb_model.specs.Trees.{Whole, Typed, Duration, Truth, Constant, ActionTree, StateTree, ParameterTree, PortTree, ConnectionTree}

-- const = '-' untyped number | literal
pub data IsConstant : List Token → Constant → List Token → Type 0 where
  negative : {n s e s' e' : ℕ} {ts : List Token} → IsConstant (token (mark m.Minus) s e ∷ token (number n) s' e' ∷ ts) (record { value = Whole true n; at = s' }) ts
  plain : {n s e : ℕ} {ts : List Token} → IsConstant (token (number n) s e ∷ ts) (record { value = Whole false n; at = s }) ts
  with_type : {t : ElemType} {b : Bool} {n s e : ℕ} {ts : List Token} → IsConstant (token (typed t b n) s e ∷ ts) (record { value = Typed t b n; at = s }) ts
  time : {b : Bool} {n s e : ℕ} {ts : List Token} → IsConstant (token (duration b n) s e ∷ ts) (record { value = Duration b n; at = s }) ts
  yes : {s e : ℕ} {ts : List Token} → IsConstant (token (mark m.True) s e ∷ ts) (record { value = Truth true; at = s }) ts
  no : {s e : ℕ} {ts : List Token} → IsConstant (token (mark m.False) s e ∷ ts) (record { value = Truth false; at = s }) ts

-- action = name ['->' name] | '->' name
pub data IsAction : List Token → ActionTree → List Token → Type 0 where
  runs : {ts rest : List Token} {x : Word} → IsName ts x rest → IsAction ts (record { algorithm = Some x; output = None }) rest
  runs_and_emits : {s e : ℕ} {ts mid rest : List Token} {x y : Word} → IsName ts x (token (mark m.Arrow) s e ∷ mid) → IsName mid y rest → IsAction ts (record { algorithm = Some x; output = Some y }) rest
  emits : {s e : ℕ} {ts rest : List Token} {y : Word} → IsName ts y rest → IsAction (token (mark m.Arrow) s e ∷ ts) (record { algorithm = None; output = Some y }) rest

-- state = name [':' action {',' action}] ';'
pub data IsState : List Token → StateTree → List Token → Type 0 where
  bare : {s e : ℕ} {ts rest : List Token} {x : Word} → IsName ts x (token (mark m.Semicolon) s e ∷ rest) → IsState ts (record { name = x; actions = [] }) rest
  acting : {s e s' e' : ℕ} {ts mid rest : List Token} {x : Word} {xs : List ActionTree}
      → IsName ts x (token (mark m.Colon) s e ∷ mid) → IsSeparated m.Comma IsAction mid xs (token (mark m.Semicolon) s' e' ∷ rest) → IsState ts (record { name = x; actions = xs }) rest

-- EC_STATES state {state} END_STATES
pub data IsStates : List Token → List StateTree → List Token → Type 0 where
  some_states : {s e s' e' : ℕ} {ts mid rest : List Token} {x : StateTree} {xs : List StateTree}
      → IsState ts x mid → IsMany IsState mid xs (token (mark m.EndStates) s' e' ∷ rest) → IsStates (token (mark m.EcStates) s e ∷ ts) (x ∷ xs) rest

-- name ':=' const
pub data IsParameter : List Token → ParameterTree → List Token → Type 0 where
  a_parameter : {s e : ℕ} {ts mid rest : List Token} {x : Word} {c : Constant} → IsName ts x (token (mark m.Assign) s e ∷ mid) → IsConstant mid c rest → IsParameter ts (record { name = x; at = s; value = c }) rest

-- port = name ['.' name]
pub data IsPort : List Token → PortTree → List Token → Type 0 where
  own : {ts rest : List Token} {x : Word} → IsName ts x rest → IsPort ts (record { first = x; second = None }) rest
  inner : {s e : ℕ} {ts mid rest : List Token} {x y : Word} → IsName ts x (token (mark m.Dot) s e ∷ mid) → IsName mid y rest → IsPort ts (record { first = x; second = Some y }) rest

-- port TO port ';'
pub data IsConnection : List Token → ConnectionTree → List Token → Type 0 where
  a_connection : {s e s' e' : ℕ} {ts mid rest : List Token} {p q : PortTree}
      → IsPort ts p (token (mark m.To) s e ∷ mid) → IsPort mid q (token (mark m.Semicolon) s' e' ∷ rest) → IsConnection ts (record { source = p; at = s; target = q }) rest
