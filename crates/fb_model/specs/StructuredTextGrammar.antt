-- The grammar of Structured Text, one case a production.
-- IEC 61131-3 edition 3, 7.3 (Structured Text) and annex A, this project's profile.
use Rattle.std.specs.Prelude.{◌≡◌, ℕ, zero, suc, ◌-◌, List, [], ◌∷◌, length, take, Bool, true, false, Option, None, Some}
use Rattle.fb_words.specs.declared.mark.Mark.{Mark}
use Rattle.fb_words.specs.declared.mark.Mark.TheVariants as m
use Rattle.fb_words.specs.declared.elem_type.ElemType.{ElemType}
use Rattle.fb_words.specs.declared.operator.Operator.{Operator}
use Rattle.fb_words.specs.declared.operator.Operator.TheVariants as o
use Rattle.fb_model.specs.Tokens.{Token, token, number, typed, duration, mark}
use Rattle.fb_model.specs.Productions.{Gram, Word, IsName, IsMany, IsSeparated}
use Rattle.fb_model.specs.Trees.{Constant, Whole, Typed, Duration, Truth}
use Rattle.fb_model.specs.StructuredText.{Expression, literal, variable, element, call, negative, inverse, expressions, Link, grouped, Label, Bound, Statement, assign, assign_element, branch, select, repeat, Statements, no_statement, statement, Branch, branches, Arm, arms}

-- ---- operators

-- the operators of each level, from the level that binds most
pub data IsOperator : ℕ → Mark → Operator → Type 0 where
  times : IsOperator 0 m.Star o.Times
  over : IsOperator 0 m.Slash o.Over
  modulo : IsOperator 0 m.Mod o.Modulo
  plus : IsOperator 1 m.Plus o.Plus
  minus : IsOperator 1 m.Minus o.Minus
  less : IsOperator 2 m.Less o.Less
  greater : IsOperator 2 m.Greater o.Greater
  less_equal : IsOperator 2 m.LessEqual o.LessEqual
  greater_equal : IsOperator 2 m.GreaterEqual o.GreaterEqual
  equal : IsOperator 3 m.Equal o.Equal
  not_equal : IsOperator 3 m.NotEqual o.NotEqual
  and_word : IsOperator 4 m.And o.And
  and_sign : IsOperator 4 m.Ampersand o.And
  xor_word : IsOperator 5 m.Xor o.Xor
  or_word : IsOperator 6 m.Or o.Or

abbrev pub levels : ℕ
levels = 7

-- operator operand
pub data IsLink (level : ℕ) (IsItem : Gram Expression) : List Token → Link → List Token → Type 0 where
  a_link : {k : Mark} {s e : ℕ} {ts rest : List Token} {o : Operator} {x : Expression} → IsOperator level k o → IsItem ts x rest → IsLink level IsItem (token (mark k) s e ∷ ts) (o, s, x) rest

-- operand {operator operand}
pub data IsChain (level : ℕ) (IsItem : Gram Expression) : List Token → Expression → List Token → Type 0 where
  a_chain : {ts mid rest : List Token} {x : Expression} {links : List Link}
      → IsItem ts x mid → IsMany (IsLink level IsItem) mid links rest → IsChain level IsItem ts (grouped x links) rest

-- an expression whose operators are below a level; at 0 it is an operand
abbrev pub IsLevel : Gram Expression → ℕ → Gram Expression
IsLevel IsOne zero = IsOne
IsLevel IsOne (suc level) = IsChain level (IsLevel IsOne level)

-- ---- operands

-- a literal is one token
pub data IsLiteral : Token → Constant → Type 0 where
  plain : {n s e : ℕ} → IsLiteral (token (number n) s e) (record { value = Whole false n; at = s })
  with_type : {t : ElemType} {b : Bool} {n s e : ℕ} → IsLiteral (token (typed t b n) s e) (record { value = Typed t b n; at = s })
  time : {b : Bool} {n s e : ℕ} → IsLiteral (token (duration b n) s e) (record { value = Duration b n; at = s })
  yes : {s e : ℕ} → IsLiteral (token (mark m.True) s e) (record { value = Truth true; at = s })
  no : {s e : ℕ} → IsLiteral (token (mark m.False) s e) (record { value = Truth false; at = s })

-- whether the next token is a number without a type
abbrev pub begins_number : List Token → Bool
begins_number [] = false
begins_number (token (number n) s e ∷ ts) = true
begins_number (token other s e ∷ ts) = false

-- an operand, where IsInner are the operands inside one more pair of brackets, one more call or one more sign
pub data IsOperand (IsInner : Gram Expression) : List Token → Expression → List Token → Type 0 where
  a_literal : {t : Token} {ts : List Token} {c : Constant} → IsLiteral t c → IsOperand IsInner (t ∷ ts) (literal c) ts
  a_variable : {ts rest : List Token} {x : Word} → IsName ts x rest → IsOperand IsInner ts (variable x) rest
  an_element : {s e s' e' : ℕ} {ts mid rest : List Token} {x : Word} {i : Expression}
      → IsName ts x (token (mark m.LBracket) s e ∷ mid) → IsLevel IsInner levels mid i (token (mark m.RBracket) s' e' ∷ rest) → IsOperand IsInner ts (element x s i) rest
  a_call : {s e s' e' : ℕ} {ts mid rest : List Token} {x : Word} {xs : List Expression}
      → IsName ts x (token (mark m.LParen) s e ∷ mid) → IsSeparated m.Comma (IsLevel IsInner levels) mid xs (token (mark m.RParen) s' e' ∷ rest) → IsOperand IsInner ts (call x (expressions xs)) rest
  in_parentheses : {s e s' e' : ℕ} {ts rest : List Token} {x : Expression} → IsLevel IsInner levels ts x (token (mark m.RParen) s' e' ∷ rest) → IsOperand IsInner (token (mark m.LParen) s e ∷ ts) x rest
  -- a `-` directly before a number without a type is the number's sign
  a_negative : {n s e s' e' : ℕ} {ts : List Token} → IsInner (token (number n) s' e' ∷ ts) (literal (record { value = Whole false n; at = s' })) ts
      → IsOperand IsInner (token (mark m.Minus) s e ∷ token (number n) s' e' ∷ ts) (literal (record { value = Whole true n; at = s' })) ts
  a_minus : {s e : ℕ} {ts rest : List Token} {x : Expression} → begins_number ts ≡ false → IsInner ts x rest → IsOperand IsInner (token (mark m.Minus) s e ∷ ts) (negative s x) rest
  a_not : {s e : ℕ} {ts rest : List Token} {x : Expression} → IsInner ts x rest → IsOperand IsInner (token (mark m.Not) s e ∷ ts) (inverse s x) rest

-- an operand inside fewer than so many brackets, calls and signs
abbrev pub IsNested : ℕ → Gram Expression
IsNested zero = λ ts x rest. ⊥
IsNested (suc depth) = IsOperand (IsNested depth)

-- expr, with brackets, calls and signs nested at most so deep
abbrev pub IsExpression : ℕ → Gram Expression
IsExpression depth = IsLevel (IsNested (suc depth)) levels

-- ---- statements

-- int = ['-'] untyped number
pub data IsInteger : List Token → Constant → List Token → Type 0 where
  unsigned : {n s e : ℕ} {ts : List Token} → IsInteger (token (number n) s e ∷ ts) (record { value = Whole false n; at = s }) ts
  signed : {n s e s' e' : ℕ} {ts : List Token} → IsInteger (token (mark m.Minus) s e ∷ token (number n) s' e' ∷ ts) (record { value = Whole true n; at = s' }) ts

-- label = int ['..' int]
pub data IsLabel : List Token → Label → List Token → Type 0 where
  one : {ts rest : List Token} {c : Constant} → IsInteger ts c rest → IsLabel ts (record { low = c; high = None }) rest
  from_to : {s e : ℕ} {ts mid rest : List Token} {c d : Constant} → IsInteger ts c (token (mark m.DotDot) s e ∷ mid) → IsInteger mid d rest → IsLabel ts (record { low = c; high = Some d }) rest

-- [BY int]
pub data IsStep : List Token → Option Constant → List Token → Type 0 where
  no_step : {ts : List Token} → IsStep ts None ts
  a_step : {s e : ℕ} {ts rest : List Token} {c : Constant} → IsInteger ts c rest → IsStep (token (mark m.By) s e ∷ ts) (Some c) rest

-- whether tokens are a number without a type, perhaps with a `-` directly before it
abbrev pub is_number : List Token → Bool
is_number (token (number n) s e ∷ []) = true
is_number (token (mark m.Minus) s e ∷ token (number n) s' e' ∷ []) = true
is_number other = false

-- the first or the last value of a FOR is any expression. It is plain where all of its own tokens, so no parentheses, are a number without a type
pub data IsBound (E : Gram Expression) : List Token → Bound → List Token → Type 0 where
  a_bound : {ts rest : List Token} {x : Expression} → E ts x rest → IsBound E ts (record { value = x; plain = is_number (take (length ts - length rest) ts) }) rest

-- list = {[statement] ';'}. Lone semicolons are no statements
pub data IsList (IsOne : Gram Statement) : List Token → Statements → List Token → Type 0 where
  end : {ts : List Token} → IsList IsOne ts no_statement ts
  lone : {s e : ℕ} {ts rest : List Token} {xs : Statements} → IsList IsOne ts xs rest → IsList IsOne (token (mark m.Semicolon) s e ∷ ts) xs rest
  next : {s e : ℕ} {ts mid rest : List Token} {x : Statement} {xs : Statements} → IsOne ts x (token (mark m.Semicolon) s e ∷ mid) → IsList IsOne mid xs rest → IsList IsOne ts (statement x xs) rest

-- what statements are made of: E are the expressions, and IsInner the lists inside one more IF, CASE or FOR
module _ (E : Gram Expression) (IsInner : Gram Statements) where
  -- (IF | ELSIF) expr THEN list
  pub data IsBranch (opening : Mark) : List Token → Branch → List Token → Type 0 where
    a_condition : {s e s' e' : ℕ} {ts mid rest : List Token} {x : Expression} {xs : Statements}
        → E ts x (token (mark m.Then) s' e' ∷ mid) → IsInner mid xs rest → IsBranch opening (token (mark opening) s e ∷ ts) (s, x, xs) rest

  -- label {',' label} ':' list
  pub data IsArm : List Token → Arm → List Token → Type 0 where
    a_labelled : {s e : ℕ} {ts mid rest : List Token} {ls : List Label} {xs : Statements}
        → IsSeparated m.Comma IsLabel ts ls (token (mark m.Colon) s e ∷ mid) → IsInner mid xs rest → IsArm ts (ls, xs) rest

  -- [ELSE list]
  pub data IsElse : List Token → Statements → List Token → Type 0 where
    absent : {ts : List Token} → IsElse ts no_statement ts
    present : {s e : ℕ} {ts rest : List Token} {xs : Statements} → IsInner ts xs rest → IsElse (token (mark m.Else) s e ∷ ts) xs rest

  pub data IsStatement : List Token → Statement → List Token → Type 0 where
    -- name ':=' expr
    an_assignment : {s e : ℕ} {ts mid rest : List Token} {x : Word} {v : Expression} → IsName ts x (token (mark m.Assign) s e ∷ mid) → E mid v rest → IsStatement ts (assign x s v) rest
    -- name '[' expr ']' ':=' expr
    to_element : {s e s' e' s'' e'' : ℕ} {ts mid on rest : List Token} {x : Word} {i v : Expression}
        → IsName ts x (token (mark m.LBracket) s e ∷ mid) → E mid i (token (mark m.RBracket) s' e' ∷ token (mark m.Assign) s'' e'' ∷ on) → E on v rest → IsStatement ts (assign_element x s i s'' v) rest
    -- IF expr THEN list {ELSIF expr THEN list} [ELSE list] END_IF
    an_if : {s e : ℕ} {ts mid on rest : List Token} {b : Branch} {bs : List Branch} {xs : Statements}
        → IsBranch m.If ts b mid → IsMany (IsBranch m.Elsif) mid bs on → IsElse on xs (token (mark m.EndIf) s e ∷ rest) → IsStatement ts (branch (branches (b ∷ bs)) xs) rest
    -- CASE expr OF arm {arm} [ELSE list] END_CASE
    a_case : {s e s' e' s'' e'' : ℕ} {ts ts₁ ts₂ ts₃ rest : List Token} {x : Expression} {a : Arm} {others : List Arm} {xs : Statements}
        → E ts x (token (mark m.Of) s' e' ∷ ts₁) → IsArm ts₁ a ts₂ → IsMany IsArm ts₂ others ts₃ → IsElse ts₃ xs (token (mark m.EndCase) s'' e'' ∷ rest)
        → IsStatement (token (mark m.Case) s e ∷ ts) (select s x (arms (a ∷ others)) xs) rest
    -- FOR name ':=' bound TO bound [BY int] DO list END_FOR
    a_for : {s e s₁ e₁ s₂ e₂ s₃ e₃ s₄ e₄ : ℕ} {ts ts₁ ts₂ ts₃ ts₄ rest : List Token} {x : Word} {a b : Bound} {c : Option Constant} {xs : Statements}
        → IsName ts x (token (mark m.Assign) s₁ e₁ ∷ ts₁) → IsBound E ts₁ a (token (mark m.To) s₂ e₂ ∷ ts₂) → IsBound E ts₂ b ts₃ → IsStep ts₃ c (token (mark m.Do) s₃ e₃ ∷ ts₄) → IsInner ts₄ xs (token (mark m.EndFor) s₄ e₄ ∷ rest)
        → IsStatement (token (mark m.For) s e ∷ ts) (repeat s x a b c xs) rest

-- list, with IF, CASE and FOR nested at most so deep
abbrev pub IsBody : Gram Expression → ℕ → Gram Statements
IsBody E zero = IsList (IsStatement E (λ ts xs rest. ⊥))
IsBody E (suc depth) = IsList (IsStatement E (IsBody E depth))

-- the statements of an algorithm, with expressions and statements nested at most so deep
abbrev pub IsAlgorithm : ℕ → ℕ → Gram Statements
IsAlgorithm expressions_depth statements_depth = IsBody (IsExpression expressions_depth) statements_depth

-- ---- limits

-- how deep the brackets, calls and signs of an expression may nest
abbrev pub most_nested : ℕ
most_nested = 64

-- how deep IF, CASE and FOR may nest
abbrev pub most_nested_statements : ℕ
most_nested_statements = 32
