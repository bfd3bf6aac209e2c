-- Reading expressions from left to right, production by production.
use Rattle.std.specs.Prelude.{ℕ, zero, suc, List, [], ◌∷◌, length, Bool, true, false, ◌==◌, Option, None, Some, is_some, Result, Ok, Err, if◌then◌else◌}
use Rattle.fb_words.specs.declared.mark.Mark.{Mark}
use Rattle.fb_words.specs.declared.mark.Mark.TheVariants as m
use Rattle.fb_words.specs.declared.operator.Operator.{Operator}
use Rattle.fb_words.specs.declared.operator.Operator.TheVariants as o
use Rattle.st_parse.specs.declared.operator.Role.{Role}
use Rattle.st_parse.specs.declared.operator.Role.TheVariants.{Infix, Opener, Other}
use Rattle.fb_model.specs.Tokens.{Token, token, mark}
use Rattle.fb_model.specs.Productions.{Word}
use Rattle.fb_model.specs.Trees.{Constant}
use Rattle.fb_model.specs.StructuredText.{Expression, literal, variable, element, call, negative, inverse, expressions, Link, grouped}
use Rattle.fb_model.specs.StructuredTextGrammar.{begins_number, levels, most_nested}
use Rattle.fb_read.specs.Reading.{Wrong, too_deep, stuck, Read, ◌>>=◌, next_is, after, expect, offset_at, name_at, begins_name, all_at, list_at, whole_of}
use Rattle.st_parse.specs.ConstantReading.{number_at, literal_at}

-- ---- operators

-- what a mark does behind an operand
abbrev pub role : Mark → Role
role m.Or = Infix 6 o.Or
role m.Xor = Infix 5 o.Xor
role m.And = Infix 4 o.And
role m.Ampersand = Infix 4 o.And
role m.Equal = Infix 3 o.Equal
role m.NotEqual = Infix 3 o.NotEqual
role m.Less = Infix 2 o.Less
role m.Greater = Infix 2 o.Greater
role m.LessEqual = Infix 2 o.LessEqual
role m.GreaterEqual = Infix 2 o.GreaterEqual
role m.Plus = Infix 1 o.Plus
role m.Minus = Infix 1 o.Minus
role m.Star = Infix 0 o.Times
role m.Slash = Infix 0 o.Over
role m.Mod = Infix 0 o.Modulo
role m.LParen = Opener
role m.LBracket = Opener
role k = Other

-- whether it goes on with an expression that ends before it
abbrev pub goes_on : Role → Bool
goes_on (Infix level operator) = true
goes_on Opener = true
goes_on Other = false

-- whether the first token goes on with an expression that ends before it
abbrev pub continues : List Token → Bool
continues [] = false
continues (token (mark k) s e ∷ ts) = goes_on (role k)
continues (token other s e ∷ ts) = false

-- the operator of this level, with its place
abbrev pub of_level : ℕ → ℕ → Role → Option (Operator × ℕ)
of_level level s (Infix l operator) = if l == level then Some (operator, s) else None
of_level level s Opener = None
of_level level s Other = None

-- the operator of this level that stands next, with its place
abbrev pub operator_at : ℕ → List Token → Option (Operator × ℕ)
operator_at level [] = None
operator_at level (token (mark k) s e ∷ ts) = of_level level s (role k)
operator_at level (token other s e ∷ ts) = None

-- ---- chains

-- whether an operator of this level stands next
abbrev pub begins_link : ℕ → List Token → Bool
begins_link level ts = is_some (operator_at level ts)

-- an operator that was seen, and its operand
abbrev pub link_step : Read Expression → Option (Operator × ℕ) → Read Link
link_step item None ts = stuck ts
link_step item (Some p) ts = item (after ts) >>= λ x. Ok ((p.0, p.1, x.0), x.1)

-- operator operand
unfoldable pub link_at : ℕ → Read Expression → Read Link
link_at level item ts = link_step item (operator_at level ts) ts

-- {operator operand}
abbrev pub links_at : ℕ → Read Expression → Read (List Link)
links_at level item = all_at (begins_link level) (link_at level item)

-- operand {operator operand}
unfoldable pub chain_at : ℕ → Read Expression → Read Expression
chain_at level item ts = do
  x ← item ts
  links ← links_at level item x.1
  Ok (grouped x.0 links.0, links.1)

-- an expression whose operators are below a level; at 0 it is an operand
unfoldable pub level_at : Read Expression → ℕ → Read Expression
level_at operand zero = operand
level_at operand (suc level) = chain_at level (level_at operand level)

-- what an operand becomes with the operators below a level that stand behind it
unfoldable pub chained_at : Read Expression → ℕ → Expression → Read Expression
chained_at operand zero x ts = Ok (x, ts)
chained_at operand (suc level) x ts = do
  y ← chained_at operand level x ts
  links ← links_at level (level_at operand level) y.1
  Ok (grouped y.0 links.0, links.1)

-- ---- operands

-- what stands behind the mark that opens one more nesting, where so many more are allowed
abbrev pub opened_at : Mark → ℕ → List Token → Result (List Token) Wrong
opened_at k zero ts = if next_is k ts then Err (too_deep (length ts)) else stuck ts
opened_at k (suc depth) ts = expect k ts

-- a literal as an expression
abbrev pub literally : Read Constant → Read Expression
literally read ts = read ts >>= λ c. Ok (literal c.0, c.1)

-- what stands behind a `-`, with its place
abbrev pub minus_step : Read Expression → ℕ → Read Expression
minus_step inner s ts = if begins_number ts then literally (number_at true) ts else (inner ts >>= λ x. Ok (negative s x.0, x.1))

-- '-' operand
unfoldable pub negative_at : ℕ → Read Expression → Read Expression
negative_at depth inner ts = do
  rest ← opened_at m.Minus depth ts
  minus_step inner (offset_at ts) rest

-- NOT operand
unfoldable pub inverse_at : ℕ → Read Expression → Read Expression
inverse_at depth inner ts = do
  rest ← opened_at m.Not depth ts
  x ← inner rest
  Ok (inverse (offset_at ts) x.0, x.1)

-- '(' expr ')'
unfoldable pub parentheses_at : ℕ → Read Expression → Read Expression
parentheses_at depth item ts = do
  rest ← opened_at m.LParen depth ts
  x ← item rest
  end ← expect m.RParen x.1
  Ok (x.0, end)

-- '[' expr ']' behind a name
unfoldable pub element_at : ℕ → Read Expression → Word → Read Expression
element_at depth item x ts = do
  rest ← opened_at m.LBracket depth ts
  i ← item rest
  end ← expect m.RBracket i.1
  Ok (element x (offset_at ts) i.0, end)

-- '(' expr {',' expr} ')' behind a name
unfoldable pub call_at : ℕ → Read Expression → Word → Read Expression
call_at depth item x ts = do
  rest ← opened_at m.LParen depth ts
  xs ← list_at m.Comma item rest
  end ← expect m.RParen xs.1
  Ok (call x (expressions xs.0), end)

-- what a name begins
abbrev pub named_step : ℕ → Read Expression → Word → Read Expression
named_step depth item x ts = if next_is m.LBracket ts then element_at depth item x ts else if next_is m.LParen ts then call_at depth item x ts else Ok (variable x, ts)

unfoldable pub named_at : ℕ → Read Expression → Read Expression
named_at depth item ts = do
  x ← name_at ts
  named_step depth item x.0 x.1

-- an operand that a mark or a literal begins
abbrev pub unnamed_at : ℕ → Read Expression → Read Expression → Read Expression
unnamed_at depth inner item ts =
    if next_is m.Minus ts then negative_at depth inner ts else if next_is m.Not ts then inverse_at depth inner ts else if next_is m.LParen ts then parentheses_at depth item ts else literally literal_at ts

-- an operand, where so many more nestings are allowed, and the operands inside one more are read so
unfoldable pub operand_of : ℕ → Read Expression → Read Expression
operand_of depth inner ts = if begins_name ts then named_at depth (level_at inner levels) ts else unnamed_at depth inner (level_at inner levels) ts

-- an operand inside fewer than so many brackets, calls and signs
unfoldable pub nested_at : ℕ → Read Expression
nested_at zero = stuck
nested_at (suc depth) = operand_of depth (nested_at depth)

-- an expression, with brackets, calls and signs nested at most so deep
unfoldable pub expression_at : ℕ → Read Expression
expression_at depth = level_at (nested_at (suc depth)) levels

-- ---- the whole

-- all of the tokens, within the limit
unfoldable pub whole_at : List Token → Result Expression Wrong
whole_at ts = whole_of (expression_at most_nested) ts
