-- What the parser's answers say.
use Rattle.std.specs.Prelude.{ℕ, List, [], Result}
use Rattle.fb_faults.specs.declared.text.TextFault.{TextFault}
use Rattle.fb_model.specs.Tokens.{Token}
use Rattle.fb_model.specs.StructuredText.{Expression}
use Rattle.fb_model.specs.StructuredTextGrammar.{IsExpression, most_nested}
use Rattle.fb_read.specs.Faults.{end_of}
use Rattle.fb_read.specs.Whole.{Tells, Finds, PlacesSyntax, PlacesTooDeep}
use Rattle.fb_tree.specs.declared.expression.Expr.{Expr}
use Rattle.fb_tree.specs.Algorithms.{expr_of}
use Rattle.st_parse.specs.ExpressionReading.{whole_at}

-- the tree that is read of the tokens, or why and where there is none, unless memory ran out
abbrev pub Reads : List Token → Result Expr TextFault → Type 0
Reads ts answer = Tells expr_of (whole_at ts) (end_of ts) ts answer

-- ---- what the answers say of the grammar

-- the expression is found, unless memory runs out
abbrev pub FindsExpression : Result Expr TextFault → Expression → Type 0
FindsExpression answer x = Finds expr_of answer x

-- all of the tokens are an expression, however deep it nests
abbrev pub IsSomeExpression : List Token → Expression → Type 0
IsSomeExpression ts x = (depth : ℕ) × IsExpression depth ts x []

-- all of the tokens are an expression that nests no deeper than is read
abbrev pub IsWithinLimit : List Token → Expression → Type 0
IsWithinLimit ts x = IsExpression most_nested ts x []

-- where the answer is Syntax, it is where the tokens end, or at a token that cannot stand there: no expression, however deep, begins with the tokens before it and with it
abbrev pub SyntaxAt : List Token → Result Expr TextFault → Type 0
SyntaxAt ts answer = PlacesSyntax IsSomeExpression (end_of ts) ts answer

-- where the answer is TooDeep, it is at a token that opens one nesting too many: no expression within the limit begins with the tokens before it and with it, and one that nests deeper does
abbrev pub DeepAt : List Token → Result Expr TextFault → Type 0
DeepAt ts answer = PlacesTooDeep IsWithinLimit IsSomeExpression ts answer
