-- What the answers about algorithms say.
use Rattle.std.specs.Prelude.{ℕ, List, [], Vec, Result}
use Rattle.std.specs.Global.{Global}
use Rattle.fb_faults.specs.declared.text.TextFault.{TextFault}
use Rattle.fb_model.specs.Tokens.{Token}
use Rattle.fb_model.specs.StructuredText.{Statements}
use Rattle.fb_model.specs.StructuredTextGrammar.{IsAlgorithm, most_nested, most_nested_statements}
use Rattle.fb_read.specs.Faults.{end_of}
use Rattle.fb_read.specs.Whole.{Tells, Finds, PlacesSyntax, PlacesTooDeep}
use Rattle.fb_tree.specs.declared.statement.Stmt.{Stmt}
use Rattle.fb_tree.specs.Algorithms.{body_of}
use Rattle.st_parse.specs.Reading.{whole_at}

-- what is answered for the tokens of an algorithm
abbrev pub Found : Type 0
Found = Result (Vec Stmt Global) TextFault

-- the statements of a list
abbrev pub listed : Vec Stmt Global → Statements
listed v = body_of v.items

-- the statements that are read of the tokens, or why and where there are none, unless memory ran out
abbrev pub Reads : List Token → Found → Type 0
Reads ts answer = Tells listed (whole_at ts) (end_of ts) ts answer

-- the statements are found, unless memory runs out
abbrev pub FindsAlgorithm : Found → Statements → Type 0
FindsAlgorithm answer x = Finds listed answer x

-- ---- where the answer points

-- all of the tokens are an algorithm, however deep it nests
abbrev pub IsSomeAlgorithm : List Token → Statements → Type 0
IsSomeAlgorithm ts x = (n : ℕ) × (k : ℕ) × IsAlgorithm n k ts x []

-- all of the tokens are an algorithm that nests no deeper than is read
abbrev pub IsWithinLimits : List Token → Statements → Type 0
IsWithinLimits ts x = IsAlgorithm most_nested most_nested_statements ts x []

-- where the answer is Syntax, it is at the end, or at a token with which no algorithm goes on
abbrev pub SyntaxAt : List Token → Found → Type 0
SyntaxAt ts answer = PlacesSyntax IsSomeAlgorithm (end_of ts) ts answer

-- where the answer is TooDeep, it is at a token with which no algorithm within the limits goes on, and one that nests deeper does
abbrev pub TooDeepAt : List Token → Found → Type 0
TooDeepAt ts answer = PlacesTooDeep IsWithinLimits IsSomeAlgorithm ts answer
