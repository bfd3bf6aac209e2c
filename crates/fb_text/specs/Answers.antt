-- What the parser's answers say.
use Rattle.std.specs.Prelude.{ℕ, List, length, Result, Ok, Err}
use Rattle.fb_faults.specs.declared.text.TextFault.{TextFault}
use Rattle.fb_faults.specs.declared.text.TextFault.TheVariants as faults
use Rattle.fb_lex.specs.Lexing.{Refuses}
use Rattle.fb_model.specs.Tokens.{Token}
use Rattle.fb_model.specs.Spelling.{Spells}
use Rattle.fb_model.specs.Declarations.{SourceTree}
use Rattle.fb_model.specs.Sources.{IsNested, IsTree, IsNestedSource}
use Rattle.fb_read.specs.Whole.{Tells, Finds, PlacesSyntax, PlacesTooDeep}
use Rattle.fb_tree.specs.declared.tree.FileTree.{FileTree}
use Rattle.fb_tree.specs.Files.{source_of}
use Rattle.fb_text.specs.Reading.{whole_at}

-- ---- the trees of tokens

-- all of the tokens are a tree, however deep it nests
abbrev pub IsSomeTree : List Token → SourceTree → Type 0
IsSomeTree ts x = (n : ℕ) × (k : ℕ) × IsNested n k ts x

-- ---- what is answered of tokens

-- the tree that is read of the tokens of a text with this end, or why and where there is none, unless memory ran out
abbrev pub Reads : ℕ → List Token → Result FileTree TextFault → Type 0
Reads end ts answer = Tells source_of (whole_at ts) end ts answer

-- the tree is found, unless memory runs out
abbrev pub FindsTree : Result FileTree TextFault → SourceTree → Type 0
FindsTree answer x = Finds source_of answer x

-- where the answer is Syntax, it is at the end, or at a token with which no tree goes on, however deep
abbrev pub SyntaxAt : ℕ → List Token → Result FileTree TextFault → Type 0
SyntaxAt end ts answer = PlacesSyntax IsSomeTree end ts answer

-- where the answer is TooDeep, it is at a token with which no tree within the limits goes on, and one that nests deeper does
abbrev pub TooDeepAt : List Token → Result FileTree TextFault → Type 0
TooDeepAt ts answer = PlacesTooDeep IsTree IsSomeTree ts answer

-- ---- what is answered of texts

-- The tokens that the text spells are read so.
pub record ReadsSpelled (text : List ℕ) (answer : Result FileTree TextFault) : Type 0 where
  pub tokens : List Token
  pub spelled : Spells 0 text tokens
  pub read_is : Reads (length text) tokens answer

-- the tree of a text, or why and where there is none, unless memory ran out
abbrev pub ReadsText : List ℕ → Result FileTree TextFault → Type 0
ReadsText text (Ok source) = ReadsSpelled text (Ok source)
ReadsText text (Err (faults.Syntax offset)) = ReadsSpelled text (Err (faults.Syntax offset))
ReadsText text (Err (faults.TooDeep offset)) = ReadsSpelled text (Err (faults.TooDeep offset))
ReadsText text (Err other) = Refuses other text

-- the text is spelled by tokens, and by those of no tree, however deep
abbrev pub IsNoSource : List ℕ → Type 0
IsNoSource text = ((ts : List Token) × Spells 0 text ts) × ((n k : ℕ) (x : SourceTree) → IsNestedSource n k text x → ⊥)

-- where the answer is Syntax, it is at the text's end, or at a token of the text with which no tree goes on, however deep
abbrev pub SyntaxIn : List ℕ → Result FileTree TextFault → Type 0
SyntaxIn text (Err (faults.Syntax offset)) = (ts : List Token) × Spells 0 text ts × SyntaxAt (length text) ts (Err (faults.Syntax offset))
SyntaxIn text other = Unit {0}

-- where the answer is TooDeep, it is at a token of the text with which no tree within the limits goes on, and one that nests deeper does
abbrev pub TooDeepIn : List ℕ → Result FileTree TextFault → Type 0
TooDeepIn text (Err (faults.TooDeep offset)) = (ts : List Token) × Spells 0 text ts × TooDeepAt ts (Err (faults.TooDeep offset))
TooDeepIn text other = Unit {0}
