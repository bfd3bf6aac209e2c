-- Which source trees stand in texts.
use Rattle.std.specs.Prelude.{ℕ, List}
use Rattle.fb_model.specs.Tokens.{Token}
use Rattle.fb_model.specs.Spelling.{Spells}
use Rattle.fb_model.specs.StructuredTextGrammar.{IsExpression, IsAlgorithm, most_nested, most_nested_statements}
use Rattle.fb_model.specs.Declarations.{SourceTree}
use Rattle.fb_model.specs.DeclarationGrammar.{IsFile}

-- all of the tokens are this tree, with expressions and statements nested at most so deep
abbrev pub IsNested : ℕ → ℕ → List Token → SourceTree → Type 0
IsNested n k ts x = IsFile (IsExpression n) (IsAlgorithm n k) ts x

-- all of the tokens are a tree that nests no deeper than is read
abbrev pub IsTree : List Token → SourceTree → Type 0
IsTree ts x = IsNested most_nested most_nested_statements ts x

-- the text is spelled by tokens that are this tree, with expressions and statements nested at most so deep
abbrev pub IsNestedSource : ℕ → ℕ → List ℕ → SourceTree → Type 0
IsNestedSource n k text x = (ts : List Token) × Spells 0 text ts × IsNested n k ts x

-- and the tree nests no deeper than is read
abbrev pub IsSource : List ℕ → SourceTree → Type 0
IsSource text x = IsNestedSource most_nested most_nested_statements text x

-- the tree stands in a text
abbrev pub IsSpelled : SourceTree → Type 0
IsSpelled x = (text : List ℕ) × IsSource text x
