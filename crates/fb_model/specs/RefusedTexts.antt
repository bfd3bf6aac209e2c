-- Why a text is refused: where it is no tree, and where it nests too deep, said of the grammar alone.
use Rattle.std.specs.Prelude.{◌≡◌, ◌⊎◌, ℕ, List, ◌∷◌, ◌++◌, length, ◌<◌}
use Rattle.fb_model.specs.Tokens.{Token, token, Kind}
use Rattle.fb_model.specs.Spelling.{Spells, FirstAt, IsBad, IsBig, text_limit}
use Rattle.fb_model.specs.Declarations.{SourceTree}
use Rattle.fb_model.specs.Sources.{IsNested, IsTree, IsSource}
use Rattle.fb_faults.specs.declared.text.TextFault.{TextFault}
use Rattle.fb_faults.specs.declared.text.TextFault.TheVariants.{OutOfMemory, BadCharacter, Syntax, TooDeep, TooLong, BigNumber}

-- a tree that nests no deeper than is read begins with these tokens
abbrev pub Begins : List Token → Type 0
Begins ts = (others : List Token) × (x : SourceTree) × IsTree (ts ++ others) x

-- these characters, a space and some more are the text of a tree that nests no deeper than is read
abbrev pub StartsTree : List ℕ → Type 0
StartsTree front = (more : List ℕ) × (x : SourceTree) × IsSource (front ++ 32 ∷ more) x

-- The token that begins there is the first that cannot stand where it does: a tree begins with the tokens before it, and none, however deep, with these and it.
pub record IsWrongToken (ts : List Token) (at : ℕ) : Type 0 where
  pub before : List Token
  pub kind : Kind
  pub end : ℕ
  pub behind : List Token
  pub tokens_are : ts ≡ before ++ token kind at end ∷ behind
  pub goes_on : Begins before
  pub never : (others : List Token) (n k : ℕ) (x : SourceTree) → IsNested n k (before ++ token kind at end ∷ others) x → ⊥

-- The text is spelled by the tokens of no tree, however deep, and goes wrong there: at its end, where a tree begins with all of its tokens, or at the first token that cannot stand where it does.
pub record IsNoTree (text : List ℕ) (at : ℕ) : Type 0 where
  pub tokens : List Token
  pub spelled : Spells 0 text tokens
  pub none : (n k : ℕ) (x : SourceTree) → IsNested n k tokens x → ⊥
  pub place : ((at ≡ length text) × Begins tokens) ⊎ IsWrongToken tokens at

-- The token of the text that begins there opens the first nesting too many: a tree begins with the tokens before it, and with these and it no tree that nests no deeper than is read, but a deeper one.
pub record IsTooDeep (text : List ℕ) (at : ℕ) : Type 0 where
  pub tokens : List Token
  pub spelled : Spells 0 text tokens
  pub before : List Token
  pub kind : Kind
  pub end : ℕ
  pub behind : List Token
  pub tokens_are : tokens ≡ before ++ token kind at end ∷ behind
  pub goes_on : Begins before
  pub never : (others : List Token) (x : SourceTree) → IsTree (before ++ token kind at end ∷ others) x → ⊥
  pub deeper : (others : List Token) × (n : ℕ) × (k : ℕ) × (x : SourceTree) × IsNested n k (before ++ token kind at end ∷ others) x

-- why a text is refused
abbrev pub IsRefusal : List ℕ → TextFault → Type 0
IsRefusal text OutOfMemory = Unit {0}
IsRefusal text TooLong = text_limit < length text
IsRefusal text (BadCharacter at) = FirstAt IsBad text at
IsRefusal text (BigNumber at) = FirstAt IsBig text at
IsRefusal text (Syntax at) = IsNoTree text at
IsRefusal text (TooDeep at) = IsTooDeep text at
