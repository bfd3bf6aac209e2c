-- What answers about all of the tokens of a text say.
use Rattle.std.specs.Prelude.{◌≡◌, ◌⊎◌, ℕ, List, ◌∷◌, ◌++◌, Result, Ok, Err}
use Rattle.fb_faults.specs.declared.text.TextFault.{TextFault}
use Rattle.fb_faults.specs.declared.text.TextFault.TheVariants as faults
use Rattle.fb_model.specs.Tokens.{Token}
use Rattle.fb_read.specs.Reading.{Wrong, syntax, too_deep}
use Rattle.fb_read.specs.Faults.{start_of, offset_of}

-- what is read of tokens with this end, seen by view, or why and where there is nothing, unless memory ran out
abbrev pub Tells : {X Y : Type 0} → (X → Y) → Result Y Wrong → ℕ → List Token → Result X TextFault → Type 0
Tells view read end ts (Ok v) = read ≡ Ok (view v)
Tells view read end ts (Err faults.OutOfMemory) = Unit {0}
Tells view read end ts (Err (faults.Syntax offset)) = (left : ℕ) × (read ≡ Err (syntax left)) × (offset ≡ offset_of end ts left)
Tells view read end ts (Err (faults.TooDeep offset)) = (left : ℕ) × (read ≡ Err (too_deep left)) × (offset ≡ offset_of end ts left)
Tells view read end ts (Err other) = ⊥

-- this tree is found, unless memory runs out
abbrev pub Finds : {X Y : Type 0} → (X → Y) → Result X TextFault → Y → Type 0
Finds view (Ok v) x = view v ≡ x
Finds view (Err faults.OutOfMemory) x = Unit {0}
Finds view (Err other) x = ⊥

-- where the answer is Syntax, this holds
abbrev pub IfSyntax : {X : Type 0} → Result X TextFault → Type 0 → Type 0
IfSyntax (Err (faults.Syntax offset)) P = P
IfSyntax other P = Unit {0}

-- the token of the tokens that begins there cannot stand there: no tree of this kind begins with the tokens before it and with it
pub record CannotStand {Y : Type 0} (Kind : List Token → Y → Type 0) (ts : List Token) (offset : ℕ) : Type 0 where
  pub before : List Token
  pub wrong : Token
  pub behind : List Token
  pub tokens_are : ts ≡ before ++ wrong ∷ behind
  pub begins : offset ≡ start_of wrong
  pub never : (others : List Token) (x : Y) → Kind (before ++ wrong ∷ others) x → ⊥

-- where the answer is Syntax, it is at the end, or at a token that cannot stand there
abbrev pub PlacesSyntax : {X Y : Type 0} → (List Token → Y → Type 0) → ℕ → List Token → Result X TextFault → Type 0
PlacesSyntax Kind end ts (Err (faults.Syntax offset)) = (offset ≡ end) ⊎ CannotStand Kind ts offset
PlacesSyntax Kind end ts other = Unit {0}

-- the token of the tokens that begins there opens one nesting too many: no tree within the limits begins with the tokens before it and with it, and one that nests deeper does
pub record OpensTooMany {Y : Type 0} (Within Deeper : List Token → Y → Type 0) (ts : List Token) (offset : ℕ) : Type 0 where
  pub before : List Token
  pub opener : Token
  pub behind : List Token
  pub tokens_are : ts ≡ before ++ opener ∷ behind
  pub begins : offset ≡ start_of opener
  pub never : (others : List Token) (x : Y) → Within (before ++ opener ∷ others) x → ⊥
  pub others : List Token
  pub tree : Y
  pub goes_on : Deeper (before ++ opener ∷ others) tree

-- where the answer is TooDeep, it is at a token that opens one nesting too many
abbrev pub PlacesTooDeep : {X Y : Type 0} → (List Token → Y → Type 0) → (List Token → Y → Type 0) → List Token → Result X TextFault → Type 0
PlacesTooDeep Within Deeper ts (Err (faults.TooDeep offset)) = OpensTooMany Within Deeper ts offset
PlacesTooDeep Within Deeper ts other = Unit {0}
