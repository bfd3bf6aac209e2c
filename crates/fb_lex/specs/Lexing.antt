-- How what the code gives stands for what is found on lists.
use Rattle.std.specs.Prelude.{◌≡◌, ℕ, ◌-◌, ◌++◌, ◌≤◌, ◌<◌, ◌^◌, List, [], ◌∷◌, length, true, false, Option, Some, None, Result, Ok, Err, Vec}
use Rattle.std.specs.Borrow.{Bor}
use Rattle.std.specs.Global.{Global}
use Rattle.fb_model.specs.Tokens as book
use Rattle.fb_model.specs.Spelling.{IsBad, IsBig, FirstAt, IsGap, text_limit}
use Rattle.fb_lex.specs.declared.token.Token.{Token}
use Rattle.fb_lex.specs.declared.token.Kind.{Kind}
use Rattle.fb_lex.specs.declared.span.Unit.{Unit as TimeUnit}
use Rattle.fb_faults.specs.declared.text.TextFault.{TextFault}
use Rattle.fb_faults.specs.declared.text.TextFault.TheVariants.{OutOfMemory, BadCharacter, Syntax, TooDeep, TooLong, BigNumber}
use Rattle.fb_lex.specs.Scanning.{is_fit, Between, past, unclosed, nothing, gap_at, scan}
use Rattle.fb_lex.specs.Views.{kind_of, tokens_of}

-- something, and what is left
abbrev pub Gives : {A : Type 0} → Option (A × Bor (List ℕ)) → Option (A × List ℕ) → Type 0
Gives None q = q ≡ None
Gives (Some p) q = q ≡ Some (p.0, p.1.now)

-- a number, where it fits 64 bits
abbrev pub Counts : Option ℕ → ℕ → Type 0
Counts None v = 2 ^ 64 ≤ v
Counts (Some n) v = n ≡ v

abbrev pub CountsAt : Option ℕ × Bor (List ℕ) → ℕ × List ℕ → Type 0
CountsAt r p = (v : ℕ) × (p ≡ (v, r.1.now)) × Counts r.0 v

-- a number and what is left
abbrev pub GivesNumber : Option (Option ℕ × Bor (List ℕ)) → Option (ℕ × List ℕ) → Type 0
GivesNumber None q = q ≡ None
GivesNumber (Some p) q = (v : ℕ) × (q ≡ Some (v, p.1.now)) × Counts p.0 v

-- a number with its unit and what is left
abbrev pub GivesAmount : Option (TimeUnit × Option ℕ × Bor (List ℕ)) → Option (TimeUnit × ℕ × List ℕ) → Type 0
GivesAmount None q = q ≡ None
GivesAmount (Some p) q = (v : ℕ) × (q ≡ Some (p.0, v, p.2.now)) × Counts p.1 v

-- a token, where it is within its limits
abbrev pub Stays : Option Kind → book.Kind → Type 0
Stays None k = is_fit k ≡ false
Stays (Some j) k = (k ≡ kind_of j) × (is_fit k ≡ true)

-- a token and what is left
abbrev pub GivesKind : Option (Option Kind × Bor (List ℕ)) → Option (book.Kind × List ℕ) → Type 0
GivesKind None q = q ≡ None
GivesKind (Some p) q = (k : book.Kind) × (q ≡ Some (k, p.1.now)) × Stays p.0 k

-- a token within its limits and what is left, or what is wrong there
abbrev pub Scans : ℕ → Result (Kind × Bor (List ℕ)) TextFault → Option (book.Kind × List ℕ) → Type 0
Scans at (Ok p) q = (q ≡ Some (kind_of p.0, p.1.now)) × (is_fit (kind_of p.0) ≡ true)
Scans at (Err OutOfMemory) q = Unit {0}
Scans at (Err (BadCharacter a)) q = (a ≡ at) × (q ≡ None)
Scans at (Err (BigNumber a)) q = (a ≡ at) × ((k : book.Kind) × (rest : List ℕ) × (q ≡ Some (k, rest)) × (is_fit k ≡ false))
Scans at (Err (Syntax a)) q = ⊥
Scans at (Err (TooDeep a)) q = ⊥
Scans at (Err TooLong) q = ⊥

abbrev pub Closing : Option (Bor (List ℕ)) → Option (List ℕ) → Type 0
Closing None q = q ≡ None
Closing (Some b) q = q ≡ Some b.now

-- what a gap leaves, or that none stands there, or that a comment is not closed
abbrev pub Skips : ℕ → Result (Option (Bor (List ℕ))) TextFault → Between → Type 0
Skips at (Ok (Some b)) q = q ≡ past b.now
Skips at (Ok None) q = q ≡ nothing
Skips at (Err (BadCharacter a)) q = (a ≡ at) × (q ≡ unclosed)
Skips at (Err OutOfMemory) q = ⊥
Skips at (Err (BigNumber a)) q = ⊥
Skips at (Err (Syntax a)) q = ⊥
Skips at (Err (TooDeep a)) q = ⊥
Skips at (Err TooLong) q = ⊥

-- what gaps leave, however many
pub data Gaps (bytes : List ℕ) : List ℕ → Type 0 where
  no_gap : Gaps bytes bytes
  one_more : {rest left : List ℕ} → Gaps bytes rest → IsGap rest left → Gaps bytes left

-- what one step leaves, and the tokens after it
abbrev pub Passes : ℕ → List ℕ → List ℕ → List book.Token → List book.Token → Between → Type 0
Passes total bytes rest before after (past left) = (left ≡ rest) × (after ≡ before)
Passes total bytes rest before after unclosed = ⊥
Passes total bytes rest before after nothing =
    (k : book.Kind) × (scan bytes ≡ Some (k, rest)) × (is_fit k ≡ true) × (after ≡ before ++ book.token k (total - length bytes) (total - length rest) ∷ [])

-- neither a gap nor a token can be read
abbrev pub Sticks : List ℕ → Between → Type 0
Sticks bytes (past left) = ⊥
Sticks bytes unclosed = Unit {0}
Sticks bytes nothing = scan bytes ≡ None

-- a token beyond its limits is read
abbrev pub Exceeds : List ℕ → Between → Type 0
Exceeds bytes (past left) = ⊥
Exceeds bytes unclosed = ⊥
Exceeds bytes nothing = (k : book.Kind) × (rest : List ℕ) × (scan bytes ≡ Some (k, rest)) × (is_fit k ≡ false)

-- one step of the lexer on what is left of a text of so many bytes
abbrev pub Steps : ℕ → List ℕ → List book.Token → List book.Token → Result (Bor (List ℕ)) TextFault → Type 0
Steps total bytes before after (Ok b) = Passes total bytes b.now before after (gap_at bytes)
Steps total bytes before after (Err OutOfMemory) = Unit {0}
Steps total bytes before after (Err (BadCharacter a)) = (a ≡ total - length bytes) × Sticks bytes (gap_at bytes)
Steps total bytes before after (Err (BigNumber a)) = (a ≡ total - length bytes) × Exceeds bytes (gap_at bytes)
Steps total bytes before after (Err (Syntax a)) = ⊥
Steps total bytes before after (Err (TooDeep a)) = ⊥
Steps total bytes before after (Err TooLong) = ⊥

-- the tokens are found, or memory ran out
abbrev pub Finds : Result (Vec Token Global) TextFault → List book.Token → Type 0
Finds (Ok v) ts = tokens_of v.items ≡ ts
Finds (Err OutOfMemory) ts = Unit {0}
Finds (Err (BadCharacter a)) ts = ⊥
Finds (Err (BigNumber a)) ts = ⊥
Finds (Err (Syntax a)) ts = ⊥
Finds (Err (TooDeep a)) ts = ⊥
Finds (Err TooLong) ts = ⊥

-- why a text is refused
abbrev pub Refuses : TextFault → List ℕ → Type 0
Refuses OutOfMemory text = Unit {0}
Refuses (BadCharacter at) text = FirstAt IsBad text at
Refuses (BigNumber at) text = FirstAt IsBig text at
Refuses (Syntax at) text = ⊥
Refuses (TooDeep at) text = ⊥
Refuses TooLong text = text_limit < length text
