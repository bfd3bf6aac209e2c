-- Variables that have their rows.
use Rattle.std.specs.Prelude.{ℕ, ◌≡◌, true, List, ◌++◌, length}
use Rattle.fb_model.specs.Names.{Name, is_in}
use Rattle.fb_model.specs.Spans.{joined}
use Rattle.fb_model.specs.Clear.{Spans}

-- rows, and what they are asked to hold
abbrev pub held : Spans → Spans → Spans
held rows asked = λ x. joined (rows x) (asked x)

-- these variables have their rows
abbrev pub HaveRows : List Name → Spans → Spans → Type 0
HaveRows xs rows spans = (x : Name) → is_in x xs ≡ true → spans x ≡ rows x

-- so have the last n of these
pub record LastHaveRows (n : ℕ) (xs : List Name) (rows spans : Spans) : Type 0 where
  pub front : List Name
  pub back : List Name
  pub all : xs ≡ front ++ back
  pub many : length back ≡ n
  pub have : HaveRows back rows spans
