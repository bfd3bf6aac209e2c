-- Lists of names by what is in them.
use Rattle.std.specs.Prelude.{◌≡◌, true, List, [], ◌∷◌, ◌++◌, if◌then◌else◌}
use Rattle.fb_model.specs.Names.{Name, is_in}

-- the same names, however often and in whatever order
pub record HasSame (xs ys : List Name) : Type 0 where
  pub same : (x : Name) → is_in x xs ≡ is_in x ys

-- each of the first is one of the second
pub record AreAmong (xs ys : List Name) : Type 0 where
  pub among : (x : Name) → is_in x xs ≡ true → is_in x ys ≡ true

-- a name more behind others, unless it is one of them
abbrev pub with_name : List Name → Name → List Name
with_name old x = if is_in x old then old else old ++ x ∷ []

-- names behind others, in order, each where it comes first
abbrev pub gathered : List Name → List Name → List Name
gathered old [] = old
gathered old (x ∷ xs) = gathered (with_name old x) xs
