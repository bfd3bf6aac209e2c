-- Names that are the same, and what holds of one variable and of the others.
use Rattle.std.proofs.Common.{◌≡◌, Bool, true, false, ◌||◌, List, [], ◌∷◌, ◌++◌, refl, sym, ◌∙◌, ap, subst}
use Rattle.std.specs.Prelude.{if◌then◌else◌}
use Rattle.std.specs.Str.{bytes_eq}
use Rattle.fb_model.specs.Names.{Name, is_in}
use Rattle.fb_model.proofs.Lists.{same_name}
use Rattle.fb_model.proofs.Placed.{name_same}

-- a fact about what a test of names chooses
pub by_name : {A : Type 0} (P : A → Type 0) (x y : Name) (a b : A) → (x ≡ y → P a) → (bytes_eq x y ≡ false → P b) → P (if bytes_eq x y then a else b)
by_name {A} P x y a b f g = by (bytes_eq x y) refl where
  by : (c : Bool) → bytes_eq x y ≡ c → P (if c then a else b)
  by true e = f (same_name x y e)
  by false e = g e

-- what a test of one name with itself chooses
pub at_itself : {A : Type 0} (x : Name) (a b : A) → (if bytes_eq x x then a else b) ≡ a
at_itself x a b = ap (λ c. if c then a else b) (name_same x)

pub eq_turned : (x y : Name) → bytes_eq x y ≡ bytes_eq y x
eq_turned x y = by (bytes_eq x y) (bytes_eq y x) refl refl where
  by : (b c : Bool) → bytes_eq x y ≡ b → bytes_eq y x ≡ c → b ≡ c
  by true true e f = refl
  by false false e f = refl
  by true false e f = let s : x ≡ y = same_name x y e in let g : bytes_eq y x ≡ true = subst (λ z. bytes_eq y z ≡ true) (sym s) (name_same y) in cc
  by false true e f = let s : y ≡ x = same_name y x f in let g : bytes_eq x y ≡ true = subst (λ z. bytes_eq x z ≡ true) (sym s) (name_same x) in cc

-- ---- lists of names

pub or_left : (a b : Bool) → (a || b) ≡ false → a ≡ false
or_left true b e = e
or_left false b e = refl

pub or_right : (a b : Bool) → (a || b) ≡ false → b ≡ false
or_right true b e = cc
or_right false b e = e

-- what is in none of a longer list is in none of its parts
pub not_first : (x y : Name) (xs : List Name) → is_in y (x ∷ xs) ≡ false → bytes_eq x y ≡ false
not_first x y xs h = eq_turned x y ∙ or_left (bytes_eq y x) (is_in y xs) h

pub not_later : (x y : Name) (xs : List Name) → is_in y (x ∷ xs) ≡ false → is_in y xs ≡ false
not_later x y xs h = or_right (bytes_eq y x) (is_in y xs) h

pub not_front : (y : Name) (xs ys : List Name) → is_in y (xs ++ ys) ≡ false → is_in y xs ≡ false
not_front y [] ys h = refl
not_front y (x ∷ xs) ys h = by (bytes_eq y x) h (not_front y xs ys) where
  by : (b : Bool) → (b || is_in y (xs ++ ys)) ≡ false → (is_in y (xs ++ ys) ≡ false → is_in y xs ≡ false) → (b || is_in y xs) ≡ false
  by true e next = e
  by false e next = next e

pub not_back : (y : Name) (xs ys : List Name) → is_in y (xs ++ ys) ≡ false → is_in y ys ≡ false
not_back y [] ys h = h
not_back y (x ∷ xs) ys h = not_back y xs ys (or_right (bytes_eq y x) (is_in y (xs ++ ys)) h)
