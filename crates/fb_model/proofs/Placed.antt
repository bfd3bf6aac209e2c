-- Names apart, paths, and lists that hold.
use Rattle.std.proofs.Common.{◌≡◌, sym, ap, subst, refl, true, false, Bool, ◌&&◌, ◌||◌, List, [], ◌∷◌, ◌++◌, ◌∙◌}
use Rattle.std.specs.List.{AllByRecursion}
use Rattle.std.specs.Str.{bytes_eq}
use Rattle.std.proofs.lemmas.Slice.Eq.{bytes_eq-Decides}
use Rattle.fb_model.specs.Names.{Name, Path, path_eq, is_in}
use Rattle.fb_model.specs.Typing.{AreDistinct, AreNew}
use Rattle.fb_model.proofs.Lists.{same_name}

-- ---- names apart

pub name_same : (n : Name) → bytes_eq n n ≡ true
name_same n = (bytes_eq-Decides n n).1 refl

pub apart_sym : (m n : Name) → bytes_eq m n ≡ false → bytes_eq n m ≡ false
apart_sym m n h = by (bytes_eq n m) refl where
  by : (b : Bool) → bytes_eq n m ≡ b → b ≡ false
  by true e = let s : n ≡ m = same_name n m e in let t : bytes_eq m n ≡ true = subst (λ x. bytes_eq m x ≡ true) (sym s) (name_same m) in absurd cc
  by false e = refl

-- each name differs from all behind it
abbrev pub Apart : List Name → Type 0
Apart [] = Unit {0}
Apart (n ∷ ns) = AllByRecursion (λ m. bytes_eq n m ≡ false) ns × Apart ns

in_append : (x : Name) (xs ys : List Name) → is_in x (xs ++ ys) ≡ (is_in x xs || is_in x ys)
in_append x [] ys = refl
in_append x (y ∷ xs) ys = by (bytes_eq x y) (in_append x xs ys) where
  by : (b : Bool) → is_in x (xs ++ ys) ≡ (is_in x xs || is_in x ys) → (b || is_in x (xs ++ ys)) ≡ ((b || is_in x xs) || is_in x ys)
  by true h = refl
  by false h = h

-- names that are new are none of those before
new_apart : (n : Name) (before xs : List Name) → is_in n before ≡ true → AreNew before xs → AllByRecursion (λ m. bytes_eq n m ≡ false) xs
new_apart n before [] l h = tt
new_apart n before (x ∷ xs) l h = (differs, new_apart n (before ++ x ∷ []) xs (in_append n before (x ∷ []) ∙ ap (λ b. b || is_in n (x ∷ [])) l) h.1) where
  differs : bytes_eq n x ≡ false
  differs = by (bytes_eq n x) refl where
    by : (b : Bool) → bytes_eq n x ≡ b → b ≡ false
    by true e = let s : is_in x before ≡ true = subst (λ m. is_in m before ≡ true) (same_name n x e) l in let f = h.0 in absurd cc
    by false e = refl

pub distinct_from : (before xs : List Name) → AreNew before xs → Apart xs
distinct_from before [] h = tt
distinct_from before (x ∷ xs) h =
    (new_apart x (before ++ x ∷ []) xs (in_append x before (x ∷ []) ∙ (ap (λ b. is_in x before || (b || false)) (name_same x) ∙ last (is_in x before))) h.1, distinct_from (before ++ x ∷ []) xs h.1) where
      last : (b : Bool) → (b || true) ≡ true
      last true = refl
      last false = refl

pub apart : (xs : List Name) → AreDistinct xs → Apart xs
apart xs h = distinct_from [] xs h

-- ---- paths

pub path_front : (p xs ys : Path) → path_eq (p ++ xs) (p ++ ys) ≡ path_eq xs ys
path_front [] xs ys = refl
path_front (n ∷ p) xs ys = ap (λ b. b && path_eq (p ++ xs) (p ++ ys)) (name_same n) ∙ path_front p xs ys

pub path_same : (p : Path) → path_eq p p ≡ true
path_same [] = refl
path_same (n ∷ p) = ap (λ b. b && path_eq p p) (name_same n) ∙ path_same p

pub all_right : {A : Type 0} (P : A → Type 0) (xs ys : List A) → AllByRecursion P (xs ++ ys) → AllByRecursion P ys
all_right P [] ys h = h
all_right P (x ∷ xs) ys h = all_right P xs ys h.1

pub all_left : {A : Type 0} (P : A → Type 0) (xs ys : List A) → AllByRecursion P (xs ++ ys) → AllByRecursion P xs
all_left P [] ys h = tt
all_left P (x ∷ xs) ys h = (h.0, all_left P xs ys h.1)
