-- Lists, names in them, and what is so of each element.
use Rattle.std.proofs.Common.{◌≡◌, ℕ, zero, suc, ◌+◌, ◌<◌, Bool, true, false, List, [], ◌∷◌, ◌++◌, map, length, get_or, refl, sym, subst, arith, inl, inr}
use Rattle.std.specs.List.{AllByRecursion, Any}
use Rattle.std.specs.Str.{bytes_eq}
use Rattle.std.proofs.lemmas.List.Folds.{list_any_at}
use Rattle.std.proofs.lemmas.Slice.Eq.{bytes_eq-Decides}
use Rattle.fb_lists.proofs.Lists.{default_free, there}
use Rattle.fb_model.specs.Names.{Name, is_in}
use Rattle.fb_model.proofs.Lists.{same_name}
use Rattle.fb_model.specs.Misfits.{OneOf}

-- ---- names

pub is_text : (x : Name) → bytes_eq x x ≡ true
is_text x = (bytes_eq-Decides x x).1 refl

turned_true : (x y : Name) → bytes_eq x y ≡ true → bytes_eq y x ≡ true
turned_true x y h = subst (λ z. bytes_eq z x ≡ true) (same_name x y h) (is_text x)

pub bytes_turned : (x y : Name) (t : Bool) → bytes_eq x y ≡ t → bytes_eq y x ≡ t
bytes_turned x y true h = turned_true x y h
bytes_turned x y false h = by (bytes_eq y x) refl where
  by : (t : Bool) → bytes_eq y x ≡ t → bytes_eq y x ≡ false
  by false e = e
  by true e = absurd (let k : bytes_eq x y ≡ true = turned_true y x e in cc)

pub in_at : (xs : List Name) (i : ℕ) (x : Name) → i < length xs → get_or xs i x ≡ x → is_in x xs ≡ true
in_at xs i x l e = list_any_at (bytes_eq x) xs i x l (subst (λ y. bytes_eq x y ≡ true) (sym e) (is_text x))

later : (y : Name) (ys : List Name) (i : ℕ) (x : Name) → get_or ys i x ≡ x → get_or (y ∷ ys) (i + 1) x ≡ x
later y ys i x e = rw Rattle.std.proofs.Common.add-one e

each_at : (P : Name → Type 0) (ys : List Name) → ((i : ℕ) (x : Name) → i < length ys → get_or ys i x ≡ x → P x) → AllByRecursion P ys
each_at P [] g = tt
each_at P (y ∷ ys) g = (g 0 y (omega arith) refl, each_at P ys (λ i x l e. g (i + 1) x (omega (arith, l)) (later y ys i x e)))

-- what is so of each name in a list
pub each_in : (P : Name → Type 0) (xs : List Name) → ((x : Name) → is_in x xs ≡ true → P x) → AllByRecursion P xs
each_in P xs f = each_at P xs (λ i x l e. f x (in_at xs i x l e))

-- ---- images

-- what is so of all is so of the one at an index
pub all_image_at : {X Y : Type 0} (P : Y → Type 0) (f : X → Y) (xs : List X) (i : ℕ) (x : X) → AllByRecursion P (map f xs) → i < length xs → x ≡ get_or xs i x → P (f x)
all_image_at P f [] i x h l e = absurd (omega arith)
all_image_at P f (y ∷ xs) zero x h l e = let s : y ≡ x = cc in subst (λ z. P (f z)) s h.0
all_image_at P f (y ∷ xs) (suc i) x h l e = all_image_at P f xs i x h.1 (omega arith) e

-- the image of the item at an index is the item there among images
pub image_at : {X Y : Type 0} (f : X → Y) (xs : List X) (i : ℕ) (x : X) → i < length xs → (i < length (map f xs)) × (get_or (map f xs) i (f (get_or xs i x)) ≡ f (get_or xs i x))
image_at f xs i x l = there f xs i (get_or xs i x) l (default_free xs i (get_or xs i x) x l)

-- so it is one of them
pub in_images : {X : Type 0} (f : X → Name) (xs : List X) (i : ℕ) (x : X) → i < length xs → is_in (f (get_or xs i x)) (map f xs) ≡ true
in_images f xs i x l =
    let k = image_at f xs i x l in
    in_at (map f xs) i (f (get_or xs i x)) k.0 k.1

-- ---- one of a list

tail_of : {X : Type 0} (P : X → Type 0) (y : X) (xs : List X) (k : ℕ) (x : X) → suc k < length (y ∷ xs) → get_or (y ∷ xs) (suc k) x ≡ x → P x → Any P xs
tail_of P y xs k x l e p = (k, x, omega (arith, l), e, p)

pub some_of : {X : Type 0} (P : X → Type 0) (xs : List X) → Any P xs → OneOf P xs
some_of P [] a = absurd (omega (arith, a.2))
some_of P (y ∷ xs) (zero, x, l, e, p) = inl (subst P (sym e) p)
some_of P (y ∷ xs) (suc k, x, l, e, p) = inr (some_of P xs (tail_of P y xs k x l e p))

pub some_left : {X : Type 0} (P : X → Type 0) (xs ys : List X) → OneOf P xs → OneOf P (xs ++ ys)
some_left P [] ys s = absurd s
some_left P (x ∷ xs) ys (inl p) = inl p
some_left P (x ∷ xs) ys (inr s) = inr (some_left P xs ys s)

pub some_right : {X : Type 0} (P : X → Type 0) (xs ys : List X) → OneOf P ys → OneOf P (xs ++ ys)
some_right P [] ys s = s
some_right P (x ∷ xs) ys s = inr (some_right P xs ys s)

-- what all have, none lacks
pub none_lacks : {X : Type 0} (P Q : X → Type 0) (xs : List X) → ((x : X) → P x → Q x → ⊥) → AllByRecursion P xs → OneOf Q xs → ⊥
none_lacks P Q [] f a s = s
none_lacks P Q (x ∷ xs) f a (inl q) = f x a.0 q
none_lacks P Q (x ∷ xs) f a (inr s) = none_lacks P Q xs f a.1 s
