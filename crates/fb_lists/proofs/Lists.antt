-- What is so of all or of one of a list, of images, and of the element at an index.
use Rattle.std.proofs.Common.{◌≡◌, ℕ, zero, suc, ◌+◌, ◌<◌, List, [], ◌∷◌, ◌++◌, map, take, drop, set, length, get_or, slice_get, Some, refl, sym, ap, subst, ◌∙◌, arith}
use Rattle.std.specs.List.{Any, AllByRecursion}
use Rattle.std.proofs.lemmas.Option.{slice_get-get_or}

-- ---- what is so of all is so of the one at an index

pub all_at : {X : Type 0} (P : X → Type 0) (xs : List X) (i : ℕ) (d : X) → i < length xs → AllByRecursion P xs → P (get_or xs i d)
all_at P [] i d l h = absurd (omega (arith, l))
all_at P (x ∷ xs) zero d l h = h.0
all_at P (x ∷ xs) (suc i) d l h = all_at P xs i d (omega (arith, l)) h.1

pub all_here : {X : Type 0} (P : X → Type 0) (xs : List X) (i : ℕ) (x : X) → AllByRecursion P xs → i < length xs → get_or xs i x ≡ x → P x
all_here P [] i x h l e = absurd (omega (arith, l))
all_here P (y ∷ xs) zero x h l e = subst P e h.0
all_here P (y ∷ xs) (suc i) x h l e = all_here P xs i x h.1 (omega (arith, l)) e

pub all_got : {X : Type 0} (P : X → Type 0) (xs : List X) (n : ℕ) (x : X) → AllByRecursion P xs → slice_get xs n ≡ Some x → P x
all_got P [] n x h e = absurd cc
all_got P (y ∷ xs) zero x h e = let s : y ≡ x = cc in subst P s h.0
all_got P (y ∷ xs) (suc n) x h e = all_got P xs n x h.1 e

-- ---- the element at an index

-- it does not hang on what else there might be
pub default_free : {X : Type 0} (xs : List X) (k : ℕ) (d e : X) → k < length xs → get_or xs k d ≡ get_or xs k e
default_free [] k d e h = absurd (omega (arith, h))
default_free (x ∷ xs) zero d e h = refl
default_free (x ∷ xs) (suc k) d e h = default_free xs k d e (omega (arith, h))

pub stands_at : {X : Type 0} (xs : List X) (i : ℕ) (x d : X) → i < length xs → x ≡ get_or xs i d → slice_get xs i ≡ Some x
stands_at xs i x d l h = slice_get-get_or xs i d l ∙ ap Some (sym h)

pub within_got : {X : Type 0} (xs : List X) (i : ℕ) (x : X) → slice_get xs i ≡ Some x → i < length xs
within_got [] i x h = absurd cc
within_got (y ∷ xs) zero x h = omega arith
within_got (y ∷ xs) (suc i) x h = omega (arith, within_got xs i x h)

-- it is one
pub same_at : {X : Type 0} (xs : List X) (i : ℕ) (x y : X) → slice_get xs i ≡ Some x → slice_get xs i ≡ Some y → x ≡ y
same_at xs i x y a b = let e : Some x ≡ Some y = sym a ∙ b in cc

-- those from it on, and those up to it
pub drop_at : {X : Type 0} (xs : List X) (i : ℕ) (x : X) → slice_get xs i ≡ Some x → drop i xs ≡ x ∷ drop (i + 1) xs
drop_at [] i x h = absurd cc
drop_at (y ∷ xs) zero x h = let e : y ≡ x = cc in ap (λ z. z ∷ xs) e
drop_at (y ∷ xs) (suc i) x h =
    let e : suc (i + 1) ≡ suc i + 1 = omega arith in
    drop_at xs i x h ∙ ap (λ k. x ∷ drop k (y ∷ xs)) e

pub take_at : {X : Type 0} (xs : List X) (i : ℕ) (x : X) → slice_get xs i ≡ Some x → take (i + 1) xs ≡ take i xs ++ x ∷ []
take_at [] i x h = absurd cc
take_at (y ∷ xs) zero x h = let e : y ≡ x = cc in ap (λ z. z ∷ []) e
take_at (y ∷ xs) (suc i) x h =
    let e : suc i + 1 ≡ suc (i + 1) = omega arith in
    ap (λ k. take k (y ∷ xs)) e ∙ ap (λ ys. y ∷ ys) (take_at xs i x h)

-- ---- an element that is set

-- it stands there, and the others stay
pub set_stands : {X : Type 0} (xs : List X) (i : ℕ) (x y : X) → slice_get xs i ≡ Some x → slice_get (set xs i y) i ≡ Some y
set_stands [] i x y h = cc
set_stands (z ∷ zs) zero x y h = refl
set_stands (z ∷ zs) (suc i) x y h = set_stands zs i x y h

pub get_other : {X : Type 0} (xs : List X) (i j : ℕ) (y : X) → (i ≡ j → ⊥) → slice_get (set xs i y) j ≡ slice_get xs j
get_other [] i j y n = refl
get_other (x ∷ xs) zero zero y n = absurd (n refl)
get_other (x ∷ xs) zero (suc j) y n = refl
get_other (x ∷ xs) (suc i) zero y n = refl
get_other (x ∷ xs) (suc i) (suc j) y n = get_other xs i j y (λ e. n (ap suc e))

-- an element that is set to itself
pub set_same : {X : Type 0} (xs : List X) (i : ℕ) (x : X) → slice_get xs i ≡ Some x → set xs i x ≡ xs
set_same [] i x h = cc
set_same (z ∷ zs) zero x h = (let e : z ≡ x = cc in ap (λ k. k ∷ zs) (cc e))
set_same (z ∷ zs) (suc i) x h = ap (λ rest. z ∷ rest) (set_same zs i x h)

-- an element that is set to another of the same value
pub map_set : {X Y : Type 0} (f : X → Y) (xs : List X) (i : ℕ) (x y : X) → slice_get xs i ≡ Some x → f y ≡ f x → map f (set xs i y) ≡ map f xs
map_set f [] i x y h e = cc
map_set f (z ∷ zs) zero x y h e = (let k : z ≡ x = cc in ap (λ v. v ∷ map f zs) (cc (e, ap f k)))
map_set f (z ∷ zs) (suc i) x y h e = ap (λ rest. f z ∷ rest) (map_set f zs i x y h e)

-- ---- images

-- the image of the element at an index stands there among the images
pub there : {X Y : Type 0} (f : X → Y) (xs : List X) (i : ℕ) (x : X) → i < length xs → get_or xs i x ≡ x → (i < length (map f xs)) × (get_or (map f xs) i (f x) ≡ f x)
there f [] i x l e = absurd (omega arith)
there f (y ∷ xs) zero x l e = (omega arith, ap f e)
there f (y ∷ xs) (suc i) x l e = let k = there f xs i x (omega arith) e in (omega (arith, k.0), k.1)

pub there_at : {X Y : Type 0} (f : X → Y) (xs : List X) (i : ℕ) (x : X) → i < length xs → x ≡ get_or xs i x → (i < length (map f xs)) × (f x ≡ get_or (map f xs) i (f x))
there_at f xs i x l e = let k = there f xs i x l (sym e) in (k.0, sym k.1)

pub all_image : {X Y : Type 0} (Q : X → Type 0) (P : Y → Type 0) (f : X → Y) (xs : List X) → ((x : X) → Q x → P (f x)) → AllByRecursion Q xs → AllByRecursion P (map f xs)
all_image Q P f [] g h = tt
all_image Q P f (x ∷ xs) g h = (g x h.0, all_image Q P f xs g h.1)

pub all_source : {X Y : Type 0} (Q : X → Type 0) (P : Y → Type 0) (f : X → Y) (xs : List X) → ((x : X) → P (f x) → Q x) → AllByRecursion P (map f xs) → AllByRecursion Q xs
all_source Q P f [] g h = tt
all_source Q P f (x ∷ xs) g h = (g x h.0, all_source Q P f xs g h.1)

-- what one has, its image has
pub any_image : {X Y : Type 0} (T P : X → Type 0) (Q : Y → Type 0) (f : X → Y) (xs : List X) → AllByRecursion T xs → ((x : X) → T x → P x → Q (f x)) → Any P xs → Any Q (map f xs)
any_image T P Q f xs t g h =
    let k = there f xs h.0 h.1 h.2 h.3 in
    (h.0, f h.1, k.0, k.1, g h.1 (all_here T xs h.0 h.1 t h.2 h.3) h.4)
