-- What is so of the elements of two lists, one by one.
use Rattle.std.proofs.Common.{◌≡◌, ℕ, zero, suc, ◌+◌, ◌<◌, List, [], ◌∷◌, ◌++◌, map, take, length, get_or, slice_get, Some, refl, sym, ap, subst, ◌∙◌, arith}
use Rattle.std.specs.List.{AllByRecursion}
use Rattle.std.proofs.lemmas.List.{take_more}
use Rattle.fb_lists.proofs.Lists.{default_free, there_at}
use Rattle.fb_model.proofs.Lists.{got}
use Rattle.fb_chart.specs.Tables.{Each}

pub each_push : {X Y : Type 0} (R : X → Y → Type 0) (xs : List X) (ys : List Y) (x : X) (y : Y) → Each R xs ys → R x y → Each R (xs ++ x ∷ []) (ys ++ y ∷ [])
each_push R [] [] x y h r = (r, tt)
each_push R [] (b ∷ ys) x y h r = absurd h
each_push R (a ∷ xs) [] x y h r = absurd h
each_push R (a ∷ xs) (b ∷ ys) x y h r = (h.0, each_push R xs ys x y h.1 r)

-- one more of both
pub each_more : {X Y : Type 0} (R : X → Y → Type 0) (xs : List X) (i : ℕ) (x : X) (ys new : List Y) (y : Y) → i < length xs → x ≡ get_or xs i x → new ≡ ys ++ y ∷ [] → Each R (take i xs) ys → R x y → Each R (take (i + 1) xs) new
each_more R xs i x ys new y l e n h r =
    subst (Each R (take (i + 1) xs)) (sym n)
    (subst (λ zs. Each R zs (ys ++ y ∷ [])) (sym (take_more xs i x l ∙ ap (λ z. take i xs ++ z ∷ []) (sym e))) (each_push R (take i xs) ys x y h r))

-- what each pair gives, where the first list has a property
pub each_weaker : {X Y : Type 0} (P : X → Type 0) (R S : X → Y → Type 0) (xs : List X) (ys : List Y) → ((x : X) (y : Y) → P x → R x y → S x y) → AllByRecursion P xs → Each R xs ys → Each S xs ys
each_weaker P R S [] [] f p h = tt
each_weaker P R S [] (y ∷ ys) f p h = absurd h
each_weaker P R S (x ∷ xs) [] f p h = absurd h
each_weaker P R S (x ∷ xs) (y ∷ ys) f p h = (f x y p.0 h.0, each_weaker P R S xs ys f p.1 h.1)

-- images that are equal one by one are equal
pub each_same : {X Y Z : Type 0} (f : X → Z) (g : Y → Z) (xs : List X) (ys : List Y) → Each (λ x y. g y ≡ f x) xs ys → map g ys ≡ map f xs
each_same f g [] [] h = refl
each_same f g [] (y ∷ ys) h = absurd h
each_same f g (x ∷ xs) [] h = absurd h
each_same f g (x ∷ xs) (y ∷ ys) h = ap (λ z. z ∷ map g ys) h.0 ∙ ap (λ zs. f x ∷ zs) (each_same f g xs ys h.1)

-- what is so of each second element
pub each_second : {X Y : Type 0} (Q : Y → Type 0) (xs : List X) (ys : List Y) → Each (λ x y. Q y) xs ys → AllByRecursion Q ys
each_second Q [] [] h = tt
each_second Q [] (y ∷ ys) h = absurd h
each_second Q (x ∷ xs) [] h = absurd h
each_second Q (x ∷ xs) (y ∷ ys) h = (h.0, each_second Q xs ys h.1)

pub each_append : {X Y : Type 0} (R : X → Y → Type 0) (xs us : List X) (ys vs : List Y) → Each R xs ys → Each R us vs → Each R (xs ++ us) (ys ++ vs)
each_append R [] us [] vs h k = k
each_append R [] us (y ∷ ys) vs h k = absurd h
each_append R (x ∷ xs) us [] vs h k = absurd h
each_append R (x ∷ xs) us (y ∷ ys) vs h k = (h.0, each_append R xs us ys vs h.1 k)

-- the elements at one index
pub each_at : {X Y : Type 0} (R : X → Y → Type 0) (xs : List X) (ys : List Y) (n : ℕ) → Each R xs ys → n < length xs → (x : X) × (y : Y) × (slice_get xs n ≡ Some x) × (slice_get ys n ≡ Some y) × R x y
each_at R [] [] n h l = absurd (omega arith)
each_at R [] (y ∷ ys) n h l = absurd h
each_at R (x ∷ xs) [] n h l = absurd h
each_at R (x ∷ xs) (y ∷ ys) zero h l = (x, y, refl, refl, h.0)
each_at R (x ∷ xs) (y ∷ ys) (suc n) h l = each_at R xs ys n h.1 (omega arith)

pub each_map : {X Y : Type 0} (R S : X → Y → Type 0) (xs : List X) (ys : List Y) → ((x : X) (y : Y) → R x y → S x y) → Each R xs ys → Each S xs ys
each_map R S [] [] f h = tt
each_map R S [] (y ∷ ys) f h = absurd h
each_map R S (x ∷ xs) [] f h = absurd h
each_map R S (x ∷ xs) (y ∷ ys) f h = (f x y h.0, each_map R S xs ys f h.1)

-- the same of images
pub each_image : {X Y Z : Type 0} (R : Z → Y → Type 0) (f : X → Z) (xs : List X) (ys : List Y) → Each (λ x y. R (f x) y) xs ys → Each R (map f xs) ys
each_image R f [] [] h = tt
each_image R f [] (y ∷ ys) h = absurd h
each_image R f (x ∷ xs) [] h = absurd h
each_image R f (x ∷ xs) (y ∷ ys) h = (h.0, each_image R f xs ys h.1)

-- ---- indices

pub image_at : {X Y : Type 0} (f : X → Y) (xs : List X) (n : ℕ) (x : X) → slice_get xs n ≡ Some x → slice_get (map f xs) n ≡ Some (f x)
image_at f [] n x h = absurd cc
image_at f (y ∷ xs) zero x h = let e : y ≡ x = cc in ap (λ z. Some (f z)) e
image_at f (y ∷ xs) (suc n) x h = image_at f xs n x h

pub got_at : {X Y : Type 0} (f : X → Y) (xs : List X) (i : ℕ) (x : X) → Some x ≡ slice_get xs i → (i < length (map f xs)) × (f x ≡ get_or (map f xs) i (f x))
got_at f xs i x h = let k = got xs i x h in there_at f xs i x k.0 k.1

-- one more of images and of what is made of them
pub each_image_more : {X Y Z : Type 0} (R : Z → Y → Type 0) (f : X → Z) (xs : List X) (i : ℕ) (d : X) (ys new : List Y) (y : Y) → i < length xs → new ≡ ys ++ y ∷ [] → Each R (take i (map f xs)) ys → R (f (get_or xs i d)) y → Each R (take (i + 1) (map f xs)) new
each_image_more R f xs i d ys new y l n h r =
    let x = get_or xs i d in
    let g = there_at f xs i x l (default_free xs i d x l) in
    each_more R (map f xs) i (f x) ys new y g.0 g.1 n h r
