-- Lists.
use Rattle.std.proofs.Common.{◌≡◌, ◌<◌, ℕ, zero, suc, refl, ap, arith, List, [], ◌∷◌, length, map, slice_index_or, Contains, Some}
use Rattle.std.specs.Prelude.{slice_get}
use Rattle.std.specs.List.{AllByRecursion, AllZip, Any}
use Rattle.std.proofs.lemmas.List.Elements.{Contains-append_right}
use Rattle.fb_lists.proofs.Lists.{all_here}

-- so none lacks it
pub none_lacks : {X : Type 0} (P Q : X → Type 0) (xs : List X) → ((x : X) → P x → Q x → ⊥) → AllByRecursion P xs → Any Q xs → ⊥
none_lacks P Q xs f a h = f h.1 (all_here P xs h.0 h.1 a h.2 h.3) h.4

pub zip_length : {A B : Type 0} (R : A → B → Type 0) (xs : List A) (ys : List B) → AllZip R xs ys → length xs ≡ length ys
zip_length R [] [] h = refl
zip_length R [] (y ∷ ys) h = absurd h
zip_length R (x ∷ xs) [] h = absurd h
zip_length R (x ∷ xs) (y ∷ ys) h = let e = zip_length R xs ys h.1 in omega (arith, e)

-- an item of a list is one of what is made of it
pub in_image : {X Y : Type 0} (f : X → Y) (xs : List X) (k : ℕ) (x : X) → k < length xs → slice_index_or xs k x ≡ x → Contains (map f xs) (f x)
in_image f [] k x l e = absurd (omega (arith, l))
in_image f (y ∷ ys) zero x l e = (0, omega arith, ap f e)
in_image f (y ∷ ys) (suc k) x l e = Contains-append_right (f y ∷ []) (map f ys) (f x) (in_image f ys k x (omega (arith, l)) e)

-- what holds of an item holds of one
pub any_at : {X : Type 0} (P : X → Type 0) (xs : List X) (i : ℕ) (x : X) → slice_get xs i ≡ Some x → P x → Any P xs
any_at P [] i x h p = absurd cc
any_at P (y ∷ ys) zero x h p = let e : y ≡ x = cc in (0, x, omega arith, e, p)
any_at P (y ∷ ys) (suc i) x h p = let r = any_at P ys i x h p in (suc r.0, r.1, let l = r.2 in omega (arith, l), r.3, r.4)
