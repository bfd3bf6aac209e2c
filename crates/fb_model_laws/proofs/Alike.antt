-- Lists that are compared an item at a time.
use Rattle.std.proofs.Common.{◌≡◌, ℕ, ◌+◌, ◌<◌, ◌≤◌, ℤ, Bool, true, false, not, List, [], ◌∷◌, ◌++◌, map, take, length, get_or, slice_get, Option, Some, None, refl, sym, ap, ◌∙◌, arith, string_bytes}
use Rattle.std.proofs.lemmas.List.{map_push, take_all, take_more}
use Rattle.std.specs.Prelude.{◌&&◌}
use Rattle.std.specs.Ordering.{int_eq}
use Rattle.std.specs.Option.{option_eq}
use Rattle.std.proofs.lemmas.Bool.Decides.{Decides-int_eq}
use Rattle.std.proofs.lemmas.Slice.Eq.{bytes_eq-Decides}
use Rattle.std.specs.declared.string.String.{String}
use Rattle.std.specs.String.{string_eq}
use Rattle.fb_model.proofs.Lists.{got}

grown : {X Y : Type 0} (f : X → Y) (xs : List X) (i : ℕ) (x : X) → i < length xs → x ≡ get_or xs i x → map f (take (i + 1) xs) ≡ map f (take i xs) ++ f x ∷ []
grown f xs i x l e = ap (map f) (take_more xs i x l ∙ ap (λ z. take i xs ++ z ∷ []) (sym e)) ∙ map_push f (take i xs) x

-- one more item of both
pub alike_next : {X Y : Type 0} (f : X → Y) (xs ys : List X) (i : ℕ) (x y : X) → i < length xs → length xs ≡ length ys → x ≡ get_or xs i x → y ≡ get_or ys i y → map f (take i xs) ≡ map f (take i ys) → f x ≡ f y → map f (take (i + 1) xs) ≡ map f (take (i + 1) ys)
alike_next f xs ys i x y l s a b h e = grown f xs i x l a ∙ ap (λ vs. vs ++ f x ∷ []) h ∙ ap (λ z. map f (take i ys) ++ z ∷ []) e ∙ sym (grown f ys i y (omega (arith, l, s)) b)

-- the same, where both are looked up
pub alike_more : {X Y : Type 0} (f : X → Y) (xs ys : List X) (i : ℕ) (x y : X) → Some x ≡ slice_get xs i → Some y ≡ slice_get ys i → length xs ≡ length ys → map f (take i xs) ≡ map f (take i ys) → f x ≡ f y → map f (take (i + 1) xs) ≡ map f (take (i + 1) ys)
alike_more f xs ys i x y a b s h e = let p = got xs i x a in let q = got ys i y b in alike_next f xs ys i x y p.0 s p.1 q.1 h e

-- all items of both
pub alike_whole : {X Y : Type 0} (f : X → Y) (xs ys : List X) (i : ℕ) → length xs ≤ i → length xs ≡ length ys → map f (take i xs) ≡ map f (take i ys) → map f xs ≡ map f ys
alike_whole f xs ys i l e h = ap (map f) (sym (take_all i xs l)) ∙ h ∙ ap (map f) (take_all i ys (omega (arith, l, e)))

-- names that are told to be the same
pub names_alike : {Z : Type 0} (a b : String Z) → false ≡ not (string_eq a b) → string_bytes a ≡ string_bytes b
names_alike a b h = (bytes_eq-Decides (string_bytes a) (string_bytes b)).0 (turned (string_eq a b) h) where
  turned : (t : Bool) → false ≡ not t → t ≡ true
  turned true h = refl
  turned false h = absurd cc

-- bounds that are told to be the same
pub bounds_alike : (a b : Option (ℤ × ℤ)) → false ≡ not (option_eq (λ x y. int_eq x.0 y.0 && int_eq x.1 y.1) a b) → a ≡ b
bounds_alike None None h = refl
bounds_alike None (Some y) h = absurd cc
bounds_alike (Some x) None h = absurd cc
bounds_alike (Some x) (Some y) h = by (int_eq x.0 y.0) (int_eq x.1 y.1) refl refl h where
  by : (p q : Bool) → int_eq x.0 y.0 ≡ p → int_eq x.1 y.1 ≡ q → false ≡ not (p && q) → Some x ≡ Some y
  by true true e f g = ap (λ l. Some (l, x.1)) ((Decides-int_eq x.0 y.0).0 e) ∙ ap (λ r. Some (y.0, r)) ((Decides-int_eq x.1 y.1).0 f)
  by true false e f g = absurd cc
  by false q e f g = absurd cc
