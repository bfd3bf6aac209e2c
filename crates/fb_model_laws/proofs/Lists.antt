-- What holds of all of a list that is made of lists.
use Rattle.std.proofs.Common.{ℕ, ◌≡◌, ◌+◌, ◌↔◌, List, [], ◌∷◌, ◌++◌, map, refl, sym, ◌∙◌, ap}
use Rattle.std.specs.List.{sum_by, flat_map, AllByRecursion}
use Rattle.std.proofs.lemmas.List.Sums.{sum_by-cons}

pub sum_by-map : {X Y : Type 0} (f : X → ℕ) (g : Y → X) (ys : List Y) → sum_by f (map g ys) ≡ sum_by (λ y. f (g y)) ys
sum_by-map f g [] = refl
sum_by-map f g (y ∷ ys) = sum_by-cons f (g y) (map g ys) ∙ (ap (λ n. f (g y) + n) (sum_by-map f g ys) ∙ sym (sum_by-cons (λ z. f (g z)) y ys))

pub all_append : {X : Type 0} (P : X → Type 0) (xs ys : List X) → (AllByRecursion P xs × AllByRecursion P ys) ↔ AllByRecursion P (xs ++ ys)
all_append P [] ys = (λ h. h.1, λ h. (tt, h))
all_append P (x ∷ xs) ys = (λ h. (h.0.0, (all_append P xs ys).0 (h.0.1, h.1)), λ h. let r = (all_append P xs ys).1 h.1 in ((h.0, r.0), r.1))

pub all_flat : {X Y : Type 0} (P : Y → Type 0) (Q : X → Type 0) (f : X → List Y) → ((x : X) → Q x ↔ AllByRecursion P (f x)) → (xs : List X) → AllByRecursion Q xs ↔ AllByRecursion P (flat_map f xs)
all_flat P Q f e [] = (λ h. tt, λ h. tt)
all_flat P Q f e (x ∷ xs) =
    (λ h. (all_append P (f x) (flat_map f xs)).0 ((e x).0 h.0, (all_flat P Q f e xs).0 h.1), λ h. let r = (all_append P (f x) (flat_map f xs)).1 h in ((e x).1 r.0, (all_flat P Q f e xs).1 r.1))

pub all_map : {X Y : Type 0} (P : Y → Type 0) (Q : X → Type 0) (f : X → Y) → ((x : X) → Q x ↔ P (f x)) → (xs : List X) → AllByRecursion Q xs ↔ AllByRecursion P (map f xs)
all_map P Q f e [] = (λ h. tt, λ h. tt)
all_map P Q f e (x ∷ xs) = (λ h. ((e x).0 h.0, (all_map P Q f e xs).0 h.1), λ h. ((e x).1 h.0, (all_map P Q f e xs).1 h.1))
