-- What is so of each element, and refusals that name one.
use Rattle.std.proofs.Common.{◌≡◌, ℕ, zero, suc, ◌+◌, ◌<◌, ◌++◌, List, [], ◌∷◌, map, take, length, get_or, slice_get, Some, Result, Ok, Err, sym, ap, subst, ◌∙◌, arith}
use Rattle.std.specs.List.{AllByRecursion, Any}
use Rattle.std.proofs.lemmas.List.{take_more}
use Rattle.fb_model.specs.Names.{Name}
use Rattle.fb_model.proofs.Lists.{all_append}
use Rattle.fb_faults.specs.declared.shortfall.Shortfall.{Shortfall}
use Rattle.fb_faults.specs.declared.shortfall.Shortfall.TheVariants.{OutOfMemory, Charge, Weight, Channel}
use Rattle.fb_check_columns.specs.Paying.{IsCharge, IsWeight, Names}
use Rattle.fb_check_columns.proofs.Lists.{image_at}

pub all_more : {X : Type 0} (P : X → Type 0) (xs : List X) (i : ℕ) (x : X) → i < length xs → x ≡ get_or xs i x → AllByRecursion P (take i xs) → P x → AllByRecursion P (take (i + 1) xs)
all_more P xs i x h e all p = subst (AllByRecursion P) (sym (take_more xs i x h ∙ ap (λ y. take i xs ++ y ∷ []) (sym e))) (all_append P (take i xs) (x ∷ []) all (p, tt))

-- the same among images
pub more_images : {X Y : Type 0} (P : Y → Type 0) (f : X → Y) (xs : List X) (i : ℕ) (x : X) → i < length xs → AllByRecursion P (take i (map f xs)) → P (f (get_or xs i x)) → AllByRecursion P (take (i + 1) (map f xs))
more_images P f xs i x l all p =
    let k = image_at f xs i x l in
    all_more P (map f xs) i (f (get_or xs i x)) k.0 (sym k.1) all p

pub charge_weaker : (path : Name) (P Q : Name → Type 0) (e : Shortfall) → ((y : Name) → P y → Q y) → IsCharge path P e → IsCharge path Q e
charge_weaker path P Q OutOfMemory f h = tt
charge_weaker path P Q (Charge row) f h = (h.0, h.1, f h.0 h.2)
charge_weaker path P Q (Weight row) f h = absurd h
charge_weaker path P Q (Channel number) f h = absurd h

pub weight_weaker : (path : Name) (P Q : Name → Type 0) (e : Shortfall) → ((y : Name) → P y → Q y) → IsWeight path P e → IsWeight path Q e
weight_weaker path P Q OutOfMemory f h = tt
weight_weaker path P Q (Weight row) f h = (h.0, h.1, f h.0 h.2)
weight_weaker path P Q (Charge row) f h = absurd h
weight_weaker path P Q (Channel number) f h = absurd h

pub one_charge : {X : Type 0} (path : Name) (name : X → Name) (P : X → Type 0) (xs : List X) (i : ℕ) (x : X) (e : Shortfall) → i < length xs → x ≡ get_or xs i x
    → IsCharge path (λ y. (name x ≡ y) × (P x → ⊥)) e → IsCharge path (λ y. Any (λ z. (name z ≡ y) × (P z → ⊥)) xs) e
one_charge path name P xs i x e h g k = charge_weaker path _ _ e (λ y p. (i, x, h, sym g, p)) k

pub one_weight : {X : Type 0} (path : Name) (name : X → Name) (P : X → Type 0) (xs : List X) (i : ℕ) (x : X) (e : Shortfall) → i < length xs → x ≡ get_or xs i x
    → IsWeight path (λ y. (name x ≡ y) × (P x → ⊥)) e → IsWeight path (λ y. Any (λ z. (name z ≡ y) × (P z → ⊥)) xs) e
one_weight path name P xs i x e h g k = weight_weaker path _ _ e (λ y p. (i, x, h, sym g, p)) k

-- the item at an index, among images
pub got_at : {X Y : Type 0} (f : X → Y) (xs : List X) (i : ℕ) (x : X) → Some x ≡ slice_get xs i → (i < length (map f xs)) × (f x ≡ get_or (map f xs) i (f x))
got_at f [] i x h = absurd cc
got_at f (y ∷ ys) zero x h = let e : x ≡ y = cc in (omega arith, ap f e)
got_at f (y ∷ ys) (suc i) x h = let k = got_at f ys i x h in (omega (arith, k.0), k.1)

pub names_charge : (path x y : Name) (P Q : Type 0) (r : Result (Unit {0}) Shortfall) → x ≡ y → (P → Q) → (Q → P) → Names (IsCharge path) x P r → Names (IsCharge path) y Q r
names_charge path x y P Q (Ok u) e f g h = f h
names_charge path x y P Q (Err d) e f g h = charge_weaker path _ _ d (λ z p. (sym e ∙ p.0, λ q. p.1 (g q))) h
