-- Lists, and what is so of their elements.
use Rattle.std.proofs.Common.{◌≡◌, ◌↔◌, ℕ, zero, suc, ◌+◌, ◌<◌, ◌≤◌, ◌++◌, List, [], ◌∷◌, map, take, drop, length, get_or, sym, ap, subst, ◌∙◌, arith}
use Rattle.std.specs.List.{AllByRecursion, Any}
use Rattle.std.proofs.lemmas.List.{take_more}
use Rattle.std.proofs.Math.Seq.{drop-cons}
use Rattle.fb_lists.proofs.Lists.{all_here}
use Rattle.fb_model.proofs.Lists.{all_append}

-- ---- in order

pub all_more : {X : Type 0} (P : X → Type 0) (xs : List X) (i : ℕ) (x : X) → i < length xs → x ≡ get_or xs i x → AllByRecursion P (take i xs) → P x → AllByRecursion P (take (i + 1) xs)
all_more P xs i x h e all p = subst (AllByRecursion P) (sym (take_more xs i x h ∙ ap (λ y. take i xs ++ y ∷ []) (sym e))) (all_append P (take i xs) (x ∷ []) all (p, tt))

-- one holds, so all do where the others behind it do
pub all_on : {X : Type 0} (P : X → Type 0) (xs : List X) (i : ℕ) (x : X) → i < length xs → x ≡ get_or xs i x → P x → (AllByRecursion P (drop i xs) → AllByRecursion P xs) → AllByRecursion P (drop (i + 1) xs) → AllByRecursion P xs
all_on P xs i x l e p before rest =
    let here : drop i xs ≡ x ∷ drop (suc i) xs = drop-cons xs i x l ∙ ap (λ y. y ∷ drop (suc i) xs) (sym e) in
    let next : i + 1 ≡ suc i = omega arith in
    before (subst (AllByRecursion P) (sym here) (p, subst (λ n. AllByRecursion P (drop n xs)) next rest))

-- ---- one of them

pub any_at : {X : Type 0} (P : X → Type 0) (xs : List X) (i : ℕ) (x : X) → i < length xs → x ≡ get_or xs i x → P x → Any P xs
any_at P xs i x l e p = (i, x, l, sym e, p)

-- one of which P is so, with what is so of all
pub any_with : {X : Type 0} (T P : X → Type 0) (xs : List X) → AllByRecursion T xs → Any P xs → (x : X) × T x × P x
any_with T P xs t h = (h.1, all_here T xs h.0 h.1 t h.2 h.3, h.4)

pub any_weaker : {X : Type 0} (T P Q : X → Type 0) (xs : List X) → AllByRecursion T xs → ((x : X) → T x → P x → Q x) → Any P xs → Any Q xs
any_weaker T P Q xs t f h = (h.0, h.1, h.2, h.3, f h.1 (all_here T xs h.0 h.1 t h.2 h.3) h.4)

-- ---- images

pub all_image_where : {X Y : Type 0} (T P : X → Type 0) (Q : Y → Type 0) (f : X → Y) (xs : List X) → AllByRecursion T xs → ((x : X) → T x → P x → Q (f x)) → AllByRecursion P xs → AllByRecursion Q (map f xs)
all_image_where T P Q f [] t g h = tt
all_image_where T P Q f (x ∷ xs) t g h = (g x t.0 h.0, all_image_where T P Q f xs t.1 g h.1)

pub all_over : {X Y : Type 0} (Q : Y → Type 0) (f : X → Y) (xs : List X) → AllByRecursion (λ x. Q (f x)) xs → AllByRecursion Q (map f xs)
all_over Q f [] h = tt
all_over Q f (x ∷ xs) h = (h.0, all_over Q f xs h.1)

pub all_both : {X : Type 0} (P Q : X → Type 0) (xs : List X) → AllByRecursion P xs → AllByRecursion Q xs → AllByRecursion (λ x. P x × Q x) xs
all_both P Q [] p q = tt
all_both P Q (x ∷ xs) p q = ((p.0, q.0), all_both P Q xs p.1 q.1)

pub all_parts : {X : Type 0} (P : X → Type 0) (xs ys : List X) → AllByRecursion P (xs ++ ys) → AllByRecursion P xs × AllByRecursion P ys
all_parts P [] ys h = (tt, h)
all_parts P (x ∷ xs) ys h = let k = all_parts P xs ys h.1 in ((h.0, k.0), k.1)

-- ---- the same on both sides

pub same : {A : Type 0} (P : A → Type 0) (x y : A) → x ≡ y → P x ↔ P y
same P x y e = (subst P e, subst P (sym e))

pub all_dropped : {X Y : Type 0} (P : Y → Type 0) (f : X → Y) (xs : List X) (i : ℕ) → length xs ≤ i → AllByRecursion P (drop i (map f xs))
all_dropped P f [] zero h = tt
all_dropped P f [] (suc i) h = tt
all_dropped P f (x ∷ xs) zero h = absurd (omega (arith, h))
all_dropped P f (x ∷ xs) (suc i) h = all_dropped P f xs i (omega (arith, h))
