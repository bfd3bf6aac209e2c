-- What holds of each element, one after another.
use Rattle.std.proofs.Common.{◌≡◌, ℕ, suc, ◌+◌, ◌<◌, List, ◌∷◌, length, get_or, drop, sym, ap, subst, ◌∙◌, arith}
use Rattle.std.specs.List.{Any, AllByRecursion}
use Rattle.std.proofs.Math.Seq.{drop-cons}

-- one holds, so all do where the others behind it do
pub all_on : {X : Type 0} (P : X → Type 0) (xs : List X) (i : ℕ) (x : X) → i < length xs → x ≡ get_or xs i x → P x → (AllByRecursion P (drop i xs) → AllByRecursion P xs) → AllByRecursion P (drop (i + 1) xs) → AllByRecursion P xs
all_on P xs i x l e p before rest =
    let here : drop i xs ≡ x ∷ drop (suc i) xs = drop-cons xs i x l ∙ ap (λ y. y ∷ drop (suc i) xs) (sym e) in
    let next : i + 1 ≡ suc i = omega arith in
    before (subst (AllByRecursion P) (sym here) (p, subst (λ n. AllByRecursion P (drop n xs)) next rest))

pub any_at : {X : Type 0} (P : X → Type 0) (xs : List X) (i : ℕ) (x : X) → i < length xs → x ≡ get_or xs i x → P x → Any P xs
any_at P xs i x l e p = (i, x, l, sym e, p)
