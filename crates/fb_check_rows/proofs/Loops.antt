-- What holds of each element, one after another.
use Rattle.std.proofs.Common.{◌≡◌, ℕ, suc, ◌+◌, ◌<◌, List, ◌∷◌, length, get_or, drop, sym, ap, subst, ◌∙◌, arith}
use Rattle.std.specs.Prelude.{Result, Ok, Err, OnOk, IfOk, IfErr}
use Rattle.std.specs.List.{Any, AllByRecursion}
use Rattle.std.proofs.Math.Seq.{drop-cons}

-- one holds, so all do where the others behind it do
pub all_on : {X : Type 0} (P : X → Type 0) (xs : List X) (i : ℕ) (x : X) → i < length xs → x ≡ get_or xs i x → P x → (AllByRecursion P (drop i xs) → AllByRecursion P xs) → AllByRecursion P (drop (i + 1) xs) → AllByRecursion P xs
all_on P xs i x l e p before rest =
    let here : drop i xs ≡ x ∷ drop (suc i) xs = drop-cons xs i x l ∙ ap (λ y. y ∷ drop (suc i) xs) (sym e) in
    let next : i + 1 ≡ suc i = omega arith in
    before (subst (AllByRecursion P) (sym here) (p, subst (λ n. AllByRecursion P (drop n xs)) next rest))

-- the same where the list is read by another name
pub all_in : {X : Type 0} (P : X → Type 0) (xs ys : List X) (i : ℕ) (x : X) → ys ≡ xs → i < length ys → x ≡ get_or ys i x → P x → (AllByRecursion P (drop i xs) → AllByRecursion P xs) → AllByRecursion P (drop (i + 1) xs) → AllByRecursion P xs
all_in P xs ys i x same l e = all_on P xs i x (subst (λ zs. i < length zs) same l) (subst (λ zs. x ≡ get_or zs i x) same e)

pub any_in : {X : Type 0} (P : X → Type 0) (xs ys : List X) (i : ℕ) (x : X) → ys ≡ xs → i < length ys → x ≡ get_or ys i x → P x → Any P xs
any_in P xs ys i x same l e p = (i, x, subst (λ zs. i < length zs) same l, sym (subst (λ zs. x ≡ get_or zs i x) same e), p)

pub on_ok : {A E : Type 0} {P Q : Type 0} (r : Result A E) → (P → Q) → OnOk r P → OnOk r Q
on_ok (Ok a) f h = f h
on_ok (Err e) f h = tt

pub err_weaker : {X E : Type 0} (P Q : E → Type 0) → ((e : E) → P e → Q e) → (r : Result X E) → IfErr r P → IfErr r Q
err_weaker P Q g (Ok x) h = tt
err_weaker P Q g (Err e) h = g e h

pub ok_weaker : {X E : Type 0} (P Q : X → Type 0) → ((x : X) → P x → Q x) → (r : Result X E) → IfOk r P → IfOk r Q
ok_weaker P Q g (Ok x) h = g x h
ok_weaker P Q g (Err e) h = tt
