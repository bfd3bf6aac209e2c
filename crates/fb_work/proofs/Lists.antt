-- Lists, one item at a time.
use Rattle.std.proofs.Common.{◌≡◌, ℕ, zero, suc, ◌+◌, ◌<◌, ◌≤◌, List, [], ◌∷◌, ◌++◌, map, length, drop, get_or, slice_get, Some, refl, sym, ◌∙◌, ap, subst, append_assoc, string_bytes, arith}
use Rattle.std.specs.List.{AllByRecursion, Any}
use Rattle.std.proofs.lemmas.Option.{slice_get_read}
use Rattle.std.proofs.lemmas.List.{append-nil}
use Rattle.std.specs.declared.string.String.{String}
use Rattle.std.specs.declared.alloc.Global.{Global}
use Rattle.fb_model.specs.System.{Procedure}
use Rattle.st_types.specs.declared.whole.Algo.{Algo}
use Rattle.st_types.specs.CommandViews.{commands_of}
use Rattle.fb_find_laws.specs.Nodes.{Numbered}
use Rattle.fb_find_demands.specs.declared.right.Right.{Right}
use Rattle.fb_find_demands.specs.Rights.{right_of, rights_of}
use Rattle.fb_find_demands.proofs.Loops.{drop_all, rest_at}
use Rattle.fb_work.specs.Demands.{charged}

-- ---- what is so of one

pub any_first : {X : Type 0} (P : X → Type 0) (x : X) (xs : List X) → P x → Any P (x ∷ xs)
any_first P x xs p = (zero, x, omega arith, refl, p)

pub any_later : {X : Type 0} (P : X → Type 0) (x : X) (xs : List X) → Any P xs → Any P (x ∷ xs)
any_later P x xs (k, y, l, e, p) = (suc k, y, omega (arith, l), e, p)

pub any_at : {X : Type 0} (P : X → Type 0) (xs : List X) (i : ℕ) (x : X) → Some x ≡ slice_get xs i → P x → Any P xs
any_at P [] i x e p = absurd cc
any_at P (y ∷ xs) zero x e p = let same : x ≡ y = cc in any_first P y xs (subst P same p)
any_at P (y ∷ xs) (suc i) x e p = any_later P y xs (any_at P xs i x e p)

pub any_mapped : {X Y : Type 0} (f : X → Y) (P : Y → Type 0) (xs : List X) (i : ℕ) (x : X) → Some x ≡ slice_get xs i → P (f x) → Any P (map f xs)
any_mapped f P [] i x e p = absurd cc
any_mapped f P (y ∷ xs) zero x e p = let same : x ≡ y = cc in any_first P (f y) (map f xs) (subst (λ z. P (f z)) same p)
any_mapped f P (y ∷ xs) (suc i) x e p = any_later P (f y) (map f xs) (any_mapped f P xs i x e p)

pub any_left : {X : Type 0} (P : X → Type 0) (xs ys : List X) → Any P xs → Any P (xs ++ ys)
any_left P [] ys (k, x, l, e, p) = absurd (omega (arith, l))
any_left P (z ∷ xs) ys (zero, x, l, e, p) = (zero, x, omega arith, e, p)
any_left P (z ∷ xs) ys (suc k, x, l, e, p) = any_later P z (xs ++ ys) (any_left P xs ys (k, x, omega (arith, l), e, p))

pub any_right : {X : Type 0} (P : X → Type 0) (xs ys : List X) → Any P ys → Any P (xs ++ ys)
any_right P [] ys a = a
any_right P (z ∷ xs) ys a = any_later P z (xs ++ ys) (any_right P xs ys a)

-- what is so of all is so of one
pub each_at : {X : Type 0} (P : X → Type 0) (xs : List X) (i : ℕ) (x : X) → Some x ≡ slice_get xs i → AllByRecursion P xs → P x
each_at P [] i x e h = absurd cc
each_at P (y ∷ xs) zero x e h = let same : x ≡ y = cc in subst P (sym same) h.0
each_at P (y ∷ xs) (suc i) x e h = each_at P xs i x e h.1

-- an item that is read stands there
pub got_at : {X : Type 0} (xs : List X) (i : ℕ) (x : X) → i < length xs → x ≡ get_or xs i x → Some x ≡ slice_get xs i
got_at xs i x l e = sym (slice_get_read xs (length xs) i x refl l e)

pub got_or : {X : Type 0} (xs : List X) (i : ℕ) (d : X) → i < length xs → Some (get_or xs i d) ≡ slice_get xs i
got_or [] i d l = absurd (omega (arith, l))
got_or (x ∷ xs) zero d l = refl
got_or (x ∷ xs) (suc i) d l = got_or xs i d (omega (arith, l))

-- ---- algorithms

abbrev pub procedure : String Global × Algo → Procedure
procedure p = record { name = string_bytes p.0; algorithm = commands_of p.1.statements.items }

-- ---- demands with works

-- what comes of the rest
abbrev pub charged_from : ℕ → List ℕ → List Right → List Numbered
charged_from i works rights = charged (drop i works) (rights_of (drop i rights))

none_charged : (works : List ℕ) → charged works [] ≡ []
none_charged [] = refl
none_charged (n ∷ ns) = refl

abbrev worked : Numbered → ℕ → Numbered
worked r work = record { node = r.node; constant = work; terms = r.terms }

-- one demand more
pub charged_more : (works : List ℕ) (rights : List Right) (i n : ℕ) (r : Right) (x : Numbered) (old new whole : List Numbered)
    → Some n ≡ slice_get works i → Some r ≡ slice_get rights i → x ≡ worked (right_of r) n → new ≡ old ++ x ∷ []
    → old ++ charged_from i works rights ≡ whole → new ++ charged_from (i + 1) works rights ≡ whole
charged_more works rights i n r x old new whole w s is e h =
    let rest = charged_from (i + 1) works rights in
    let here : charged_from i works rights ≡ worked (right_of r) n ∷ rest =
    ap (λ ns. charged ns (rights_of (drop i rights))) (rest_at works i n w) ∙ ap (λ rs. charged (n ∷ drop (i + 1) works) (rights_of rs)) (rest_at rights i r s) in
    ap (λ ys. ys ++ rest) e ∙ append_assoc old (x ∷ []) rest ∙ ap (λ y. old ++ y ∷ rest) is ∙ ap (λ ys. old ++ ys) (sym here) ∙ h

-- no demand is left
pub charged_end : (works : List ℕ) (rights : List Right) (i : ℕ) (old whole : List Numbered) → length rights ≤ i
    → old ++ charged_from i works rights ≡ whole → old ≡ whole
charged_end works rights i old whole l h =
    sym (append-nil old) ∙ ap (λ ys. old ++ ys) (sym (none_charged (drop i works))) ∙ ap (λ rs. old ++ charged (drop i works) (rights_of rs)) (sym (drop_all rights i l)) ∙ h

-- no work is left
pub charged_done : (works : List ℕ) (rights : List Right) (i : ℕ) (old whole : List Numbered) → length works ≤ i
    → old ++ charged_from i works rights ≡ whole → old ≡ whole
charged_done works rights i old whole l h =
    sym (append-nil old) ∙ ap (λ ns. old ++ charged ns (rights_of (drop i rights))) (sym (drop_all works i l)) ∙ h
