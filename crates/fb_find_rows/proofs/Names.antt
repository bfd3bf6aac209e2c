-- The first two names of a path.
use Rattle.std.proofs.Common.{ℕ, suc, ◌≡◌, ◌≢◌, ◌<◌, ◌==◌, Bool, true, false, cond, List, [], ◌∷◌, ◌++◌, length, take, Option, None, Some, MatchOption, Result, Ok, Err, IfOk, slice_index, refl, sym, ◌∙◌, ap, subst, arith, Bor}
use Rattle.std.specs.List.{onto_first}
use Rattle.std.proofs.lemmas.Bool.{eqb-true}
use Rattle.std.proofs.lemmas.Str.Pattern.{IsSplitOnceResult, split_parts}
use Rattle.fb_model.specs.CertificateText.{names_in}

-- no dot is in a text
abbrev HasNone : List ℕ → Type 0
HasNone xs = (i : ℕ) → i < length xs → slice_index xs i ≢ 46

not_dot : (c : ℕ) → c ≢ 46 → (c == 46) ≡ false
not_dot c h = by (c == 46) refl where
  by : (b : Bool) → (c == 46) ≡ b → b ≡ false
  by true e = absurd (h (eqb-true c 46 e))
  by false e = refl

alone : (xs : List ℕ) → HasNone xs → names_in xs ≡ xs ∷ []
alone [] h = refl
alone (x ∷ xs) h =
    ap (λ b. cond b ([] ∷ names_in xs) (onto_first x (names_in xs))) (not_dot x (h 0 (omega arith)))
    ∙ ap (onto_first x) (alone xs (λ i l. h (suc i) (omega (arith, l))))

front : (xs ys : List ℕ) → HasNone xs → names_in (xs ++ 46 ∷ ys) ≡ xs ∷ names_in ys
front [] ys h = refl
front (x ∷ xs) ys h =
    ap (λ b. cond b ([] ∷ names_in (xs ++ 46 ∷ ys)) (onto_first x (names_in (xs ++ 46 ∷ ys)))) (not_dot x (h 0 (omega arith)))
    ∙ ap (onto_first x) (front xs ys (λ i l. h (suc i) (omega (arith, l))))

pub none_from : (path : List ℕ) (r : Option (Bor (List ℕ) × Bor (List ℕ))) → IsSplitOnceResult 46 path r → r ≡ None → names_in path ≡ path ∷ []
none_from path r h e = alone path (subst (λ (o : Option (Bor (List ℕ) × Bor (List ℕ))). MatchOption o (HasNone path) (λ x. (path ≡ x.0.now ++ (46 ∷ x.1.now)) × HasNone x.0.now)) e (split_parts 46 path r h (omega arith)))

pub some_from : (path : List ℕ) (r : Option (Bor (List ℕ) × Bor (List ℕ))) (x : Bor (List ℕ) × Bor (List ℕ)) → IsSplitOnceResult 46 path r → r ≡ Some x → (names_in path ≡ x.0.now ∷ names_in x.1.now) × HasNone x.0.now
some_from path r x h e =
    let k = subst (λ (o : Option (Bor (List ℕ) × Bor (List ℕ))). MatchOption o (HasNone path) (λ x. (path ≡ x.0.now ++ (46 ∷ x.1.now)) × HasNone x.0.now)) e (split_parts 46 path r h (omega arith)) in
    (ap names_in k.0 ∙ front x.0.now x.1.now k.1, k.1)

-- one name
pub one : (path : List ℕ) → names_in path ≡ path ∷ [] → names_in path ≡ take 2 (names_in path)
one path e = e ∙ ap (take 2) (sym e)

-- two names
pub two : (path device rest : List ℕ) → names_in path ≡ device ∷ names_in rest → names_in rest ≡ rest ∷ [] → names_in path ≡ take 2 (names_in path)
two path device rest e f = let g : names_in path ≡ device ∷ rest ∷ [] = e ∙ ap (λ ns. device ∷ ns) f in g ∙ ap (take 2) (sym g)

-- more names
pub more : (path device rest resource other : List ℕ) → HasNone device → HasNone resource → names_in path ≡ device ∷ names_in rest → names_in rest ≡ resource ∷ names_in other → names_in (device ++ 46 ∷ resource) ≡ take 2 (names_in path)
more path device rest resource other h k e f =
    let g : names_in path ≡ device ∷ resource ∷ names_in other = e ∙ ap (λ ns. device ∷ ns) f in
    front device resource h ∙ (ap (λ ns. device ∷ ns) (alone resource k) ∙ ap (take 2) (sym g))

pub if_ok : {X E : Type 0} {P Q : X → Type 0} → ((x : X) → P x → Q x) → (r : Result X E) → IfOk r P → IfOk r Q
if_ok f (Ok x) h = f x h
if_ok f (Err e) h = tt
