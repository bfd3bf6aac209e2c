-- The place of a name in a list, and what stands at that place of another.
use Rattle.std.proofs.Common.{◌≡◌, ℕ, zero, suc, ◌+◌, ◌<◌, List, [], ◌∷◌, Bool, true, false, not, cond, map, length, get_or, Option, Some, None, option_map, refl, sym, ap, subst, ◌∙◌, arith, position}
use Rattle.std.specs.Prelude.{nat_lt}
use Rattle.std.specs.List.{prefix_len}
use Rattle.std.specs.Str.{bytes_eq}
use Rattle.std.proofs.lemmas.List.{length-map}
use Rattle.std.proofs.lemmas.Bool.{lt-ltb}
use Rattle.std.proofs.lemmas.Bool.Decides.{nat_tests}
use Rattle.fb_model.specs.Names.{Name}
use Rattle.fb_model.specs.Typing.{body_named}
use Rattle.fb_model.specs.NetworkFaults.{Placed, placed_in}

-- the place of the first element that passes
unfoldable pub place : {X : Type 0} → (X → Bool) → List X → Option ℕ
place p [] = None
place p (x ∷ xs) = cond (p x) (Some 0) (option_map suc (place p xs))

less_suc : (n m : ℕ) → nat_lt (1 + n) (suc m) ≡ nat_lt n m
less_suc n m = grind (arith, nat_tests)

less_zero : (m : ℕ) → nat_lt 0 (suc m) ≡ true
less_zero m = lt-ltb 0 (suc m) (omega arith)

counted : (n : ℕ) (b : Bool) → cond b (Some (1 + n)) None ≡ option_map suc (cond b (Some n) None)
counted n true = ap Some (let e : 1 + n ≡ suc n = omega arith in e)
counted n false = refl

step : (n m : ℕ) (b : Bool) (o : Option ℕ) → cond (nat_lt n m) (Some n) None ≡ o → cond (nat_lt (cond (not b) (1 + n) 0) (suc m)) (Some (cond (not b) (1 + n) 0)) None ≡ cond b (Some 0) (option_map suc o)
step n m true o h = ap (λ b. cond b (Some 0) None) (less_zero m)
step n m false o h = ap (λ b. cond b (Some (1 + n)) None) (less_suc n m) ∙ counted n (nat_lt n m) ∙ ap (option_map suc) h

pub position_is : {X : Type 0} (p : X → Bool) (xs : List X) → position p xs ≡ place p xs
unfolding place
position_is p [] = refl
position_is p (x ∷ xs) = step (prefix_len (λ y. not (p y)) xs) (length xs) (p x) (place p xs) (position_is p xs)

suc_of : (o : Option ℕ) (i : ℕ) → option_map suc o ≡ Some i → (j : ℕ) × (o ≡ Some j) × (i ≡ suc j)
suc_of None i e = absurd cc
suc_of (Some j) i e = (j, refl, cc)

turn_body : (x y : Name) (i : Placed) (is : List Placed) (b : Placed)
    → ((j : ℕ) → place (bytes_eq x) (map (λ k. k.0) is) ≡ Some j → b ≡ get_or is j b → j < length is → body_named (placed_in is) x ≡ Some (b.2))
    → (t : Bool) → bytes_eq x (i.0) ≡ t → (n : ℕ) → cond t (Some 0) (option_map suc (place (bytes_eq x) (map (λ k. k.0) is))) ≡ Some n → b ≡ get_or (i ∷ is) n b → n < length (i ∷ is) → cond t (Some (i.2)) (body_named (placed_in is) x) ≡ Some (b.2)
turn_body x y i is b again true t zero e g l = ap (λ k. Some (k.2)) (sym g)
turn_body x y i is b again true t (suc n) e g l = absurd cc
turn_body x y i is b again false t n e g l =
    let j = suc_of (place (bytes_eq x) (map (λ k. k.0) is)) n e in
    again j.0 j.1 (subst (λ k. b ≡ get_or (i ∷ is) k b) j.2 g) (omega (arith, j.2))

body_found : (x : Name) (is : List Placed) (n : ℕ) (b : Placed) → place (bytes_eq x) (map (λ k. k.0) is) ≡ Some n → b ≡ get_or is n b → n < length is → body_named (placed_in is) x ≡ Some (b.2)
unfolding place
body_found x [] n b e g l = absurd cc
body_found x (i ∷ is) n b e g l =
    let same = turn_body x x i is b (λ j p q r. body_found x is j b p q r) (bytes_eq x (i.0)) refl n e g l in
    same

-- the instance at the place of a name is the one of that name
pub body_at : (x : Name) (names : List Name) (is : List Placed) (n : ℕ) (b : Placed) → place (bytes_eq x) names ≡ Some n → names ≡ map (λ k. k.0) is → b ≡ get_or is n b → n < length is → body_named (placed_in is) x ≡ Some (b.2)
body_at x names is n b e m g l = body_found x is n b (ap (place (bytes_eq x)) (sym m) ∙ e) g l

some_is : {X : Type 0} {x : X} → Some x ≡ None → ⊥
some_is e = cc

none_of : (o : Option ℕ) → option_map suc o ≡ None → o ≡ None
none_of None e = refl
none_of (Some n) e = absurd (some_is e)

-- one turn: where a name has no place, nothing is found by it
turn_none : {Y : Type 0} (t : Bool) (o : Option ℕ) (y : Y) (q : Option Y) → (o ≡ None → q ≡ None) → cond t (Some 0) (option_map suc o) ≡ None → cond t (Some y) q ≡ None
turn_none true o y q again e = absurd (some_is e)
turn_none false o y q again e = again (none_of o e)

pub no_body : (x : Name) (is : List Placed) → place (bytes_eq x) (map (λ k. k.0) is) ≡ None → body_named (placed_in is) x ≡ None
unfolding place
no_body x [] e = refl
no_body x (i ∷ is) e = turn_none (bytes_eq x (i.0)) (place (bytes_eq x) (map (λ k. k.0) is)) (i.2) (body_named (placed_in is) x) (no_body x is) e

turn_below : (t : Bool) (o : Option ℕ) (n m : ℕ) → ((j : ℕ) → o ≡ Some j → j < m) → cond t (Some 0) (option_map suc o) ≡ Some n → n < suc m
turn_below true o n m again e = let z : 0 ≡ n = cc in omega (arith, z)
turn_below false o n m again e = let j = suc_of o n e in let l = again j.0 j.1 in omega (arith, l, j.2)

-- a place lies within the list
pub place_below : {X : Type 0} (p : X → Bool) (xs : List X) (n : ℕ) → place p xs ≡ Some n → n < length xs
unfolding place
place_below p [] n e = absurd (some_is (sym e))
place_below p (x ∷ xs) n e = turn_below (p x) (place p xs) n (length xs) (λ j f. place_below p xs j f) e

-- a position among what a list is seen as
prefix_map : {X Y : Type 0} (p : Y → Bool) (f : X → Y) (xs : List X) → prefix_len p (map f xs) ≡ prefix_len (λ x. p (f x)) xs
prefix_map p f [] = refl
prefix_map p f (x ∷ xs) = ap (λ n. cond (p (f x)) (1 + n) 0) (prefix_map p f xs)

pub position_map : {X Y : Type 0} (p : Y → Bool) (f : X → Y) (xs : List X) → position p (map f xs) ≡ position (λ x. p (f x)) xs
position_map p f xs = rw (length-map xs f, prefix_map (λ y. not (p y)) f xs)
