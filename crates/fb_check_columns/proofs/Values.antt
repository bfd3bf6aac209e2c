-- Look-ups by the place of a name.
use Rattle.std.proofs.Common.{◌≡◌, ℕ, zero, suc, ◌+◌, ◌<◌, ◌≤◌, drop, map, List, [], ◌∷◌, ◌++◌, Bool, true, false, cond, length, get_or, slice_get, Option, Some, None, option_map, refl, sym, ap, subst, ◌∙◌, position, string_bytes, Global, arith}
use Rattle.std.specs.Prelude.{min}
use Rattle.std.specs.declared.string.String.{String}
use Rattle.indexmap.specs.IndexMap.{IndexMap, keys}
use Rattle.std.specs.Str.{bytes_eq}
use Rattle.std.proofs.Math.Seq.{drop-cons}
use Rattle.std.specs.List.{sum_by}
use Rattle.std.proofs.lemmas.List.Sums.{sum_by-drop_more, sum_by-cons}
use Rattle.fb_model.specs.Names.{Name}
use Rattle.fb_model.specs.CertificateText.{most_steps}
use Rattle.fb_model.proofs.Lists.{same_name}
use Rattle.fb_types_networks.proofs.Places.{place, position_is, position_map}
use Rattle.fb_check_columns.specs.Sums.{IsSum}
use Rattle.fb_check_columns.specs.Reckoning.{table_names, value_at, AreSums}

abbrev pub by_place : {A : Type 0} → List A → A → Option ℕ → A
by_place xs other None = other
by_place xs other (Some i) = get_or xs i other

turn : {A : Type 0} (y : A) (ys : List A) (other : A) (b : Bool) (o : Option ℕ) → cond b y (by_place ys other o) ≡ by_place (y ∷ ys) other (cond b (Some 0) (option_map suc o))
turn y ys other true o = refl
turn y ys other false None = refl
turn y ys other false (Some i) = refl

empty : {A : Type 0} (other : A) (o : Option ℕ) → other ≡ by_place [] other o
empty other None = refl
empty other (Some zero) = refl
empty other (Some (suc i)) = refl

pub value_is : {A : Type 0} (ns : List Name) (xs : List A) (other : A) (x : Name) → value_at ns xs other x ≡ by_place xs other (place (bytes_eq x) ns)
unfolding place
value_is [] xs other x = refl
value_is (n ∷ ns) [] other x = empty other (cond (bytes_eq x n) (Some 0) (option_map suc (place (bytes_eq x) ns)))
value_is (n ∷ ns) (y ∷ ys) other x = ap (cond (bytes_eq x n) y) (value_is ns ys other x) ∙ turn y ys other (bytes_eq x n) (place (bytes_eq x) ns)

pub value_some : {A : Type 0} (ns : List Name) (xs : List A) (other y : A) (x : Name) (i : ℕ) → place (bytes_eq x) ns ≡ Some i → y ≡ get_or xs i other → y ≡ value_at ns xs other x
value_some ns xs other y x i h e = e ∙ ap (by_place xs other) (sym h) ∙ sym (value_is ns xs other x)

pub value_none : {A : Type 0} (ns : List Name) (xs : List A) (other : A) (x : Name) → place (bytes_eq x) ns ≡ None → other ≡ value_at ns xs other x
value_none ns xs other x h = ap (by_place xs other) (sym h) ∙ sym (value_is ns xs other x)

past : {A : Type 0} (xs : List A) (i : ℕ) (other : A) → length xs ≤ i → get_or xs i other ≡ other
past [] zero other h = refl
past [] (suc i) other h = refl
past (x ∷ xs) zero other h = absurd (omega arith)
past (x ∷ xs) (suc i) other h = past xs i other (omega arith)

pub value_past : {A : Type 0} (ns : List Name) (xs : List A) (other : A) (x : Name) (i : ℕ) → place (bytes_eq x) ns ≡ Some i → length xs ≤ i → other ≡ value_at ns xs other x
value_past ns xs other x i h l = value_some ns xs other other x i h (sym (past xs i other l))

pick : (b : Bool) (s t : Option ℕ) (n m : ℕ) → IsSum s n → IsSum t m → IsSum (cond b s t) (cond b n m)
pick true s t n m h k = h
pick false s t n m h k = k

-- the sum at a name is the sum of the number there
pub sum_at : (names : List Name) (ss : List (Option ℕ)) (ns : List ℕ) (x : Name) → AreSums ss ns → IsSum (value_at names ss (Some 0) x) (value_at names ns 0 x)
sum_at [] ss ns x h = refl
sum_at (n ∷ names) [] [] x h = refl
sum_at (n ∷ names) [] (m ∷ ns) x h = absurd h
sum_at (n ∷ names) (s ∷ ss) [] x h = absurd h
sum_at (n ∷ names) (s ∷ ss) (m ∷ ns) x h = pick (bytes_eq x n) s (value_at names ss (Some 0) x) m (value_at names ns 0 x) h.0 (sum_at names ss ns x h.1)

pub more_sums : (ss : List (Option ℕ)) (ns : List ℕ) (s : Option ℕ) (n : ℕ) → AreSums ss ns → IsSum s n → AreSums (ss ++ s ∷ []) (ns ++ n ∷ [])
more_sums [] [] s n h k = (k, tt)
more_sums [] (m ∷ ns) s n h k = absurd h
more_sums (t ∷ ss) [] s n h k = absurd h
more_sums (t ∷ ss) (m ∷ ns) s n h k = (h.0, more_sums ss ns s n h.1 k)

-- one more summand
pub sum_step : {X : Type 0} (f : X → ℕ) (xs : List X) (i : ℕ) (x : X) → i < length xs → x ≡ get_or xs i x → (v n total : ℕ) → n ≡ f x → v + sum_by f (drop i xs) ≡ total → (v + n) + sum_by f (drop (i + 1) xs) ≡ total
sum_step f xs i x h e v n total m k =
    let s : sum_by f (drop i xs) ≡ f x + sum_by f (drop (i + 1) xs) = sum_by-drop_more f xs i x h ∙ ap (λ y. f y + sum_by f (drop (i + 1) xs)) (sym e) in
    omega (arith, s, k, m)

-- one more summand, among images
pub sum_image : {X Y : Type 0} (f : Y → ℕ) (h : X → Y) (xs : List X) (i : ℕ) (x : X) → i < length xs → (v total : ℕ) → v + sum_by f (map h (drop i xs)) ≡ total → (v + f (h (get_or xs i x))) + sum_by f (map h (drop (i + 1) xs)) ≡ total
sum_image f h xs i x l v total k =
    let y = get_or xs i x in
    let s : sum_by f (map h (drop i xs)) ≡ f (h y) + sum_by f (map h (drop (suc i) xs)) = ap (λ ys. sum_by f (map h ys)) (drop-cons xs i x l) ∙ sum_by-cons f (h y) (map h (drop (suc i) xs)) in
    let next : suc i ≡ i + 1 = omega arith in
    let t : sum_by f (map h (drop (suc i) xs)) ≡ sum_by f (map h (drop (i + 1) xs)) = ap (λ n. sum_by f (map h (drop n xs))) next in
    omega (arith, s, t, k)

-- ---- numbers of names

-- the index of a name in a table is its place among the names
pub placed : {V S : Type 0} (m : IndexMap (String Global) V S) (x : Name) → place (bytes_eq x) (table_names m) ≡ position (λ s. bytes_eq x (string_bytes s)) (keys m)
placed m x = sym (position_is (bytes_eq x) (table_names m)) ∙ position_map (bytes_eq x) (λ e. string_bytes e.0) m.entries ∙ sym (position_map (λ s. bytes_eq x (string_bytes s)) (λ e. e.0) m.entries)

suc_of : (o : Option ℕ) (i : ℕ) → option_map suc o ≡ Some i → (j : ℕ) × (o ≡ Some j) × (i ≡ suc j)
suc_of None i e = absurd cc
suc_of (Some j) i e = (j, refl, cc)

-- the item at the place of a name is the name
pub placed_name : (ns : List Name) (x : Name) (i : ℕ) → place (bytes_eq x) ns ≡ Some i → Some x ≡ slice_get ns i
unfolding place
placed_name [] x i h = absurd cc
placed_name (n ∷ ns) x i h = by (bytes_eq x n) refl (λ j e. placed_name ns x j e) i h where
  by : (b : Bool) → bytes_eq x n ≡ b → ((j : ℕ) → place (bytes_eq x) ns ≡ Some j → Some x ≡ slice_get ns j) → (i : ℕ) → cond b (Some 0) (option_map suc (place (bytes_eq x) ns)) ≡ Some i → Some x ≡ slice_get (n ∷ ns) i
  by true e rest zero h = ap Some (same_name x n e)
  by true e rest (suc i) h = absurd cc
  by false e rest i h = let j = suc_of (place (bytes_eq x) ns) i h in subst (λ k. Some x ≡ slice_get (n ∷ ns) k) (sym j.2) (rest j.0 j.1)

-- the number at a place is that of the name there
pub number_at : (f : Name → ℕ) (ns : List Name) (xs : List ℕ) (x : Name) (i other : ℕ) → xs ≡ map f ns → Some x ≡ slice_get ns i → get_or xs i other ≡ f x
number_at f ns xs x i other e h = ap (λ ys. get_or ys i other) e ∙ in_image ns i h where
  in_image : (ns : List Name) (i : ℕ) → Some x ≡ slice_get ns i → get_or (map f ns) i other ≡ f x
  in_image [] i h = absurd cc
  in_image (n ∷ ns) zero h = let k : x ≡ n = cc in ap f (sym k)
  in_image (n ∷ ns) (suc i) h = in_image ns i h

-- an item at a place within
pub some_at : {X : Type 0} (xs : List X) (i : ℕ) → i < length xs → (x : X) × (Some x ≡ slice_get xs i)
some_at [] i l = absurd (omega arith)
some_at (x ∷ xs) zero l = (x, refl)
some_at (x ∷ xs) (suc i) l = some_at xs i (omega arith)

-- the image of the item at a place
pub image_got : {X Y : Type 0} (f : X → Y) (xs : List X) (i : ℕ) (x : X) → Some x ≡ slice_get xs i → Some (f x) ≡ slice_get (map f xs) i
image_got f [] i x h = absurd cc
image_got f (y ∷ ys) zero x h = let e : x ≡ y = cc in ap (λ z. Some (f z)) e
image_got f (y ∷ ys) (suc i) x h = image_got f ys i x h

-- what is capped at the most steps is no more
pub capped : (n : ℕ) → min n most_steps ≤ most_steps
capped n = omega arith

-- the sum at a place is that of the number of the item there
pub sum_here : {X : Type 0} (f : X → ℕ) (ss : List (Option ℕ)) (xs : List X) (i : ℕ) (x : X) → AreSums ss (map f xs) → Some x ≡ slice_get xs i → IsSum (get_or ss i (Some 0)) (f x)
sum_here f ss [] i x a h = absurd cc
sum_here f [] (y ∷ xs) i x a h = absurd a
sum_here f (s ∷ ss) (y ∷ xs) zero x a h = let e : x ≡ y = cc in subst (λ z. IsSum s (f z)) (sym e) a.0
sum_here f (s ∷ ss) (y ∷ xs) (suc i) x a h = sum_here f ss xs i x a.1 h
