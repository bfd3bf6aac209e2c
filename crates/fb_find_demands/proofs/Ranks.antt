-- Numbers among numbers, and numbers that come so often.
use Rattle.std.proofs.Common.{◌≡◌, ℕ, zero, suc, ◌+◌, ◌<◌, ◌≤◌, ◌==◌, true, false, not, cond, List, [], ◌∷◌, ◌++◌, length, map, drop, replicate, slice_index, Result, Ok, Err, IfOk, refl, sym, ap, ◌∙◌, add-one, arith}
use Rattle.fb_find_laws.specs.Nodes.{rank_in}
use Rattle.fb_find_demands.proofs.Loops.{rest_got}
use Rattle.fb_find_demands.proofs.Numbers.{prefix_within}

-- ---- where a number stands

at_first : (n x : ℕ) (ys : List ℕ) → (n == x) ≡ true → rank_in (x ∷ ys) n ≡ 0
at_first n x ys t = ap (λ b. cond (not b) (1 + rank_in ys n) 0) t

at_later : (n x : ℕ) (ys : List ℕ) → (n == x) ≡ false → rank_in (x ∷ ys) n ≡ 1 + rank_in ys n
at_later n x ys t = ap (λ b. cond (not b) (1 + rank_in ys n) 0) t

pub rank_here : (xs : List ℕ) (i n : ℕ) → i < length xs → (n == slice_index xs i) ≡ true → i + rank_in (drop i xs) n ≡ rank_in xs n → i ≡ rank_in xs n
rank_here xs i n l t inv =
    let e : rank_in (drop i xs) n ≡ 0 = ap (λ ys. rank_in ys n) (rest_got xs i 0 l) ∙ at_first n (slice_index xs i) (drop (i + 1) xs) t in
    omega (arith, e, inv)

pub rank_later : (xs : List ℕ) (i n : ℕ) → i < length xs → (n == slice_index xs i) ≡ false → i + rank_in (drop i xs) n ≡ rank_in xs n → i + 1 + rank_in (drop (i + 1) xs) n ≡ rank_in xs n
rank_later xs i n l t inv =
    let e : rank_in (drop i xs) n ≡ 1 + rank_in (drop (i + 1) xs) n = ap (λ ys. rank_in ys n) (rest_got xs i 0 l) ∙ at_later n (slice_index xs i) (drop (i + 1) xs) t in
    omega (arith, e, inv)

pub rank_past : (xs : List ℕ) (i n : ℕ) → length xs ≤ i → i + rank_in (drop i xs) n ≡ rank_in xs n → length xs ≡ rank_in xs n
rank_past xs i n l inv = let k : rank_in xs n ≤ length xs = prefix_within (λ m. not (n == m)) xs in omega (arith, k, l, inv)

-- ---- so often

pub one_more : {X : Type 0} (k : ℕ) (x : X) → replicate k x ++ x ∷ [] ≡ replicate (k + 1) x
one_more k x = by k x ∙ ap (λ n. replicate n x) (sym (add-one k)) where
  by : {X : Type 0} (k : ℕ) (x : X) → replicate k x ++ x ∷ [] ≡ replicate (suc k) x
  by zero x = refl
  by (suc k) x = ap (λ xs. x ∷ xs) (by k x)

pub mapped : {X Y : Type 0} (f : X → Y) (k : ℕ) (x : X) → map f (replicate k x) ≡ replicate k (f x)
mapped f zero x = refl
mapped f (suc k) x = ap (λ xs. f x ∷ xs) (mapped f k x)

pub if_ok : {X E : Type 0} {P Q : X → Type 0} → ((x : X) → P x → Q x) → (r : Result X E) → IfOk r P → IfOk r Q
if_ok f (Ok x) h = f x h
if_ok f (Err e) h = tt
