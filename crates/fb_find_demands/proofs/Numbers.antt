-- Texts in sets by their numbers.
use Rattle.std.proofs.Common.{◌≡◌, ℕ, ◌+◌, ◌<◌, ◌≤◌, Bool, true, false, not, cond, List, [], ◌∷◌, ◌++◌, map, length, position, Some, None, refl, sym, ap, ◌∙◌, arith, append_assoc, string_bytes}
use Rattle.std.specs.Prelude.{nat_lt, ◌==◌}
use Rattle.std.specs.List.{position_or_len, prefix_len, join_with_byte}
use Rattle.std.specs.Str.{bytes_eq}
use Rattle.std.proofs.lemmas.List.Splits.{join_with_byte-slice_split, length-slice_split}
use Rattle.std.proofs.lemmas.Bool.Decides.{nat_tests}
use Rattle.std.specs.declared.string.String.{String}
use Rattle.std.specs.declared.alloc.Global.{Global}
use Rattle.fb_model.specs.Names.{Name, at_place}
use Rattle.fb_model.specs.CertificateText.{names_in}
use Rattle.fb_find_laws.specs.Nodes.{written, index_in}
use Rattle.fb_flat.specs.Sites.{dotted}

-- ---- places as they are written

joined_behind : (c : ℕ) (ws : List (List ℕ)) (w : List ℕ) → 0 < length ws → join_with_byte c (ws ++ w ∷ []) ≡ join_with_byte c ws ++ c ∷ w
joined_behind c [] w h = absurd (omega (arith, h))
joined_behind c (v ∷ []) w h = refl
joined_behind c (v ∷ u ∷ ws) w h = ap (λ x. v ++ c ∷ x) (joined_behind c (u ∷ ws) w (omega arith)) ∙ sym (append_assoc v (c ∷ join_with_byte c (u ∷ ws)) (c ∷ w))

-- a place is written as its path, a dot and its name
pub written_dotted : (path name : Name) → written (at_place (names_in path) name) ≡ dotted path name
written_dotted path name =
    let some = length-slice_split (λ c. c == 46) path in
    joined_behind 46 (names_in path) name (omega (arith, some)) ∙ ap (λ p. p ++ 46 ∷ name) (join_with_byte-slice_split 46 path)

-- ---- the first that passes

prefix_map : {X Y : Type 0} (p : Y → Bool) (f : X → Y) (xs : List X) → prefix_len p (map f xs) ≡ prefix_len (λ x. p (f x)) xs
prefix_map p f [] = refl
prefix_map p f (x ∷ xs) = ap (λ n. cond (p (f x)) (1 + n) 0) (prefix_map p f xs)

step_within : (b : Bool) (n m : ℕ) → n ≤ m → cond b (1 + n) 0 ≤ m + 1
step_within true n m h = omega (arith, h)
step_within false n m h = omega arith

pub prefix_within : {X : Type 0} (p : X → Bool) (xs : List X) → prefix_len p xs ≤ length xs
prefix_within p [] = omega arith
prefix_within p (x ∷ xs) = let k = step_within (p x) (prefix_len p xs) (length xs) (prefix_within p xs) in omega (arith, k)

first_at : (i n : ℕ) (b : Bool) → Some i ≡ cond b (Some n) None → i ≡ n
first_at i n true h = cc
first_at i n false h = absurd cc

none_at : (n m : ℕ) (b : Bool) → nat_lt n m ≡ b → n ≤ m → None ≡ cond b (Some n) None → m ≡ n
none_at n m true e l h = absurd cc
none_at n m false e l h = grind (arith, nat_tests)

-- the index of a text in a set is its number, and the number of one that is not there is the length
pub index_some : (keys : List (String Global)) (x : Name) (i : ℕ) → Some i ≡ position (λ s. bytes_eq x (string_bytes s)) keys → i ≡ index_in (map string_bytes keys) x
index_some keys x i h = first_at i (position_or_len (λ s. bytes_eq x (string_bytes s)) keys) (nat_lt (position_or_len (λ s. bytes_eq x (string_bytes s)) keys) (length keys)) h ∙ sym (prefix_map (λ t. not (bytes_eq x t)) string_bytes keys)

pub index_none : (keys : List (String Global)) (x : Name) → None ≡ position (λ s. bytes_eq x (string_bytes s)) keys → length keys ≡ index_in (map string_bytes keys) x
index_none keys x h =
    let n = position_or_len (λ s. bytes_eq x (string_bytes s)) keys in
    none_at n (length keys) (nat_lt n (length keys)) refl (prefix_within (λ s. not (bytes_eq x (string_bytes s))) keys) h ∙ sym (prefix_map (λ t. not (bytes_eq x t)) string_bytes keys)
