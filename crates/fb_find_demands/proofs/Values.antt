-- Look-ups by the place of a name.
use Rattle.std.proofs.Common.{◌≡◌, ℕ, zero, suc, ◌≤◌, List, [], ◌∷◌, Bool, true, false, cond, length, get_or, position, Option, Some, None, option_map, refl, sym, ap, ◌∙◌, arith, string_bytes}
use Rattle.std.specs.Str.{bytes_eq}
use Rattle.std.specs.declared.string.String.{String}
use Rattle.std.specs.declared.alloc.Global.{Global}
use Rattle.indexmap.specs.IndexMap.{IndexMap, keys}
use Rattle.fb_model.specs.Names.{Name}
use Rattle.fb_types_networks.proofs.Places.{place, position_is, position_map}
use Rattle.fb_find_demands.specs.Grounds.{table_names, value_at}

-- the index of a name in a table is its place among the names
pub placed : {V S : Type 0} (m : IndexMap (String Global) V S) (x : Name) → place (bytes_eq x) (table_names m) ≡ position (λ s. bytes_eq x (string_bytes s)) (keys m)
placed m x = sym (position_is (bytes_eq x) (table_names m)) ∙ position_map (bytes_eq x) (λ e. string_bytes e.0) m.entries ∙ sym (position_map (λ s. bytes_eq x (string_bytes s)) (λ e. e.0) m.entries)

-- what stands at a place
abbrev pub by_place : List ℕ → Option ℕ → ℕ
by_place xs None = 0
by_place xs (Some i) = get_or xs i 0

turn : (y : ℕ) (ys : List ℕ) (b : Bool) (o : Option ℕ) → cond b y (by_place ys o) ≡ by_place (y ∷ ys) (cond b (Some 0) (option_map suc o))
turn y ys true o = refl
turn y ys false None = refl
turn y ys false (Some i) = refl

empty : (o : Option ℕ) → 0 ≡ by_place [] o
empty None = refl
empty (Some zero) = refl
empty (Some (suc i)) = refl

value_is : (ns : List Name) (xs : List ℕ) (x : Name) → value_at ns xs x ≡ by_place xs (place (bytes_eq x) ns)
unfolding place
value_is [] xs x = refl
value_is (n ∷ ns) [] x = empty (cond (bytes_eq x n) (Some 0) (option_map suc (place (bytes_eq x) ns)))
value_is (n ∷ ns) (y ∷ ys) x = ap (cond (bytes_eq x n) y) (value_is ns ys x) ∙ turn y ys (bytes_eq x n) (place (bytes_eq x) ns)

pub value_some : (ns : List Name) (xs : List ℕ) (y : ℕ) (x : Name) (i : ℕ) → place (bytes_eq x) ns ≡ Some i → y ≡ get_or xs i 0 → y ≡ value_at ns xs x
value_some ns xs y x i h e = e ∙ ap (by_place xs) (sym h) ∙ sym (value_is ns xs x)

pub value_none : (ns : List Name) (xs : List ℕ) (x : Name) → place (bytes_eq x) ns ≡ None → 0 ≡ value_at ns xs x
value_none ns xs x h = ap (by_place xs) (sym h) ∙ sym (value_is ns xs x)

past : (xs : List ℕ) (i : ℕ) → length xs ≤ i → get_or xs i 0 ≡ 0
past [] zero h = refl
past [] (suc i) h = refl
past (x ∷ xs) zero h = absurd (omega arith)
past (x ∷ xs) (suc i) h = past xs i (omega arith)

pub value_past : (ns : List Name) (xs : List ℕ) (x : Name) (i : ℕ) → place (bytes_eq x) ns ≡ Some i → length xs ≤ i → 0 ≡ value_at ns xs x
value_past ns xs x i h l = value_some ns xs 0 x i h (sym (past xs i l))
