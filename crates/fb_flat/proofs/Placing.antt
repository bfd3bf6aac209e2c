-- Tables of names, one instance after another; and the instance at the position of a name.
use Rattle.std.proofs.Common.{◌≡◌, ℕ, suc, ◌<◌, Bool, true, false, cond, List, [], ◌∷◌, ◌++◌, Option, None, Some, option_map, length, refl, sym, ap, ◌∙◌, string_bytes}
use Rattle.std.specs.Prelude.{slice_get, IfSome, MatchOption}
use Rattle.std.proofs.lemmas.Option.{slice_get_within}
use Rattle.std.specs.Option.{unwrap_or}
use Rattle.std.specs.Str.{bytes_eq}
use Rattle.std.specs.HashMap.{get_by_text}
use Rattle.std.proofs.lemmas.Slice.Eq.{bytes_eq-Decides}
use Rattle.std.specs.declared.string.String.{String}
use Rattle.std.specs.declared.alloc.Global.{Global}
use Rattle.indexmap.specs.IndexMap.{IndexMap}
use Rattle.fb_model.specs.Names.{Name}
use Rattle.fb_types_networks.specs.declared.typed.Instance.{Instance}
use Rattle.fb_flat.specs.Placed.{position_named, first_named, AreNames}

same_name : (x y : Name) → bytes_eq x y ≡ true → x ≡ y
same_name x y e = (bytes_eq-Decides x y).0 e

symmetric : (x y : Name) → bytes_eq x y ≡ bytes_eq y x
symmetric x y = by (bytes_eq x y) (bytes_eq y x) refl refl where
  by : (a b : Bool) → bytes_eq x y ≡ a → bytes_eq y x ≡ b → a ≡ b
  by true true e f = refl
  by false false e f = refl
  by true false e f = let g : bytes_eq y x ≡ true = (bytes_eq-Decides y x).1 (sym (same_name x y e)) in absurd cc
  by false true e f = let g : bytes_eq x y ≡ true = (bytes_eq-Decides x y).1 (sym (same_name y x f)) in absurd cc

-- behind other instances one keeps its position, or is the last
abbrev last : Bool → ℕ → Option ℕ → Option ℕ
last b n None = cond b (Some n) None
last b n (Some k) = Some k

last_suc : (b : Bool) (n : ℕ) (o : Option ℕ) → option_map suc (last b n o) ≡ last b (suc n) (option_map suc o)
last_suc true n None = refl
last_suc false n None = refl
last_suc b n (Some k) = refl

place_append : (is : List Instance) (i : Instance) (x : Name) → position_named (is ++ i ∷ []) x ≡ last (bytes_eq (string_bytes i.name) x) (length is) (position_named is x)
place_append [] i x = by (bytes_eq (string_bytes i.name) x) where
  by : (b : Bool) → cond {A = Option ℕ} b (Some 0) None ≡ cond {A = Option ℕ} b (Some 0) None
  by b = refl
place_append (j ∷ is) i x = by (bytes_eq (string_bytes j.name) x) (place_append is i x) where
  by : (b : Bool) → position_named (is ++ i ∷ []) x ≡ last (bytes_eq (string_bytes i.name) x) (length is) (position_named is x)
      → cond b (Some 0) (option_map suc (position_named (is ++ i ∷ []) x)) ≡ last (bytes_eq (string_bytes i.name) x) (suc (length is)) (cond b (Some 0) (option_map suc (position_named is x)))
  by true e = refl
  by false e = ap (option_map suc) e ∙ last_suc (bytes_eq (string_bytes i.name) x) (length is) (position_named is x)

-- a table with one instance more
pub names_more : {S : Type 0} (is : List Instance) (i : Instance) (old new : IndexMap (String Global) ℕ S) (n : ℕ) → n ≡ length is → AreNames is old
    → ((x : Name) → get_by_text new x ≡ cond (bytes_eq x (string_bytes i.name)) (Some (unwrap_or (get_by_text old x) n)) (get_by_text old x)) → AreNames (is ++ i ∷ []) new
names_more is i old new n e so more = λ x.
    more x ∙ ap (λ o. cond (bytes_eq x (string_bytes i.name)) (Some (unwrap_or o n)) o) (so x)
    ∙ by (bytes_eq x (string_bytes i.name)) (position_named is x)
    ∙ ap (λ b. last b n (position_named is x)) (symmetric x (string_bytes i.name)) ∙ ap (λ k. last (bytes_eq (string_bytes i.name) x) k (position_named is x)) e
    ∙ sym (place_append is i x)
  where
    by : (b : Bool) (o : Option ℕ) → cond b (Some (unwrap_or o n)) o ≡ last b n o
    by true None = refl
    by true (Some k) = refl
    by false None = refl
    by false (Some k) = refl

-- ---- what stands at a position

none_some : {X : Type 0} {x : X} → None ≡ Some x → ⊥
none_some e = cc

suc_of : (o : Option ℕ) (k : ℕ) → option_map suc o ≡ Some k → (j : ℕ) × (o ≡ Some j) × (k ≡ suc j)
suc_of None k e = absurd (none_some e)
suc_of (Some j) k e = (j, refl, cc)

-- at the position of a name stands the first instance of it
abbrev Stands : List Instance → Name → ℕ → Type 0
Stands is x k = (i : Instance) × (slice_get is k ≡ Some i) × (first_named is x ≡ Some i)

pub placed : (is : List Instance) (x : Name) (k : ℕ) → position_named is x ≡ Some k → Stands is x k
placed [] x k e = absurd (none_some e)
placed (i ∷ is) x k e = by (bytes_eq (string_bytes i.name) x) e (placed is x) where
  by : (b : Bool) → cond b (Some 0) (option_map suc (position_named is x)) ≡ Some k → ((j : ℕ) → position_named is x ≡ Some j → Stands is x j)
      → (j : Instance) × (slice_get (i ∷ is) k ≡ Some j) × (cond b (Some i) (first_named is x) ≡ Some j)
  by true e again = let z : k ≡ 0 = cc in (i, ap (slice_get (i ∷ is)) z, refl)
  by false e again =
      let s = suc_of (position_named is x) k e in
      let p = again (s.0) (s.1) in
      (p.0, ap (slice_get (i ∷ is)) (s.2) ∙ p.1, p.2)

of_none : (o : Option ℕ) → option_map suc o ≡ None → o ≡ None
of_none None e = refl
of_none (Some k) e = absurd cc

-- with no position there is no such instance
pub not_placed : (is : List Instance) (x : Name) → position_named is x ≡ None → first_named is x ≡ None
not_placed [] x e = refl
not_placed (i ∷ is) x e = by (bytes_eq (string_bytes i.name) x) e (not_placed is x) where
  by : (b : Bool) → cond b (Some 0) (option_map suc (position_named is x)) ≡ None → (position_named is x ≡ None → first_named is x ≡ None) → cond b (Some i) (first_named is x) ≡ None
  by true e again = absurd (none_some (sym e))
  by false e again = again (of_none (position_named is x) e)

-- what a position that is found says
pub found_first : (o : Option ℕ) (is : List Instance) (x : Name) → o ≡ position_named is x → MatchOption o (first_named is x ≡ None) (λ k. slice_get is k ≡ first_named is x)
found_first None is x e = not_placed is x (sym e)
found_first (Some k) is x e = let p = placed is x k (sym e) in p.1 ∙ sym (p.2)

pub found_within : (o : Option ℕ) (is : List Instance) (x : Name) → o ≡ position_named is x → IfSome o (λ k. k < length is)
found_within None is x e = tt
found_within (Some k) is x e = let p = placed is x k (sym e) in slice_get_within is k (p.0) (p.1)
