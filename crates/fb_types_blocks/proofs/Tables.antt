-- Tables of names against maps.
use Rattle.std.proofs.Common.{◌≡◌, Bool, true, false, cond, ◌||◌, List, [], ◌∷◌, ◌++◌, map, Option, Some, is_some, refl, sym, ap, subst, ◌∙◌, string_bytes}
use Rattle.std.specs.Map.{lookup}
use Rattle.std.proofs.lemmas.List.{map_push}
use Rattle.std.specs.Str.{bytes_eq}
use Rattle.std.specs.declared.string.String.{String}
use Rattle.std.specs.declared.alloc.Global.{Global}
use Rattle.indexmap.specs.IndexMap.{insert_entry}
use Rattle.fb_model.specs.Names.{Name, is_in}
use Rattle.fb_types_blocks.proofs.Lists.{map_map}

abbrev pub pairs : {V : Type 0} → List (String Global × V) → List (Name × V)
pairs es = map (λ e. (string_bytes e.0, e.1)) es

abbrev pub names : {V : Type 0} → List (String Global × V) → List Name
names es = map (λ e. string_bytes e.0) es

has_step : {V : Type 0} (b : Bool) (v : V) (rest : Option V) (later : Bool) → is_some rest ≡ later → is_some (cond b (Some v) rest) ≡ b || later
has_step true v rest later h = refl
has_step false v rest later h = h

pub is_in_from_lookup : {V : Type 0} (name : Name) (es : List (String Global × V)) → is_some (lookup (λ k. bytes_eq name (string_bytes k)) es) ≡ is_in name (names es)
is_in_from_lookup name [] = refl
is_in_from_lookup name (e ∷ es) = has_step (bytes_eq name (string_bytes e.0)) e.1 (lookup (λ k. bytes_eq name (string_bytes k)) es) (is_in name (names es)) (is_in_from_lookup name es)

-- a name that is new goes last
entries_with : {V : Type 0} (es : List (String Global × V)) (k : String Global) (v : V) → is_in (string_bytes k) (names es) ≡ false
    → pairs (insert_entry (λ a b. bytes_eq (string_bytes a) (string_bytes b)) es k v) ≡ pairs es ++ (string_bytes k, v) ∷ []
entries_with [] k v h = refl
entries_with {V} (e ∷ es) k v h = by (bytes_eq (string_bytes k) (string_bytes e.0)) h (entries_with es k v)
  where
    by : (b : Bool) → b || is_in (string_bytes k) (names es) ≡ false
        → (is_in (string_bytes k) (names es) ≡ false → pairs (insert_entry (λ x y. bytes_eq (string_bytes x) (string_bytes y)) es k v) ≡ pairs es ++ (string_bytes k, v) ∷ [])
        → pairs (cond b ((e.0, v) ∷ es) (e ∷ insert_entry (λ x y. bytes_eq (string_bytes x) (string_bytes y)) es k v)) ≡ (string_bytes e.0, e.1) ∷ (pairs es ++ (string_bytes k, v) ∷ [])
    by true g others = absurd (cc)
    by false g others = ap (λ r. (string_bytes e.0, e.1) ∷ r) (others g)

pub adds : {V : Type 0} (es new : List (String Global × V)) (k : String Global) (name : Name) (v : V) → string_bytes k ≡ name → is_in name (names es) ≡ false
    → new ≡ insert_entry (λ a b. bytes_eq (string_bytes a) (string_bytes b)) es k v → pairs new ≡ pairs es ++ (name, v) ∷ []
adds es new k name v e h n =
    let g : is_in (string_bytes k) (names es) ≡ false = subst (λ p. is_in p (names es) ≡ false) (sym e) h in
    ap pairs n ∙ subst (λ p. pairs (insert_entry (λ a b. bytes_eq (string_bytes a) (string_bytes b)) es k v) ≡ pairs es ++ (p, v) ∷ []) e (entries_with es k v g)

-- a new entry, as it is seen
pub seen : {V Y : Type 0} (f : Name → V → Y) (es new : List (String Global × V)) (name : Name) (v : V) → pairs new ≡ pairs es ++ (name, v) ∷ []
    → map (λ p. f (string_bytes p.0) p.1) new ≡ map (λ p. f (string_bytes p.0) p.1) es ++ f name v ∷ []
seen {V} f es new name v h =
    let g : Name × V → _ = λ q. f q.0 q.1 in
    sym (map_map g (λ e. (string_bytes e.0, e.1)) new) ∙ ap (map g) h ∙ map_push g (pairs es) (name, v) ∙ ap (λ ys. ys ++ f name v ∷ []) (map_map g (λ e. (string_bytes e.0, e.1)) es)
