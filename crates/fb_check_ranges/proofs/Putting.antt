-- Leaves that are put under their paths, one after another.
use denote.Ref.{Bor}
use Rattle.std.proofs.Common.{◌≡◌, ℕ, suc, ◌+◌, ◌<◌, Bool, true, false, List, [], ◌∷◌, map, drop, length, get_or, Option, None, Some, is_some, refl, sym, ap, subst, ◌∙◌, arith, string_bytes, Global}
use Rattle.std.specs.Prelude.{if◌then◌else◌}
use Rattle.std.specs.Option.{option_map}
use Rattle.std.specs.Map.{lookup}
use Rattle.std.specs.Str.{bytes_eq}
use Rattle.std.specs.declared.string.String.{String}
use Rattle.std.proofs.Math.Seq.{drop-cons}
use Rattle.indexmap.specs.IndexMap.{insert_entry}
use Rattle.fb_model.specs.Names.{Name}
use Rattle.fb_model.proofs.Lists.{same_name}
use Rattle.fb_flat.specs.declared.flat.Leaf.{Leaf}
use Rattle.fb_check_ranges.specs.Places.{leaf_named, or_else}
use Rattle.fb_check_ranges.proofs.Placing.{or_again}

abbrev pub Entries : Type 0
Entries = List (String Global × Bor Leaf)

abbrev pub at : Entries → Name → Option Leaf
at es x = option_map (λ (l : Bor Leaf). l.now) (lookup (λ y. bytes_eq x (string_bytes y)) es)

or_none : {A : Type 0} (o : Option A) → or_else o None ≡ o
or_none None = refl
or_none (Some a) = refl

-- a leaf whose path stands there changes nothing
pub stays : (es : Entries) (p : Name) (l : Leaf) → is_some (lookup (λ y. bytes_eq p (string_bytes y)) es) ≡ true → string_bytes l.path ≡ p → (x : Name) → at es x ≡ or_else (at es x) (leaf_named (l ∷ []) x)
stays es p l h e x = by (bytes_eq x (string_bytes l.path)) refl where
  some : (o : Option (Bor Leaf)) (other : Option Leaf) → is_some o ≡ true → option_map (λ (k : Bor Leaf). k.now) o ≡ or_else (option_map (λ (k : Bor Leaf). k.now) o) other
  some None other t = absurd cc
  some (Some k) other t = refl

  by : (b : Bool) → bytes_eq x (string_bytes l.path) ≡ b → at es x ≡ or_else (at es x) (if b then Some l else None)
  by true f = some (lookup (λ y. bytes_eq x (string_bytes y)) es) (Some l) (subst (λ n. is_some (lookup (λ y. bytes_eq n (string_bytes y)) es) ≡ true) (sym (same_name x (string_bytes l.path) f ∙ e)) h)
  by false f = sym (or_none (at es x))

inserted : (es : Entries) (k : String Global) (l : Bor Leaf) (x : Name) → is_some (lookup (λ y. bytes_eq (string_bytes k) (string_bytes y)) es) ≡ false
    → at (insert_entry (λ a b. bytes_eq (string_bytes a) (string_bytes b)) es k l) x ≡ or_else (at es x) (if bytes_eq x (string_bytes k) then Some l.now else None)
inserted [] k l x h = by (bytes_eq x (string_bytes k)) where
  by : (b : Bool) → option_map (λ (m : Bor Leaf). m.now) (if b then Some l else None) ≡ (if b then Some l.now else None)
  by true = refl
  by false = refl
inserted (e ∷ es) k l x h = by (bytes_eq (string_bytes k) (string_bytes e.0)) h (inserted es k l x) where
  further : (b : Bool) (o p : Option (Bor Leaf)) (q : Option Leaf) → option_map (λ (m : Bor Leaf). m.now) o ≡ or_else (option_map (λ (m : Bor Leaf). m.now) p) q
      → option_map (λ (m : Bor Leaf). m.now) (if b then Some e.1 else o) ≡ or_else (option_map (λ (m : Bor Leaf). m.now) (if b then Some e.1 else p)) q
  further true o p q g = refl
  further false o p q g = g

  by : (b : Bool) → is_some (if b then Some e.1 else lookup (λ y. bytes_eq (string_bytes k) (string_bytes y)) es) ≡ false
      → (is_some (lookup (λ y. bytes_eq (string_bytes k) (string_bytes y)) es) ≡ false
      → at (insert_entry (λ a b. bytes_eq (string_bytes a) (string_bytes b)) es k l) x ≡ or_else (at es x) (if bytes_eq x (string_bytes k) then Some l.now else None))
      → at (if b then (e.0, l) ∷ es else e ∷ insert_entry (λ a b. bytes_eq (string_bytes a) (string_bytes b)) es k l) x ≡ or_else (at (e ∷ es) x) (if bytes_eq x (string_bytes k) then Some l.now else None)
  by true g next = absurd cc
  by false g next =
      further (bytes_eq x (string_bytes e.0)) (lookup (λ y. bytes_eq x (string_bytes y)) (insert_entry (λ a b. bytes_eq (string_bytes a) (string_bytes b)) es k l)) (lookup (λ y. bytes_eq x (string_bytes y)) es)
      (if bytes_eq x (string_bytes k) then Some l.now else None) (next g)

-- a leaf whose path is new is found under it
pub goes_in : (es new : Entries) (k : String Global) (l : Bor Leaf) (p : Name) → string_bytes k ≡ p → string_bytes l.now.path ≡ p → is_some (lookup (λ y. bytes_eq p (string_bytes y)) es) ≡ false
    → new ≡ insert_entry (λ a b. bytes_eq (string_bytes a) (string_bytes b)) es k l → (x : Name) → at new x ≡ or_else (at es x) (leaf_named (l.now ∷ []) x)
goes_in es new k l p e f h n x =
    let g : is_some (lookup (λ y. bytes_eq (string_bytes k) (string_bytes y)) es) ≡ false = subst (λ q. is_some (lookup (λ y. bytes_eq q (string_bytes y)) es) ≡ false) (sym e) h in
    ap (λ (es : Entries). at es x) n ∙ inserted es k l x g ∙ ap (λ q. or_else (at es x) (if bytes_eq x q then Some l.now else None)) (e ∙ sym f)

-- one more leaf
pub one_more : (ls : List (Bor Leaf)) (i : ℕ) (l : Bor Leaf) (before now : Option Leaf) (x : Name) → i < length ls → l ≡ get_or ls i l
    → or_else before (leaf_named (map (λ (m : Bor Leaf). m.now) (drop i ls)) x) ≡ leaf_named (map (λ (m : Bor Leaf). m.now) ls) x → now ≡ or_else before (leaf_named (l.now ∷ []) x)
    → or_else now (leaf_named (map (λ (m : Bor Leaf). m.now) (drop (i + 1) ls)) x) ≡ leaf_named (map (λ (m : Bor Leaf). m.now) ls) x
one_more ls i l before now x h e same put =
    let rest = leaf_named (map (λ (m : Bor Leaf). m.now) (drop (suc i) ls)) x in
    let next : i + 1 ≡ suc i = omega arith in
    let here : drop i ls ≡ l ∷ drop (suc i) ls = drop-cons ls i l h ∙ ap (λ y. y ∷ drop (suc i) ls) (sym e) in
    ap (λ n. or_else now (leaf_named (map (λ (m : Bor Leaf). m.now) (drop n ls)) x)) next
    ∙ ap (λ o. or_else o rest) put
    ∙ or_again before (leaf_named (l.now ∷ []) x) rest
    ∙ ap (or_else before) (split (bytes_eq x (string_bytes l.now.path)) rest)
    ∙ ap (λ ys. or_else before (leaf_named (map (λ (m : Bor Leaf). m.now) ys) x)) (sym here)
    ∙ same
  where
    split : (b : Bool) (rest : Option Leaf) → or_else (if b then Some l.now else None) rest ≡ (if b then Some l.now else rest)
    split true rest = refl
    split false rest = refl
