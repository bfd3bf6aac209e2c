-- Tables of connections, one connection after another.
use Rattle.std.proofs.Common.{◌≡◌, Bool, true, false, cond, List, [], ◌∷◌, ◌++◌, Option, None, Some, ◌&&◌, map, refl, sym, ap, ◌∙◌}
use Rattle.std.specs.Str.{bytes_eq}
use Rattle.std.proofs.lemmas.List.{map-append}
use Rattle.std.proofs.lemmas.Slice.Eq.{bytes_eq-Decides}
use denote.Ref.{Bor}
use Rattle.fb_model.specs.Names.{Name}
use Rattle.fb_types_networks.specs.declared.typed.Connection.{Connection}
use Rattle.fb_model.specs.System as book
use Rattle.fb_model.specs.Wires.{is_own, is_end}
use Rattle.fb_flat.specs.Bundled.{key_of, seen, Bundles, under, ending, IsBundled}

pub ending_append : (side : book.Connection → book.End) (i : Option Name) (port : Name) (cs ds : List book.Connection) → ending side i port (cs ++ ds) ≡ ending side i port cs ++ ending side i port ds
ending_append side i port [] ds = refl
ending_append side i port (c ∷ cs) ds = by (is_end i port (side c)) (ending_append side i port cs ds) where
  by : (b : Bool) → ending side i port (cs ++ ds) ≡ ending side i port cs ++ ending side i port ds
      → cond b (c ∷ ending side i port (cs ++ ds)) (ending side i port (cs ++ ds)) ≡ cond b (c ∷ ending side i port cs) (ending side i port cs) ++ ending side i port ds
  by true e = ap (λ l. c ∷ l) e
  by false e = e

same_name : (x y : Name) → bytes_eq x y ≡ true → x ≡ y
same_name x y e = (bytes_eq-Decides x y).0 e

both : (a b : Bool) → a && b ≡ true → (a ≡ true) × (b ≡ true)
both true b e = (refl, e)
both false b e = absurd cc

own_key : (i j : Option Name) (port : Name) → is_own i j ≡ true → key_of i port ≡ key_of j port
own_key None None port e = refl
own_key None (Some y) port e = absurd cc
own_key (Some x) None port e = absurd cc
own_key (Some x) (Some y) port e = ap (λ n. key_of (Some n) port) (same_name x y e)

-- equal ends have equal texts
end_key : (i : Option Name) (port : Name) (e : book.End) → is_end i port e ≡ true → key_of i port ≡ key_of e.instance e.port
end_key i port e h =
    let p = both (is_own i e.instance) (bytes_eq port e.port) h in
    ap (key_of i) (same_name port e.port (p.1)) ∙ own_key i e.instance e.port (p.0)

-- what is not under the text of an end has another end
one_more : (side : book.Connection → book.End) (i : Option Name) (port : Name) (c : book.Connection)
    → ending side i port (cond (bytes_eq (key_of i port) (key_of (side c).instance (side c).port)) (c ∷ []) []) ≡ ending side i port (c ∷ [])
one_more side i port c = by (bytes_eq (key_of i port) (key_of (side c).instance (side c).port)) (is_end i port (side c)) refl refl where
  by : (b d : Bool) → bytes_eq (key_of i port) (key_of (side c).instance (side c).port) ≡ b → is_end i port (side c) ≡ d
      → ending side i port (cond b (c ∷ []) []) ≡ ending side i port (c ∷ [])
  by true d e f = refl
  by false false e f = sym (ap (λ t. cond t (c ∷ []) []) f)
  by false true e f = let g : bytes_eq (key_of i port) (key_of (side c).instance (side c).port) ≡ true = (bytes_eq-Decides (key_of i port) (key_of (side c).instance (side c).port)).1 (end_key i port (side c) f) in absurd cc

mapped_cond : (b : Bool) (c : Bor Connection) → map seen (cond b (c ∷ []) []) ≡ cond b (seen c ∷ []) []
mapped_cond true c = refl
mapped_cond false c = refl

-- a table with one connection more under the text of its end
pub bundled_more : {S : Type 0} (side : book.Connection → book.End) (cs : List book.Connection) (c : Bor Connection) (old new : Bundles S) (key : Name) → key ≡ key_of (side (seen c)).instance (side (seen c)).port
    → IsBundled side cs old → ((k : Name) → under new k ≡ under old k ++ cond (bytes_eq k key) (c ∷ []) []) → IsBundled side (cs ++ seen c ∷ []) new
bundled_more side cs c old new key e so more = λ i port.
    let k = key_of i port in
    let d = seen c in
    let last : List book.Connection = cond (bytes_eq k (key_of (side d).instance (side d).port)) (d ∷ []) [] in
    ap (λ l. ending side i port (map seen l)) (more k)
    ∙ ap (ending side i port) (map-append seen (under old k) (cond (bytes_eq k key) (c ∷ []) []) ∙ ap (λ l. map seen (under old k) ++ l) (mapped_cond (bytes_eq k key) c ∙ ap (λ t. cond (bytes_eq k t) (d ∷ []) []) e))
    ∙ ending_append side i port (map seen (under old k)) last
    ∙ ap (λ l. l ++ ending side i port last) (so i port)
    ∙ ap (λ l. ending side i port cs ++ l) (one_more side i port d)
    ∙ sym (ending_append side i port cs (d ∷ []))
