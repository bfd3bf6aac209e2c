-- The keys of sets by their places.
use Rattle.std.proofs.Common.{ℕ, zero, suc, ◌≡◌, ◌-◌, ◌<◌, ◌≤◌, false, List, [], ◌∷◌, ◌++◌, length, map, Some, slice_get, slice_index_or, sym, ◌∙◌, ap, arith, string_bytes}
use Rattle.std.specs.List.{IsDistinct, AllByRecursion}
use Rattle.std.specs.Str.{bytes_eq}
use Rattle.std.specs.declared.string.String.{String}
use Rattle.std.specs.declared.alloc.Global.{Global}
use Rattle.fb_model.specs.Names.{Name, at_place}
use Rattle.fb_model.specs.CertificateText.{place_of}
use Rattle.fb_model.specs.Demands.{Node, state, event, channel, node_in}
use Rattle.fb_find_laws.specs.Nodes.{nodes_of}
use Rattle.std.proofs.lemmas.List.{length-map, get_or-map, get_or_append_left, get_or-append_right}

-- what stands at a place
pub at_index : {X Y : Type 0} (f : X → Y) (xs : List X) (i : ℕ) (x : X) (d : Y) → Some x ≡ slice_get xs i → (i < length xs) × (slice_index_or (map f xs) i d ≡ f x)
at_index f [] i x d h = absurd cc
at_index f (y ∷ ys) zero x d h = let e : x ≡ y = cc in (omega arith, ap f (sym e))
at_index f (y ∷ ys) (suc i) x d h = let r = at_index f ys i x d h in (omega (arith, r.0), r.1)

-- the node of a key
pub key_at : (f : Name → Node) (keys : List (String Global)) (rest : List Node) (i : ℕ) (k : String Global) → Some k ≡ slice_get keys i → node_in (map f (map string_bytes keys) ++ rest) i ≡ f (string_bytes k)
key_at f keys rest i k h =
    let r = at_index string_bytes keys i k [] h in
    let l : i < length (map string_bytes keys) = omega (arith, r.0, length-map keys string_bytes) in
    get_or_append_left (map f (map string_bytes keys)) rest (state (at_place [] [])) i (omega (arith, l, length-map (map string_bytes keys) f)) ∙ (get_or-map f (map string_bytes keys) i [] (state (at_place [] [])) l ∙ ap f r.1)

pub event_key : (keys : List (String Global)) (channels : List ℕ) (i : ℕ) (k : String Global) (x : Node) → Some k ≡ slice_get keys i → node_in (map (λ t. event (place_of t)) (map string_bytes keys) ++ map channel channels) i ≡ x → event (place_of (string_bytes k)) ≡ x
event_key keys channels i k x h e = sym (key_at (λ t. event (place_of t)) keys (map channel channels) i k h) ∙ e

pub state_key : (keys events : List (String Global)) (channels : List ℕ) (i : ℕ) (k : String Global) → Some k ≡ slice_get keys i → state (place_of (string_bytes k)) ≡ node_in (nodes_of (map string_bytes keys) (map string_bytes events) channels) i
state_key keys events channels i k h = sym (key_at (λ t. state (place_of t)) keys (map (λ t. event (place_of t)) (map string_bytes events) ++ map channel channels) i k h)

pub channel_key : (channels : List ℕ) (i c : ℕ) (x : Node) → Some c ≡ slice_get channels i → node_in (map channel channels) i ≡ x → channel c ≡ x
channel_key channels i c x h e = sym (at_index channel channels i c (state (at_place [] [])) h).1 ∙ e

-- what stands behind the keys
pub nodes_behind : (f : Name → Node) (keys : List (String Global)) (rest : List Node) (i n : ℕ) → n ≡ length keys → n ≤ i → node_in rest (i - n) ≡ node_in (map f (map string_bytes keys) ++ rest) i
nodes_behind f keys rest i n e l =
    sym (get_or-append_right (map f (map string_bytes keys)) rest n i (state (at_place [] [])) (omega (arith, length-map (map string_bytes keys) f, length-map keys string_bytes, e)) l)

-- the text of a key, and what stands behind the keys
pub text_key : (keys : List (String Global)) (rest : List Name) (i : ℕ) (k : String Global) → Some k ≡ slice_get keys i → string_bytes k ≡ slice_index_or (map string_bytes keys ++ rest) i []
text_key keys rest i k h =
    let r = at_index string_bytes keys i k [] h in
    sym (get_or_append_left (map string_bytes keys) rest [] i (omega (arith, r.0, length-map keys string_bytes)) ∙ r.1)

pub texts_behind : (keys : List (String Global)) (rest : List Name) (i n : ℕ) → n ≡ length keys → n ≤ i → slice_index_or rest (i - n) [] ≡ slice_index_or (map string_bytes keys ++ rest) i []
texts_behind keys rest i n e l = sym (get_or-append_right (map string_bytes keys) rest n i [] (omega (arith, length-map keys string_bytes, e)) l)

-- texts of keys that are apart are apart
pub apart_texts : (keys : List (String Global)) → IsDistinct (λ a b. bytes_eq (string_bytes a) (string_bytes b)) keys → IsDistinct bytes_eq (map string_bytes keys)
unfolding IsDistinct
apart_texts [] h = h
apart_texts (k ∷ ks) h = (mapped k ks h.0, apart_texts ks h.1) where
  mapped : (k : String Global) (ks : List (String Global)) → AllByRecursion (λ b. bytes_eq (string_bytes k) (string_bytes b) ≡ false) ks → AllByRecursion (λ t. bytes_eq (string_bytes k) t ≡ false) (map string_bytes ks)
  mapped k [] h = tt
  mapped k (x ∷ xs) h = (h.0, mapped k xs h.1)
