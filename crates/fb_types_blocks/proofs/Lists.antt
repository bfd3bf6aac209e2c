-- Lists of names.
use Rattle.std.proofs.Common.{◌≡◌, List, [], ◌∷◌, ◌++◌, Bool, true, false, not, cond, ◌||◌, map, ℕ, refl, ap, sym, subst, ◌∙◌, length, append_assoc, string_bytes, Result, Ok, Err, OnOk, take, get_or, ◌<◌, ◌+◌}
use Rattle.std.specs.List.{list_any}
use Rattle.std.proofs.lemmas.List.{map_push, append-nil, take_more, map-append}
use Rattle.std.specs.Str.{bytes_eq}
use Rattle.std.specs.declared.string.String.{String}
use Rattle.std.specs.declared.alloc.Global.{Global}
use Rattle.fb_model.specs.Names.{Name}
use Rattle.fb_model.specs.Productions.{Word}
use Rattle.fb_model.specs.Typing.{AreNew, texts}
use Rattle.fb_types_blocks.specs.Answers.{Extends}

pub any_map : {X Y : Type 0} (p : Y → Bool) (f : X → Y) (xs : List X) → list_any p (map f xs) ≡ list_any (λ x. p (f x)) xs
any_map p f [] = refl
any_map p f (x ∷ xs) = ap (λ b. p (f x) || b) (any_map p f xs)

-- a set of texts, as a list of names
pub with_key : (ks new : List (String Global)) (k : String Global) (name : List ℕ) (said : Bool) → string_bytes k ≡ name → said ≡ not (list_any (λ x. bytes_eq (string_bytes k) (string_bytes x)) ks) → new ≡ cond (list_any (λ x. bytes_eq (string_bytes k) (string_bytes x)) ks) ks (ks ++ k ∷ []) → Extends (map string_bytes ks) name (map string_bytes new) said
with_key ks new k name said same added keys =
    let there = list_any (λ x. bytes_eq (string_bytes k) (string_bytes x)) ks in
    let e : list_any (bytes_eq name) (map string_bytes ks) ≡ there = rw (← same) (any_map (bytes_eq (string_bytes k)) string_bytes ks) in
    (rw e added, by there added keys)
  where
    by : (b : Bool) → said ≡ not b → new ≡ cond b ks (ks ++ k ∷ []) → map string_bytes new ≡ cond said (map string_bytes ks ++ name ∷ []) (map string_bytes ks)
    by true s n = rw (s, n) refl
    by false s n = rw (s, n, ← same) (map_push string_bytes ks k)

pub map_map : {X Y Z : Type 0} (g : Y → Z) (f : X → Y) (xs : List X) → map g (map f xs) ≡ map (λ x. g (f x)) xs
map_map g f [] = refl
map_map g f (x ∷ xs) = ap (λ ys. g (f x) ∷ ys) (map_map g f xs)

-- names that are new one list after another are new together
pub new_append : (before xs ys : List Name) → AreNew before xs → AreNew (before ++ xs) ys → AreNew before (xs ++ ys)
new_append before [] ys h k = subst (λ b. AreNew b ys) (append-nil before) k
new_append before (x ∷ xs) ys h k = (h.0, new_append (before ++ x ∷ []) xs ys h.1 (subst (λ b. AreNew b ys) (sym (append_assoc before (x ∷ []) xs)) k))

-- and the other way
pub new_split : (before xs ys : List Name) → AreNew before (xs ++ ys) → AreNew before xs × AreNew (before ++ xs) ys
new_split before [] ys h = (tt, subst (λ b. AreNew b ys) (sym (append-nil before)) h)
new_split before (x ∷ xs) ys h =
    let k = new_split (before ++ x ∷ []) xs ys h.1 in
    ((h.0, k.0), subst (λ b. AreNew b ys) (append_assoc before (x ∷ []) xs) k.1)

in_more : (p : Name → Bool) (a b : List Name) → list_any p (a ++ b) ≡ false → list_any p b ≡ false
in_more p [] b h = h
in_more p (x ∷ a) b h = in_more p a b (second (p x) (list_any p (a ++ b)) h) where
  second : (s t : Bool) → s || t ≡ false → t ≡ false
  second true t e = absurd cc
  second false t e = e

-- what is new behind more names is new behind fewer
pub new_fewer : (a b xs : List Name) → AreNew (a ++ b) xs → AreNew b xs
new_fewer a b [] h = tt
new_fewer a b (x ∷ xs) h = (in_more (bytes_eq x) a b h.0, new_fewer a (b ++ x ∷ []) xs (subst (λ c. AreNew c xs) (append_assoc a b (x ∷ [])) h.1))

-- the second of two lists is new by itself
pub new_second : (xs ys : List Name) → AreNew [] (xs ++ ys) → AreNew [] ys
new_second xs ys h = new_fewer xs [] ys (subst (λ c. AreNew c ys) (sym (append-nil xs)) (new_split [] xs ys h).1)

pub texts_append : (xs ys : List Word) → texts (xs ++ ys) ≡ texts xs ++ texts ys
texts_append xs ys = map-append (λ w. w.text) xs ys

pub on_ok : {X E : Type 0} {P Q : Type 0} → (P → Q) → (r : Result X E) → OnOk r P → OnOk r Q
on_ok f (Ok x) h = f h
on_ok f (Err e) h = h

pub mapped_more : {X Y : Type 0} (f : X → Y) (xs : List X) (i : ℕ) (x : X) → i < length xs → x ≡ get_or xs i x → map f (take (i + 1) xs) ≡ map f (take i xs) ++ f x ∷ []
mapped_more f xs i x h e = ap (map f) (take_more xs i x h ∙ ap (λ y. take i xs ++ y ∷ []) (sym e)) ∙ map_push f (take i xs) x

-- what is new behind more names is new
pub new_step : (before after : List Name) (n : Name) (rest : List Name) → AreNew before (n ∷ rest) → after ≡ before ++ n ∷ [] → AreNew after rest
new_step before after n rest h e = subst (λ b. AreNew b rest) (sym e) h.1
