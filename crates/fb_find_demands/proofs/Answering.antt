-- What answers of the code come to.
use Rattle.std.proofs.Common.{◌≡◌, ℕ, zero, suc, ◌+◌, ◌<◌, ◌≤◌, Bool, List, [], ◌∷◌, ◌++◌, map, drop, length, get_or, slice_get, Option, Some, None, option_map, Result, Ok, Err, IfOk, OnOk, refl, sym, ap, ◌∙◌, append_assoc, add-one, arith, Bor}
use Rattle.std.specs.Option.{IfSome, MatchOption}
use Rattle.std.proofs.lemmas.Option.{slice_get_read}
use Rattle.fb_find_laws.specs.Nodes.{Numbered}
use Rattle.fb_ranges.specs.declared.rows.Ranges.{Ranges}
use Rattle.fb_ranges.specs.Views.{spans_of}
use Rattle.fb_flat.specs.declared.flat.Leaf.{Leaf}
use Rattle.fb_find_demands.specs.declared.numbered.Numbering.{Numbering}
use Rattle.fb_find_demands.specs.Prices.{priced_leaf, priced}

pub ok_is : {X Y E : Type 0} (f : X → Y) (a b : Y) → a ≡ b → (r : Result X E) → IfOk r (λ x. f x ≡ a) → IfOk r (λ x. f x ≡ b)
ok_is f a b e (Ok x) h = h ∙ e
ok_is f a b e (Err x) h = tt

pub on_ok_is : {X Y E : Type 0} (y a b : Y) → a ≡ b → (r : Result X E) → OnOk r (y ≡ a) → OnOk r (y ≡ b)
on_ok_is y a b e (Ok x) h = h ∙ e
on_ok_is y a b e (Err x) h = tt

-- a number that is pushed
pub pushed : (old new : List ℕ) (x y : ℕ) → new ≡ old ++ x ∷ [] → x ≡ y → new ≡ old ++ y ∷ []
pushed old new x y h e = h ∙ ap (λ z. old ++ z ∷ []) e

past_get : (ts : List Ranges) (i : ℕ) → length ts ≤ i → None ≡ slice_get ts i
past_get [] zero l = refl
past_get [] (suc i) l = refl
past_get (t ∷ ts) zero l = absurd (omega (arith, l))
past_get (t ∷ ts) (suc i) l = past_get ts i (omega (arith, l))

-- what is got is what stands at the place
pub got : (P : Bor Ranges → Type 0) (r : Option (Bor Ranges)) (ts : List Ranges) (i : ℕ) → MatchOption r (length ts ≤ i) (λ x. (i < length ts) × P x) → IfSome r (λ x. x.now ≡ get_or ts i x.now) → option_map (λ t. t.now) r ≡ slice_get ts i
got P None ts i m h = past_get ts i m
got P (Some x) ts i m h = sym (slice_get_read ts (length ts) i x.now refl m.0 h)

-- ---- leaves with their tables

-- one more leaf is priced with the table at its place
one_priced : (n : Numbering) (w : Bool) (l : Leaf) (ls : List Leaf) (ts : List Ranges) (i : ℕ) → priced n w (l ∷ ls) (map spans_of (drop i ts)) ≡ priced_leaf n w l (option_map spans_of (slice_get ts i)) ++ priced n w ls (map spans_of (drop (suc i) ts))
one_priced n w l ls [] zero = refl
one_priced n w l ls [] (suc i) = refl
one_priced n w l ls (t ∷ ts) zero = refl
one_priced n w l ls (t ∷ ts) (suc i) = one_priced n w l ls ts i

spans_at : (r : Option (Bor Ranges)) (o : Option Ranges) → option_map (λ t. t.now) r ≡ o → option_map (λ t. spans_of t.now) r ≡ option_map spans_of o
spans_at r o e = twice r ∙ ap (option_map spans_of) e where
  twice : (r : Option (Bor Ranges)) → option_map (λ t. spans_of t.now) r ≡ option_map spans_of (option_map (λ t. t.now) r)
  twice None = refl
  twice (Some t) = refl

pub turn_priced : (n : Numbering) (w : Bool) (ls : List (Bor Leaf)) (ts : List Ranges) (i : ℕ) (x : Bor Leaf) (r : Option (Bor Ranges)) (old new whole : List Numbered) → drop i ls ≡ x ∷ drop (i + 1) ls → option_map (λ t. t.now) r ≡ slice_get ts i
    → new ≡ old ++ priced_leaf n w x.now (option_map (λ t. spans_of t.now) r)
    → old ++ priced n w (map (λ l. l.now) (drop i ls)) (map spans_of (drop i ts)) ≡ whole → new ++ priced n w (map (λ l. l.now) (drop (i + 1) ls)) (map spans_of (drop (i + 1) ts)) ≡ whole
turn_priced n w ls ts i x r old new whole e k h inv =
    let here = priced_leaf n w x.now (option_map (λ t. spans_of t.now) r) in
    let rest = priced n w (map (λ l. l.now) (drop (i + 1) ls)) (map spans_of (drop (i + 1) ts)) in
    let more : here ++ rest ≡ priced n w (x.now ∷ map (λ l. l.now) (drop (i + 1) ls)) (map spans_of (drop i ts)) =
    ap (λ o. priced_leaf n w x.now o ++ rest) (spans_at r (slice_get ts i) k)
    ∙ ap (λ j. priced_leaf n w x.now (option_map spans_of (slice_get ts i)) ++ priced n w (map (λ l. l.now) (drop (i + 1) ls)) (map spans_of (drop j ts))) (add-one i)
    ∙ sym (one_priced n w x.now (map (λ l. l.now) (drop (i + 1) ls)) ts i) in
    ap (λ ys. ys ++ rest) h ∙ append_assoc old here rest ∙ ap (λ ys. old ++ ys) more ∙ ap (λ zs. old ++ priced n w (map (λ l. l.now) zs) (map spans_of (drop i ts))) (sym e) ∙ inv
