-- Ranges by their names.
use Rattle.std.proofs.Common.{◌≡◌, ℕ, zero, suc, ◌+◌, Bool, true, false, Option, None, Some, List, [], ◌∷◌, ◌++◌, refl, sym, subst, ap, ap₂, ◌∙◌, length, get_or, slice_get, slice_set, ◌<◌, ◌⊎◌, inl, inr, nat_lt, arith, rules}
use Rattle.std.proofs.Math.Path.{fun_ext}
use Rattle.std.proofs.lemmas.List.{length-map, map_push}
use Rattle.std.proofs.lemmas.Option.{slice_get_read}
use Rattle.std.proofs.lemmas.Bool.{lt-ltb}
use Rattle.std.proofs.lemmas.Bool.Decides.{Decides-ltb, same_from_decides}
use Rattle.std.specs.Prelude.{if◌then◌else◌, Result, Ok, Err, OnErr, map, not, string_bytes, position, ◌||◌}
use Rattle.std.specs.Option.{option_map, unwrap_or}
use Rattle.std.specs.List.{IsDistinct, AllByRecursion, AllZip, list_any, position_or_len}
use Rattle.std.specs.Str.{bytes_eq}
use Rattle.std.specs.String.{string_eq}
use Rattle.std.specs.declared.string.String.{String}
use Rattle.std.specs.declared.alloc.Global.{Global}
use Rattle.fb_words.specs.declared.elem_type.ElemType.TheVariants as t
use Rattle.fb_model.specs.Names.{Name}
use Rattle.fb_model.specs.Spans.{Span, whole}
use Rattle.fb_model.specs.Clear.{changed}
use Rattle.fb_model.proofs.Lists.{same_name}
use Rattle.fb_model.proofs.Names.{eq_turned}
use Rattle.fb_ranges_intervals.specs.declared.interval.Interval.{Interval}
use Rattle.fb_ranges_intervals.specs.Views.{span_of}
use Rattle.indexmap.specs.IndexSet.{IndexSet}
use Rattle.fb_ranges.specs.Views.{keys_of, number_of, row_of, spans_in}

-- the span of a row, or all numbers of LINT where there is none
abbrev pub shown : Option Interval → Span
shown row = unwrap_or (option_map span_of row) (whole t.Lint)

same_lt : (p l : ℕ) → nat_lt (suc p) (suc l) ≡ nat_lt p l
same_lt p l = same_from_decides (nat_lt (suc p) (suc l)) (nat_lt p l) (Decides-ltb (suc p) (suc l)) ((λ h. omega (arith, (Decides-ltb p l).0 h)), (λ h. (Decides-ltb p l).1 (omega (arith, h))))

counted_step : (b : Bool) (p : ℕ) → (if b then Some (suc p) else None) ≡ option_map suc (if b then Some p else None)
counted_step true p = refl
counted_step false p = refl

first_step : (b : Bool) (p l : ℕ) → (if nat_lt (if not b then 1 + p else 0) (suc l) then Some (if not b then 1 + p else 0) else None) ≡ (if b then Some 0 else option_map suc (if nat_lt p l then Some p else None))
first_step true p l = ap (λ b. if b then Some 0 else None) (lt-ltb 0 (suc l) (omega arith))
first_step false p l =
    subst (λ (q : ℕ). (if nat_lt q (suc l) then Some q else None) ≡ option_map suc (if nat_lt p l then Some p else None)) (omega arith)
    (ap (λ b. if b then Some (suc p) else None) (same_lt p l) ∙ counted_step (nat_lt p l) p)

-- the number of a name is the first index that passes
pub numbered : (x : Name) (ks : List (String Global)) → position (λ y. bytes_eq x (string_bytes y)) ks ≡ number_of (map string_bytes ks) x
numbered x [] = refl
numbered x (k ∷ ks) =
    first_step (bytes_eq x (string_bytes k)) (position_or_len (λ (y : String Global). bytes_eq x (string_bytes y)) ks) (length ks)
    ∙ ap (λ o. if bytes_eq x (string_bytes k) then Some 0 else option_map suc o) (numbered x ks)

suc_of : (o : Option ℕ) (i : ℕ) → option_map suc o ≡ Some i → (j : ℕ) × (o ≡ Some j) × (i ≡ suc j)
suc_of None i h = cc
suc_of (Some j) i h = (j, refl, cc)

some_same : {X : Type 0} (a b : X) → Some a ≡ Some b → a ≡ b
some_same a b h = cc

none_of : (o : Option ℕ) → option_map suc o ≡ None → o ≡ None
none_of None h = refl
none_of (Some j) h = cc

at_step : (b : Bool) (o : Option ℕ) (r : Interval) (rs : List Interval) (row : Option Interval) (i : ℕ) → ((j : ℕ) → o ≡ Some j → row ≡ slice_get rs j) → (if b then Some 0 else option_map suc o) ≡ Some i → (if b then Some r else row) ≡ slice_get (r ∷ rs) i
at_step true o r rs row zero h at = refl
at_step true o r rs row (suc i) h at = cc
at_step false o r rs row i h at = let s = suc_of o i at in h s.0 s.1 ∙ ap (slice_get (r ∷ rs)) (sym s.2)

-- the row of a name stands at its number
pub row_at : (x : Name) (ns : List Name) (rs : List Interval) (i : ℕ) → length ns ≡ length rs → number_of ns x ≡ Some i → row_of ns rs x ≡ slice_get rs i
row_at x [] rs i same at = cc
row_at x (n ∷ ns) [] i same at = absurd (search (arith, rules))
row_at x (n ∷ ns) (r ∷ rs) i same at = at_step (bytes_eq x n) (number_of ns x) r rs (row_of ns rs x) i (λ j h. row_at x ns rs j (omega (arith, same)) h) at

none_step : (b : Bool) (o : Option ℕ) (r : Interval) (row : Option Interval) → (o ≡ None → row ≡ None) → (if b then Some 0 else option_map suc o) ≡ None → (if b then Some r else row) ≡ None
none_step true o r row h at = cc
none_step false o r row h at = h (none_of o at)

-- a name without a number has no row
pub no_row : (x : Name) (ns : List Name) (rs : List Interval) → number_of ns x ≡ None → row_of ns rs x ≡ None
no_row x [] rs at = refl
no_row x (n ∷ ns) [] at = refl
no_row x (n ∷ ns) (r ∷ rs) at = none_step (bytes_eq x n) (number_of ns x) r (row_of ns rs x) (no_row x ns rs) at

apart : (x y n : Name) → bytes_eq x n ≡ false → bytes_eq y n ≡ true → bytes_eq x y ≡ false
apart x y n h e = subst (λ m. bytes_eq x m ≡ false) (sym (same_name y n e)) h

alike : (x y n : Name) → bytes_eq x n ≡ true → bytes_eq x y ≡ bytes_eq y n
alike x y n h = eq_turned x y ∙ ap (bytes_eq y) (same_name x n h)

here_step : (c : Bool) (v r : Interval) (row : Option Interval) → (if c then Some v else row) ≡ (if c then Some v else (if c then Some r else row))
here_step true v r row = refl
here_step false v r row = refl

there_step : (c d : Bool) (v r : Interval) (old new : Option Interval) → (c ≡ true → d ≡ false) → new ≡ (if d then Some v else old) → (if c then Some r else new) ≡ (if d then Some v else (if c then Some r else old))
there_step true d v r old new h e = ap (λ t. if t then Some v else Some r) (sym (h refl))
there_step false d v r old new h e = e

set_step : (b : Bool) (x y n : Name) (o : Option ℕ) (ns : List Name) (r : Interval) (rs : List Interval) (i : ℕ) (v : Interval) → bytes_eq x n ≡ b
    → ((j : ℕ) → o ≡ Some j → row_of ns (slice_set rs j v) y ≡ (if bytes_eq x y then Some v else row_of ns rs y))
    → (if b then Some 0 else option_map suc o) ≡ Some i
    → row_of (n ∷ ns) (slice_set (r ∷ rs) i v) y ≡ (if bytes_eq x y then Some v else (if bytes_eq y n then Some r else row_of ns rs y))
set_step true x y n o ns r rs zero v e h at =
    here_step (bytes_eq y n) v r (row_of ns rs y) ∙ ap (λ c. if c then Some v else (if bytes_eq y n then Some r else row_of ns rs y)) (sym (alike x y n e))
set_step true x y n o ns r rs (suc i) v e h at = cc
set_step false x y n o ns r rs zero v e h at = let s = suc_of o 0 at in absurd (omega (arith, s.2))
set_step false x y n o ns r rs (suc i) v e h at =
    there_step (bytes_eq y n) (bytes_eq x y) v r (row_of ns rs y) (row_of ns (slice_set rs i v) y) (apart x y n e) (h i (let s = suc_of o (suc i) at in s.1 ∙ ap (λ k. Some k) (omega (arith, s.2))))

set_row : (x y : Name) (ns : List Name) (rs : List Interval) (i : ℕ) (v : Interval) → length ns ≡ length rs → number_of ns x ≡ Some i → row_of ns (slice_set rs i v) y ≡ (if bytes_eq x y then Some v else row_of ns rs y)
set_row x y [] rs i v same at = cc
set_row x y (n ∷ ns) [] i v same at = absurd (search (arith, rules))
set_row x y (n ∷ ns) (r ∷ rs) i v same at =
    set_step (bytes_eq x n) x y n (number_of ns x) ns r rs i v refl (λ j h. set_row x y ns rs j v (omega (arith, same)) h) at

push_step : (x y n : Name) (o : Option ℕ) (v r : Interval) (old new : Option Interval) (b : Bool) → bytes_eq x n ≡ b → (if b then Some 0 else option_map suc o) ≡ None → (o ≡ None → new ≡ (if bytes_eq x y then Some v else old))
    → (if bytes_eq y n then Some r else new) ≡ (if bytes_eq x y then Some v else (if bytes_eq y n then Some r else old))
push_step x y n o v r old new true e at h = cc
push_step x y n o v r old new false e at h = there_step (bytes_eq y n) (bytes_eq x y) v r old new (apart x y n e) (h (none_of o at))

push_row : (x y : Name) (ns : List Name) (rs : List Interval) (v : Interval) → length ns ≡ length rs → number_of ns x ≡ None → row_of (ns ++ x ∷ []) (rs ++ v ∷ []) y ≡ (if bytes_eq x y then Some v else row_of ns rs y)
push_row x y [] [] v same at = ap (λ b. if b then Some v else None) (eq_turned y x)
push_row x y [] (r ∷ rs) v same at = absurd (search (arith, rules))
push_row x y (n ∷ ns) [] v same at = absurd (search (arith, rules))
push_row x y (n ∷ ns) (r ∷ rs) v same at =
    push_step x y n (number_of ns x) v r (row_of ns rs y) (row_of (ns ++ x ∷ []) (rs ++ v ∷ []) y) (bytes_eq x n) refl at (λ h. push_row x y ns rs v (omega (arith, same)) h)

-- one row is another
put_spans : (olds news : List Name) (old new : List Interval) (x : Name) (i : Interval) → ((y : Name) → row_of news new y ≡ (if bytes_eq x y then Some i else row_of olds old y)) → spans_in news new ≡ changed x (λ r. span_of i) (spans_in olds old)
put_spans olds news old new x i h = fun_ext (λ y. ap shown (h y) ∙ by (bytes_eq x y) (row_of olds old y)) where
  by : (b : Bool) (row : Option Interval) → shown (if b then Some i else row) ≡ (if b then span_of i else shown row)
  by true row = refl
  by false row = refl

spans_set : (x : Name) (ns : List Name) (rs : List Interval) (i : ℕ) (v : Interval) → length ns ≡ length rs → number_of ns x ≡ Some i → spans_in ns (slice_set rs i v) ≡ changed x (λ r. span_of v) (spans_in ns rs)
spans_set x ns rs i v same at = put_spans ns ns rs (slice_set rs i v) x v (λ y. set_row x y ns rs i v same at)

spans_push : (x : Name) (ns : List Name) (rs : List Interval) (v : Interval) → length ns ≡ length rs → number_of ns x ≡ None → spans_in (ns ++ x ∷ []) (rs ++ v ∷ []) ≡ changed x (λ r. span_of v) (spans_in ns rs)
spans_push x ns rs v same at = put_spans ns (ns ++ x ∷ []) rs (rs ++ v ∷ []) x v (λ y. push_row x y ns rs v same at)

all_at : (P : String Global → Type 0) (ks : List (String Global)) (i : ℕ) (k : String Global) → AllByRecursion P ks → slice_get ks i ≡ Some k → P k
all_at P [] i k all at = cc
all_at P (n ∷ ks) zero k all at = subst P (some_same n k at) all.0
all_at P (n ∷ ks) (suc i) k all at = all_at P ks i k all.1 at

-- a name has the number of the key that is it, where no two keys are the same
pub number_is : (x : Name) (ks : List (String Global)) (i : ℕ) (k : String Global) → IsDistinct string_eq ks → slice_get ks i ≡ Some k → bytes_eq (string_bytes k) x ≡ true → number_of (map string_bytes ks) x ≡ Some i
unfolding IsDistinct
number_is x [] i k distinct at is = cc
number_is x (n ∷ ks) zero k distinct at is =
    ap (λ b. if b then Some 0 else option_map suc (number_of (map string_bytes ks) x)) (eq_turned x (string_bytes n) ∙ ap (λ (m : String Global). bytes_eq (string_bytes m) x) (some_same n k at) ∙ is)
number_is x (n ∷ ks) (suc i) k distinct at is =
    let other : bytes_eq (string_bytes n) (string_bytes k) ≡ false = all_at (λ y. string_eq n y ≡ false) ks i k distinct.0 at in
    let name : string_bytes k ≡ x = same_name (string_bytes k) x is in
    ap (λ b. if b then Some 0 else option_map suc (number_of (map string_bytes ks) x)) (eq_turned x (string_bytes n) ∙ ap (bytes_eq (string_bytes n)) (sym name) ∙ other) ∙ ap (option_map suc) (number_is x ks i k distinct.1 at is)

same_names : (ks ls : List (String Global)) → AllZip (λ (k l : String Global). string_bytes l ≡ string_bytes k) ks ls → map string_bytes ls ≡ map string_bytes ks
same_names [] [] h = refl
same_names [] (l ∷ ls) h = absurd h
same_names (k ∷ ks) [] h = absurd h
same_names (k ∷ ks) (l ∷ ls) h = ap₂ (λ (n : Name) (ns : List Name). n ∷ ns) h.0 (same_names ks ls h.1)

-- names that are there already, or a copy of them, are the same
pub cloned : {S : Type 0} (s n : IndexSet (String Global) S) → (n ≡ s) ⊎ AllZip (λ (k l : String Global). string_bytes l ≡ string_bytes k) s.keys n.keys → keys_of n ≡ keys_of s
cloned s n (inl same) = ap keys_of same
cloned s n (inr copies) = same_names s.keys n.keys copies

any_step : (b : Bool) (any : Bool) (o : Option ℕ) → (o ≡ None → any ≡ false) → (if b then Some 0 else option_map suc o) ≡ None → (b || any) ≡ false
any_step true any o h at = cc
any_step false any o h at = h (none_of o at)

-- a key whose name has no number is none of the keys
pub no_key : (k : String Global) (ks : List (String Global)) → number_of (map string_bytes ks) (string_bytes k) ≡ None → list_any (string_eq k) ks ≡ false
no_key k [] at = refl
no_key k (l ∷ ks) at = any_step (string_eq k l) (list_any (string_eq k) ks) (number_of (map string_bytes ks) (string_bytes k)) (no_key k ks) at

within_step : (b : Bool) (o : Option ℕ) (l i : ℕ) → ((j : ℕ) → o ≡ Some j → j < l) → (if b then Some 0 else option_map suc o) ≡ Some i → i < suc l
within_step true o l zero h at = omega arith
within_step true o l (suc i) h at = cc
within_step false o l i h at = let s = suc_of o i at in let w = h s.0 s.1 in omega (arith, w, s.2)

within : (x : Name) (ns : List Name) (i : ℕ) → number_of ns x ≡ Some i → i < length ns
within x [] i at = cc
within x (n ∷ ns) i at = within_step (bytes_eq x n) (number_of ns x) (length ns) i (within x ns) at

-- the number of a name is that of a row
pub row_within : (x : Name) (ks : List (String Global)) (rs : List Interval) (i : ℕ) → length ks ≡ length rs → number_of (map string_bytes ks) x ≡ Some i → i < length rs
row_within x ks rs i even at = let w = within x (map string_bytes ks) i at in omega (arith, w, length-map ks string_bytes, even)

-- what stands in the row of a name is its range
pub found : (x : Name) (ks : List (String Global)) (rs : List Interval) (i : ℕ) (r : Interval) → length ks ≡ length rs → number_of (map string_bytes ks) x ≡ Some i → r ≡ get_or rs i r → span_of r ≡ spans_in (map string_bytes ks) rs x
found x ks rs i r even at is = ap shown (sym (row_at x (map string_bytes ks) rs i (length-map ks string_bytes ∙ even) at ∙ slice_get_read rs (length rs) i r refl (row_within x ks rs i even at) is))

-- a name without a number has all numbers of LINT
pub lost : (x : Name) (ks : List (String Global)) (rs : List Interval) → number_of (map string_bytes ks) x ≡ None → spans_in (map string_bytes ks) rs x ≡ whole t.Lint
lost x ks rs at = ap shown (no_row x (map string_bytes ks) rs at)

-- the row of a name is another
pub set : (x : Name) (ks : List (String Global)) (rs : List Interval) (i : ℕ) (v : Interval) → length ks ≡ length rs → number_of (map string_bytes ks) x ≡ Some i → spans_in (map string_bytes ks) (slice_set rs i v) ≡ changed x (λ r. span_of v) (spans_in (map string_bytes ks) rs)
set x ks rs i v even at = spans_set x (map string_bytes ks) rs i v (length-map ks string_bytes ∙ even) at

-- one more name, with its row
pub pushed : (x : Name) (ks : List (String Global)) (rs : List Interval) (v : Interval) (ns : List Name) → length ks ≡ length rs → number_of (map string_bytes ks) x ≡ None → ns ≡ map string_bytes ks ++ x ∷ [] → spans_in ns (rs ++ v ∷ []) ≡ changed x (λ r. span_of v) (spans_in (map string_bytes ks) rs)
pushed x ks rs v ns even at is = ap (λ m. spans_in m (rs ++ v ∷ [])) is ∙ spans_push x (map string_bytes ks) rs v (length-map ks string_bytes ∙ even) at

-- one more key
pub one_more : {S : Type 0} (s n m : IndexSet (String Global) S) (k : String Global) → keys_of n ≡ keys_of s → number_of (keys_of s) (string_bytes k) ≡ None → m.keys ≡ (if list_any (string_eq k) n.keys then n.keys else n.keys ++ k ∷ []) → keys_of m ≡ keys_of s ++ string_bytes k ∷ []
one_more s n m k same new is =
    ap (map string_bytes) (is ∙ ap (λ b. if b then n.keys else n.keys ++ k ∷ []) (no_key k n.keys (ap (λ ns. number_of ns (string_bytes k)) same ∙ new)))
    ∙ map_push string_bytes n.keys k ∙ ap (λ ns. ns ++ string_bytes k ∷ []) same

pub on_err : {T E P : Type 0} (r : Result T E) → P → OnErr r P
on_err (Ok x) p = tt
on_err (Err e) p = p

pub at_err : {T E P : Type 0} (r : Result T E) (e : E) → r ≡ Err e → OnErr r P → P
at_err (Ok x) e h p = cc
at_err (Err d) e h p = p
