-- Lists of names by what is in them, one name or one list of names more.
use Rattle.std.proofs.Common.{◌≡◌, ℕ, zero, suc, ◌+◌, ◌<◌, Bool, true, false, not, cond, ◌||◌, List, [], ◌∷◌, ◌++◌, map, drop, length, get_or, slice_get, Some, None, refl, sym, ap, subst, ◌∙◌, add-one, append_assoc, append-nil, string_bytes}
use Rattle.std.specs.List.{AllByRecursion, IsDistinct, flat_map}
use Rattle.std.specs.Str.{bytes_eq}
use Rattle.std.proofs.lemmas.List.Folds.{list_any-append}
use Rattle.std.proofs.lemmas.Option.{slice_get_read}
use Rattle.std.proofs.Math.Seq.{drop-cons}
use Rattle.fb_model.specs.Names.{Name, is_in}
use Rattle.fb_model.proofs.Lists.{same_name}
use Rattle.fb_types_blocks.specs.Answers.{Extends}
use Rattle.fb_check_rows.proofs.Names.{bytes_same, bytes_turned}
use Rattle.fb_faults.specs.declared.row.RowFault.{RowFault}
use Rattle.fb_faults.specs.declared.row.RowFault.TheVariants.{OutOfMemory, Unknown, Missing, UnknownChannel, MissingChannel}
use Rattle.fb_check_rows.specs.Members.{HasSame, AreAmong, gathered, with_name}
use Rattle.fb_check_rows.specs.Faults.{IsDifference}

-- ---- tests

turned : (a b : Bool) → (a || (b || false)) ≡ (b || a)
turned true true = refl
turned true false = refl
turned false true = refl
turned false false = refl

-- two tests that tell the same are the same
same_test : (a b : Bool) → (a ≡ true → b ≡ true) → (b ≡ true → a ≡ true) → a ≡ b
same_test true true f g = refl
same_test true false f g = sym (f refl)
same_test false true f g = g refl
same_test false false f g = refl

-- ---- the rest of a list

pub rest_at : {X : Type 0} (xs : List X) (i : ℕ) (x : X) → slice_get xs i ≡ Some x → drop i xs ≡ x ∷ drop (i + 1) xs
rest_at xs i x h = rw add-one (by xs i x h) where
  by : {X : Type 0} (xs : List X) (i : ℕ) (x : X) → slice_get xs i ≡ Some x → drop i xs ≡ x ∷ drop (suc i) xs
  by [] i x h = absurd cc
  by (y ∷ xs) zero x h = let e : y ≡ x = cc in ap (λ z. z ∷ xs) e
  by (y ∷ xs) (suc i) x h = by xs i x h

pub rest_of : {X : Type 0} (xs : List X) (i : ℕ) (x : X) → i < length xs → x ≡ get_or xs i x → drop i xs ≡ x ∷ drop (i + 1) xs
rest_of xs i x l e = rest_at xs i x (slice_get_read xs (length xs) i x refl l e)

or_true : (b : Bool) → (b || true) ≡ true
or_true true = refl
or_true false = refl

-- what stands at an index is in the list
pub is_there : (xs : List Name) (i : ℕ) (x : Name) → slice_get xs i ≡ Some x → is_in x xs ≡ true
is_there [] i x h = absurd cc
is_there (y ∷ xs) zero x h = let e : y ≡ x = cc in ap (λ z. bytes_eq x z || is_in x xs) e ∙ ap (λ t. t || is_in x xs) (bytes_same x)
is_there (y ∷ xs) (suc i) x h = ap (λ t. bytes_eq x y || t) (is_there xs i x h) ∙ or_true (bytes_eq x y)

pub stands_in : {X : Type 0} (f : X → Name) (xs : List X) (i : ℕ) (x : X) → slice_get xs i ≡ Some x → is_in (f x) (map f xs) ≡ true
stands_in f [] i x h = absurd cc
stands_in f (y ∷ xs) zero x h = let e : y ≡ x = cc in ap (λ z. bytes_eq (f x) (f z) || is_in (f x) (map f xs)) e ∙ ap (λ t. t || is_in (f x) (map f xs)) (bytes_same (f x))
stands_in f (y ∷ xs) (suc i) x h = ap (λ t. bytes_eq (f x) (f y) || t) (stands_in f xs i x h) ∙ or_true (bytes_eq (f x) (f y))

-- ---- names, each where it comes first

pub extended : (old : List Name) (name : Name) (new : List Name) (said : Bool) → Extends old name new said → new ≡ with_name old name
extended old name new said h = by (is_in name old) h.0 where
  by : (b : Bool) → said ≡ not b → new ≡ cond b old (old ++ name ∷ [])
  by true s = h.1 ∙ ap (λ t. cond t (old ++ name ∷ []) old) s
  by false s = h.1 ∙ ap (λ t. cond t (old ++ name ∷ []) old) s

pub gathered_append : (old xs ys : List Name) → gathered old (xs ++ ys) ≡ gathered (gathered old xs) ys
gathered_append old [] ys = refl
gathered_append old (x ∷ xs) ys = gathered_append (with_name old x) xs ys

-- first those of one list, then those of another
pub gathered_both : (old mid new xs ys : List Name) → mid ≡ gathered old xs → new ≡ gathered mid ys → new ≡ gathered old (xs ++ ys)
gathered_both old mid new xs ys h k = k ∙ ap (λ ns. gathered ns ys) h ∙ sym (gathered_append old xs ys)

-- first those of a list, then one more
pub gathered_one : (old mid new xs : List Name) (y : Name) → mid ≡ gathered old xs → new ≡ with_name mid y → new ≡ gathered old (xs ++ y ∷ [])
gathered_one old mid new xs y h k = gathered_both old mid new xs (y ∷ []) h k

-- one list less is left
pub gathered_step : (old new xs rest goal : List Name) → new ≡ gathered old xs → gathered old (xs ++ rest) ≡ goal → gathered new rest ≡ goal
gathered_step old new xs rest goal h k = ap (λ ns. gathered ns rest) h ∙ sym (gathered_append old xs rest) ∙ k

-- one item less is left of a list whose items each have one name
pub next_item : {X : Type 0} (g : Name → Name) (f : X → Name) (xs : List X) (i : ℕ) (x : X) (old new goal : List Name)
    → drop i xs ≡ x ∷ drop (i + 1) xs → new ≡ with_name old (g (f x)) → gathered old (map g (map f (drop i xs))) ≡ goal → gathered new (map g (map f (drop (i + 1) xs))) ≡ goal
next_item g f xs i x old new goal e h k =
    ap (λ ns. gathered ns (map g (map f (drop (i + 1) xs)))) h
    ∙ subst (λ ys. gathered old (map g (map f ys)) ≡ goal) e k

-- one item less is left of a list whose items each have many
pub next_items : {X : Type 0} (f : X → List Name) (xs : List X) (i : ℕ) (x : X) (old new goal : List Name) → drop i xs ≡ x ∷ drop (i + 1) xs → new ≡ gathered old (f x) → gathered old (flat_map f (drop i xs)) ≡ goal
    → gathered new (flat_map f (drop (i + 1) xs)) ≡ goal
next_items f xs i x old new goal e h k = gathered_step old new (f x) (flat_map f (drop (i + 1) xs)) goal h (subst (λ ys. gathered old (flat_map f ys) ≡ goal) e k)

-- ---- what is in them

there : (x name : Name) (old : List Name) (t : Bool) → is_in name old ≡ true → bytes_eq x name ≡ t → is_in x old ≡ (t || is_in x old)
there x name old true e f = subst (λ z. is_in z old ≡ true) (sym (same_name x name f)) e
there x name old false e f = refl

more_in : (x name : Name) (old : List Name) → is_in x (with_name old name) ≡ (bytes_eq x name || is_in x old)
more_in x name old = by (is_in name old) refl where
  by : (b : Bool) → is_in name old ≡ b → is_in x (cond b old (old ++ name ∷ [])) ≡ (bytes_eq x name || is_in x old)
  by true e = there x name old (bytes_eq x name) e refl
  by false e = list_any-append (bytes_eq x) old (name ∷ []) ∙ turned (is_in x old) (bytes_eq x name)

gathered_in : (x : Name) (old xs : List Name) → is_in x (gathered old xs) ≡ (is_in x xs || is_in x old)
gathered_in x old [] = refl
gathered_in x old (y ∷ ys) = gathered_in x (with_name old y) ys ∙ ap (λ t. is_in x ys || t) (more_in x y old) ∙ between (is_in x ys) (bytes_eq x y) (is_in x old) where
  between : (a b c : Bool) → (a || (b || c)) ≡ ((b || a) || c)
  between true true c = refl
  between true false c = refl
  between false true c = refl
  between false false c = refl

-- names that were gathered are the same
pub gathered_same : (ns xs : List Name) → ns ≡ gathered [] xs → HasSame ns xs
gathered_same ns xs h = record { same = λ x. ap (is_in x) h ∙ gathered_in x [] xs ∙ or_false (is_in x xs) } where
  or_false : (t : Bool) → (t || false) ≡ t
  or_false true = refl
  or_false false = refl

-- names of which no two are the same are gathered in their order
pub all_gathered : (old xs : List Name) → AllByRecursion (λ x. is_in x old ≡ false) xs → IsDistinct bytes_eq xs → gathered old xs ≡ old ++ xs
unfolding IsDistinct
all_gathered old [] h d = sym (append-nil old)
all_gathered old (x ∷ xs) h d =
    ap (λ t. gathered (cond t old (old ++ x ∷ [])) xs) h.0
    ∙ all_gathered (old ++ x ∷ []) xs (none_more xs h.1 d.0) d.1
    ∙ append_assoc old (x ∷ []) xs
  where
    not_in : (y : Name) → is_in y old ≡ false → bytes_eq x y ≡ false → is_in y (old ++ x ∷ []) ≡ false
    not_in y a b = list_any-append (bytes_eq y) old (x ∷ []) ∙ ap (λ t. t || (bytes_eq y x || false)) a ∙ ap (λ t. t || false) (bytes_turned x y false b)

    none_more : (ys : List Name) → AllByRecursion (λ y. is_in y old ≡ false) ys → AllByRecursion (λ y. bytes_eq x y ≡ false) ys → AllByRecursion (λ y. is_in y (old ++ x ∷ []) ≡ false) ys
    none_more [] a b = tt
    none_more (y ∷ ys) a b = (not_in y a.0 b.0, none_more ys a.1 b.1)

pub each_gathered : (xs : List Name) → IsDistinct bytes_eq xs → gathered [] xs ≡ xs
each_gathered xs d = all_gathered [] xs (none xs) d where
  none : (xs : List Name) → AllByRecursion (λ x. is_in x [] ≡ false) xs
  none [] = tt
  none (x ∷ xs) = (refl, none xs)

-- ---- one list among another

pub among_more : (x : Name) (xs ys : List Name) → is_in x ys ≡ true → AreAmong xs ys → AreAmong (x ∷ xs) ys
among_more x xs ys h k = record { among = λ z. by z (bytes_eq z x) refl } where
  by : (z : Name) (t : Bool) → bytes_eq z x ≡ t → (t || is_in z xs) ≡ true → is_in z ys ≡ true
  by z true e f = subst (λ w. is_in w ys ≡ true) (sym (same_name z x e)) h
  by z false e f = k.among z f

pub none_among : (ys : List Name) → AreAmong [] ys
none_among ys = record { among = λ z h. absurd cc }

pub both_ways : (xs ys zs : List Name) → AreAmong xs ys → AreAmong ys xs → HasSame xs zs → HasSame ys zs
both_ways xs ys zs h k s = record { same = λ x. same_test (is_in x ys) (is_in x xs) (k.among x) (h.among x) ∙ s.same x }

-- a list without a first has none
pub no_first : (xs : List Name) → slice_get xs 0 ≡ None → HasSame xs []
no_first [] h = record { same = λ x. refl }
no_first (x ∷ xs) h = absurd cc

-- ---- refusals

pub other_names : (xs ys ps : List Name) (f : RowFault) → HasSame xs ys → IsDifference xs ps f → IsDifference ys ps f
other_names xs ys ps OutOfMemory s h = tt
other_names xs ys ps (Unknown path) s h = (h.0, sym (s.same (string_bytes path)) ∙ h.1)
other_names xs ys ps (Missing path) s h = (h.0, sym (s.same (string_bytes path)) ∙ h.1)
other_names xs ys ps (UnknownChannel c) s h = h
other_names xs ys ps (MissingChannel c) s h = h

-- the item at an index, before those behind it
pub rest_got : {X : Type 0} (xs : List X) (i : ℕ) (d : X) → i < length xs → drop i xs ≡ get_or xs i d ∷ drop (i + 1) xs
rest_got xs i d l = rw add-one (drop-cons xs i d l)
