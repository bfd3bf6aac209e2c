-- Values that are kept as numbers in a row: what is read from slots, and what is written.
use Rattle.std.proofs.Common.{◌≡◌, ℕ, zero, suc, ◌+◌, ◌-◌, ◌<◌, ◌≤◌, ℤ, pos, ◌-ℤ◌, ◌≤ℤ◌, unsigned_abs, int_le, Bool, true, false, ◌&&◌, inl, inr, List, [], ◌∷◌, ◌++◌, length, take, drop, replicate, get_or, Option, None, Some, IsSome, refl, sym, ap, subst, ◌∙◌, arith, append_assoc, length-drop, length-append, min}
use Rattle.std.specs.Prelude.{slice_get, slice_set, if◌then◌else◌}
use Rattle.std.specs.Option.{option_map}
use Rattle.std.specs.Str.{bytes_eq}
use Rattle.std.proofs.Math.Path.{fun_ext}
use Rattle.std.proofs.Math.Seq.{take-set-lt}
use Rattle.std.proofs.lemmas.List.{drop-set-add, drop-replicate, take-replicate, take-append-le, take_all, length-take-le, length-replicate, length-set}
use Rattle.std.proofs.lemmas.Bool.{cases_lt}
use Rattle.std.proofs.lemmas.List.Edits.{sets, sets-eq}
use Rattle.fb_words.proofs.Types.{le_true}
use Rattle.fb_model.specs.Names.{Name}
use Rattle.fb_model.proofs.Lists.{same_name}
use Rattle.fb_model.specs.Values.{Value, Values, One, Many, number_of, numbers_of}
use Rattle.fb_model.specs.BlockTyping.{extent}
use Rattle.fb_model.specs.Language.{element_at, setting, setting_part, Done, Trap}
use Rattle.fb_model.specs.Shapes.{HasForm, HasShape}
use Rattle.st_exec.specs.Forms.{Form, slot_count, size_of, slot_in, bounds_in, plain_slot}
use Rattle.st_exec.specs.Cells.{Cell, values_of, forms_of, shape_in, filled, declared}
use Rattle.st_exec.specs.Slots.{first_of, formed}
use Rattle.st_exec.proofs.Writing.{IsSameOutside, set_same, first_put, index_within, spliced}
use Rattle.st_exec.proofs.Reading.{element_is, some_within, taken_few}
use Rattle.st_exec.specs.Kept.{cells_at, zeros_in}
use Rattle.st_exec.proofs.Slots.{shape_is, array_within, apart, one_slot, plain_is}

-- ---- a whole layout

pub forms_at : (fs : List Form) (ns : List ℤ) → forms_of (cells_at fs ns) ≡ fs
forms_at [] ns = refl
forms_at (f ∷ fs) ns = ap (λ l. f ∷ l) (forms_at fs (drop (slot_count f.1) ns))

drop_none : (n : ℕ) → drop {A = ℤ} n [] ≡ []
drop_none zero = refl
drop_none (suc n) = refl

drop_drop : (k n : ℕ) (ns : List ℤ) → drop n (drop k ns) ≡ drop (k + n) ns
drop_drop zero n ns = let e : n ≡ 0 + n = omega arith in ap (λ i. drop i ns) e
drop_drop (suc k) n [] = drop_none n ∙ sym (drop_none (suc k + n))
drop_drop (suc k) n (x ∷ xs) = drop_drop k n xs ∙ ap (λ i. drop i (x ∷ xs)) (let e : suc (k + n) ≡ suc k + n = omega arith in e)

-- the value of a variable stands in its slots
pub value_at : (fs : List Form) (ns : List ℤ) (x : Name) → size_of fs ≡ length ns → values_of (cells_at fs ns) x ≡ formed (bounds_in fs x) (drop (slot_in fs x) ns)
value_at [] [] x h = refl
value_at [] (n ∷ ns) x h = absurd (omega (arith, h))
value_at (f ∷ fs) ns x h = by (bytes_eq x f.0) (value_at fs (drop (slot_count f.1) ns) x (omega (arith, h, length-drop (slot_count f.1) ns))) where
  by : (b : Bool) → values_of (cells_at fs (drop (slot_count f.1) ns)) x ≡ formed (bounds_in fs x) (drop (slot_in fs x) (drop (slot_count f.1) ns))
      → (if b then formed f.1 ns else values_of (cells_at fs (drop (slot_count f.1) ns)) x) ≡ formed (if b then f.1 else bounds_in fs x) (drop (if b then 0 else slot_count f.1 + slot_in fs x) ns)
  by true again = refl
  by false again = again ∙ ap (formed (bounds_in fs x)) (drop_drop (slot_count f.1) (slot_in fs x) ns)

-- ---- zeros

take_none : (n : ℕ) → take {A = ℤ} n [] ≡ []
take_none zero = refl
take_none (suc n) = refl

formed_zeros : (b : Option (ℤ × ℤ)) (n : ℕ) → slot_count b ≤ n → formed b (replicate n (pos 0)) ≡ filled b (pos 0)
formed_zeros None zero h = absurd (omega (arith, h))
formed_zeros None (suc n) h = refl
formed_zeros (Some b) n h = ap Many (take-replicate (extent b) n (pos 0) h)

pub zeros_at : (fs : List Form) (n : ℕ) → size_of fs ≤ n → cells_at fs (replicate n (pos 0)) ≡ zeros_in fs
zeros_at [] n h = refl
zeros_at (f ∷ fs) n h =
    ap (λ v. record { name = f.0; bounds = f.1; value = v } ∷ cells_at fs (drop (slot_count f.1) (replicate n (pos 0)))) (formed_zeros f.1 n (omega (arith, h)))
    ∙ ap (λ ns. declared f.0 f.1 (pos 0) ∷ cells_at fs ns) (drop-replicate (slot_count f.1) n (pos 0))
    ∙ ap (λ cs. declared f.0 f.1 (pos 0) ∷ cs) (zeros_at fs (n - slot_count f.1) (omega (arith, h)))

-- so many zeros in place of nothing
pub zeros_resized : (fs : List Form) (before after : List ℤ) (n m : ℕ) → before ≡ [] → m ≡ 0 → n ≡ size_of fs → after ≡ take n before ++ replicate (n - m) (pos 0) → cells_at fs after ≡ zeros_in fs
zeros_resized fs before after n m none nil all e =
    let a : take n before ≡ [] = ap (take n) none ∙ take_none n in
    let k : n - m ≡ size_of fs = omega (arith, nil, all) in
    ap (cells_at fs) (e ∙ ap (λ l. l ++ replicate (n - m) (pos 0)) a ∙ ap (λ i. replicate i (pos 0)) k) ∙ zeros_at fs (size_of fs) (omega arith)

-- ---- forms

formed_has : (b : Option (ℤ × ℤ)) (ns : List ℤ) → slot_count b ≤ length ns → HasForm b (formed b ns)
formed_has None ns h = tt
formed_has (Some b) ns h = length-take-le (extent b) ns h

-- ---- reading

pub first_at : (ns : List ℤ) (i : ℕ) → first_of (drop i ns) ≡ get_or ns i (pos 0)
first_at [] zero = refl
first_at [] (suc i) = refl
first_at (n ∷ ns) zero = refl
first_at (n ∷ ns) (suc i) = first_at ns i

get_none : (ns : List ℤ) (i : ℕ) → length ns ≤ i → get_or ns i (pos 0) ≡ pos 0
get_none [] zero h = refl
get_none [] (suc i) h = refl
get_none (n ∷ ns) zero h = absurd (omega (arith, h))
get_none (n ∷ ns) (suc i) h = get_none ns i (omega (arith, h))

got_some : (ns : List ℤ) (j : ℕ) → IsSome (slice_get ns j) → slice_get ns j ≡ Some (get_or ns j (pos 0))
got_some [] j h = absurd (cc)
got_some (n ∷ ns) zero h = refl
got_some (n ∷ ns) (suc j) h = got_some ns j h

get_drop : (ns : List ℤ) (i j : ℕ) → get_or (drop i ns) j (pos 0) ≡ get_or ns (i + j) (pos 0)
get_drop ns i j = sym (first_at (drop i ns) j) ∙ ap first_of (drop_drop i j ns) ∙ first_at ns (i + j)

get_take : (n : ℕ) (ns : List ℤ) (j : ℕ) → j < n → get_or (take n ns) j (pos 0) ≡ get_or ns j (pos 0)
get_take zero ns j h = absurd (omega arith)
get_take (suc n) [] j h = refl
get_take (suc n) (x ∷ xs) zero h = refl
get_take (suc n) (x ∷ xs) (suc j) h = get_take n xs j (omega arith)

-- an element of a value, by its distance from the first
get_formed : (b : Option (ℤ × ℤ)) (ns : List ℤ) (j : ℕ) → j < length (numbers_of (formed b ns)) → get_or (numbers_of (formed b ns)) j (pos 0) ≡ get_or ns j (pos 0)
get_formed None ns zero h = first_at ns 0
get_formed None ns (suc j) h = absurd (omega (arith, h))
get_formed (Some b) ns j h = get_take (extent b) ns j (omega (arith, h, taken_few (extent b) ns))

-- a sum that stops at the greatest number is behind all slots
got_saturated : (ns : List ℤ) (a most : ℕ) → length ns ≤ most → get_or ns (min a most) (pos 0) ≡ get_or ns a (pos 0)
got_saturated ns a most h = elim (cases_lt a most) [
  | inl lt ↦ ap (λ i. get_or ns i (pos 0)) (let e : min a most ≡ a = omega arith in e)
  | inr le ↦ get_none ns (min a most) (omega arith) ∙ sym (get_none ns a (omega arith))
]

module _ (cells : List Cell) (fs : List Form) (ns : List ℤ) (is : cells_at fs ns ≡ cells) (size : size_of fs ≡ length ns) where
  pub forms_are : forms_of cells ≡ fs
  forms_are = ap forms_of (sym is) ∙ forms_at fs ns

  pub room_is : size_of (forms_of cells) ≡ length ns
  room_is = ap size_of forms_are ∙ size

  values_are : (x : Name) → values_of cells x ≡ formed (bounds_in fs x) (drop (slot_in fs x) ns)
  values_are x = ap (λ cs. values_of cs x) (sym is) ∙ value_at fs ns x size

  -- values have the forms that are declared
  pub has_forms : HasShape (shape_in (forms_of cells)) (values_of cells)
  has_forms x =
      subst (λ b. HasForm b (values_of cells x)) (sym (ap (λ l. shape_in l x) forms_are ∙ shape_is fs x))
      (subst (HasForm (bounds_in fs x)) (sym (values_are x)) (by (bounds_in fs x) refl))
    where
      by : (b : Option (ℤ × ℤ)) → bounds_in fs x ≡ b → HasForm b (formed b (drop (slot_in fs x) ns))
      by None f = tt
      by (Some b) f = formed_has (Some b) (drop (slot_in fs x) ns) (omega (arith, array_within fs x b f, size, length-drop (slot_in fs x) ns))

  -- the number of a variable
  pub number_read : (x : Name) (slot : ℕ) → plain_slot (forms_of cells) x ≡ slot → get_or ns slot (pos 0) ≡ number_of (values_of cells x)
  number_read x slot h = by (bounds_in fs x) (sym (plain_is fs x) ∙ sym (ap (λ l. plain_slot l x) forms_are) ∙ h) ∙ sym (ap number_of (values_are x)) where
    by : (b : Option (ℤ × ℤ)) → one_slot b (slot_in fs x) (size_of fs) ≡ slot → get_or ns slot (pos 0) ≡ number_of (formed b (drop (slot_in fs x) ns))
    by None e = sym (first_at ns slot) ∙ ap (λ i. first_of (drop i ns)) (sym e)
    by (Some b) e = get_none ns slot (omega (arith, e, size))

  -- an element of a variable
  pub element_read : (x : Name) (low high k : ℤ) (first most d : ℕ) → slot_in (forms_of cells) x ≡ first → length ns ≤ most → d ≡ unsigned_abs (k -ℤ low) → IsSome (element_at low high (numbers_of (values_of cells x)) k)
      → element_at low high (numbers_of (values_of cells x)) k ≡ Some (get_or ns (min (first + d) most) (pos 0))
  element_read x low high k first most d h l e some =
      let v = formed (bounds_in fs x) (drop (slot_in fs x) ns) in
      let u = unsigned_abs (k -ℤ low) in
      let f : element_at low high (numbers_of (values_of cells x)) k ≡ element_at low high (numbers_of v) k = ap (λ w. element_at low high (numbers_of w) k) (values_are x) in
      let g : element_at low high (numbers_of v) k ≡ slice_get (numbers_of v) u = element_is low high k (numbers_of v) (subst IsSome f some) in
      let there : IsSome (slice_get (numbers_of v) u) = subst IsSome (f ∙ g) some in
      let at : slot_in fs x ≡ first = sym (ap (λ fs. slot_in fs x) forms_are) ∙ h in
      let sum : slot_in fs x + u ≡ first + d = ap (λ i. i + u) at ∙ ap (λ i. first + i) (sym e) in
      f ∙ g ∙ got_some (numbers_of v) u there
      ∙ ap Some (get_formed (bounds_in fs x) (drop (slot_in fs x) ns) u (some_within (numbers_of v) u there) ∙ get_drop ns (slot_in fs x) u ∙ ap (λ i. get_or ns i (pos 0)) sum ∙ sym (got_saturated ns (first + d) most l))

-- ---- writing

first_taken : (ns others : List ℤ) → take 1 ns ≡ take 1 others → first_of ns ≡ first_of others
first_taken [] [] e = refl
first_taken [] (y ∷ ys) e = absurd (cc)
first_taken (x ∷ xs) [] e = absurd (cc)
first_taken (x ∷ xs) (y ∷ ys) e = cc

-- a value is that of its own slots
formed_same : (b : Option (ℤ × ℤ)) (ns others : List ℤ) → take (slot_count b) ns ≡ take (slot_count b) others → formed b ns ≡ formed b others
formed_same None ns others e = ap One (first_taken ns others e)
formed_same (Some b) ns others e = ap Many e

-- forms do not tell of numbers
pub forms_kept : (cells : List Cell) (fs : List Form) (ns others : List ℤ) → cells_at fs ns ≡ cells → forms_of (cells_at fs others) ≡ forms_of cells
forms_kept cells fs ns others is = forms_at fs others ∙ sym (forms_at fs ns) ∙ ap forms_of is

module _ (cells : List Cell) (fs : List Form) (ns others : List ℤ) (is : cells_at fs ns ≡ cells) (size : size_of fs ≡ length ns) (long : length others ≡ length ns) where
  module _ (x : Name) (w : Value) (room : slot_in fs x + slot_count (bounds_in fs x) ≤ size_of fs) (new : formed (bounds_in fs x) (drop (slot_in fs x) others) ≡ w)
      (same : IsSameOutside (slot_in fs x) (slot_in fs x + slot_count (bounds_in fs x)) ns others) where
    value_after : (y : Name) → values_of (cells_at fs others) y ≡ setting (values_of cells) x w y
    value_after y = by (bytes_eq x y) refl where
      by : (b : Bool) → bytes_eq x y ≡ b → values_of (cells_at fs others) y ≡ (if b then w else values_of cells y)
      by true e = ap (values_of (cells_at fs others)) (sym (same_name x y e)) ∙ value_at fs others x (size ∙ sym long) ∙ new
      by false e =
          value_at fs others y (size ∙ sym long)
          ∙ formed_same (bounds_in fs y) (drop (slot_in fs y) others) (drop (slot_in fs y) ns) (same (slot_in fs y) (slot_count (bounds_in fs y)) (apart fs x y e room))
          ∙ sym (value_at fs ns y size) ∙ ap (λ cs. values_of cs y) is

    -- a variable takes a value, and the others stay
    pub values_after : values_of (cells_at fs others) ≡ setting (values_of cells) x w
    values_after = fun_ext value_after

-- ---- one number

module _ (cells : List Cell) (fs : List Form) (ns : List ℤ) (is : cells_at fs ns ≡ cells) (size : size_of fs ≡ length ns) where
  pub number_put : (slot : ℕ) (v : ℤ) → slot < length ns → (x : Name) → plain_slot (forms_of cells) x ≡ slot → values_of (cells_at fs (slice_set ns slot v)) ≡ setting (values_of cells) x (One v)
  number_put slot v lt x h = by (bounds_in fs x) refl (sym (plain_is fs x) ∙ sym (ap (λ l. plain_slot l x) (forms_are cells fs ns is size)) ∙ h) where
    by : (b : Option (ℤ × ℤ)) → bounds_in fs x ≡ b → one_slot b (slot_in fs x) (size_of fs) ≡ slot → values_of (cells_at fs (slice_set ns slot v)) ≡ setting (values_of cells) x (One v)
    by None f e =
        let one : slot_count (bounds_in fs x) ≡ 1 = ap slot_count f in
        let new : formed (bounds_in fs x) (drop (slot_in fs x) (slice_set ns slot v)) ≡ One v =
        ap (λ b. formed b (drop (slot_in fs x) (slice_set ns slot v))) f ∙ ap (λ i. One (first_of (drop i (slice_set ns slot v)))) e ∙ ap One (first_put ns slot v lt) in
        values_after cells fs ns (slice_set ns slot v) is size (length-set ns slot v) x (One v) (omega (arith, one, e, lt, size)) new
        (set_same (slot_in fs x) (slot_in fs x + slot_count (bounds_in fs x)) slot ns v (omega (arith, e)) (omega (arith, e, one)))
    by (Some b) f e = absurd (omega (arith, e, lt, size))

  -- ---- one element

  pub element_put : (low k : ℤ) (first d : ℕ) (v : ℤ) → d ≡ unsigned_abs (k -ℤ low) → (x : Name) (high : ℤ) → slot_in (forms_of cells) x ≡ first → option_map extent (shape_in (forms_of cells) x) ≡ Some (extent (low, high)) → low ≤ℤ k → k ≤ℤ high
      → setting_part (values_of cells) x low high k v ≡ Done (values_of (cells_at fs (slice_set ns (first + d) v))) 0
  element_put low k first d v at x high h count least most = by (bounds_in fs x) refl (ap (option_map extent) (sym (shape_is fs x) ∙ ap (λ l. shape_in l x) (sym (forms_are cells fs ns is size))) ∙ count) where
    u : ℕ
    u = unsigned_abs (k -ℤ low)

    put : Values
    put = setting (values_of cells) x (Many (slice_set (numbers_of (values_of cells x)) u v))

    by : (b : Option (ℤ × ℤ)) → bounds_in fs x ≡ b → option_map extent b ≡ Some (extent (low, high)) → setting_part (values_of cells) x low high k v ≡ Done (values_of (cells_at fs (slice_set ns (first + d) v))) 0
    by None f g = absurd (cc)
    by (Some b) f g =
        let same : extent b ≡ extent (low, high) = cc in
        let lt : u < extent b = subst (λ n. u < n) (sym same) (index_within low high k u least most refl) in
        let first_is : slot_in fs x ≡ first = sym (ap (λ l. slot_in l x) (forms_are cells fs ns is size)) ∙ h in
        let i : slot_in fs x + u ≡ first + d = ap (λ n. n + u) first_is ∙ ap (λ n. first + n) (sym at) in
        let others = slice_set ns (first + d) v in
        let w = array_within fs x b f in
        let n : slot_count (bounds_in fs x) ≡ extent b = ap slot_count f in
        let old : numbers_of (values_of cells x) ≡ take (extent b) (drop (slot_in fs x) ns) = ap numbers_of (ap (λ cs. values_of cs x) (sym is) ∙ value_at fs ns x size ∙ ap (λ c. formed c (drop (slot_in fs x) ns)) f) in
        let new : formed (bounds_in fs x) (drop (slot_in fs x) others) ≡ Many (slice_set (numbers_of (values_of cells x)) u v) =
        ap (λ c. formed c (drop (slot_in fs x) others)) f ∙ ap (λ j. Many (take (extent b) (drop (slot_in fs x) (slice_set ns j v)))) (sym i)
        ∙ ap (λ l. Many (take (extent b) l)) (drop-set-add (slot_in fs x) ns u v) ∙ ap Many (take-set-lt (extent b) (drop (slot_in fs x) ns) u v lt) ∙ ap (λ l. Many (slice_set l u v)) (sym old) in
        let a : values_of (cells_at fs others) ≡ put =
        values_after cells fs ns others is size (length-set ns (first + d) v) x (Many (slice_set (numbers_of (values_of cells x)) u v)) (omega (arith, w, n)) new
        (set_same (slot_in fs x) (slot_in fs x + slot_count (bounds_in fs x)) (first + d) ns v (omega (arith, i)) (omega (arith, i, lt, n))) in
        ap (λ c. if c && int_le k high then Done put 0 else Trap) (le_true low k least) ∙ ap (λ c. if c then Done put 0 else Trap) (le_true k high most) ∙ ap (λ vs. Done vs 0) (sym a)

-- ---- a whole value

sets_same : (a b i : ℕ) (ns new : List ℤ) → a ≤ i → i + length new ≤ b → IsSameOutside a b ns (sets ns i new)
sets_same a b i ns [] l m k n o = refl
sets_same a b i ns (v ∷ vs) l m k n o = sets_same a b (suc i) (slice_set ns i v) vs (omega arith) (omega (arith, m)) k n o ∙ set_same a b i ns v l (omega (arith, m)) k n o

spliced_same : (a b i : ℕ) (ns new : List ℤ) (count : ℕ) → length new ≡ count → i + count ≤ length ns → a ≤ i → i + count ≤ b → IsSameOutside a b ns (spliced ns i new count)
spliced_same a b i ns new count e h l m =
    let s : sets ns i new ≡ spliced ns i new count = sets-eq new ns i (omega (arith, e, h)) ∙ ap (λ c. spliced ns i new c) e in
    subst (IsSameOutside a b ns) s (sets_same a b i ns new l (omega (arith, e, m)))

drop_whole : (ns more : List ℤ) (i : ℕ) → length ns ≡ i → drop i (ns ++ more) ≡ more
drop_whole [] more i e = ap (λ k. drop k more) (sym e)
drop_whole (x ∷ xs) more zero e = absurd (omega (arith, e))
drop_whole (x ∷ xs) more (suc i) e = drop_whole xs more i (omega (arith, e))

-- the written numbers are where they were written
spliced_new : (ns new : List ℤ) (i count : ℕ) → length new ≡ count → i + count ≤ length ns → take count (drop i (spliced ns i new count)) ≡ new
spliced_new ns new i count e h =
    ap (λ l. take count (drop i l)) (append_assoc (take i ns) new (drop (i + count) ns))
    ∙ ap (take count) (drop_whole (take i ns) (new ++ drop (i + count) ns) i (length-take-le i ns (omega (arith, h))))
    ∙ take-append-le count new (drop (i + count) ns) (omega (arith, e)) ∙ take_all count new (omega (arith, e))

spliced_length : (ns new : List ℤ) (i count : ℕ) → length new ≡ count → i + count ≤ length ns → length (spliced ns i new count) ≡ length ns
spliced_length ns new i count e h =
    let a = length-append (take i ns ++ new) (drop (i + count) ns) in
    let b = length-append (take i ns) new in
    let c = length-take-le i ns (omega (arith, h)) in
    let d = length-drop (i + count) ns in
    omega (arith, a, b, c, d, e, h)

-- values of one length with the same numbers are the same
formed_alike : (b c : Option (ℤ × ℤ)) (ns others : List ℤ) → option_map extent b ≡ option_map extent c → take (slot_count b) ns ≡ take (slot_count c) others → formed b ns ≡ formed c others
formed_alike None None ns others e h = formed_same None ns others h
formed_alike None (Some c) ns others e h = absurd (cc)
formed_alike (Some b) None ns others e h = absurd (cc)
formed_alike (Some b) (Some c) ns others e h = ap Many h

same_count : (b c : Option (ℤ × ℤ)) → option_map extent b ≡ option_map extent c → slot_count b ≡ slot_count c
same_count None None e = refl
same_count None (Some c) e = absurd (cc)
same_count (Some b) None e = absurd (cc)
same_count (Some b) (Some c) e = cc

formed_with : (b : Option (ℤ × ℤ)) (ns : List ℤ) (v : ℤ) → take (slot_count b) ns ≡ replicate (slot_count b) v → formed b ns ≡ filled b v
formed_with None [] v e = absurd (cc)
formed_with None (n ∷ ns) v e = let f : n ≡ v = cc in ap One f
formed_with (Some b) ns v e = ap Many e

module _ (cells : List Cell) (fs : List Form) (ns : List ℤ) (is : cells_at fs ns ≡ cells) (size : size_of fs ≡ length ns) (first count : ℕ) (within : first + count ≤ length ns) where
  module _ (x : Name) (at : slot_in (forms_of cells) x ≡ first) (all : slot_count (bounds_in (forms_of cells) x) ≡ count) where
    own_first : slot_in fs x ≡ first
    own_first = sym (ap (λ l. slot_in l x) (forms_are cells fs ns is size)) ∙ at

    own_count : slot_count (bounds_in fs x) ≡ count
    own_count = sym (ap (λ l. slot_count (bounds_in l x)) (forms_are cells fs ns is size)) ∙ all

    -- so many numbers become the value of a variable
    value_put : (new : List ℤ) (w : Value) → length new ≡ count → ((others : List ℤ) → take (slot_count (bounds_in fs x)) others ≡ new → formed (bounds_in fs x) others ≡ w) → values_of (cells_at fs (spliced ns first new count)) ≡ setting (values_of cells) x w
    value_put new w long becomes =
        let others = spliced ns first new count in
        let e : take (slot_count (bounds_in fs x)) (drop (slot_in fs x) others) ≡ new =
        ap (λ n. take n (drop (slot_in fs x) others)) own_count ∙ ap (λ i. take count (drop i others)) own_first ∙ spliced_new ns new first count long within in
        values_after cells fs ns others is size (spliced_length ns new first count long within) x w (omega (arith, own_first, own_count, within, size)) (becomes (drop (slot_in fs x) others) e)
        (spliced_same (slot_in fs x) (slot_in fs x + slot_count (bounds_in fs x)) first ns new count long within (omega (arith, own_first)) (omega (arith, own_first, own_count)))

    pub value_filled : (v : ℤ) → values_of (cells_at fs (spliced ns first (replicate count v) count)) ≡ setting (values_of cells) x (filled (shape_in (forms_of cells) x) v)
    value_filled v =
        let shape : shape_in (forms_of cells) x ≡ bounds_in fs x = ap (λ l. shape_in l x) (forms_are cells fs ns is size) ∙ shape_is fs x in
        value_put (replicate count v) (filled (shape_in (forms_of cells) x) v) (length-replicate count v)
        (λ others e. formed_with (bounds_in fs x) others v (e ∙ ap (λ n. replicate n v) (sym own_count)) ∙ ap (λ b. filled b v) (sym shape))

  module _ (cells' : List Cell) (fs' : List Form) (ns' : List ℤ) (is' : cells_at fs' ns' ≡ cells') (size' : size_of fs' ≡ length ns') (source : ℕ) (enough : source + count ≤ length ns') where
    pub value_copied : (x y : Name) → slot_in (forms_of cells) x ≡ first → slot_in (forms_of cells') y ≡ source → slot_count (bounds_in (forms_of cells) x) ≡ count
        → option_map extent (shape_in (forms_of cells) x) ≡ option_map extent (shape_in (forms_of cells') y) → values_of (cells_at fs (spliced ns first (take count (drop source ns')) count)) ≡ setting (values_of cells) x (values_of cells' y)
    value_copied x y at from all alike =
        let shape : shape_in (forms_of cells) x ≡ bounds_in fs x = ap (λ l. shape_in l x) (forms_are cells fs ns is size) ∙ shape_is fs x in
        let shape' : shape_in (forms_of cells') y ≡ bounds_in fs' y = ap (λ l. shape_in l y) (forms_are cells' fs' ns' is' size') ∙ shape_is fs' y in
        let same : option_map extent (bounds_in fs x) ≡ option_map extent (bounds_in fs' y) = ap (option_map extent) (sym shape) ∙ alike ∙ ap (option_map extent) shape' in
        let source_is : slot_in fs' y ≡ source = sym (ap (λ l. slot_in l y) (forms_are cells' fs' ns' is' size')) ∙ from in
        let counts : slot_count (bounds_in fs' y) ≡ count = sym (same_count (bounds_in fs x) (bounds_in fs' y) same) ∙ own_count x at all in
        let long : length (take count (drop source ns')) ≡ count = length-take-le count (drop source ns') (omega (arith, length-drop source ns', enough)) in
        let origin : take (slot_count (bounds_in fs' y)) (drop (slot_in fs' y) ns') ≡ take count (drop source ns') = ap (λ n. take n (drop (slot_in fs' y) ns')) counts ∙ ap (λ i. take count (drop i ns')) source_is in
        let old : values_of cells' y ≡ formed (bounds_in fs' y) (drop (slot_in fs' y) ns') = ap (λ cs. values_of cs y) (sym is') ∙ value_at fs' ns' y size' in
        value_put x at all (take count (drop source ns')) (values_of cells' y) long (λ others e. formed_alike (bounds_in fs x) (bounds_in fs' y) others (drop (slot_in fs' y) ns') same (e ∙ sym origin) ∙ sym old)
