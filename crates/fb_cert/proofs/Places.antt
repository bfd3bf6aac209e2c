-- Paths as they are written against paths of names.
use Rattle.std.proofs.Common.{◌≡◌, ℕ, ◌<◌, Bool, true, false, cond, List, [], ◌∷◌, map, length, Option, Some, refl, sym, ap, subst, ◌∙◌, arith, slice_get, string_bytes}
use Rattle.std.specs.Prelude.{◌&&◌, ◌==◌}
use Rattle.std.specs.Map.{lookup}
use Rattle.std.specs.Str.{bytes_eq}
use Rattle.std.proofs.lemmas.Bool.{eq-eqb, eqb-true}
use Rattle.std.proofs.lemmas.Slice.Eq.{bytes_eq-Decides}
use Rattle.std.proofs.lemmas.List.Splits.{join_with_byte-slice_split, length-slice_split}
use Rattle.std.specs.List.{join_with_byte}
use Rattle.fb_model.specs.Names.{Path, Place, path_eq, place_eq}
use Rattle.fb_model.specs.Certificates as book
use Rattle.fb_model.specs.CertificateText.{names_in, place_of, all_but_last, last_name}
use Rattle.fb_cert.specs.declared.certificate.Amount.{Amount}
use Rattle.fb_cert.specs.Views.{Table, first_at, range_rows, amount_rows, depth_rows, far_rows, channel_rows, steps_in, places_in, count_in}
use Rattle.fb_cert.proofs.Deciding.{both_true, text_is}
use Rattle.fb_cert.proofs.Tables.{entries_of}
use Rattle.std.specs.declared.string.String.{String}
use Rattle.std.specs.declared.alloc.Global.{Global}
use Rattle.std.specs.Option.{option_map, unwrap_or}
use Rattle.fb_model.specs.Ranges.{row_at}
use Rattle.fb_model.specs.Spans.{Span, span, whole}
use Rattle.fb_model.specs.System.{Variable}
use Rattle.std.proofs.lemmas.Option.{slice_get-map}

-- two tests that tell the same are the same
same_test : (a b : Bool) → (a ≡ true → b ≡ true) → (b ≡ true → a ≡ true) → a ≡ b
same_test true true f g = refl
same_test true false f g = sym (f refl)
same_test false true f g = g refl
same_test false false f g = refl

is_text : (xs : List ℕ) → bytes_eq xs xs ≡ true
is_text xs = (bytes_eq-Decides xs xs).1 refl

path_is : (p q : Path) → path_eq p q ≡ true → p ≡ q
path_is [] [] h = refl
path_is [] (n ∷ q) h = absurd (cc)
path_is (m ∷ p) [] h = absurd (cc)
path_is (m ∷ p) (n ∷ q) h =
    let t = both_true (bytes_eq m n) (path_eq p q) h in
    let e : m ≡ n = text_is m n t.0 in let f : p ≡ q = path_is p q t.1 in
    cc

is_path : (p : Path) → path_eq p p ≡ true
is_path [] = refl
is_path (m ∷ p) = ap (λ b. b && path_eq p p) (is_text m) ∙ is_path p

names_is : (a b : List ℕ) → names_in a ≡ names_in b → a ≡ b
names_is a b h = sym (join_with_byte-slice_split 46 a) ∙ ap (join_with_byte 46) h ∙ join_with_byte-slice_split 46 b

-- names in a row are what comes before the last, and the last
ends_is : (p q : Path) → 0 < length p → 0 < length q → all_but_last p ≡ all_but_last q → last_name p ≡ last_name q → p ≡ q
ends_is [] q l k f g = absurd (omega arith)
ends_is (m ∷ p) [] l k f g = absurd (omega arith)
ends_is (m ∷ []) (n ∷ []) l k f g = ap (λ x. x ∷ []) g
ends_is (m ∷ []) (n ∷ x ∷ q) l k f g = absurd (cc)
ends_is (m ∷ x ∷ p) (n ∷ []) l k f g = absurd (cc)
ends_is (m ∷ x ∷ p) (n ∷ y ∷ q) l k f g =
    let e : m ≡ n = cc in let r : all_but_last (x ∷ p) ≡ all_but_last (y ∷ q) = cc in
    let t = ends_is (x ∷ p) (y ∷ q) (omega arith) (omega arith) r g in
    cc

names_some : (a : List ℕ) → 0 < length (names_in a)
names_some a = omega (arith, length-slice_split (λ c. c == 46) a)

pub path_same : (a b : List ℕ) → path_eq (names_in a) (names_in b) ≡ bytes_eq b a
path_same a b =
    same_test (path_eq (names_in a) (names_in b)) (bytes_eq b a)
    (λ h. let e : a ≡ b = names_is a b (path_is (names_in a) (names_in b) h) in subst (λ x. bytes_eq x a ≡ true) e (is_text a))
    (λ h. let e : b ≡ a = text_is b a h in subst (λ x. path_eq (names_in x) (names_in b) ≡ true) e (is_path (names_in b)))

pub place_same : (a b : List ℕ) → place_eq (place_of a) (place_of b) ≡ bytes_eq b a
place_same a b =
    same_test (place_eq (place_of a) (place_of b)) (bytes_eq b a)
    (λ h. let t = both_true (path_eq (all_but_last (names_in a)) (all_but_last (names_in b))) (bytes_eq (last_name (names_in a)) (last_name (names_in b))) h in
    let e : a ≡ b = names_is a b (ends_is (names_in a) (names_in b) (names_some a) (names_some b) (path_is _ _ t.0) (text_is _ _ t.1)) in
    subst (λ x. bytes_eq x a ≡ true) e (is_text a))
    (λ h. let e : b ≡ a = text_is b a h in subst (λ x. place_eq (place_of x) (place_of b) ≡ true) e (is_place (place_of b)))
  where
    is_place : (p : Place) → place_eq p p ≡ true
    is_place p = ap (λ b. b && bytes_eq p.event p.event) (is_path p.path) ∙ is_text p.event

number_same : (a b : ℕ) → (a == b) ≡ (b == a)
number_same a b = same_test (a == b) (b == a) (λ h. eq-eqb b a (sym (eqb-true a b h))) (λ h. eq-eqb a b (sym (eqb-true b a h)))

-- ---- what the book reads

steps_step : (b c : Bool) (a : Amount) (n : ℕ) (r : Option Amount) → b ≡ c → n ≡ steps_in r → cond b a.steps n ≡ steps_in (cond c (Some a) r)
steps_step true true a n r e h = refl
steps_step false false a n r e h = h
steps_step true false a n r e h = absurd (cc)
steps_step false true a n r e h = absurd (cc)

places_step : (b c : Bool) (a : Amount) (n : ℕ) (r : Option Amount) → b ≡ c → n ≡ places_in r → cond b a.places n ≡ places_in (cond c (Some a) r)
places_step true true a n r e h = refl
places_step false false a n r e h = h
places_step true false a n r e h = absurd (cc)
places_step false true a n r e h = absurd (cc)

count_step : (b c : Bool) (a n : ℕ) (r : Option ℕ) → b ≡ c → n ≡ count_in r → cond b a n ≡ count_in (cond c (Some a) r)
count_step true true a n r e h = refl
count_step false false a n r e h = h
count_step true false a n r e h = absurd (cc)
count_step false true a n r e h = absurd (cc)

span_step : (b c : Bool) (s t d : Span) (r : Option Span) → b ≡ c → t ≡ unwrap_or r d → cond b s t ≡ unwrap_or (cond c (Some s) r) d
span_step true true s t d r e h = refl
span_step false false s t d r e h = h
span_step true false s t d r e h = absurd (cc)
span_step false true s t d r e h = absurd (cc)

pub span_same : (rows : Table Span) (path : List ℕ) (v : Variable) → v.name ≡ last_name (names_in path) → row_at (range_rows rows) (all_but_last (names_in path)) v ≡ unwrap_or (first_at path rows) (whole v.type)
span_same [] path v e = refl
span_same (r ∷ rs) path v e =
    let front : Bool = path_eq (all_but_last (names_in r.0)) (all_but_last (names_in path)) in
    let test : (front && bytes_eq (last_name (names_in r.0)) v.name) ≡ bytes_eq path r.0 = ap (λ n. front && bytes_eq (last_name (names_in r.0)) n) e ∙ place_same r.0 path in
    span_step (front && bytes_eq (last_name (names_in r.0)) v.name) (bytes_eq path r.0) (span r.1.low r.1.high) _ (whole v.type) (first_at path rs) test (span_same rs path v e)

pub steps_same : (rows : Table Amount) (path : List ℕ) → book.amount (λ r. r.steps) (amount_rows rows) (place_of path) ≡ steps_in (first_at path rows)
steps_same [] path = refl
steps_same (r ∷ rs) path = steps_step (place_eq (place_of r.0) (place_of path)) (bytes_eq path r.0) r.1 _ (first_at path rs) (place_same r.0 path) (steps_same rs path)

pub places_same : (rows : Table Amount) (path : List ℕ) → book.amount (λ r. r.places) (amount_rows rows) (place_of path) ≡ places_in (first_at path rows)
places_same [] path = refl
places_same (r ∷ rs) path = places_step (place_eq (place_of r.0) (place_of path)) (bytes_eq path r.0) r.1 _ (first_at path rs) (place_same r.0 path) (places_same rs path)

pub depths_same : (rows : Table ℕ) (path : List ℕ) → book.depth_at (depth_rows rows) (names_in path) ≡ count_in (first_at path rows)
depths_same [] path = refl
depths_same (r ∷ rs) path = count_step (path_eq (names_in r.0) (names_in path)) (bytes_eq path r.0) r.1 _ (first_at path rs) (path_same r.0 path) (depths_same rs path)

pub fars_same : (rows : Table ℕ) (path : List ℕ) → book.far_amount (far_rows rows) (place_of path) ≡ count_in (first_at path rows)
fars_same [] path = refl
fars_same (r ∷ rs) path = count_step (place_eq (place_of r.0) (place_of path)) (bytes_eq path r.0) r.1 _ (first_at path rs) (place_same r.0 path) (fars_same rs path)

pub channels_same : (rows : List (ℕ × ℕ)) (number : ℕ) → book.channel_amount (channel_rows rows) number ≡ count_in (lookup (λ c. number == c) rows)
channels_same [] number = refl
channels_same (r ∷ rs) number = count_step (r.0 == number) (number == r.0) r.1 _ (lookup (λ c. number == c) rs) (number_same r.0 number) (channels_same rs number)

-- ---- a row at an index, in another form

pub at_view : {V C : Type 0} (f : (List ℕ) × V → C) (es : List (String Global × V)) (i : ℕ) (k : String Global) (path : List ℕ) (v : V) → Some (k, v) ≡ slice_get es i → path ≡ string_bytes k → Some (f (path, v)) ≡ slice_get (map f (entries_of es)) i
at_view {V} f es i k path v h e =
    let g : String Global × V → (List ℕ) × V = λ x. (string_bytes x.0, x.1) in
    ap (λ p. Some (f (p, v))) e ∙ ap (λ o. option_map f (option_map g o)) h ∙ ap (option_map f) (sym (slice_get-map g es i)) ∙ sym (slice_get-map f (map g es) i)
