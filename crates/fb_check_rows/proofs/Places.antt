-- Texts of paths against places and paths of names.
use Rattle.std.proofs.Common.{◌≡◌, Bool, true, false, ◌||◌, List, [], ◌∷◌, map, refl, sym, ap, subst, ◌∙◌}
use Rattle.std.specs.List.{list_any}
use Rattle.std.specs.Str.{bytes_eq}
use Rattle.fb_model.specs.Names.{Name, Path, Place, at_place, path_eq, place_eq, is_in}
use Rattle.fb_model.specs.Certificates.{places_in}
use Rattle.fb_model.specs.CertificateText.{names_in, place_of}
use Rattle.fb_model.specs.Spelling.{AreWords}
use Rattle.fb_model.proofs.Lists.{same_name}
use Rattle.fb_types_blocks.proofs.Lists.{any_map}
use Rattle.fb_flat.proofs.Dotted.{placed_at}
use Rattle.fb_check_rows.proofs.Names.{bytes_same, bytes_turned}
use Rattle.fb_cert.proofs.Places.{place_same, path_same}
use Rattle.fb_check_rows.specs.Members.{HasSame}
use Rattle.fb_check_rows.specs.Texts.{texts_in}

-- ---- one text

bytes_sym : (x y : Name) → bytes_eq x y ≡ bytes_eq y x
bytes_sym x y = sym (bytes_turned x y (bytes_eq x y) refl)

-- two texts have one place just where they are the same: splitting at dots loses nothing
pub same_place : (p q : Name) → place_eq (place_of p) (place_of q) ≡ bytes_eq p q
same_place p q = place_same p q ∙ bytes_sym q p

-- two texts have one path just where they are the same
pub same_names : (p q : Name) → path_eq (names_in p) (names_in q) ≡ bytes_eq p q
same_names p q = path_same p q ∙ bytes_sym q p

pub placed_in : (p : Name) (ns : List Name) → AreWords ns → map place_of (texts_in p ns) ≡ places_in (names_in p) ns
placed_in p [] h = refl
placed_in p (n ∷ ns) h = ap (λ z. z ∷ map place_of (texts_in p ns)) (placed_at p n h.0) ∙ ap (λ zs. at_place (names_in p) n ∷ zs) (placed_in p ns h.1)

-- ---- many texts

pub any_place : (p : Name) (xs : List Name) → list_any (place_eq (place_of p)) (map place_of xs) ≡ is_in p xs
any_place p [] = refl
any_place p (x ∷ xs) = ap (λ t. t || list_any (place_eq (place_of p)) (map place_of xs)) (same_place p x) ∙ ap (λ t. bytes_eq p x || t) (any_place p xs)

pub any_path : (p : Name) (xs : List Name) → list_any (path_eq (names_in p)) (map names_in xs) ≡ is_in p xs
any_path p [] = refl
any_path p (x ∷ xs) = ap (λ t. t || list_any (path_eq (names_in p)) (map names_in xs)) (same_names p x) ∙ ap (λ t. bytes_eq p x || t) (any_path p xs)

or_true : (b : Bool) → (b || true) ≡ true
or_true true = refl
or_true false = refl

passes_turn : (f : Name → Bool) (x y : Name) (xs : List Name) (t : Bool) → bytes_eq x y ≡ t → (t || is_in x xs) ≡ true → f x ≡ true → (is_in x xs ≡ true → list_any f xs ≡ true) → (f y || list_any f xs) ≡ true
passes_turn f x y xs true g k e again = ap (λ t. t || list_any f xs) (subst (λ z. f z ≡ true) (same_name x y g) e)
passes_turn f x y xs false g k e again = ap (λ t. f y || t) (again k) ∙ or_true (f y)

-- a test that one of some names passes
one_passes : (f : Name → Bool) (x : Name) (xs : List Name) → is_in x xs ≡ true → f x ≡ true → list_any f xs ≡ true
one_passes f x [] h e = absurd cc
one_passes f x (y ∷ xs) h e = passes_turn f x y xs (bytes_eq x y) refl h e (λ k. one_passes f x xs k e)

there_turn : (f : Name → Bool) (x : Name) (xs ys : List Name) (t : Bool) → f x ≡ t → (t || list_any f xs) ≡ true → is_in x ys ≡ true → (list_any f xs ≡ true → list_any f ys ≡ true) → list_any f ys ≡ true
there_turn f x xs ys true e k h again = one_passes f x ys h e
there_turn f x xs ys false e k h again = again k

passes_there : (f : Name → Bool) (xs ys : List Name) → ((x : Name) → is_in x xs ≡ true → is_in x ys ≡ true) → list_any f xs ≡ true → list_any f ys ≡ true
passes_there f [] ys g h = absurd cc
passes_there f (x ∷ xs) ys g h =
    there_turn f x xs ys (f x) refl h (g x (ap (λ t. t || is_in x xs) (bytes_same x)))
    (λ k. passes_there f xs ys (λ z m. g z (ap (λ t. bytes_eq z x || t) m ∙ or_true (bytes_eq z x))) k)

same_test : (a b : Bool) → (a ≡ true → b ≡ true) → (b ≡ true → a ≡ true) → a ≡ b
same_test true true f g = refl
same_test true false f g = sym (f refl)
same_test false true f g = g refl
same_test false false f g = refl

-- the same names pass the same tests
pub same_tests : (f : Name → Bool) (xs ys : List Name) → HasSame xs ys → list_any f xs ≡ list_any f ys
same_tests f xs ys h = same_test (list_any f xs) (list_any f ys) (passes_there f xs ys (λ x m. sym (h.same x) ∙ m)) (passes_there f ys xs (λ x m. h.same x ∙ m))

pub same_places : (p : Place) (xs ys : List Name) → HasSame xs ys → list_any (place_eq p) (map place_of xs) ≡ list_any (place_eq p) (map place_of ys)
same_places p xs ys h = any_map (place_eq p) place_of xs ∙ same_tests (λ x. place_eq p (place_of x)) xs ys h ∙ sym (any_map (place_eq p) place_of ys)

pub same_paths : (p : Path) (xs ys : List Name) → HasSame xs ys → list_any (path_eq p) (map names_in xs) ≡ list_any (path_eq p) (map names_in ys)
same_paths p xs ys h = any_map (path_eq p) names_in xs ∙ same_tests (λ x. path_eq p (names_in x)) xs ys h ∙ sym (any_map (path_eq p) names_in ys)
