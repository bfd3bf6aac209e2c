-- What is asked of the parts of an algorithm.
use Rattle.std.proofs.Common.{◌≡◌, ℤ, Bool, true, false, ◌||◌, List, [], ◌∷◌, ◌++◌, Option, None, Some, refl, sym, ap, ◌∙◌}
use Rattle.std.specs.Option.{option_map}
use Rattle.std.specs.Str.{bytes_eq}
use Rattle.fb_model.specs.Names.{Name, is_in}
use Rattle.fb_model.proofs.Placed.{name_same}
use Rattle.fb_model.specs.TypedText.{Term, constant, Command, set, set_part, choose, match_on, Commands, then_do, Choices, no_choice, choice, Cases, no_case, a_case}
use Rattle.fb_model.specs.BlockTyping.{extent}
use Rattle.fb_model.specs.Shapes.{written, written_choices, written_cases}
use Rattle.st_exec.specs.Cells.{Form, shape_in, names_in}
use Rattle.st_exec.specs.Runs.{AreAmong, Supports, SupportsOne}

in_front : (x : Name) (xs ys : List Name) → is_in x xs ≡ true → is_in x (xs ++ ys) ≡ true
in_front x [] ys h = absurd (cc)
in_front x (z ∷ xs) ys h = by (bytes_eq x z) h (in_front x xs ys) where
  by : (b : Bool) → (b || is_in x xs) ≡ true → (is_in x xs ≡ true → is_in x (xs ++ ys) ≡ true) → (b || is_in x (xs ++ ys)) ≡ true
  by true h again = refl
  by false h again = again h

in_back : (x : Name) (xs ys : List Name) → is_in x ys ≡ true → is_in x (xs ++ ys) ≡ true
in_back x [] ys h = h
in_back x (z ∷ xs) ys h = by (bytes_eq x z) (in_back x xs ys h) where
  by : (b : Bool) → is_in x (xs ++ ys) ≡ true → (b || is_in x (xs ++ ys)) ≡ true
  by true again = refl
  by false again = again

-- what is behind a part is behind it in a longer list
deeper : (x : Name) (xs ys zs : List Name) → is_in x (ys ++ zs) ≡ true → is_in x ((xs ++ ys) ++ zs) ≡ true
deeper x [] ys zs h = h
deeper x (w ∷ xs) ys zs h = by (bytes_eq x w) (deeper x xs ys zs h) where
  by : (b : Bool) → is_in x ((xs ++ ys) ++ zs) ≡ true → (b || is_in x ((xs ++ ys) ++ zs)) ≡ true
  by true again = refl
  by false again = again

among_front : (xs ys zs : List Name) → AreAmong (xs ++ ys) zs → AreAmong xs zs
among_front xs ys zs h = λ x e. h x (in_front x xs ys e)

among_back : (xs ys zs : List Name) → AreAmong (xs ++ ys) zs → AreAmong ys zs
among_back xs ys zs h = λ x e. h x (in_back x xs ys e)

first_among : (x : Name) (xs zs : List Name) → AreAmong (x ∷ xs) zs → is_in x zs ≡ true
first_among x xs zs h = h x (ap (λ b. b || is_in x xs) (name_same x))

-- what is no array by a shape is declared so
plain_alike : (b c : Option (ℤ × ℤ)) → option_map extent b ≡ option_map extent c → b ≡ None → c ≡ None
plain_alike None None e f = refl
plain_alike None (Some c) e f = absurd (cc)
plain_alike (Some b) c e f = absurd (cc)

module _ (forms : List Form) where
  pub first_served : (c : Command) (cs : Commands) → Supports forms (then_do c cs) → SupportsOne forms c
  first_served c cs s = (s.0, s.1, s.2.0, among_front _ (written cs) (names_in forms) s.3)

  pub rest_served : (c : Command) (cs : Commands) → Supports forms (then_do c cs) → Supports forms cs
  rest_served c cs s = (s.0, s.1, s.2.1, among_back _ (written cs) (names_in forms) s.3)

  pub set_served : (x : Name) (e : Term) → SupportsOne forms (set x e) → (is_in x (names_in forms) ≡ true) × (shape_in forms x ≡ None)
  set_served x e s = (first_among x [] (names_in forms) s.3, plain_alike (s.0 x) (shape_in forms x) (s.1 x) s.2.0)

  -- an array has as many elements as the bounds say by which it is written
  pub part_served : (x : Name) (low high : ℤ) (i e : Term) → SupportsOne forms (set_part x low high i e) → option_map extent (shape_in forms x) ≡ Some (extent (low, high))
  part_served x low high i e s = sym (s.1 x) ∙ ap (option_map extent) s.2.0

  -- ---- a choice

  pub choice_served : (e : Term) (body : Commands) (rest : Choices) (other : Commands) → SupportsOne forms (choose (choice e body rest) other) → Supports forms body
  choice_served e body rest other s =
      (s.0, s.1, s.2.0.1, among_front (written body) (written_choices rest) (names_in forms) (among_front (written body ++ written_choices rest) (written other) (names_in forms) s.3))

  pub choices_served : (e : Term) (body : Commands) (rest : Choices) (other : Commands) → SupportsOne forms (choose (choice e body rest) other) → SupportsOne forms (choose rest other)
  choices_served e body rest other s = (s.0, s.1, (s.2.0.2, s.2.1), λ x h. s.3 x (deeper x (written body) (written_choices rest) (written other) h))

  pub other_served : (other : Commands) → SupportsOne forms (choose no_choice other) → Supports forms other
  other_served other s = (s.0, s.1, s.2.1, s.3)

  -- ---- a case

  pub case_served : (e : Term) (ls : List (ℤ × ℤ)) (body : Commands) (rest : Cases) (other : Commands) → SupportsOne forms (match_on e (a_case ls body rest) other) → Supports forms body
  case_served e ls body rest other s =
      (s.0, s.1, s.2.1.0, among_front (written body) (written_cases rest) (names_in forms) (among_front (written body ++ written_cases rest) (written other) (names_in forms) s.3))

  pub cases_served : (e : Term) (ls : List (ℤ × ℤ)) (body : Commands) (rest : Cases) (other : Commands) → SupportsOne forms (match_on e (a_case ls body rest) other) → SupportsOne forms (match_on e rest other)
  cases_served e ls body rest other s = (s.0, s.1, (s.2.0, s.2.1.1, s.2.2), λ x h. s.3 x (deeper x (written body) (written_cases rest) (written other) h))

  pub no_case_served : (e : Term) (other : Commands) → SupportsOne forms (match_on e no_case other) → Supports forms other
  no_case_served e other s = (s.0, s.1, s.2.2, s.3)

  pub selected_served : (e : Term) (k : ℤ) (cases : Cases) (other : Commands) → SupportsOne forms (match_on e cases other) → SupportsOne forms (match_on (constant k) cases other)
  selected_served e k cases other s = (s.0, s.1, (tt, s.2.1, s.2.2), s.3)
