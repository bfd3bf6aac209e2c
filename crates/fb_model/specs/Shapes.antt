-- What typing leaves of variables, terms and algorithms: which variables are arrays, and with which bounds. What it means that values lie in ranges.
use Rattle.std.specs.Prelude.{ℕ, ◌≡◌, ◌≤◌, ℤ, ◌≤ℤ◌, false, List, [], ◌∷◌, ◌++◌, length, Option, None, Some}
use Rattle.std.specs.List.{AllByRecursion}
use Rattle.fb_model.specs.Names.{Name, is_in}
use Rattle.fb_model.specs.Values.{Value, One, Many, Values, numbers_of}
use Rattle.fb_model.specs.BlockTyping.{extent}
use Rattle.fb_model.specs.TypedText.{Term, constant, read, part, single, double, Command, set, set_part, choose, match_on, count, done, then_do, Choices, no_choice, choice, Cases, no_case, a_case}
use Rattle.fb_model.specs.TextTyping.{Symbol, found}
use Rattle.fb_model.specs.Language.{Algorithm, Outcome, Done, Trap, given}
use Rattle.fb_model.specs.Spans.{Span}
use Rattle.fb_model.specs.Clear.{Spans, assigned}

-- ---- values in ranges

-- a number lies in a range
pub record IsIn (r : Span) (v : ℤ) : Type 0 where
  pub least : r.low ≤ℤ v
  pub most : v ≤ℤ r.high

-- every number of every variable lies in its range
abbrev pub Lies : Spans → Values → Type 0
Lies spans values = (x : Name) → AllByRecursion (IsIn (spans x)) (numbers_of (values x))

-- ---- shapes

-- the bounds of each variable that is an array
abbrev pub Shape : Type 0
Shape = Name → Option (ℤ × ℤ)

-- those among declared variables
abbrev pub shape_of : List Symbol → Shape
shape_of env = λ x. given (found env x) (λ v. v.bounds)

-- one number, or as many as the bounds say
abbrev pub HasForm : Option (ℤ × ℤ) → Value → Type 0
HasForm None (One number) = Unit {0}
HasForm None (Many numbers) = ⊥
HasForm (Some bounds) (One number) = ⊥
HasForm (Some bounds) (Many numbers) = length numbers ≡ extent bounds

-- each variable has the form that is said
abbrev pub HasShape : Shape → Values → Type 0
HasShape shape values = (x : Name) → HasForm (shape x) (values x)

-- a term reads plain variables, and elements of arrays with these bounds
abbrev pub TermFits : Shape → Term → Type 0
TermFits shape (constant k) = Unit {0}
TermFits shape (read x) = shape x ≡ None
TermFits shape (part x low high i) = (shape x ≡ Some (low, high)) × TermFits shape i
TermFits shape (single f a e) = TermFits shape e
TermFits shape (double f a e g) = TermFits shape e × TermFits shape g

-- an algorithm assigns plain variables, and elements of arrays with these bounds; no body of a FOR assigns the variable with which it counts
abbrev mutual
  pub CommandFits : Shape → Command → Type 0
  CommandFits shape (set x e) = (shape x ≡ None) × TermFits shape e
  CommandFits shape (set_part x low high i e) = (shape x ≡ Some (low, high)) × TermFits shape i × TermFits shape e
  CommandFits shape (choose choices other) = ChoicesFit shape choices × AlgorithmFits shape other
  CommandFits shape (match_on e cases other) = TermFits shape e × CasesFit shape cases × AlgorithmFits shape other
  CommandFits shape (count x a e g k plain body) = (shape x ≡ None) × (is_in x (assigned body) ≡ false) × TermFits shape e × TermFits shape g × AlgorithmFits shape body

  pub AlgorithmFits : Shape → Algorithm → Type 0
  AlgorithmFits shape done = Unit {0}
  AlgorithmFits shape (then_do c cs) = CommandFits shape c × AlgorithmFits shape cs

  pub ChoicesFit : Shape → Choices → Type 0
  ChoicesFit shape no_choice = Unit {0}
  ChoicesFit shape (choice e body rest) = TermFits shape e × AlgorithmFits shape body × ChoicesFit shape rest

  pub CasesFit : Shape → Cases → Type 0
  CasesFit shape no_case = Unit {0}
  CasesFit shape (a_case labels body rest) = AlgorithmFits shape body × CasesFit shape rest

-- ---- what runs keep

-- the variables that an algorithm assigns, or of which it assigns elements, anywhere in its text
abbrev mutual
  pub written_one : Command → List Name
  written_one (set x e) = x ∷ []
  written_one (set_part x low high i e) = x ∷ []
  written_one (choose choices other) = written_choices choices ++ written other
  written_one (match_on e cases other) = written_cases cases ++ written other
  written_one (count x a e g k plain body) = x ∷ written body

  pub written : Algorithm → List Name
  written done = []
  written (then_do c cs) = written_one c ++ written cs

  pub written_choices : Choices → List Name
  written_choices no_choice = []
  written_choices (choice e body rest) = written body ++ written_choices rest

  pub written_cases : Cases → List Name
  written_cases no_case = []
  written_cases (a_case labels body rest) = written body ++ written_cases rest

-- a run is done within n steps, its values lie in the rows and have their shape, and the variables that are not among these names are as before
abbrev pub Keeps : Spans → Shape → List Name → ℕ → Values → Outcome → Type 0
Keeps rows shape names n before (Done after m) = (m ≤ n) × Lies rows after × HasShape shape after × ((x : Name) → is_in x names ≡ false → after x ≡ before x)
Keeps rows shape names n before Trap = ⊥
